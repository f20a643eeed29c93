use Rattle.std.proofs.Common.{◌≡◌, drop, map}
use Rattle.struct_ir.specs.Views.{func_view}
use Rattle.struct_ir.specs.WholeViews.{ir_view}
use Rattle.pin_checker.specs.inner.Reports.{report_funcs, first_fault}
use Rattle.pin_checker.proofs.reports.first_fault.Given as goal

-- what is left goes on from what was found
abbrev pub invariant-loop-f : goal.invariant-loop-f
invariant-loop-f l = report_funcs (ir_view l.ir) (map func_view (drop l.f-index l.ir.funcs.items)) l.found ≡ first_fault (ir_view l.ir)
