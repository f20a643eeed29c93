use Rattle.std.proofs.Common.{◌≡◌, drop, None}
use Rattle.std.specs.Prelude.{option_map}
use Rattle.struct_ir.specs.Views.{nodes_view}
use Rattle.struct_ir.specs.ValidViews.{scope_view, around_view}
use Rattle.pin_checker.specs.inner.Reports.{report_invalid}
use Rattle.pin_checker.proofs.invalid.+invalids.Given as goal

-- what is left goes on from what was found
abbrev pub invariant-report_invalid-loop-i : goal.invariant-report_invalid-loop-i
invariant-report_invalid-loop-i l =
    report_invalid (scope_view l.x) (around_view l.around) (option_map (λ s. s.now) l.before) (nodes_view (drop l.i l.nodes)) l.found ≡ report_invalid (scope_view l.x) (around_view l.around) None (nodes_view l.nodes) l.fn.best
