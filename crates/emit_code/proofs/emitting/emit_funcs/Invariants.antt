use Rattle.std.proofs.Common.{◌≡◌, map, take}
use Rattle.struct_ir.specs.LinearViews.{linear_func_view}
use Rattle.struct_ir.specs.Views.{func_view}
use Rattle.emit_code.specs.inner.Layout.{func_linear}
use Rattle.emit_code.proofs.emitting.emit_funcs.Given as goal

-- so far
abbrev pub invariant-loop-f : goal.invariant-loop-f
invariant-loop-f l = map linear_func_view l.out.items ≡ map func_linear (map func_view (take l.f-index l.funcs))
