use Rattle.std.proofs.Common.{◌≡◌, map, take}
use Rattle.struct_ir.specs.Views.{func_view}
use Rattle.pin_flow.proofs.programs.copy_funcs.Given as goal

-- so far
abbrev pub invariant-loop-f : goal.invariant-loop-f
invariant-loop-f l = map func_view l.out.items ≡ map func_view (take l.f-index l.funcs)
