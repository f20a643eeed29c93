use Rattle.std.proofs.Common.{◌≡◌, drop, map, None}
use Rattle.std.specs.List.{list_all}
use Rattle.struct_ir.specs.Placed.{all_placed}
use Rattle.struct_ir.specs.Valid.{are_placed}
use Rattle.struct_ir.specs.Views.{func_view}
use Rattle.struct_ir.specs.WholeViews.{ir_view}
use Rattle.struct_ir.proofs.placed.is_placed.Given as goal

-- what is left decides
abbrev pub invariant-loop-f : goal.invariant-loop-f
invariant-loop-f l = list_all (λ f. are_placed None f.nodes) (map func_view (drop l.f-index l.ir.funcs.items)) ≡ all_placed (ir_view l.ir)
