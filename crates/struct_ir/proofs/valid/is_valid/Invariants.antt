use Rattle.std.proofs.Common.{◌≡◌, drop, map}
use Rattle.std.specs.List.{list_all}
use Rattle.struct_ir.specs.Views.{func_view}
use Rattle.struct_ir.specs.WholeViews.{ir_view}
use Rattle.struct_ir.specs.Valid.{are_nodes, scope_of, outside}
use Rattle.struct_ir.specs.Valid as valid
use Rattle.struct_ir.proofs.valid.is_valid.Given as goal

-- what is left decides
abbrev pub invariant-loop-f : goal.invariant-loop-f
invariant-loop-f l = list_all (λ f. are_nodes (scope_of (ir_view l.ir) f) outside f.nodes) (map func_view (drop l.f-index l.ir.funcs.items)) ≡ valid.is_valid (ir_view l.ir)
