use Rattle.std.proofs.Common.{◌≡◌, ℕ, List, map, take}
use Rattle.c_tree.specs.Typed.{Ty}
use Rattle.type_context.specs.ContextViews.{types_view, members_view}
use Rattle.type_nodes.proofs.structs.types_of.Given as goal

abbrev pub invariant-members : goal.invariant-members
invariant-members l = types_view l.types.items ≡ map (λ (m : List ℕ × Ty). m.1) (members_view (take l.member-index l.all))
