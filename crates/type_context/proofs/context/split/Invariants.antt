use Rattle.std.proofs.Common.{◌≡◌, map, ℕ, List}
use Rattle.type_context.specs.ContextViews.{bytes_view, types_view, members_view}
use Rattle.c_tree.specs.Typed.{Ty}
use Rattle.type_context.proofs.context.split.Given as goal

-- the names and the types so far
abbrev pub invariant-members : goal.invariant-members
invariant-members l = (bytes_view l.names.items ≡ map (λ (m : List ℕ × Ty). m.0) (members_view l.yielded)) × (types_view l.types.items ≡ map (λ (m : List ℕ × Ty). m.1) (members_view l.yielded))
