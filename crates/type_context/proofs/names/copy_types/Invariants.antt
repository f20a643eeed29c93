use Rattle.std.proofs.Common.{◌≡◌, take}
use Rattle.type_context.specs.ContextViews.{types_view}
use Rattle.type_context.proofs.names.copy_types.Given as goal

-- the copies so far
abbrev pub invariant-types : goal.invariant-types
invariant-types l = types_view l.copies.items ≡ types_view (take l.t-index l.all)
