use Rattle.std.proofs.Common.{◌≡◌, drop}
use Rattle.c_typing.specs.Scope.{member_among}
use Rattle.type_context.specs.ContextViews.{bytes_view}
use Rattle.type_context.proofs.context.place_among.Given as goal

-- the names from here on say what all say
abbrev pub invariant-names : goal.invariant-names
invariant-names l = member_among l.place l.bytes (bytes_view (drop l.place l.names)) ≡ member_among 0 l.bytes (bytes_view l.names)
