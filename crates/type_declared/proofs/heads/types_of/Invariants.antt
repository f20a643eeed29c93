use Rattle.std.proofs.Common.{◌≡◌, map, take}
use Rattle.c_typing.specs.Numbering.{passed_type}
use Rattle.type_context.specs.ContextViews.{types_view}
use Rattle.type_locals.specs.LocalViews.{param_view}
use Rattle.type_declared.proofs.heads.types_of.Given as goal

-- the types so far
abbrev pub invariant-params : goal.invariant-params
invariant-params l = types_view l.all.items ≡ map passed_type (map param_view (take l.p-index l.params))
