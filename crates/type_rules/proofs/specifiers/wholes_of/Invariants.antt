use Rattle.std.proofs.Common.{◌≡◌, ◌++◌, map, drop}
use Rattle.c_typing.specs.Judgement.{wholes_of}
use Rattle.type_context.specs.ContextViews.{types_view}
use Rattle.type_rules.specs.SpecifierViews.{part_view}
use Rattle.type_rules.proofs.specifiers.wholes_of.Given as goal

abbrev pub invariant-parts : goal.invariant-parts
invariant-parts l = wholes_of (map part_view l.parts) ≡ types_view l.wholes.items ++ wholes_of (map part_view (drop l.part-index l.parts))
