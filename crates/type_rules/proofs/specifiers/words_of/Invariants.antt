use Rattle.std.proofs.Common.{◌≡◌, ◌++◌, map, drop}
use Rattle.c_typing.specs.Judgement.{words_of}
use Rattle.type_rules.specs.SpecifierViews.{part_view}
use Rattle.type_rules.proofs.specifiers.words_of.Given as goal

abbrev pub invariant-parts : goal.invariant-parts
invariant-parts l = words_of (map part_view l.parts) ≡ l.words.items ++ words_of (map part_view (drop l.part-index l.parts))
