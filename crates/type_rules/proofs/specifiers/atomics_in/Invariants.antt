use Rattle.std.proofs.Common.{◌≡◌, ◌+◌, ◌≤◌, map, drop}
use Rattle.c_typing.specs.Judgement.{atomics_in}
use Rattle.type_rules.specs.SpecifierViews.{part_view}
use Rattle.type_rules.proofs.specifiers.atomics_in.Given as goal

abbrev pub invariant-parts : goal.invariant-parts
invariant-parts l = record {
  within : l.n ≤ l.part-index;
  so_far : atomics_in (map part_view l.parts) ≡ l.n + atomics_in (map part_view (drop l.part-index l.parts));
}
