use Rattle.std.proofs.Common.{drop}
use Rattle.race_rules.specs.declared.touch.Touch.{Touch}
use Rattle.race_rules.specs.Turns.{Has}
use Rattle.race_rules.specs.Shown.{FirstOf, ClashesOne}
use Rattle.race_walk.proofs.shown.first_clashing.Given as goal

abbrev pub invariant-loop-touch : goal.invariant-loop-touch
invariant-loop-touch l = record {
  none : Has (ClashesOne l.others) l.touches → Has (ClashesOne l.others) (drop l.touch-index l.touches);
  first : (y : Touch) → FirstOf (ClashesOne l.others) (drop l.touch-index l.touches) y → FirstOf (ClashesOne l.others) l.touches y;
}
