use Rattle.std.proofs.Common.{ap, ◌∙◌}
use Rattle.pin_flow.specs.Slots.{slot_if}
use Rattle.mark_sets.specs.Homes.{AreHomes}
use Rattle.mark_sets.proofs.homes.homes_of.Goals as goal

pub returns-clause-homes : goal.returns-clause-homes
unfolding AreHomes
returns-clause-homes c = record {
  few = c.requires.few;
  once = c.requires.once;
  bits = λ b. c.in_ok-marks.ensures.bits b ∙ ap (λ l. slot_if l b) c.deref.ensures.value;
}
