use Rattle.std.proofs.Common.{◌+◌, ◌*◌, ◌≤◌, ap, ◌∙◌, arith}
use Rattle.std.specs.Cmp.{nat_cmp_total}
use Rattle.std.specs.FinSet as set
use Rattle.std.specs.Ordering.{nat_cmp}
use Rattle.std.proofs.lemmas.Bool.{cond_both}
use Rattle.move_plan.specs.Holding.{PinSet}
use Rattle.store_tests.proofs.tests.plans.pin.Goals.{then-choice-number-eq1, else-choice-number-eq1}
use Rattle.store_tests.proofs.tests.plans.pin.Goals as goal

pub loop-number-init : goal.loop-number-init
loop-number-init c = record { few = omega (arith, ap set.len c.requires.empty, set.len-empty nat_cmp); room = c.requires.room }

pub loop-number-preserved : goal.loop-number-preserved
loop-number-preserved c =
    let old = c.loop-number.pins in
    let at = c.loop-number.number * 16 in
    let one_more = cond_both (set.contains old.places at) (set.len old.places) (set.len old.places + 1) (λ n. n ≤ set.len old.places + 1) (λ _. omega arith) (λ _. omega arith) in
    elim c.if-choice-number-eq1.branch [
      | then-choice-number-eq1 w ↦
          let is = w.pins-is ∙ w.add.ensures in
          record {
            few = omega (arith, ap (λ (p : PinSet). set.len p.places) is, set.len-insert nat_cmp_total old.places at, one_more, c.loop-number.invariant.few);
            room = omega (arith, ap (λ (p : PinSet). p.room) is, c.loop-number.invariant.room);
          }
      | else-choice-number-eq1 w ↦ record {
        few = omega (arith, ap (λ (p : PinSet). set.len p.places) w.pins-is, c.loop-number.invariant.few);
        room = omega (arith, ap (λ (p : PinSet). p.room) w.pins-is, c.loop-number.invariant.room);
      }
    ]
