use Rattle.std.proofs.Common.{ap, arith}
use Rattle.std.specs.FinSet as set
use Rattle.std.specs.Ordering.{nat_cmp}
use Rattle.move_plan.specs.Holding.{PinSet}
use Rattle.store_tests.proofs.tests.plans.stay_above_a_pin.Goals as goal

pub add-requires : goal.add-requires
add-requires g c new =
    omega (arith, ap (λ (p : PinSet). set.len p.places) c.requires.pins, ap (λ (p : PinSet). p.room) c.requires.pins, set.len-empty nat_cmp)
