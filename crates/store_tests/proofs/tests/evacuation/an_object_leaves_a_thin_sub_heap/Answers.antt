use Rattle.std.proofs.Common.{◌<◌, ap, arith}
use Rattle.std.specs.FinSet as set
use Rattle.std.specs.Ordering.{nat_cmp}
use Rattle.move_plan.specs.Holding.{PinSet}
use Rattle.store_tests.proofs.tests.evacuation.an_object_leaves_a_thin_sub_heap.Goals as goal

-- no place is pinned yet
pub add-requires : goal.add-requires
add-requires g c =
    let none = ap (λ (p : PinSet). set.len p.places) c.in_ok-pins.ensures in
    let room = ap (λ (p : PinSet). p.room) c.in_ok-pins.ensures in
    λ _. omega (arith, none, room, set.len-empty nat_cmp)
