use Rattle.sub_heaps.proofs.Taken.{next_found}
use Rattle.store_tests.proofs.tests.evacuation.free_lowest.Goals as goal

-- the object that was found starts at its place
pub free-requires : goal.free-requires
free-requires c = next_found _ _ c.in-Some.object c.in-Some.ensures.next
