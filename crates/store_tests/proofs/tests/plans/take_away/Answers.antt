use Rattle.sub_heaps.proofs.Taken.{next_found}
use Rattle.store_tests.proofs.tests.plans.take_away.Goals as goal

-- the object that was found starts at its place
pub free-requires : goal.free-requires
free-requires c = next_found c.args.at c.args.heaps.now.objects c.in-Some.object c.in-Some.ensures.next
