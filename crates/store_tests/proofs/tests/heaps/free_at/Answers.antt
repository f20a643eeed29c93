use Rattle.std.proofs.Common.{◌≡◌, IsSome, subst, arith}
use Rattle.sub_heaps.specs.ByPlace.{object_at}
use Rattle.sub_heaps.proofs.Taken.{next_found}
use Rattle.store_tests.proofs.tests.heaps.free_at.Goals as goal

-- the object that was found starts at the place
pub free-requires : goal.free-requires
free-requires c =
    let here : c.in_ok-object.object.at ≡ c.args.at = omega (arith, c.if-object-at.false) in
    subst (λ at. IsSome (object_at at c.args.heaps.now.objects)) here (next_found c.args.at c.args.heaps.now.objects c.in_ok-object.object c.in_ok-object.ensures.next)
