use Rattle.std.proofs.Common.{ap, arith}
use Rattle.std.specs.FinSet as set
use Rattle.std.specs.Ordering.{nat_cmp}
use Rattle.store_tests.proofs.tests.arena.compact.Goals as goal

pub pins_of-requires : goal.pins_of-requires
pins_of-requires c =
    omega (arith, c.objects_are_counted.ensures.places c.args.arena.now c.args.words.now.words c.args.pins.now.places, ap set.len c.requires.unpinned, set.len-empty nat_cmp, c.requires.pins)
