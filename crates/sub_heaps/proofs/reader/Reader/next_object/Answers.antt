use Rattle.std.proofs.Common.{sym}
use Rattle.sub_heaps.proofs.Parts.{InOrder-part, found_in_part}
use Rattle.sub_heaps.proofs.reader.Reader.next_object.Goals as goal

pub next_from-requires : goal.next_from-requires
next_from-requires c = InOrder-part c.self.inside.low c.self.inside.near.now c.self.inside.whole.now c.self.invariant.1 c.self.invariant.0

pub returns-in-Some-clause-next : goal.returns-in-Some-clause-next
returns-in-Some-clause-next c =
    let found = found_in_part c.self.inside.low c.args.from c.self.inside.near.now c.self.inside.whole.now c.in-Some.object c.self.invariant.1 c.if-self-from.true c.in-Some.ensures in
    rw (sym c.self.view_is) found
