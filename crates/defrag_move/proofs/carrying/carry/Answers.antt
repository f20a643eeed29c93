use Rattle.std.proofs.lemmas.Bool.{false≢true}
use Rattle.defrag_move.proofs.carrying.carry.Goals as goal

pub unreachable-requires : goal.unreachable-requires
unreachable-requires c =
    false≢true (c.in-Err.ensures.within.1 (
      rw (c.from.ensures, c.from-3.ensures) c.requires.to,
      rw (c.from-2.ensures, c.from-3.ensures) c.requires.from,
    ))
