use Rattle.std.proofs.Common.{take}
use Rattle.flat_replay.specs.inner.Follows.{FollowsFront}
use Rattle.flat_replay.proofs.driver.Driver.follow.Given as goal

-- the journal up to here was followed
abbrev pub invariant-loop-i : goal.invariant-loop-i
invariant-loop-i g l = FollowsFront g.F.Flat.machine g.F.Flat.shared_of l.fn.self.world (take l.i l.journal.entries) l.self.world l.self.hands.items
