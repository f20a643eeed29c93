use Rattle.block_meaning.specs.Running.{running_of}
use Rattle.c_meaning.specs.Touching.{turns_of}
use Rattle.flat_meaning.specs.Journals.{journal_picks}
use Rattle.race_walk.specs.Walking.{IsAfter}
use Rattle.race_check.proofs.Along.{IsAlong}
use Rattle.race_check.proofs.walking.walk.Given as goal

-- so many of the turns were walked, none of which is the second of a race, and the rest goes on from here
abbrev pub invariant-loop-thread : goal.invariant-loop-thread
invariant-loop-thread l = record {
  can_next : (goal.iterator-loop-thread).can_next l.thread-iterator;
  is_finite : (goal.iterator-loop-thread).is_finite l.thread-iterator;
  along : IsAlong (running_of l.initial.run).typed (running_of l.run).typed (journal_picks l.journal.entries) l.walk.turns l.thread-iterator (running_of l.run).state;
  after : IsAfter (turns_of (running_of l.initial.run).typed (journal_picks l.journal.entries)) l.walk;
}
