use Rattle.block_meaning.specs.Running.{running_of}
use Rattle.c_meaning.specs.Touching.{turns_of}
use Rattle.flat_meaning.specs.Journals.{journal_picks}
use Rattle.race_check.proofs.Along.{IsAlong, NoneSoFar}
use Rattle.race_check.proofs.finding.first_with.Given as goal

-- none of the turns so far races with the second one, and the rest goes on from here
abbrev pub invariant-loop-thread : goal.invariant-loop-thread
invariant-loop-thread l = record {
  can_next : (goal.iterator-loop-thread).can_next l.thread-iterator;
  is_finite : (goal.iterator-loop-thread).is_finite l.thread-iterator;
  along : IsAlong (running_of l.initial.run).typed (running_of l.run).typed (journal_picks l.journal.entries) l.turn l.thread-iterator (running_of l.run).state;
  none : NoneSoFar (turns_of (running_of l.initial.run).typed (journal_picks l.journal.entries)) l.turn l.second.turn;
}
