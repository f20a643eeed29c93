use Rattle.std.proofs.Common.{◌≡◌, drop}
use Rattle.arena_meaning.specs.Changes.{without_words}
use Rattle.flat_machine.proofs.leaving.end_all.Given as goal

-- the words that are left lead where all do
abbrev pub invariant-loop-index : goal.invariant-loop-index
invariant-loop-index l = without_words (drop l.index l.words) l.arena ≡ without_words l.words l.fn.arena
