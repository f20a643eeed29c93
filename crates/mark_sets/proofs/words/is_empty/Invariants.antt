use Rattle.std.proofs.Common.{◌≡◌, ◌<◌, ℕ, get_or}
use Rattle.mark_sets.proofs.words.is_empty.Given as goal

-- the words so far are 0
abbrev pub invariant-loop-word : goal.invariant-loop-word
invariant-loop-word l = (k : ℕ) → k < l.word-index → get_or l.set k 0 ≡ 0
