use Rattle.std.proofs.Common.{◌≡◌, ℕ, length}
use Rattle.mark_sets.specs.Words.{has}
use Rattle.mark_sets.proofs.words.widen.Given as goal

-- there are so many words, and no number more
abbrev pub invariant-words : goal.invariant-words
invariant-words l = record {
  long : length l.set.items ≡ l.k;
  same : (j : ℕ) → has l.set.items j ≡ has l.fn.set.items j;
}
