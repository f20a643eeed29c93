use Rattle.std.proofs.Common.{◌≡◌, ℕ, ◌<◌, length, slice_index}
use Rattle.mark_sets.proofs.Wordly.{chosen_word}
use Rattle.mark_sets.proofs.words.chosen.Given as goal

-- so many words are chosen
abbrev pub invariant-words : goal.invariant-words
invariant-words l = record {
  long : length l.out.items ≡ l.k;
  each : (j : ℕ) → j < l.k → slice_index l.out.items j ≡ chosen_word (slice_index l.set j) (slice_index l.yes j) (slice_index l.no j);
}
