use Rattle.std.proofs.Common.{◌≡◌, ℕ, ◌<◌, ◌≤◌, length, slice_index}
use Rattle.std.specs.Prelude.{bit_or}
use Rattle.mark_sets.proofs.words.unite.Given as goal

-- the words below this are united, and the others as they were
abbrev pub invariant-words : goal.invariant-words
invariant-words l = record {
  long : length l.into.items ≡ length l.fn.into.items;
  below : (j : ℕ) → j < l.k → slice_index l.into.items j ≡ bit_or (slice_index l.fn.into.items j) (slice_index l.other j);
  above : (j : ℕ) → l.k ≤ j → slice_index l.into.items j ≡ slice_index l.fn.into.items j;
}
