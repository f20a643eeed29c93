use Rattle.std.proofs.Common.{◌≡◌, drop}
use Rattle.block_store.specs.Texts.{text_of, length_of}
use Rattle.block_store.proofs.Reading.{after}
use Rattle.block_store.proofs.cells.text_len.Given as goal

abbrev pub invariant-loop-k : goal.invariant-loop-k
invariant-loop-k l = length_of (text_of l.cells) ≡ after l.k (length_of (text_of (drop l.k l.cells)))
