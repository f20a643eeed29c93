use Rattle.std.proofs.Common.{◌≡◌, drop, Ok}
use Rattle.block_store.specs.Actions.{joined_bytes}
use Rattle.block_store.specs.Texts.{text_of}
use Rattle.block_store.proofs.texts.append_text.Given as goal

abbrev pub invariant-text : goal.invariant-text
invariant-text l = joined_bytes (Ok l.out.items) (text_of (drop l.cell-index l.cells)) ≡ joined_bytes (Ok l.initial.out.items) (text_of l.cells)
