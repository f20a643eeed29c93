use Rattle.std.proofs.Common.{◌≡◌, ◌≤◌, ℕ, max, ◌&&◌, nat_le, nat_lt, vec_len, slice_get, if◌then◌else◌}
use Rattle.race_rules.specs.Histories.{noted}
use Rattle.race_walk.specs.Views.{told_by, cell_of}
use Rattle.race_walk.proofs.cells.note_all.Given as goal

abbrev pub invariant-loop-cell : goal.invariant-loop-cell
invariant-loop-cell l = (l.to ≤ vec_len l.cells) × ((c : ℕ) → cell_of (slice_get l.cells.items c) ≡ (if nat_le l.from c && nat_lt c l.cell then noted (told_by l.clock) l.seen (cell_of (slice_get l.initial.cells.items c)) else cell_of (slice_get l.initial.cells.items c))) × (l.cell ≤ max l.from l.to)
