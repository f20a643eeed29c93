use Rattle.std.proofs.Common.{◌≡◌, ◌≤◌, ◌<◌, ℕ, false, slice_get}
use Rattle.std.specs.List.{list_any}
use Rattle.race_walk.specs.Views.{told_by, cell_of, clashes}
use Rattle.race_walk.proofs.cells.catches_any.Given as goal

abbrev pub invariant-loop-place : goal.invariant-loop-place
invariant-loop-place l = (c : ℕ) → l.from ≤ c → c < l.place → list_any (clashes (told_by l.clock) l.kind) (cell_of (slice_get l.cells c)) ≡ false
