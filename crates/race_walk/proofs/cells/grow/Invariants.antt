use Rattle.std.proofs.Common.{◌≡◌, ℕ, ◌-◌, vec_len, slice_get}
use Rattle.race_walk.specs.Views.{cell_of}
use Rattle.race_walk.proofs.cells.grow.Given as goal

abbrev pub invariant-loop-alloc : goal.invariant-loop-alloc
invariant-loop-alloc l = (c : ℕ) → cell_of (slice_get l.cells.items c) ≡ cell_of (slice_get l.initial.cells.items c)

abbrev pub decreases-loop-alloc : goal.decreases-loop-alloc
decreases-loop-alloc l = l.count - vec_len l.cells
