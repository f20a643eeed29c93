use Rattle.std.proofs.Common.{◌≡◌, ℕ, ◌-◌, ◌<◌, ◌≤◌, vec_len, slice_get}
use Rattle.race_walk.specs.Views.{cell_of}
use Rattle.race_walk.proofs.cells.spread.Given as goal

abbrev pub invariant-loop-alloc : goal.invariant-loop-alloc
invariant-loop-alloc l = record {
  most : vec_len l.cells ≤ l.count;
  each : (c : ℕ) → c < vec_len l.cells → cell_of (slice_get l.cells.items c) ≡ l.all;
}

abbrev pub decreases-loop-alloc : goal.decreases-loop-alloc
decreases-loop-alloc l = l.count - vec_len l.cells
