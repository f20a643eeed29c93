use Rattle.std.proofs.Common.{◌≡◌, ◌≤◌, ℕ, max, nat_eq, nat_le, nat_lt, ◌&&◌}
use Rattle.std.specs.HashMap.{get}
use Rattle.race_rules.specs.Clocks.{if_told}
use Rattle.race_walk.specs.Keys.{two_eq}
use Rattle.race_walk.specs.Views.{told_by, row_of}
use Rattle.race_walk.proofs.rows.write.Given as goal

abbrev pub invariant-loop-cell : goal.invariant-loop-cell
invariant-loop-cell l = record {
  most : l.cell ≤ max l.touch.from l.touch.to;
  so : (b e u : ℕ) → told_by (row_of (get two_eq l.rows (b, e))) u ≡ if_told (nat_eq l.touch.block b && (nat_le l.touch.from e && nat_lt e l.cell)) (told_by l.clock) (told_by (row_of (get two_eq l.initial.rows (b, e)))) u;
}
