use Rattle.std.proofs.Common.{◌≡◌, ℕ, ◌<◌, ◌≤◌, max, vec_len}
use Rattle.race_walk.specs.Views.{told_by}
use Rattle.race_walk.proofs.clock.join.Given as goal

abbrev pub invariant-loop-i : goal.invariant-loop-i
invariant-loop-i l = (l.i ≤ vec_len l.clock) × ((t : ℕ) → t < l.i → told_by l.clock.items t ≡ max (told_by l.initial.clock.items t) (told_by l.other t)) × ((t : ℕ) → l.i ≤ t → told_by l.clock.items t ≡ told_by l.initial.clock.items t)
