use Rattle.std.proofs.Common.{◌≡◌, ◌-◌, ◌≤◌, ◌++◌, replicate, vec_len, vec_capacity, None}
use Rattle.flat_replay.proofs.driver.no_hands.Given as goal

abbrev pub invariant-loop-k : goal.invariant-loop-k
invariant-loop-k g l = record {
  so_far : l.hands.items ++ replicate (64 - l._k) None ≡ replicate 64 None;
  as_many : vec_len l.hands ≡ l._k;
  room : 64 ≤ vec_capacity l.hands;
}
