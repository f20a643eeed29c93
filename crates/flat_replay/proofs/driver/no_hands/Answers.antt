use Rattle.std.proofs.Common.{rules, ◌∙◌, ℕ, ◌-◌, ◌+◌, ◌++◌, replicate, ap, None}
use Rattle.flat_replay.proofs.Following.{none_next}
use Rattle.flat_replay.proofs.driver.no_hands.Goals as goal

pub loop-k-preserved : goal.loop-k-preserved
loop-k-preserved g c = let inv = c.loop-k.invariant in let k : ℕ = c.loop-k._k in record {
  so_far = ap (λ z. z ++ replicate (64 - (k + 1)) None) c.push_reserved.ensures.items ∙ none_next k 64 c.loop-k.hands.items _ c.loop-k-test.true inv.so_far;
  as_many = search rules;
  room = search rules;
}
