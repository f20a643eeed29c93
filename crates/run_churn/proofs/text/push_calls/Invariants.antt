use Rattle.std.proofs.Common.{◌≡◌, ◌+◌, ◌*◌, ◌-◌, ◌≤◌, ◌++◌, vec_len}
use Rattle.run_churn.specs.Text.{calls}
use Rattle.run_churn.proofs.text.push_calls.Given as goal

abbrev pub invariant-loop-k : goal.invariant-loop-k
invariant-loop-k l = record {
  items : l.text.items ++ calls l.k (l.size - l.k) ≡ l.initial.text.items ++ calls 0 l.size;
  len : vec_len l.text ≤ vec_len l.initial.text + 16 * l.k;
}
