use Rattle.std.proofs.Common.{◌≡◌, ◌+◌, ◌*◌, ◌-◌, ◌≤◌, ◌++◌, vec_len, Some}
use Rattle.flat_rules.specs.Draws.{draws, seeded}
use Rattle.run_churn.specs.Text.{functions}
use Rattle.run_churn.proofs.text.push_functions.Given as goal

abbrev pub invariant-loop-k : goal.invariant-loop-k
invariant-loop-k l = record {
  items : l.text.items ++ functions l.k (draws (3 * (l.size - l.k)) l.draws.x) ≡ l.initial.text.items ++ functions 0 (draws (3 * l.size) (seeded (Some l.seed)));
  len : vec_len l.text ≤ vec_len l.initial.text + 210 * l.k;
}
