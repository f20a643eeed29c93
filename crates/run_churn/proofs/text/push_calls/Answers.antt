use Rattle.std.proofs.Common.{rules}
use Rattle.run_churn.proofs.OneMore.{calls_next}
use Rattle.run_churn.proofs.text.push_calls.Goals as goal

pub loop-k-preserved : goal.loop-k-preserved
loop-k-preserved c = record {
  items = calls_next c.loop-k.k c.args.size c.loop-k.text.items _ _ c.loop-k-test.true c.in_ok-push_call.ensures.items c.loop-k.invariant.items;
  len = search rules;
}
