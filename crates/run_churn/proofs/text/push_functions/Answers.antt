use Rattle.std.proofs.Common.{rules}
use Rattle.run_churn.proofs.OneMore.{functions_next, functions_end}
use Rattle.run_churn.proofs.text.push_functions.Goals as goal

pub loop-k-preserved : goal.loop-k-preserved
loop-k-preserved c = record {
  items = functions_next c.loop-k.k c.args.size c.loop-k.draws.x c.choose.result.slot c.choose.result.bytes c.choose.result.byte c.choose.new.self.x c.loop-k.text.items _ _ c.loop-k-test.true
      c.choose.ensures.slot c.choose.ensures.bytes c.choose.ensures.byte c.choose.ensures.next c.in_ok-push_function.ensures.items c.loop-k.invariant.items;
  len = search rules;
}

pub returns-clause-items : goal.returns-clause-items
returns-clause-items c = functions_end c.loop-k.k c.args.size c.loop-k.draws.x c.loop-k.text.items _ c.loop-k-test.false c.loop-k.invariant.items
