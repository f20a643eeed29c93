use Rattle.std.proofs.Common.{arith}
use Rattle.parse_expressions.proofs.CodeLoops.{goes}
use Rattle.parse_expressions.proofs.expressions.texts.Goals as goal

pub texts-preserved : goal.texts-preserved
texts-preserved c =
    let open_ = rw c.if-branch.true at c.in_ok-is_text_next.ensures in
    record {
      going = rw c.in_ok-put.ensures (goes _ _ _ _ _ _ _ _ _ _ c.texts.invariant.going open_ c.in_ok-more.ensures.reads c.in_ok-more.ensures.takes);
      takes = omega (arith, c.texts.invariant.takes, c.in_ok-more.ensures.takes);
    }
