use Rattle.std.proofs.Common.{arith}
use Rattle.alaska_run.proofs.FewTokens.{tokens_inside, tokens_few}
use Rattle.rows.proofs.texts.judging.judge.Goals as goal

-- the tokens of a text end once
pub parse-requires-clause-end : goal.parse-requires-clause-end
parse-requires-clause-end c =
    let once = c.tokens_end_once.ensures c.args.text.now c.in_ok-tokens.tokens.items c.in_ok-tokens.ensures.found in
    rw c.deref.ensures.value once

-- they lie in it
pub parse-requires-clause-inside : goal.parse-requires-clause-inside
parse-requires-clause-inside c =
    let inside = tokens_inside c.ordered.ensures c.args.text.now c.in_ok-tokens.tokens.items c.in_ok-tokens.ensures.found in
    rw c.deref.ensures.value inside

-- and are few
pub parse-requires-clause-few : goal.parse-requires-clause-few
parse-requires-clause-few c =
    let few = tokens_few c.ordered.ensures c.args.text.now c.in_ok-tokens.tokens.items c.in_ok-tokens.ensures.found in
    rw c.deref.ensures.value (omega (arith, c.requires, few))
