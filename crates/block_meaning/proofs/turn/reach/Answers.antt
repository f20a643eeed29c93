use Rattle.std.proofs.Common.{ap}
use Rattle.source_state.specs.declared.control.LoopParts.{LoopParts}
use Rattle.block_meaning.proofs.Reaching.{reach_gives, reach_lacks, reach_begins, reach_round}
use Rattle.block_meaning.proofs.turn.reach.Goals as goal

pub returns-in_ok-given-in-Gives-clause-reaches : goal.returns-in_ok-given-in-Gives-clause-reaches
returns-in_ok-given-in-Gives-clause-reaches c =
    reach_gives _ c.args.at.now c.in-Gives.v c.in-Gives.k c.deref.result.now _ _ _ _ _ _ c.in-Gives.is c.deref.ensures c.in_ok-given-in-Gives.ensures.comes

pub returns-in-Lacks-clause-reaches : goal.returns-in-Lacks-clause-reaches
returns-in-Lacks-clause-reaches c = reach_lacks _ c.args.at.now c.in-Lacks.place _ _ _ c.in-Lacks.is

pub returns-in_ok-finished-in-Begins-clause-reaches : goal.returns-in_ok-finished-in-Begins-clause-reaches
returns-in_ok-finished-in-Begins-clause-reaches c =
    reach_begins _ c.args.at.now c.in-Begins.k c.deref-in-Begins.result.now _ _ _ _ _ _ c.in-Begins.is c.deref-in-Begins.ensures c.in_ok-finished-in-Begins.ensures.comes

pub returns-in_ok-q-in-Round-clause-reaches : goal.returns-in_ok-q-in-Round-clause-reaches
returns-in_ok-q-in-Round-clause-reaches c =
    reach_round _ c.args.at.now c.in-Round.l c.in-Round.k c.deref-in-Round.result.now.body.value c.deref-in-Round-2.result.now.step c.deref-in-Round-3.result.now _ _ _ _ _ _ _ _ _ c.in-Round.is
    (ap (λ (m : LoopParts). m.body.value) c.deref-in-Round.ensures) (ap (λ (m : LoopParts). m.step) c.deref-in-Round-2.ensures) c.deref-in-Round-3.ensures
    c.in_ok-exit-in-Round.ensures.exits c.in_ok-q-in-Round.ensures.comes
