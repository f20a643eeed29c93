use Rattle.race_walk.specs.Steps.{turns_of}
use Rattle.race_walk.proofs.Finding.{first_answer, next_none, none_at_all}
use Rattle.race_walk.proofs.found.first_with.Goals as goal

pub returns-in-Some : goal.returns-in-Some
returns-in-Some c =
    first_answer c.args.steps.now c.args.second.now c.loop-turn.turn c.index-steps-turn.result c.as_slice.result.now c.in-Some.one c.in-Some.other c.requires c.loop-turn-test.true c.index-steps-turn.is c.as_slice.ensures.value
    c.in-Some.ensures c.loop-turn.invariant

pub loop-turn-preserved : goal.loop-turn-preserved
loop-turn-preserved c =
    next_none c.args.steps.now c.args.second.now c.loop-turn.turn c.index-steps-turn.result c.as_slice.result.now c.requires c.loop-turn-test.true c.index-steps-turn.is c.as_slice.ensures.value c.in-None.ensures
    c.loop-turn.invariant

pub returns : goal.returns
returns c = none_at_all (turns_of c.args.steps.now) c.args.second.now.turn c.loop-turn.turn c.loop-turn-test.false c.loop-turn.invariant
