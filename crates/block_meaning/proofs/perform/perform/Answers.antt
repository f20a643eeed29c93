use Rattle.block_meaning.proofs.Ends.{ends_as}
use Rattle.block_meaning.proofs.perform.perform.Goals as goal

pub returns-in_ok-acted-in-Act-clause-turned : goal.returns-in_ok-acted-in-Act-clause-turned
returns-in_ok-acted-in-Act-clause-turned c = ends_as c.args.program.now c.args.thread c.args.answer c.args.own.now c.args.world.now _ _ _ c.in-Act.is c.in_ok-acted-in-Act.ensures.turned

pub returns-in-Round-clause-turned : goal.returns-in-Round-clause-turned
returns-in-Round-clause-turned c = ends_as c.args.program.now c.args.thread c.args.answer c.args.own.now c.args.world.now _ _ _ c.in-Round.is c.end_round-over.ensures.turned

pub returns-in_ok-entered-in-Enter-clause-turned : goal.returns-in_ok-entered-in-Enter-clause-turned
returns-in_ok-entered-in-Enter-clause-turned c = ends_as c.args.program.now c.args.thread c.args.answer c.args.own.now c.args.world.now _ _ _ c.in-Enter.is c.in_ok-entered-in-Enter.ensures.turned

pub returns-in_ok-o-in-Leave-clause-turned : goal.returns-in_ok-o-in-Leave-clause-turned
returns-in_ok-o-in-Leave-clause-turned c = ends_as c.args.program.now c.args.thread c.args.answer c.args.own.now c.args.world.now _ _ _ c.in-Leave.is c.in_ok-o-in-Leave.ensures.turned
