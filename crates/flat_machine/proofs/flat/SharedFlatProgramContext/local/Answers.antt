use Rattle.flat_machine.specs.lemmas.Lawful.{works_stage}
use Rattle.flat_machine.proofs.flat.SharedFlatProgramContext.local.Goals as goal

pub local-requires-clause-begun : goal.local-requires-clause-begun
local-requires-clause-begun c = works_stage c.args.code.now c.args.ctx.now.stage c.args.ctx.now.stop c.requires.begun

pub local-requires-clause-most : goal.local-requires-clause-most
local-requires-clause-most c = c.requires.most

pub local-requires-clause-of : goal.local-requires-clause-of
local-requires-clause-of c = c.requires.of

pub returns : goal.returns
returns c = c.local.ensures.came
