use Rattle.std.proofs.Common.{sym}
use Rattle.block_meaning.proofs.Ends.{enter_none, enter_got, enter_not}
use Rattle.block_meaning.proofs.Lists.{lookup_some, lookup_none}
use Rattle.block_meaning.proofs.perform.enter.Goals as goal

pub returns-in-None-clause-turned : goal.returns-in-None-clause-turned
returns-in-None-clause-turned c =
    enter_none c.args.program.now c.args.thread c.args.answer c.args.number c.args.args c.args.waits c.args.own.now c.args.own.now c.args.world.now c.args.world.now (sym (lookup_none _ _ c.args.number c.in-None.ensures.lookup.3 c.deref.ensures.value))

pub returns-in-Got-clause-turned : goal.returns-in-Got-clause-turned
returns-in-Got-clause-turned c =
    enter_got c.args.program.now c.args.thread c.args.answer c.args.number c.args.args c.args.waits c.args.own.now c.args.own.now c.args.world.now c.args.world.now c.in-Some.f.now
    (sym (lookup_some _ _ c.args.number _ c.in-Some.ensures.lookup.3.0 c.in-Some.ensures.lookup.1 c.deref.ensures.value)) c.in-Got.is

pub returns-in-None-answer-clause-turned : goal.returns-in-None-answer-clause-turned
returns-in-None-answer-clause-turned c =
    enter_not c.args.program.now c.args.thread c.args.answer c.args.number c.args.args c.args.waits c.args.own.now c.args.own.now c.args.world.now c.args.world.now c.in-Some.f.now
    (sym (lookup_some _ _ c.args.number _ c.in-Some.ensures.lookup.3.0 c.in-Some.ensures.lookup.1 c.deref.ensures.value)) c.in-None-answer.is
