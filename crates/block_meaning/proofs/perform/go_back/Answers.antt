use Rattle.std.proofs.Common.{refl}
use Rattle.source_state.specs.Views.{wait_of}
use Rattle.block_meaning.proofs.Ends.{last_returned, caller_returned}
use Rattle.block_meaning.proofs.perform.go_back.Goals as goal

pub returns-in_ok-_done-in-None-clause-comes : goal.returns-in_ok-_done-in-None-clause-comes
returns-in_ok-_done-in-None-clause-comes c =
    last_returned c.args.program.now c.args.own.now.function c.args.thread c.args.own.now c.args.own.now c.args.value _ c.args.world.now c.act.new.self _ c.in-None.ensures c.number_in-value.ensures c.in_ok-_done-in-None.ensures.done

pub returns-in-Some-clause-comes : goal.returns-in-Some-clause-comes
returns-in-Some-clause-comes c =
    caller_returned c.args.program.now c.args.own.now.function c.args.thread c.args.own.now c.args.value c.args.world.now (record { function = c.in-Some.field-0.function; locals = c.in-Some.field-0.locals.now; wait = wait_of c.in-Some.field-0.wait }) _ _ _
    c.in-Some.ensures c.after_call-at.ensures refl
