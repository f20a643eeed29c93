use Rattle.block_store.specs.declared.values.Answer.TheVariants as answers
use Rattle.source_state.specs.Worlds.{world_of}
use Rattle.block_meaning.proofs.Ends.{left_plainly, turned_untouched}
use Rattle.block_meaning.proofs.Reaching.{mid_world}
use Rattle.block_meaning.proofs.perform.leave.Goals as goal
use Rattle.block_meaning.specs.inner.Turns.{rest_of}

pub returns-in_ok-o-in-Plain-clause-turned : goal.returns-in_ok-o-in-Plain-clause-turned
returns-in_ok-o-in-Plain-clause-turned c =
    left_plainly c.args.program.now c.args.thread c.args.answer c.args.own.now c.args.v c.result_of_call-value.result c.variables.result.now c.args.world.now (mid_world c.args.world.now c.end_blocks.new.store) _
    c.in-Plain.is (c.result_of_call-value.ensures (rest_of c.args.thread answers.Plain c.args.own.now)) c.variables.ensures (c.in_ok-end_blocks-in-Plain.ensures.now (world_of c.args.world.now)) c.in_ok-o-in-Plain.ensures.comes

pub returns-in_ok-o-in-Plain-clause-untouched : goal.returns-in_ok-o-in-Plain-clause-untouched
returns-in_ok-o-in-Plain-clause-untouched c =
    turned_untouched c.in_ok-o-in-Plain.o c.args.own.now c.go_back.new.own c.args.world.now c.go_back.new.world c.in_ok-o-in-Plain.ensures.turned
