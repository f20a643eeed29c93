use Rattle.std.proofs.Common.{sym}
use Rattle.c_meaning.specs.Meaning.{program}
use Rattle.source_tree.specs.SharedViews.{program_of}
use Rattle.block_meaning.specs.Running.{state_in}
use Rattle.block_meaning.specs.Threads.{control_of}
use Rattle.block_meaning.proofs.Asked.{told_asks}
use Rattle.block_meaning.proofs.Picks.{turn_answers, turn_leaves}
use Rattle.block_meaning.proofs.taking.take.Goals as goal

pub returns-clause-answer : goal.returns-clause-answer
returns-clause-answer c =
    turn_answers (program_of c.args.program.now) c.args.threads.now.items c.args.world.now c.take_turn.new.world (record { thread = c.args.thread; answer = c.args.answer }) c.in-Some.own c.take_turn.new.own _ _
    c.requires c.in-Some.ensures.taken c.in_ok-o.ensures.turned c.in_ok-turned.ensures.answer

pub returns-clause-state : goal.returns-clause-state
returns-clause-state c =
    turn_leaves (program_of c.args.program.now) c.args.threads.now.items c.take_own.new.threads.items c.come_back.new.threads.items c.args.world.now c.take_turn.new.world (record { thread = c.args.thread; answer = c.args.answer }) c.in-Some.own c.take_turn.new.own _
    c.requires c.in-Some.ensures.taken c.in_ok-o.ensures.turned c.in_ok-o.ensures.stays c.in-Some.ensures.left c.in_ok-turned.ensures.own

pub returns-clause-asked : goal.returns-clause-asked
returns-clause-asked c =
    told_asks (program (program_of c.args.program.now)) (state_in c.args.threads.now.items c.args.world.now) (record { thread = c.args.thread; answer = c.args.answer }) (control_of c.in-Some.own) _
    c.requires (sym c.in-Some.ensures.taken) c.in_ok-o.ensures.asked
