use Rattle.std.proofs.Common.{refl}
use Rattle.source_tree.specs.SharedViews.{program_of}
use Rattle.source_state.specs.Worlds.{world_of}
use Rattle.block_meaning.specs.declared.thread.Outcome.TheVariants as outcomes
use Rattle.block_meaning.specs.Threads.{control_of, owns_of}
use Rattle.block_meaning.proofs.Picks.{back_begun, gone_begun}
use Rattle.block_meaning.proofs.Starts.{behind_as, answered_as}
use Rattle.block_meaning.proofs.taking.come_back.Goals as goal

pub returns-in_ok-begin_all-in-Went-clause-answer : goal.returns-in_ok-begin_all-in-Went-clause-answer
returns-in_ok-begin_all-in-Went-clause-answer c = answered_as c.args.thread c.args.o outcomes.Went c.args.own c.args.world.now _ c.in-Went.is refl

pub returns-in_ok-begin_all-in-Went-clause-own : goal.returns-in_ok-begin_all-in-Went-clause-own
returns-in_ok-begin_all-in-Went-clause-own c =
    behind_as (program_of c.args.program.now) c.args.thread c.args.o outcomes.Went (control_of c.args.own) (world_of c.args.world.now) (owns_of c.args.threads.now.items) _ c.in-Went.is
    (back_begun (program_of c.args.program.now) c.args.threads.now.items c.put_own.new.threads.items c.begin_all.new.threads.items c.args.thread c.args.own c.args.world.now c.put_own.ensures c.in_ok-begin_all-in-Went.ensures)

pub returns-in_ok-turned-in-Ended-clause-answer : goal.returns-in_ok-turned-in-Ended-clause-answer
returns-in_ok-turned-in-Ended-clause-answer c = answered_as c.args.thread c.args.o outcomes.Ended c.args.own c.args.world.now _ c.in-Ended.is c.in_ok-turned-in-Ended.ensures

pub returns-in_ok-turned-in-Ended-clause-own : goal.returns-in_ok-turned-in-Ended-clause-own
returns-in_ok-turned-in-Ended-clause-own c =
    behind_as (program_of c.args.program.now) c.args.thread c.args.o outcomes.Ended (control_of c.args.own) (world_of c.args.world.now) (owns_of c.args.threads.now.items) _ c.in-Ended.is
    (gone_begun (program_of c.args.program.now) c.args.threads.now.items c.begin_all-in-Ended.new.threads.items c.args.world.now c.in_ok-begin_all-in-Ended.ensures)

pub returns-in-Blocked-clause-answer : goal.returns-in-Blocked-clause-answer
returns-in-Blocked-clause-answer c = answered_as c.args.thread c.args.o outcomes.Blocked c.args.own c.args.world.now _ c.in-Blocked.is refl

pub returns-in-Blocked-clause-own : goal.returns-in-Blocked-clause-own
returns-in-Blocked-clause-own c =
    behind_as (program_of c.args.program.now) c.args.thread c.args.o outcomes.Blocked (control_of c.args.own) (world_of c.args.world.now) (owns_of c.args.threads.now.items) _ c.in-Blocked.is
    c.put_own-in-Blocked.ensures

pub returns-in-Unfit-clause-answer : goal.returns-in-Unfit-clause-answer
returns-in-Unfit-clause-answer c = answered_as c.args.thread c.args.o outcomes.Unfit c.args.own c.args.world.now _ c.in-Unfit.is refl

pub returns-in-Unfit-clause-own : goal.returns-in-Unfit-clause-own
returns-in-Unfit-clause-own c =
    behind_as (program_of c.args.program.now) c.args.thread c.args.o outcomes.Unfit (control_of c.args.own) (world_of c.args.world.now) (owns_of c.args.threads.now.items) _ c.in-Unfit.is
    c.put_own-in-Unfit.ensures

pub returns-in-Broke-clause-answer : goal.returns-in-Broke-clause-answer
returns-in-Broke-clause-answer c = answered_as c.args.thread c.args.o (outcomes.Broke c.in-Broke.rule c.in-Broke.place) c.args.own c.args.world.now _ c.in-Broke.is refl

pub returns-in-Broke-clause-own : goal.returns-in-Broke-clause-own
returns-in-Broke-clause-own c =
    behind_as (program_of c.args.program.now) c.args.thread c.args.o (outcomes.Broke c.in-Broke.rule c.in-Broke.place) (control_of c.args.own) (world_of c.args.world.now) (owns_of c.args.threads.now.items) _ c.in-Broke.is
    c.put_own-in-Broke.ensures
