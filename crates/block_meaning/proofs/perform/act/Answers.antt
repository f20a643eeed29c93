use Rattle.std.proofs.Common.{refl}
use Rattle.source_state.specs.declared.world.Done.TheVariants as dones
use Rattle.block_meaning.proofs.Ends.{act_went, act_blocked, act_unfit, act_broke, left_as, touched_as}
use Rattle.block_meaning.proofs.perform.act.Goals as goal

pub returns-in_ok-at-in-Went-clause-turned : goal.returns-in_ok-at-in-Went-clause-turned
returns-in_ok-at-in-Went-clause-turned c =
    act_went c.args.program.now c.args.thread c.args.answer c.args.site c.args.action c.args.then c.args.own.now c.args.world.now c.act.new.self _ c.in-Went.v _ _ c.in_ok-v.ensures.done c.in-Went.is c.in_ok-at-in-Went.ensures
    (touched_as c.args.site c.args.thread c.args.answer c.args.action c.args.world.now c.act.new.self c.in_ok-gathered.gathered _ _ c.in-Went.v c.in_ok-touched-in-Went.touched c.in_ok-gathered.ensures.place c.in_ok-gathered.ensures.touches c.compare_of-compared.ensures
    c.in_ok-v.ensures.done c.in-Went.is c.in_ok-touched-in-Went.ensures.fits c.in_ok-touched-in-Went.ensures.touches)

pub returns-in-Blocked-clause-turned : goal.returns-in-Blocked-clause-turned
returns-in-Blocked-clause-turned c =
    act_blocked c.args.program.now c.args.thread c.args.answer c.args.site c.args.action c.args.then c.args.own.now c.args.own.now c.args.world.now c.act.new.self _ c.in_ok-v.ensures.done c.in-Blocked.is

pub returns-in-Blocked-clause-untouched : goal.returns-in-Blocked-clause-untouched
returns-in-Blocked-clause-untouched c = (refl, left_as _ dones.Blocked c.args.world.now c.act.new.self c.in_ok-v.ensures.untouched c.in-Blocked.is)

pub returns-in-Unfit-clause-turned : goal.returns-in-Unfit-clause-turned
returns-in-Unfit-clause-turned c =
    act_unfit c.args.program.now c.args.thread c.args.answer c.args.site c.args.action c.args.then c.args.own.now c.args.own.now c.args.world.now c.act.new.self _ c.in_ok-v.ensures.done c.in-Unfit.is

pub returns-in-Unfit-clause-untouched : goal.returns-in-Unfit-clause-untouched
returns-in-Unfit-clause-untouched c = (refl, left_as _ dones.Unfit c.args.world.now c.act.new.self c.in_ok-v.ensures.untouched c.in-Unfit.is)

pub returns-in-Broke-clause-turned : goal.returns-in-Broke-clause-turned
returns-in-Broke-clause-turned c =
    act_broke c.args.program.now c.args.thread c.args.answer c.args.site c.args.action c.args.then c.args.own.now c.args.own.now c.args.world.now c.act.new.self _ c.in-Broke.rule c.in_ok-v.ensures.done c.in-Broke.is

pub returns-in-Broke-clause-untouched : goal.returns-in-Broke-clause-untouched
returns-in-Broke-clause-untouched c = (refl, left_as _ (dones.Broke c.in-Broke.rule) c.args.world.now c.act.new.self c.in_ok-v.ensures.untouched c.in-Broke.is)
