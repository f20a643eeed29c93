use Rattle.std.proofs.Common.{ap, sym, subst, ◌∙◌}
use Rattle.source_state.specs.Kept.{Kept}
use Rattle.source_state.specs.Variables.{KeptLocals}
use Rattle.block_meaning.specs.declared.thread.Outcome.{Outcome}
use Rattle.block_meaning.proofs.Asked.{turn_asks}
use Rattle.block_meaning.proofs.Reaching.{turn_taken, mid_own, mid_world, stays_back}
use Rattle.block_meaning.proofs.turn.take_turn.Goals as goal
use Rattle.block_meaning.specs.inner.Turns.{turn_of, Untouched}

pub returns-in-Went-clause-turned : goal.returns-in-Went-clause-turned
returns-in-Went-clause-turned c =
    turn_taken c.args.program.now c.args.thread c.args.answer c.args.own.now c.args.world.now _ _ _ _ _ _ c.in_ok-q.ensures.reaches (ap (λ (k : KeptLocals). k.now) c.keep.ensures) (ap (λ (k : Kept). k.now) c.keep-2.ensures)
    (ap (λ (o : Outcome). turn_of o c.perform.new.own c.perform.new.world) (sym c.in-Went.is) ∙ c.in_ok-o.ensures.turned)

pub returns-in-Ended-clause-turned : goal.returns-in-Ended-clause-turned
returns-in-Ended-clause-turned c =
    turn_taken c.args.program.now c.args.thread c.args.answer c.args.own.now c.args.world.now _ _ _ _ _ _ c.in_ok-q.ensures.reaches (ap (λ (k : KeptLocals). k.now) c.keep.ensures) (ap (λ (k : Kept). k.now) c.keep-2.ensures)
    (ap (λ (o : Outcome). turn_of o c.perform.new.own c.perform.new.world) (sym c.in-Ended.is) ∙ c.in_ok-o.ensures.turned)

pub returns-in-Blocked-clause-turned : goal.returns-in-Blocked-clause-turned
returns-in-Blocked-clause-turned c =
    turn_taken c.args.program.now c.args.thread c.args.answer c.args.own.now c.args.world.now _ _ _ _ _ _ c.in_ok-q.ensures.reaches (ap (λ (k : KeptLocals). k.now) c.keep.ensures) (ap (λ (k : Kept). k.now) c.keep-2.ensures)
    (ap (λ (o : Outcome). turn_of o c.perform.new.own c.perform.new.world) (sym c.in-Blocked.is) ∙ c.in_ok-o.ensures.turned)

pub returns-in-Blocked-clause-stays : goal.returns-in-Blocked-clause-stays
returns-in-Blocked-clause-stays c =
    stays_back c.args.own.now c.perform.new.own c.args.world.now c.perform.new.world c.reach.new.locals c.undo.new.locals c.reach.new.store c.undo.new.store
    (subst (λ (o : Outcome). Untouched o (mid_own c.args.own.now c.reach.new.locals) c.perform.new.own (mid_world c.args.world.now c.reach.new.store) c.perform.new.world) c.in-Blocked.is c.in_ok-o.ensures.untouched)
    (c.in_ok-q.ensures.locals ∙ ap (λ (k : KeptLocals). k.kept) c.keep.ensures) (c.in_ok-q.ensures.store ∙ ap (λ (k : Kept). k.kept) c.keep-2.ensures)
    (ap (λ (k : KeptLocals). k.now) c.undo.ensures.locals) (ap (λ (k : Kept). k.now) c.undo.ensures.store)

pub returns-in-Unfit-clause-turned : goal.returns-in-Unfit-clause-turned
returns-in-Unfit-clause-turned c =
    turn_taken c.args.program.now c.args.thread c.args.answer c.args.own.now c.args.world.now _ _ _ _ _ _ c.in_ok-q.ensures.reaches (ap (λ (k : KeptLocals). k.now) c.keep.ensures) (ap (λ (k : Kept). k.now) c.keep-2.ensures)
    (ap (λ (o : Outcome). turn_of o c.perform.new.own c.perform.new.world) (sym c.in-Unfit.is) ∙ c.in_ok-o.ensures.turned)

pub returns-in-Unfit-clause-stays : goal.returns-in-Unfit-clause-stays
returns-in-Unfit-clause-stays c =
    stays_back c.args.own.now c.perform.new.own c.args.world.now c.perform.new.world c.reach.new.locals c.undo-in-Unfit.new.locals c.reach.new.store c.undo-in-Unfit.new.store
    (subst (λ (o : Outcome). Untouched o (mid_own c.args.own.now c.reach.new.locals) c.perform.new.own (mid_world c.args.world.now c.reach.new.store) c.perform.new.world) c.in-Unfit.is c.in_ok-o.ensures.untouched)
    (c.in_ok-q.ensures.locals ∙ ap (λ (k : KeptLocals). k.kept) c.keep.ensures) (c.in_ok-q.ensures.store ∙ ap (λ (k : Kept). k.kept) c.keep-2.ensures)
    (ap (λ (k : KeptLocals). k.now) c.undo-in-Unfit.ensures.locals) (ap (λ (k : Kept). k.now) c.undo-in-Unfit.ensures.store)

pub returns-in-Broke-clause-turned : goal.returns-in-Broke-clause-turned
returns-in-Broke-clause-turned c =
    turn_taken c.args.program.now c.args.thread c.args.answer c.args.own.now c.args.world.now _ _ _ _ _ _ c.in_ok-q.ensures.reaches (ap (λ (k : KeptLocals). k.now) c.keep.ensures) (ap (λ (k : Kept). k.now) c.keep-2.ensures)
    (ap (λ (o : Outcome). turn_of o c.perform.new.own c.perform.new.world) (sym c.in-Broke.is) ∙ c.in_ok-o.ensures.turned)

pub returns-in-Broke-clause-stays : goal.returns-in-Broke-clause-stays
returns-in-Broke-clause-stays c =
    stays_back c.args.own.now c.perform.new.own c.args.world.now c.perform.new.world c.reach.new.locals c.undo-in-Broke.new.locals c.reach.new.store c.undo-in-Broke.new.store
    (subst (λ (o : Outcome). Untouched o (mid_own c.args.own.now c.reach.new.locals) c.perform.new.own (mid_world c.args.world.now c.reach.new.store) c.perform.new.world) c.in-Broke.is c.in_ok-o.ensures.untouched)
    (c.in_ok-q.ensures.locals ∙ ap (λ (k : KeptLocals). k.kept) c.keep.ensures) (c.in_ok-q.ensures.store ∙ ap (λ (k : Kept). k.kept) c.keep-2.ensures)
    (ap (λ (k : KeptLocals). k.now) c.undo-in-Broke.ensures.locals) (ap (λ (k : Kept). k.now) c.undo-in-Broke.ensures.store)

pub returns-in-Went-clause-asked : goal.returns-in-Went-clause-asked
returns-in-Went-clause-asked c =
    turn_asks c.args.program.now c.args.thread c.args.answer c.args.own.now c.args.world.now _ _ _ _ _ _ c.in_ok-q.ensures.reaches (ap (λ (k : KeptLocals). k.now) c.keep.ensures) (ap (λ (k : Kept). k.now) c.keep-2.ensures) c.asked_under.ensures

pub returns-in-Ended-clause-asked : goal.returns-in-Ended-clause-asked
returns-in-Ended-clause-asked c =
    turn_asks c.args.program.now c.args.thread c.args.answer c.args.own.now c.args.world.now _ _ _ _ _ _ c.in_ok-q.ensures.reaches (ap (λ (k : KeptLocals). k.now) c.keep.ensures) (ap (λ (k : Kept). k.now) c.keep-2.ensures) c.asked_under.ensures

pub returns-in-Blocked-clause-asked : goal.returns-in-Blocked-clause-asked
returns-in-Blocked-clause-asked c =
    turn_asks c.args.program.now c.args.thread c.args.answer c.args.own.now c.args.world.now _ _ _ _ _ _ c.in_ok-q.ensures.reaches (ap (λ (k : KeptLocals). k.now) c.keep.ensures) (ap (λ (k : Kept). k.now) c.keep-2.ensures) c.asked_under.ensures

pub returns-in-Unfit-clause-asked : goal.returns-in-Unfit-clause-asked
returns-in-Unfit-clause-asked c =
    turn_asks c.args.program.now c.args.thread c.args.answer c.args.own.now c.args.world.now _ _ _ _ _ _ c.in_ok-q.ensures.reaches (ap (λ (k : KeptLocals). k.now) c.keep.ensures) (ap (λ (k : Kept). k.now) c.keep-2.ensures) c.asked_under.ensures

pub returns-in-Broke-clause-asked : goal.returns-in-Broke-clause-asked
returns-in-Broke-clause-asked c =
    turn_asks c.args.program.now c.args.thread c.args.answer c.args.own.now c.args.world.now _ _ _ _ _ _ c.in_ok-q.ensures.reaches (ap (λ (k : KeptLocals). k.now) c.keep.ensures) (ap (λ (k : Kept). k.now) c.keep-2.ensures) c.asked_under.ensures
