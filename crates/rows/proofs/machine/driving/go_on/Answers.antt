use Rattle.std.proofs.Common.{◌≡◌, ◌||◌, Bool, subst}
use Rattle.turn_lock.specs.Locks.{first_of, seen_of, worker_of}
use Rattle.world_rules.specs.declared.calls.Acted.{Acted}
use Rattle.rows.specs.declared.machine.driving.Hand.TheVariants as hands
use Rattle.rows.specs.Hands.{Holds}
use Rattle.rows.proofs.Handled.{hand_acted, holds_acted, or_true, or_false}
use Rattle.rows.proofs.machine.driving.go_on.Goals.{then-asked, else-asked}
use Rattle.rows.proofs.machine.driving.go_on.Goals as goal

pub returns-after-asked-clause-holds : goal.returns-after-asked-clause-holds
returns-after-asked-clause-holds g c =
    let on : Holds g.F.Flat.machine g.F.Flat.shared_of g.F.Flat.context_of (first_of c.args.world.now.lock) (seen_of c.act.new.pass) (worker_of c.act.new.pass) (hands.Out c.in-Went.next (c.args.asked || c.in-Went.come_home)) = subst (λ (x : Acted g.row.Context.Denot). Holds g.F.Flat.machine g.F.Flat.shared_of g.F.Flat.context_of (first_of c.args.world.now.lock) (seen_of c.act.new.pass) (worker_of c.act.new.pass) (hand_acted c.args.asked x)) c.in-Went.is
    (holds_acted g.F.Flat.machine g.F.Flat.shared_of g.F.Flat.context_of (first_of c.args.world.now.lock) g.met.F.Flat.lawful c.args.code.now c.requires.code c.args.pass.now c.args.ctx c.work_alone.new.ctx c.args.asked c.requires.holds c.work_alone.ensures c.act.new.pass c.act.result c.act.ensures.acts) in
    let same : (c.args.asked || c.in-Went.come_home) ≡ c.if-asked.result = elim c.if-asked.branch [
      | then-asked w ↦ or_true c.args.asked c.in-Went.come_home c.if-asked.result w.if-asked.true w.result-is
      | else-asked w ↦ or_false c.args.asked c.in-Went.come_home c.if-asked.result w.if-asked.false w.result-is
    ] in
    subst (λ (b : Bool). Holds g.F.Flat.machine g.F.Flat.shared_of g.F.Flat.context_of (first_of c.args.world.now.lock) (seen_of c.act.new.pass) (worker_of c.act.new.pass) (hands.Out c.in-Went.next b)) same on

pub returns-in-Rested-clause-holds : goal.returns-in-Rested-clause-holds
returns-in-Rested-clause-holds g c = subst (λ (x : Acted g.row.Context.Denot). Holds g.F.Flat.machine g.F.Flat.shared_of g.F.Flat.context_of (first_of c.args.world.now.lock) (seen_of c.act.new.pass) (worker_of c.act.new.pass) (hand_acted c.args.asked x)) c.in-Rested.is
    (holds_acted g.F.Flat.machine g.F.Flat.shared_of g.F.Flat.context_of (first_of c.args.world.now.lock) g.met.F.Flat.lawful c.args.code.now c.requires.code c.args.pass.now c.args.ctx c.work_alone.new.ctx c.args.asked c.requires.holds c.work_alone.ensures c.act.new.pass c.act.result c.act.ensures.acts)

pub returns-in-Busy-clause-holds : goal.returns-in-Busy-clause-holds
returns-in-Busy-clause-holds g c = subst (λ (x : Acted g.row.Context.Denot). Holds g.F.Flat.machine g.F.Flat.shared_of g.F.Flat.context_of (first_of c.args.world.now.lock) (seen_of c.act.new.pass) (worker_of c.act.new.pass) (hand_acted c.args.asked x)) c.in-Busy.is
    (holds_acted g.F.Flat.machine g.F.Flat.shared_of g.F.Flat.context_of (first_of c.args.world.now.lock) g.met.F.Flat.lawful c.args.code.now c.requires.code c.args.pass.now c.args.ctx c.work_alone.new.ctx c.args.asked c.requires.holds c.work_alone.ensures c.act.new.pass c.act.result c.act.ensures.acts)

pub returns-in-WaitRoom-clause-holds : goal.returns-in-WaitRoom-clause-holds
returns-in-WaitRoom-clause-holds g c = subst (λ (x : Acted g.row.Context.Denot). Holds g.F.Flat.machine g.F.Flat.shared_of g.F.Flat.context_of (first_of c.args.world.now.lock) (seen_of c.act.new.pass) (worker_of c.act.new.pass) (hand_acted c.args.asked x)) c.in-WaitRoom.is
    (holds_acted g.F.Flat.machine g.F.Flat.shared_of g.F.Flat.context_of (first_of c.args.world.now.lock) g.met.F.Flat.lawful c.args.code.now c.requires.code c.args.pass.now c.args.ctx c.work_alone.new.ctx c.args.asked c.requires.holds c.work_alone.ensures c.act.new.pass c.act.result c.act.ensures.acts)

pub returns-in-Over-clause-holds : goal.returns-in-Over-clause-holds
returns-in-Over-clause-holds g c = subst (λ (x : Acted g.row.Context.Denot). Holds g.F.Flat.machine g.F.Flat.shared_of g.F.Flat.context_of (first_of c.args.world.now.lock) (seen_of c.act.new.pass) (worker_of c.act.new.pass) (hand_acted c.args.asked x)) c.in-Over.is
    (holds_acted g.F.Flat.machine g.F.Flat.shared_of g.F.Flat.context_of (first_of c.args.world.now.lock) g.met.F.Flat.lawful c.args.code.now c.requires.code c.args.pass.now c.args.ctx c.work_alone.new.ctx c.args.asked c.requires.holds c.work_alone.ensures c.act.new.pass c.act.result c.act.ensures.acts)
