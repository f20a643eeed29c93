use Rattle.std.proofs.Common.{◌∙◌}
use Rattle.turn_lock.specs.Locks.{first_of}
use Rattle.ak_crew.proofs.Going.{once_asked, not_asked, may_act, out_next, works_next, rested_home, busy_home, room_home}
use Rattle.ak_crew.proofs.carrying.carry.Goals as goal

pub act-requires-clause-out : goal.act-requires-clause-out
act-requires-clause-out g c = may_act g.F.Flat.machine g.F.Flat.shared_of g.F.Flat.context_of g.met.F.Flat.lawful (first_of c.args.world.now.lock) c.args.code.now c.requires.code c.loop.pass c.loop.ctx c.work_alone.new.ctx c.loop.asked c.loop.invariant.out c.loop.invariant.works c.work_alone.ensures

pub loop-preserved-then-asked : goal.loop-preserved-then-asked
loop-preserved-then-asked g c = record {
  pass = c.act.ensures.pass.0;
  worker = c.act.ensures.pass.1 ∙ c.loop.invariant.worker;
  out = out_next g.F.Flat.machine g.F.Flat.shared_of g.F.Flat.context_of g.met.F.Flat.lawful (first_of c.args.world.now.lock) c.args.code.now c.requires.code c.loop.pass c.loop.ctx c.work_alone.new.ctx c.loop.asked c.loop.invariant.out c.loop.invariant.works c.work_alone.ensures c.act.new.pass c.act.result c.act.ensures.acts c.in-Went.next c.in-Went.come_home c.loop.asked c.in-Went.is (once_asked c.loop.asked c.in-Went.come_home c.if-asked.true);
  works = works_next g.F.Flat.machine g.F.Flat.shared_of g.F.Flat.context_of g.met.F.Flat.lawful (first_of c.args.world.now.lock) c.args.code.now c.requires.code c.loop.pass c.loop.ctx c.work_alone.new.ctx c.loop.asked c.loop.invariant.out c.loop.invariant.works c.work_alone.ensures c.act.new.pass c.act.result c.act.ensures.acts c.in-Went.next c.in-Went.come_home c.in-Went.is;
}

pub loop-preserved : goal.loop-preserved
loop-preserved g c = record {
  pass = c.act.ensures.pass.0;
  worker = c.act.ensures.pass.1 ∙ c.loop.invariant.worker;
  out = out_next g.F.Flat.machine g.F.Flat.shared_of g.F.Flat.context_of g.met.F.Flat.lawful (first_of c.args.world.now.lock) c.args.code.now c.requires.code c.loop.pass c.loop.ctx c.work_alone.new.ctx c.loop.asked c.loop.invariant.out c.loop.invariant.works c.work_alone.ensures c.act.new.pass c.act.result c.act.ensures.acts c.in-Went.next c.in-Went.come_home c.in-Went.come_home c.in-Went.is (not_asked c.loop.asked c.in-Went.come_home c.if-asked.false);
  works = works_next g.F.Flat.machine g.F.Flat.shared_of g.F.Flat.context_of g.met.F.Flat.lawful (first_of c.args.world.now.lock) c.args.code.now c.requires.code c.loop.pass c.loop.ctx c.work_alone.new.ctx c.loop.asked c.loop.invariant.out c.loop.invariant.works c.work_alone.ensures c.act.new.pass c.act.result c.act.ensures.acts c.in-Went.next c.in-Went.come_home c.in-Went.is;
}

pub bring_home-requires-clause-out : goal.bring_home-requires-clause-out
bring_home-requires-clause-out g c κs bounds = rested_home g.F.Flat.machine g.F.Flat.shared_of g.F.Flat.context_of g.met.F.Flat.lawful (first_of c.args.world.now.lock) c.args.code.now c.requires.code c.loop.pass c.loop.ctx c.work_alone.new.ctx c.loop.asked c.loop.invariant.out c.loop.invariant.works c.work_alone.ensures c.act.new.pass c.act.result c.act.ensures.acts c.in-Rested.next c.in-Rested.is

pub bring_home-requires-in-Busy-clause-out : goal.bring_home-requires-in-Busy-clause-out
bring_home-requires-in-Busy-clause-out g c κs bounds = busy_home g.F.Flat.machine g.F.Flat.shared_of g.F.Flat.context_of g.met.F.Flat.lawful (first_of c.args.world.now.lock) c.args.code.now c.requires.code c.loop.pass c.loop.ctx c.work_alone.new.ctx c.loop.asked c.loop.invariant.out c.loop.invariant.works c.work_alone.ensures c.act.new.pass c.act.result c.act.ensures.acts c.in-Busy.next c.in-Busy.is

pub bring_home-requires-in-WaitRoom-clause-out : goal.bring_home-requires-in-WaitRoom-clause-out
bring_home-requires-in-WaitRoom-clause-out g c κs bounds = room_home g.F.Flat.machine g.F.Flat.shared_of g.F.Flat.context_of g.met.F.Flat.lawful (first_of c.args.world.now.lock) c.args.code.now c.requires.code c.loop.pass c.loop.ctx c.work_alone.new.ctx c.loop.asked c.loop.invariant.out c.loop.invariant.works c.work_alone.ensures c.act.new.pass c.act.result c.act.ensures.acts c.in-WaitRoom.next c.in-WaitRoom.is
