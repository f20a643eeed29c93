use Rattle.flat_threads.specs.Belonging.{IsContextOf}
use Rattle.flat_machine.specs.Machine.{machine_of}
use Rattle.flat_machine.specs.Shares.{IsSharedOf}
use Rattle.rows.proofs.Steps.{turns}
use Rattle.rows.proofs.machine.alone.work_and_act.Goals as goal

pub returns : goal.returns
returns c =
    let code = c.args.program.now in
    turns (machine_of code) (IsSharedOf code) (IsContextOf code) (c.machine_is_flat.ensures code) c.args.shared.now c.args.ctx.now c.local.new.ctx c.args.ctx.now.number c.requires c.requires.lives.shared.few c.local.ensures.came c.act.new.shared c.act.new.ctx c.act.result c.act.ensures.shared c.act.ensures.context c.act.ensures.step
