use Rattle.std.proofs.Common.{ap}
use Rattle.flat_threads.specs.Belonging.{IsContextOf}
use Rattle.flat_machine.specs.Machine.{machine_of}
use Rattle.flat_machine.specs.Shares.{Shared, IsSharedOf}
use Rattle.rows.proofs.Steps.{begun_goes_on, on_of}
use Rattle.rows.proofs.machine.alone.begin_first.Goals as goal

pub returns : goal.returns
returns c =
    let code = c.args.program.now in
    on_of (machine_of code) (IsSharedOf code) (IsContextOf code) c.args.shared.now 0 c.begin.new.ctx
    (begun_goes_on (machine_of code) (IsSharedOf code) (IsContextOf code) (c.machine_is_flat.ensures code) c.args.shared.now 0 c.args.ctx.now c.begin.new.ctx c.requires.of c.requires.blank c.requires.of.some c.requires.of.few
    (ap (λ (s : Shared). (machine_of code).has_ended s 0) c.requires.opened.1)
    (c.begin.ensures))
