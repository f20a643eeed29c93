use Rattle.std.proofs.Common.{rules, refl}
use Rattle.source_state.specs.Views.{values_of}
use Rattle.block_meaning.proofs.Ends.{entered}
use Rattle.block_meaning.proofs.perform.enter_in.Goals as goal

pub returns : goal.returns
returns c =
    entered c.args.f.now c.args.number c.args.own.now (values_of c.args.args.now) c.in_ok-list.list.items c.args.waits _ _ _ _ _ c.in_ok-list.ensures (search rules) c.in_ok-body.ensures c.in_ok-wait.ensures (search rules) refl
