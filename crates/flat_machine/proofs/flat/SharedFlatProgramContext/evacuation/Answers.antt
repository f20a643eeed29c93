use Rattle.std.proofs.Common.{ap, ◌∙◌}
use Rattle.std.specs.Prelude.{nat_lt}
use Rattle.flat_meaning.specs.Allowed.{pinned}
use Rattle.flat_machine.specs.Shares.{image_of}
use Rattle.flat_machine.specs.Sweeping.{at_home}
use Rattle.flat_machine.proofs.Evacuated.{empties_where_it_moves}
use Rattle.flat_machine.proofs.flat.SharedFlatProgramContext.evacuation.Goals as goal

pub returns-clause-moved : goal.returns-clause-moved
returns-clause-moved c =
    let s = c.args.self.now in
    ap (nat_lt 0) c.evacuation.ensures.emptied ∙ empties_where_it_moves (pinned (image_of c.args.code.now s) (at_home s c.args.home.now)) s.memory.storage.heaps
