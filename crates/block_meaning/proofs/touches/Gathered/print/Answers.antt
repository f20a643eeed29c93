use Rattle.std.proofs.Common.{◌∙◌, drop, arith, rules}
use Rattle.source_state.specs.Worlds.{world_of}
use Rattle.block_meaning.proofs.Touching.{rest_begins, rest_goes, rest_ends, of_parts, part_behind, no_part}
use Rattle.block_meaning.proofs.touches.Gathered.print.Goals as goal

pub parts-init : goal.parts-init
parts-init c = rest_begins c.args.self.now (of_parts (world_of c.args.world.now).blocks c.args.self.now.place c.args.parts.now)

pub parts-preserved : goal.parts-preserved
parts-preserved c =
    rest_goes c.args.self.now c.parts.self c.read_part.new.self _ _ _ _ c.parts.invariant c.in_ok-read_part.ensures.gains
    (λ h. part_behind (world_of c.args.world.now).blocks c.args.self.now.place c.parts.self.place c.args.parts.now c.parts.part-index c.part-item.result c.parts.invariant.place (omega (arith, c.parts-test.true)) c.part-item.is (c.in_ok-read_part.ensures.printed h))

pub returns : goal.returns
returns c =
    rest_ends c.args.self.now c.parts.self _ _ c.parts.invariant (no_part (world_of c.args.world.now).blocks c.args.self.now.place c.args.parts.now c.parts.part-index (omega (arith, c.parts-test.false)))
