use Rattle.c_typing.specs.Formats.{pieces_from}
use Rattle.type_nodes.specs.inner.Formatting.{so_far}
use Rattle.type_nodes.proofs.Formatting.{pieces_over}
use Rattle.type_nodes.proofs.formats.pieces_of.Goals as goal

pub bytes-preserved-then-passed_over-gt0 : goal.bytes-preserved-then-passed_over-gt0
bytes-preserved-then-passed_over-gt0 c =
    pieces_over (so_far c.bytes.pieces) (pieces_from 0 c.args.bytes.now) c.bytes.passed_over c.bytes.i c.args.bytes.now c.bytes.invariant c.if-passed_over-gt0.true c.bytes-test.true
