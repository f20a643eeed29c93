use Rattle.std.proofs.Common.{◌≡◌, drop}
use Rattle.std.specs.Option.{option_map}
use Rattle.c_typing.specs.Formats.{pieces_from}
use Rattle.type_nodes.specs.inner.Formatting.{so_far}
use Rattle.type_nodes.proofs.formats.pieces_of.Given as goal

abbrev pub invariant-bytes : goal.invariant-bytes
invariant-bytes l = pieces_from 0 l.bytes ≡ option_map (so_far l.pieces) (pieces_from l.passed_over (drop l.i l.bytes))
