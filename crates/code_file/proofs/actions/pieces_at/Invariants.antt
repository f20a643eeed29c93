use Rattle.std.proofs.Common.{◌≡◌, ◌-◌, map}
use Rattle.formats.specs.Formats.{u32, list, rows}
use Rattle.formats.proofs.Loops.{with_front}
use Rattle.code_file.specs.Actions.{piece}
use Rattle.c_tree.specs.TypedViews.{piece_view}
use Rattle.code_file.proofs.actions.pieces_at.Given as goal

abbrev pub invariant-loop : goal.invariant-loop
invariant-loop l = with_front (map piece_view l.pieces.items) ((rows piece (l.count - l.counter)).read l.rest) ≡ (list piece).read l.bytes
