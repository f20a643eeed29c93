use Rattle.std.proofs.Common.{map, drop}
use Rattle.c_tree.specs.TypedViews.{piece_view}
use Rattle.struct_ir.specs.Views.{place_view}
use Rattle.flat_meaning.specs.Accesses.{output_room}
use Rattle.flat_meaning.specs.Actions.{printed_parts}
use Rattle.flat_meaning.specs.Printing.{read_parts}
use Rattle.flat_meaning.specs.Words.{target_of, word_at}
use Rattle.flat_threads.specs.Deeds.{top_of}
use Rattle.flat_machine.proofs.Pieces.{IsLeft}
use Rattle.flat_machine.proofs.shared.Shared.put_pieces.Given as goal

abbrev pub invariant-loop-piece : goal.invariant-loop-piece
invariant-loop-piece l =
    let own = (top_of l.ctx).own in
    let targets = map (target_of own) (map place_view l.places) in
    let words = map (word_at own) l.temps in
    let old = l.initial.self in
    IsLeft old l.self (read_parts old.memory.storage.bytes (printed_parts (map piece_view l.pieces) targets words) (output_room old.output_limit old.memory)) (map piece_view (drop l.piece-index l.pieces)) (drop l.texts targets) (drop l.numbers words)
