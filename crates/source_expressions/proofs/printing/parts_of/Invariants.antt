use Rattle.std.proofs.Common.{◌≡◌, drop, map}
use Rattle.block_store.specs.Actions.{bytes, text}
use Rattle.c_tree.specs.TypedPrinting.{parts}
use Rattle.c_tree.specs.TypedViews.{piece_view}
use Rattle.source_expressions.specs.inner.Gathered.{behind}
use Rattle.source_expressions.proofs.printing.parts_of.Given as goal

abbrev pub invariant-each : goal.invariant-each
invariant-each l = behind l.numbers l.pointers l.so_far (map piece_view (drop l.piece-index l.pieces)) ≡ parts bytes text (map piece_view l.pieces) l.numbers l.pointers
