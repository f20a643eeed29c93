use Rattle.std.proofs.Common.{◌≡◌, map, drop}
use Rattle.std.specs.Vec.Iter.{into_iter_items}
use Rattle.c_tree.specs.TypedViews.{piece_view, expr_view}
use Rattle.c_typing.specs.Formats.{arguments_for}
use Rattle.type_rules.specs.ListViews.{exprs_view}
use Rattle.type_rules.proofs.Fitting.{behind}
use Rattle.type_nodes.proofs.formats.arguments_for.Given as goal

abbrev pub invariant-pieces : goal.invariant-pieces
invariant-pieces l =
    arguments_for (map piece_view l.pieces) (exprs_view l.fn.args)
    ≡ behind (exprs_view l.all) (arguments_for (map piece_view (drop l.piece-index l.pieces)) (map expr_view (into_iter_items l.rest)))
