use Rattle.std.proofs.Common.{◌∙◌, ◌+◌, map, drop, ap, sym}
use Rattle.std.proofs.lemmas.Result.{err_from_is_err_and}
use Rattle.std.specs.Vec.Iter.{into_iter_items}
use Rattle.c_tree.specs.TypedViews.{piece_view, expr_view}
use Rattle.c_typing.specs.Formats.{argument_for, arguments_for}
use Rattle.type_rules.specs.ListViews.{exprs_view}
use Rattle.type_rules.proofs.Fitting.{behind, seen_more}
use Rattle.type_nodes.proofs.Arguments.{next_piece, argument_next, argument_more, argument_fails}
use Rattle.type_nodes.proofs.formats.arguments_for.Goals as goal

pub returns-in_err-e : goal.returns-in_err-e
returns-in_err-e c =
    let all = arguments_for (map piece_view c.args.pieces.now) (exprs_view c.args.args) in
    let new = into_iter_items c.next.new.self in
    let ps = map piece_view (drop (c.pieces.piece-index + 1) c.args.pieces.now) in
    let here = next_piece all (exprs_view c.pieces.all) c.args.pieces.now c.pieces.piece-index c.piece-item.result (map expr_view (into_iter_items c.pieces.rest))
    c.pieces.invariant c.pieces-test.true c.piece-item.is in
    let next = argument_next all (exprs_view c.pieces.all) (piece_view c.piece-item.result) ps (into_iter_items c.pieces.rest) c.in-Some.e new
    here (sym c.is_bytes.ensures ∙ c.if-is_bytes.false) c.in-Some.ensures.items in
    let p = err_from_is_err_and c.from_residual.result c.from_residual.ensures.1 in
    rw (p.1, p.2) (argument_fails c.args.place (argument_for (piece_view c.piece-item.result) (expr_view c.in-Some.e)) c.in_err-e.field-0.0 all
    (arguments_for ps (map expr_view new)) (exprs_view c.pieces.all) next c.in_err-e.ensures)

pub pieces-preserved : goal.pieces-preserved
pieces-preserved c =
    let all = arguments_for (map piece_view c.args.pieces.now) (exprs_view c.args.args) in
    let new = into_iter_items c.next.new.self in
    let ps = map piece_view (drop (c.pieces.piece-index + 1) c.args.pieces.now) in
    let here = next_piece all (exprs_view c.pieces.all) c.args.pieces.now c.pieces.piece-index c.piece-item.result (map expr_view (into_iter_items c.pieces.rest))
    c.pieces.invariant c.pieces-test.true c.piece-item.is in
    let next = argument_next all (exprs_view c.pieces.all) (piece_view c.piece-item.result) ps (into_iter_items c.pieces.rest) c.in-Some.e new
    here (sym c.is_bytes.ensures ∙ c.if-is_bytes.false) c.in-Some.ensures.items in
    let more = argument_more c.args.place all (exprs_view c.pieces.all) (argument_for (piece_view c.piece-item.result) (expr_view c.in-Some.e)) (expr_view c.in_ok-e.e)
    (arguments_for ps (map expr_view new)) next c.in_ok-e.ensures in
    more ∙ ap (λ done. behind done (arguments_for ps (map expr_view new))) (sym (seen_more c.pieces.all.items c.push.new.self.items c.in_ok-e.e c.in_ok-push.ensures.items))
