use Rattle.std.proofs.Common.{◌≡◌, ◌++◌, ◌∷◌, [], map}
use Rattle.std.proofs.lemmas.Result.{err_from_is_err_and}
use Rattle.std.proofs.lemmas.List.{map_push}
use Rattle.formats.specs.Formats.{u32, list}
use Rattle.formats.proofs.Loops.{with_front, goes_on, ends, is_done, begins, begins_not}
use Rattle.code_file.specs.Actions.{piece}
use Rattle.c_tree.specs.TypedViews.{piece_view}
use Rattle.code_file.proofs.Fails.{passes}
use Rattle.code_file.proofs.actions.pieces_at.Goals as goal

pub returns-in_err-count : goal.returns-in_err-count
returns-in_err-count c =
    let p = err_from_is_err_and c.from_residual.result c.from_residual.ensures.1 in
    rw (p.1, p.2) (passes c.in_err-count.field-0.0 (u32.read c.args.bytes.now) ((list piece).read c.args.bytes.now) (begins_not piece c.args.bytes.now) c.in_err-count.ensures)

pub loop-init : goal.loop-init
loop-init c = rw c.new-pieces.ensures.items (begins piece c.in_ok-count.count c.args.bytes.now c.in_ok-count.begin.now c.in_ok-count.ensures)

pub returns-in_err-one : goal.returns-in_err-one
returns-in_err-one c =
    let p = err_from_is_err_and c.from_residual-in_err-one.result c.from_residual-in_err-one.ensures.1 in
    rw (p.1, p.2) (passes c.in_err-one.field-0.0 (piece.read c.loop.rest.now) ((list piece).read c.args.bytes.now)
    (λ n e. ends piece (map piece_view c.loop.pieces.items) c.in_ok-count.count c.loop.counter c.loop.rest.now n ((list piece).read c.args.bytes.now) c.loop-test.true e c.loop.invariant) c.in_err-one.ensures)

pub loop-preserved : goal.loop-preserved
loop-preserved c =
    let n = c.in_ok-one.one in
    let e : map piece_view c.push.new.self.items ≡ map piece_view c.loop.pieces.items ++ piece_view n ∷ [] = rw c.in_ok-push.ensures.items (map_push piece_view c.loop.pieces.items n) in
    rw e (goes_on piece (map piece_view c.loop.pieces.items) c.in_ok-count.count c.loop.counter c.loop.rest.now (piece_view c.in_ok-one.one) c.in_ok-one.after.now ((list piece).read c.args.bytes.now) c.loop-test.true c.in_ok-one.ensures c.loop.invariant)

pub returns : goal.returns
returns c = is_done piece (map piece_view c.loop.pieces.items) c.in_ok-count.count c.loop.counter c.loop.rest.now ((list piece).read c.args.bytes.now) c.loop-test.false c.loop.invariant
