use Rattle.std.proofs.Common.{◌≡◌, length, ap, ◌∙◌, arith}
use Rattle.std.proofs.lemmas.Bool.Decides.{nat_tests}
use Rattle.std.specs.Vec.{with_items}
use Rattle.c_tree.specs.Typed.{Stmts}
use Rattle.c_tree.specs.TypedViews.{stmt_view}
use Rattle.c_typing.specs.Numbering.{copies, renumbered_stmt}
use Rattle.type_locals.specs.inner.Numbers.{new_number, followed, furthers_view}
use Rattle.type_locals.proofs.FurtherLocals.{body_is, body_alone}
use Rattle.type_locals.proofs.TypedTrees.{items_put}
use Rattle.type_locals.proofs.locals.body_of.Goals as goal

pub returns : goal.returns
returns c =
    let f = new_number c.args.numbers.now in
    let body = with_items c.args.body.now c.statements.new.all in
    let same = c.deref_mut.ensures.value in
    let made = λ (b : Stmts). c.in_ok-copies.ensures b ∙ ap (λ l. followed l (copies c.args.params 0 (furthers_view c.args.further.now) b)) c.new-all.ensures.items in
    body_is f c.args.params c.args.further.now c.args.body.now.items body.items c.copies.new.all.items c.append.new.self.items
    (items_put stmt_view (renumbered_stmt f) c.args.body.now c.deref_mut.result.now c.statements.new.all same (omega (arith, c.statements.auto.all, ap length same, c.args.body.now.ok.0)) c.in_ok-statements.ensures) made c.in_ok-append.ensures.items

pub returns-then-is_empty : goal.returns-then-is_empty
returns-then-is_empty c =
    let f = new_number c.args.numbers.now in
    let body = with_items c.args.body.now c.statements.new.all in
    let same = c.deref_mut.ensures.value in
    let none : length c.args.further.now ≡ 0 = grind (arith, nat_tests) in
    body_alone f c.args.params c.args.further.now c.args.body.now.items body.items none
    (items_put stmt_view (renumbered_stmt f) c.args.body.now c.deref_mut.result.now c.statements.new.all same (omega (arith, c.statements.auto.all, ap length same, c.args.body.now.ok.0)) c.in_ok-statements.ensures)
