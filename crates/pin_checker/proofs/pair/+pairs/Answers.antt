use Rattle.std.proofs.Common.{◌≡◌, ap, sym, ◌∙◌}
use Rattle.struct_ir.specs.Views.{nodes_view}
use Rattle.struct_ir.proofs.Views.{if_is, loop_is}
use Rattle.pin_checker.specs.inner.Reports.{pairs_of, pairs_in}
use Rattle.pin_checker.proofs.pair.+pairs.Goals as goal

pub add_pairs_in-returns-in_ok-add_pairs-in-If-2 : goal.add_pairs_in-returns-in_ok-add_pairs-in-If-2
unfolding pairs_in
add_pairs_in-returns-in_ok-add_pairs-in-If-2 t c =
    let old = c.args.list.now.items in
    let a : c.add_pairs.new.list.items ≡ pairs_of (nodes_view c.in-If.one.items) old = c.in_ok-add_pairs-in-If.ensures ∙ ap (λ l. pairs_of (nodes_view l) old) c.deref.ensures.value in
    let b : c.add_pairs-in-If.new.list.items ≡ pairs_of (nodes_view c.in-If.other.items) (pairs_of (nodes_view c.in-If.one.items) old) = c.in_ok-add_pairs-in-If-2.ensures ∙ (λ i. pairs_of (nodes_view (c.deref-in-If.ensures.value i)) (a i)) in
    b ∙ ap (λ n. pairs_in n old) (sym (if_is c.args.n.now _ c.in-If.one c.in-If.other c.in-If.is))

pub add_pairs_in-returns-in_ok-add_pairs-in-Loop-2 : goal.add_pairs_in-returns-in_ok-add_pairs-in-Loop-2
unfolding pairs_in
add_pairs_in-returns-in_ok-add_pairs-in-Loop-2 t c =
    let old = c.args.list.now.items in
    let a : c.add_pairs-in-Loop.new.list.items ≡ pairs_of (nodes_view c.in-Loop.body.items) old = c.in_ok-add_pairs-in-Loop.ensures ∙ ap (λ l. pairs_of (nodes_view l) old) c.deref-in-Loop.ensures.value in
    let b : c.add_pairs-in-Loop-2.new.list.items ≡ pairs_of (nodes_view c.in-Loop.step.items) (pairs_of (nodes_view c.in-Loop.body.items) old) = c.in_ok-add_pairs-in-Loop-2.ensures ∙ (λ i. pairs_of (nodes_view (c.deref-in-Loop-2.ensures.value i)) (a i)) in
    b ∙ ap (λ n. pairs_in n old) (sym (loop_is c.args.n.now c.in-Loop.body c.in-Loop.step c.in-Loop.is))
