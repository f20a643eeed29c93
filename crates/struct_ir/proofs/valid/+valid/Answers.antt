use Rattle.std.proofs.Common.{refl, ap, ◌∙◌}
use Rattle.struct_ir.specs.Views.{nodes_view}
use Rattle.struct_ir.specs.Valid.{body_of, latch_of, are_nodes}
use Rattle.struct_ir.specs.ValidViews.{scope_view, around_view}
use Rattle.struct_ir.proofs.Views.{if_valid, loop_valid}
use Rattle.struct_ir.proofs.valid.+valid.Goals as goal

pub is_node-returns-in-If : goal.is_node-returns-in-If
is_node-returns-in-If t c =
    let x = scope_view c.args.x.now in
    let a = around_view c.args.around in
    if_valid x a c.args.n.now c.in-If.temp c.in-If.one c.in-If.other c.all_of.result _ c.are_nodes-first.result c.are_nodes.result c.in-If.is c.all_of.ensures refl
    (c.are_nodes-first.ensures ∙ ap (λ l. are_nodes x a (nodes_view l)) c.deref.ensures.value)
    (c.are_nodes.ensures ∙ ap (λ l. are_nodes x a (nodes_view l)) c.deref-in-If.ensures.value)

pub is_node-returns-in-Loop : goal.is_node-returns-in-Loop
is_node-returns-in-Loop t c =
    let x = scope_view c.args.x.now in
    loop_valid x (around_view c.args.around) c.args.n.now c.in-Loop.body c.in-Loop.step c.all_of-in-Loop.result c.are_nodes-first-in-Loop.result c.are_nodes-in-Loop.result c.in-Loop.is c.all_of-in-Loop.ensures
    (c.are_nodes-first-in-Loop.ensures ∙ ((λ i. are_nodes x (c.in_body.ensures i) (nodes_view c.deref-in-Loop.result.now)) ∙ ap (λ l. are_nodes x body_of (nodes_view l)) c.deref-in-Loop.ensures.value))
    (c.are_nodes-in-Loop.ensures ∙ ((λ i. are_nodes x (c.in_latch.ensures i) (nodes_view c.deref-in-Loop-2.result.now)) ∙ ap (λ l. are_nodes x latch_of (nodes_view l)) c.deref-in-Loop-2.ensures.value))
