use Rattle.std.proofs.Common.{ap, ◌∙◌, sym, ◌&&◌}
use Rattle.struct_ir.specs.Views.{nodes_view}
use Rattle.struct_ir.proofs.Views.{if_is, loop_is}
use Rattle.code_file.specs.Conditions.{node_is_aligned, are_aligned}
use Rattle.code_load.proofs.aligned.+aligned.Goals as goal

pub node_is_aligned-returns-in-If : goal.node_is_aligned-returns-in-If
node_is_aligned-returns-in-If t c =
    let a = c.are_aligned-first.ensures ∙ ap (λ l. are_aligned (nodes_view l)) c.deref.ensures.value in
    let b = c.are_aligned.ensures ∙ ap (λ l. are_aligned (nodes_view l)) c.deref-in-If.ensures.value in
    c.both.ensures ∙ ((λ i. a i && b i) ∙ ap node_is_aligned (sym (if_is c.args.n.now _ c.in-If.one c.in-If.other c.in-If.is)))

pub node_is_aligned-returns-in-Loop : goal.node_is_aligned-returns-in-Loop
node_is_aligned-returns-in-Loop t c =
    let a = c.are_aligned-first-in-Loop.ensures ∙ ap (λ l. are_aligned (nodes_view l)) c.deref-in-Loop.ensures.value in
    let b = c.are_aligned-in-Loop.ensures ∙ ap (λ l. are_aligned (nodes_view l)) c.deref-in-Loop-2.ensures.value in
    c.both-in-Loop.ensures ∙ ((λ i. a i && b i) ∙ ap node_is_aligned (sym (loop_is c.args.n.now c.in-Loop.body c.in-Loop.latch c.in-Loop.is)))
