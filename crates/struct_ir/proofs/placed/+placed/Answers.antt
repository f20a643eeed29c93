use Rattle.std.proofs.Common.{ap, ◌∙◌, sym, ◌&&◌, None}
use Rattle.std.specs.Prelude.{is_some, option_map}
use Rattle.struct_ir.specs.Valid.{last_list, node_is_placed, are_placed}
use Rattle.struct_ir.specs.Views.{nodes_view}
use Rattle.struct_ir.proofs.Views.{if_is, loop_is}
use Rattle.struct_ir.proofs.placed.+placed.Goals as goal

pub node_is_placed-returns-in-If : goal.node_is_placed-returns-in-If
node_is_placed-returns-in-If t c =
    let a = c.are_placed-first.ensures ∙ ap (λ l. are_placed None (nodes_view l)) c.deref.ensures.value in
    let b = c.are_placed.ensures ∙ ap (λ l. are_placed None (nodes_view l)) c.deref-in-If.ensures.value in
    c.both.ensures ∙ ((λ i. a i && b i) ∙ ap (λ n. node_is_placed (option_map (λ s. s.now) c.args.before) n (nodes_view c.args.rest.now)) (sym (if_is c.args.n.now _ c.in-If.one c.in-If.other c.in-If.is)))

pub node_is_placed-returns-in-Loop : goal.node_is_placed-returns-in-Loop
node_is_placed-returns-in-Loop t c =
    let a = c.are_placed-first-in-Loop.ensures ∙ ap (λ l. are_placed None (nodes_view l)) c.deref-in-Loop.ensures.value in
    let b = c.are_placed-second.ensures ∙ ap (λ l. are_placed None (nodes_view l)) c.deref-in-Loop-2.ensures.value in
    let d = c.ends_in_safepoint.ensures ∙ ap (λ l. is_some (last_list None (nodes_view l))) c.deref-in-Loop-3.ensures.value in
    c.both-in-Loop-2.ensures ∙ ((λ i. a i && (c.both-in-Loop.ensures ∙ (λ j. b j && d j)) i) ∙ ap (λ n. node_is_placed (option_map (λ s. s.now) c.args.before) n (nodes_view c.args.rest.now)) (sym (loop_is c.args.n.now c.in-Loop.body c.in-Loop.step c.in-Loop.is)))
