use Rattle.std.proofs.Common.{◌∙◌, ap, sym}
use Rattle.c_tree.specs.Typed as tree
use Rattle.c_tree.specs.TypedViews.{expr_node_view, lib_view}
use Rattle.source_tree.specs.declared.tree.Callee.{Callee}
use Rattle.source_tree.specs.SharedViews.{args_of, call_of}
use Rattle.source_tree.proofs.Views.{call_view, lib_call_view}
use Rattle.source_tree.proofs.share_exprs.+share.Goals as goal
use Rattle.source_tree.specs.inner.CodeTrees.{exprs_view}

pub share_node-returns-in_ok-callee-in-Call : goal.share_node-returns-in_ok-callee-in-Call
share_node-returns-in_ok-callee-in-Call t c =
    c.shared_call.ensures
    ∙ ap (λ (callee : Callee). call_of callee (args_of c.in_ok-all-in-Call.all.value)) c.in_ok-callee-in-Call.ensures.ok
    ∙ ap (tree.call c.in-Call.f) (c.in_ok-all-in-Call.ensures ∙ ap exprs_view c.deref-in-Call.ensures.value)
    ∙ sym (ap expr_node_view c.in-Call.is ∙ call_view c.in-Call.f c.in-Call.all)

pub share_node-returns-in_ok-callee-in-Lib : goal.share_node-returns-in_ok-callee-in-Lib
share_node-returns-in_ok-callee-in-Lib t c =
    c.shared_call-in-Lib.ensures
    ∙ c.in_ok-callee-in-Lib.ensures (args_of c.in_ok-all-in-Lib.all.value)
    ∙ ap (tree.lib (lib_view c.in-Lib.lib)) (c.in_ok-all-in-Lib.ensures ∙ ap exprs_view c.deref-in-Lib.ensures.value)
    ∙ sym (ap expr_node_view c.in-Lib.is ∙ lib_call_view c.in-Lib.lib c.in-Lib.all)
