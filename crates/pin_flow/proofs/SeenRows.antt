-- What stands in nodes that hold others, as the program finds it.
use Rattle.std.proofs.Common.{◌≡◌, ℕ, Bool, ◌||◌, sym, ap, ◌∙◌}
use Rattle.std.specs.Global.{Vec}
use Rattle.struct_ir.specs.declared.code.Node.{Node as CodeNode}
use Rattle.struct_ir.specs.declared.code.NodeKind.TheViews as views
use Rattle.struct_ir.specs.Nodes.{Act}
use Rattle.struct_ir.specs.Views.{node_view, nodes_view}
use Rattle.struct_ir.proofs.Views.{if_is, loop_is}
use Rattle.pin_flow.specs.Looks.{some_act, some_in}

pub some_if : (f : Act → Bool) (n : CodeNode) (temp : ℕ) (v w : Vec CodeNode) (x a b : Bool) → n.kind ≡ views.If temp v w → x ≡ (a || b) → a ≡ some_act f (nodes_view v.items) → b ≡ some_act f (nodes_view w.items) → x ≡ some_in f (node_view n)
some_if f n temp v w x a b is e g h = e ∙ ((λ i. g i || h i) ∙ ap (some_in f) (sym (if_is n temp v w is)))

pub some_loop : (f : Act → Bool) (n : CodeNode) (v w : Vec CodeNode) (x a b : Bool) → n.kind ≡ views.Loop v w → x ≡ (a || b) → a ≡ some_act f (nodes_view v.items) → b ≡ some_act f (nodes_view w.items) → x ≡ some_in f (node_view n)
some_loop f n v w x a b is e g h = e ∙ ((λ i. g i || h i) ∙ ap (some_in f) (sym (loop_is n v w is)))
