-- Copied rows, as the program makes them.
use Rattle.std.proofs.lemmas.List.{drop_all}
use Rattle.std.proofs.Common.{◌≡◌, ℕ, ◌≤◌, length, drop, List, sym, ap, ◌∙◌}
use Rattle.std.specs.Global.{Vec}
use Rattle.struct_ir.specs.declared.code.Node.{Node as CodeNode}
use Rattle.struct_ir.specs.declared.code.NodeKind.TheViews as views
use Rattle.struct_ir.specs.Nodes.{if_, loop, Nodes}
use Rattle.struct_ir.specs.Views.{node_view, nodes_view, followed}
use Rattle.struct_ir.proofs.Views.{if_is, loop_is, followed_none}

pub row_copied : (rows : List CodeNode) (i : ℕ) (out : List CodeNode) (all : Nodes) → length rows ≤ i → followed out (nodes_view (drop i rows)) ≡ all → nodes_view out ≡ all
row_copied rows i out all le inv = sym (followed_none out) ∙ (ap (λ l. followed out (nodes_view l)) (sym (drop_all i rows le)) ∙ inv)

pub if_copied : (n x : CodeNode) (temp : ℕ) (v w one other : Vec CodeNode) → n.kind ≡ views.If temp v w → node_view x ≡ if_ n.place temp (nodes_view one.items) (nodes_view other.items)
    → nodes_view one.items ≡ nodes_view v.items → nodes_view other.items ≡ nodes_view w.items → node_view x ≡ node_view n
if_copied n x temp v w one other is e f g = e ∙ ((λ i. if_ n.place temp (f i) (g i)) ∙ sym (if_is n temp v w is))

pub loop_copied : (n x : CodeNode) (v w one other : Vec CodeNode) → n.kind ≡ views.Loop v w → node_view x ≡ loop n.place (nodes_view one.items) (nodes_view other.items)
    → nodes_view one.items ≡ nodes_view v.items → nodes_view other.items ≡ nodes_view w.items → node_view x ≡ node_view n
loop_copied n x v w one other is e f g = e ∙ ((λ i. loop n.place (f i) (g i)) ∙ sym (loop_is n v w is))
