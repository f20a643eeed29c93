-- Rows with Looks, as the program makes them.
use Rattle.std.proofs.Common.{◌≡◌, ℕ, List, [], ◌∷◌, length, Option, arith, sym, ap, ◌∙◌}
use Rattle.std.specs.Global.{Vec}
use Rattle.struct_ir.specs.declared.code.Node.{Node as CodeNode}
use Rattle.struct_ir.specs.declared.code.NodeKind.TheViews as views
use Rattle.struct_ir.specs.Nodes.{if_, loop, Nodes, more_nodes}
use Rattle.struct_ir.specs.Views.{node_view, nodes_view, followed}
use Rattle.struct_ir.proofs.Views.{if_is, loop_is, followed_none}
use Rattle.translate_pass.specs.inner.Insert.{inserted, with_node}

-- no node more
pub row_inserted : (s : ℕ → Option ℕ) (out rest : List CodeNode) (all : Nodes) → length rest ≡ 0 → followed out (inserted s (nodes_view rest)) ≡ all → nodes_view out ≡ all
row_inserted s out [] all e inv = sym (followed_none out) ∙ inv
row_inserted s out (x ∷ rest) all e inv = absurd (omega (arith, e))

pub if_inserted : (s : ℕ → Option ℕ) (n x : CodeNode) (temp : ℕ) (v w one other : Vec CodeNode) → n.kind ≡ views.If temp v w → node_view x ≡ if_ n.place temp (nodes_view one.items) (nodes_view other.items)
    → nodes_view one.items ≡ inserted s (nodes_view v.items) → nodes_view other.items ≡ inserted s (nodes_view w.items)
    → (rest : Nodes) → more_nodes (node_view x) rest ≡ with_node s (node_view n) rest
if_inserted s n x temp v w one other is e f g rest =
    ap (λ y. more_nodes y rest) (e ∙ (λ i. if_ n.place temp (f i) (g i))) ∙ ap (λ y. with_node s y rest) (sym (if_is n temp v w is))

pub loop_inserted : (s : ℕ → Option ℕ) (n x : CodeNode) (v w one other : Vec CodeNode) → n.kind ≡ views.Loop v w → node_view x ≡ loop n.place (nodes_view one.items) (nodes_view other.items)
    → nodes_view one.items ≡ inserted s (nodes_view v.items) → nodes_view other.items ≡ inserted s (nodes_view w.items)
    → (rest : Nodes) → more_nodes (node_view x) rest ≡ with_node s (node_view n) rest
loop_inserted s n x v w one other is e f g rest =
    ap (λ y. more_nodes y rest) (e ∙ (λ i. loop n.place (f i) (g i))) ∙ ap (λ y. with_node s y rest) (sym (loop_is n v w is))
