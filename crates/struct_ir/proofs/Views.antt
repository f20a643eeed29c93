-- The views of rows.
use Rattle.std.proofs.Common.{◌≡◌, ℕ, ◌++◌, List, [], ◌∷◌, Bool, true, ◌&&◌, map, refl, sym, ap, ◌∙◌, rules}
use Rattle.std.specs.Global.{Vec}
use Rattle.struct_ir.specs.declared.code.Node.{Node as CodeNode}
use Rattle.struct_ir.specs.declared.code.NodeKind.{Row_of-Node, end_of-Node, more_of-Node, items-the_row-Node}
use Rattle.struct_ir.specs.declared.code.NodeKind.TheViews as views
use Rattle.struct_ir.specs.declared.code.IrFunc.{IrFunc}
use Rattle.struct_ir.specs.Nodes.{if_, loop, Nodes, no_nodes, more_nodes}
use Rattle.struct_ir.specs.Valid.{Scope, Around, body_of, latch_of, is_node, are_nodes}
use Rattle.struct_ir.specs.Views.{kind_view, row_view, node_view, nodes_view, func_view, followed}

pub row_is : (n : _) (k : Row_of-Node n) → row_view k ≡ nodes_view (items-the_row-Node n k)
row_is _ end_of-Node = refl
row_is _ (more_of-Node place kind rest) = ap (λ r. more_nodes (kind_view place kind) r) (row_is _ rest)

pub if_view : (place temp : ℕ) (v w : Vec CodeNode) → kind_view place (views.If temp v w) ≡ if_ place temp (nodes_view v.items) (nodes_view w.items)
if_view place temp v w = search (rules, views.the_lemmas, row_is)

pub loop_view : (place : ℕ) (v w : Vec CodeNode) → kind_view place (views.Loop v w) ≡ loop place (nodes_view v.items) (nodes_view w.items)
loop_view place v w = search (rules, views.the_lemmas, row_is)

pub if_is : (n : CodeNode) (temp : ℕ) (v w : Vec CodeNode) → n.kind ≡ views.If temp v w → node_view n ≡ if_ n.place temp (nodes_view v.items) (nodes_view w.items)
if_is n temp v w e = ap (λ k. kind_view n.place k) e ∙ if_view n.place temp v w

pub loop_is : (n : CodeNode) (v w : Vec CodeNode) → n.kind ≡ views.Loop v w → node_view n ≡ loop n.place (nodes_view v.items) (nodes_view w.items)
loop_is n v w e = ap (λ k. kind_view n.place k) e ∙ loop_view n.place v w

-- ---- valid nodes

pub if_valid : (x : Scope) (a : Around) (n : CodeNode) (temp : ℕ) (v w : Vec CodeNode) (r t p q : Bool) → n.kind ≡ views.If temp v w → r ≡ (t && (p && q)) → t ≡ Rattle.std.specs.Prelude.nat_lt temp x.temps
    → p ≡ are_nodes x a (nodes_view v.items) → q ≡ are_nodes x a (nodes_view w.items) → r ≡ is_node x a (node_view n)
if_valid x a n temp v w r t p q is e f g h = e ∙ ((λ i. f i && (g i && h i)) ∙ ap (is_node x a) (sym (if_is n temp v w is)))

pub loop_valid : (x : Scope) (a : Around) (n : CodeNode) (v w : Vec CodeNode) (r p q : Bool) → n.kind ≡ views.Loop v w → r ≡ (true && (p && q))
    → p ≡ are_nodes x body_of (nodes_view v.items) → q ≡ are_nodes x latch_of (nodes_view w.items) → r ≡ is_node x a (node_view n)
loop_valid x a n v w r p q is e g h = e ∙ ((λ i. g i && h i) ∙ ap (is_node x a) (sym (loop_is n v w is)))

-- ---- rows that are made

pub put_view : (n : CodeNode) (out : List CodeNode) (rest : Nodes) → followed (out ++ (n ∷ [])) rest ≡ followed out (more_nodes (node_view n) rest)
put_view n [] rest = refl
put_view n (x ∷ out) rest = ap (more_nodes (node_view x)) (put_view n out rest)

pub followed_none : (all : List CodeNode) → followed all no_nodes ≡ nodes_view all
followed_none [] = refl
followed_none (n ∷ all) = ap (more_nodes (node_view n)) (followed_none all)

-- ---- parameters

pub params_view : (fs : List IrFunc) → map (λ g. g.params) (map func_view fs) ≡ map (λ f. f.params) fs
params_view [] = refl
params_view (f ∷ fs) = ap (λ r. f.params ∷ r) (params_view fs)
