-- Rows of nodes, and reading them.
use Rattle.std.proofs.Common.{◌≡◌, ℕ, zero, suc, ◌-◌, ◌<◌, List, [], ◌∷◌, map, Result, Ok, Err, refl, sym, ap, subst, ◌∙◌, arith, rules}
use Rattle.std.specs.Global.{Vec}
use Rattle.formats.specs.Formats.{Got, ◌>>=◌, Format, seen, behind, ◌▸◌, byte_below, at_number, u32, list, with_first, field_of, behind_tag}
use Rattle.struct_ir.specs.declared.code.Node.{Node as CodeNode}
use Rattle.struct_ir.specs.declared.code.NodeKind.{Row_of-Node, end_of-Node, more_of-Node, items-the_row-Node}
use Rattle.struct_ir.specs.declared.code.NodeKind.TheViews as views
use Rattle.struct_ir.specs.Nodes.{Node, Nodes, no_nodes, more_nodes, if_, loop}
use Rattle.struct_ir.specs.Views.{kind_view, row_view, node_view, nodes_view}
use Rattle.code_file.specs.Files as files
use Rattle.code_file.specs.Files.{NodeTag, other_nodes, node_number, node_tag, NodeFields, node_fields, make_node, node_parts, node, list_of, nodes_of, nodes}

pub row_is : (n : _) (k : Row_of-Node n) → row_view k ≡ nodes_view (items-the_row-Node n k)
row_is _ end_of-Node = refl
row_is _ (more_of-Node place kind rest) = ap (λ r. more_nodes (kind_view place kind) r) (row_is _ rest)

pub if_view : (place temp : ℕ) (v w : Vec CodeNode) → kind_view place (views.If temp v w) ≡ if_ place temp (nodes_view v.items) (nodes_view w.items)
if_view place temp v w = search (rules, views.the_lemmas, row_is)

pub loop_view : (place : ℕ) (v w : Vec CodeNode) → kind_view place (views.Loop v w) ≡ loop place (nodes_view v.items) (nodes_view w.items)
loop_view place v w = search (rules, views.the_lemmas, row_is)

pub nodes_of_view : (xs : List CodeNode) → nodes_of (map node_view xs) ≡ nodes_view xs
nodes_of_view [] = refl
nodes_of_view (n ∷ xs) = ap (more_nodes (node_view n)) (nodes_of_view xs)

-- ---- one node

module _ (N : Format Nodes) where
  abbrev made : (ℕ × ((t : NodeTag) × NodeFields t)) × List ℕ → Got Node
  made x = Ok (make_node x.0.0 x.0.1.0 x.0.1.1, x.1)

  abbrev with_place : ℕ → ((t : NodeTag) × NodeFields t) × List ℕ → Got (ℕ × ((t : NodeTag) × NodeFields t))
  with_place p y = Ok ((p, y.0), y.1)

  once : (p : ℕ) (t : NodeTag) (read : Got (NodeFields t)) → (((read >>= with_first {B = NodeFields} t) >>= with_place p) >>= made) ≡ (read >>= field_of (make_node p) t)
  once p t (Ok y) = refl
  once p t (Err n) = refl

  pub node_read : (bytes mid rest : List ℕ) (p n : ℕ) → u32.read bytes ≡ Ok (p, mid) → (byte_below 12).read mid ≡ Ok (n, rest) → (node N).read bytes ≡ behind_tag (node_fields N) (make_node p) (at_number files.set other_nodes n) rest
  unfolding node
  node_read bytes mid rest p n e f = rw (e, f) (once p (at_number files.set other_nodes n) ((node_fields N (at_number files.set other_nodes n)).read rest))

  pub no_place : (bytes : List ℕ) (k : ℕ) → u32.read bytes ≡ Err k → (node N).read bytes ≡ Err k
  unfolding node
  no_place bytes k e = rw e refl

  pub no_tag : (bytes mid : List ℕ) (p k : ℕ) → u32.read bytes ≡ Ok (p, mid) → (byte_below 12).read mid ≡ Err k → (node N).read bytes ≡ Err k
  unfolding node
  no_tag bytes mid p k e f = rw (e, f) refl

-- ---- rows

pub nodes_read : (depth : ℕ) → 0 < depth → (bytes rest : List ℕ) (xs : List CodeNode) → (list (node (nodes (depth - 1)))).read bytes ≡ Ok (map node_view xs, rest) → (nodes depth).read bytes ≡ Ok (nodes_view xs, rest)
unfolding nodes
nodes_read zero h bytes rest xs e = absurd (omega arith)
nodes_read (suc d) h bytes rest xs e =
    let one : suc d - 1 ≡ d = omega arith in
    let f : (list (node (nodes d))).read bytes ≡ Ok (map node_view xs, rest) = subst (λ (k : ℕ). (list (node (nodes k))).read bytes ≡ Ok (map node_view xs, rest)) one e in
    ap (λ (o : Got (List Node)). o >>= λ x. Ok (nodes_of x.0, x.1)) f ∙ ap (λ (ns : Nodes). Ok (ns, rest)) (nodes_of_view xs)

pub nodes_not_read : (depth : ℕ) → 0 < depth → (bytes : List ℕ) (n : ℕ) → (list (node (nodes (depth - 1)))).read bytes ≡ Err n → (nodes depth).read bytes ≡ Err n
unfolding nodes
nodes_not_read zero h bytes n e = absurd (omega arith)
nodes_not_read (suc d) h bytes n e =
    let one : suc d - 1 ≡ d = omega arith in
    let f : (list (node (nodes d))).read bytes ≡ Err n = subst (λ (k : ℕ). (list (node (nodes k))).read bytes ≡ Err n) one e in
    ap (λ (o : Got (List Node)). o >>= λ x. Ok (nodes_of x.0, x.1)) f
