-- A row whose nodes are changed in their places, one after the other.
use Rattle.std.proofs.Common.{◌≡◌, ◌<◌, ◌≤◌, ◌+◌, ℕ, length, take, drop, get_or, set, drop-set-lt, drop_of_length-le, take_all, List, [], ◌∷◌, ◌++◌, refl, sym, ap, ◌∙◌, arith}
use Rattle.std.proofs.lemmas.List.{at_drop_more, take_more_set, get_or_default, with_items_is}
use Rattle.std.specs.Global.{Vec}
use Rattle.std.specs.Vec.{with_items}
use Rattle.struct_ir.specs.declared.code.Node.{Node as CodeNode}
use Rattle.struct_ir.specs.declared.code.NodeKind.TheViews as views
use Rattle.struct_ir.specs.Nodes.{Nodes, no_nodes, more_nodes}
use Rattle.struct_ir.specs.Views.{kind_view, node_view, nodes_view, followed}
use Rattle.struct_ir.proofs.Views.{followed_none, put_view}
use Rattle.pin_flow.specs.Marks.{Mark, Ways, in_turn, flow, flow_node}
use Rattle.pin_flow.proofs.FlowRows.{row_on}

-- one node more: F is what is to be made of the nodes that are left
pub row_set : (F G : Nodes → Nodes) (xs : List CodeNode) (i : ℕ) (d y : CodeNode) (all : Nodes) → i < length xs → followed (take i xs) (F (nodes_view (drop i xs))) ≡ all
    → F (more_nodes (node_view (get_or xs i d)) (nodes_view (drop (i + 1) xs))) ≡ more_nodes (node_view y) (G (nodes_view (drop (i + 1) xs)))
    → followed (take (i + 1) (set xs i y)) (G (nodes_view (drop (i + 1) (set xs i y)))) ≡ all
row_set F G xs i d y all lt inv made =
    let rest = drop (i + 1) xs in
    let at : drop i xs ≡ get_or xs i d ∷ rest = at_drop_more (λ z. z) xs i d lt in
    let left : drop (i + 1) (set xs i y) ≡ rest = drop-set-lt (i + 1) xs i y (omega arith) in
    let front : take (i + 1) (set xs i y) ≡ take i xs ++ (y ∷ []) = take_more_set xs i y lt in
    (λ j. followed (front j) (G (nodes_view (left j))))
    ∙ (put_view y (take i xs) (G (nodes_view rest)) ∙ (ap (followed (take i xs)) (sym made) ∙ (ap (λ r. followed (take i xs) (F (nodes_view r))) (sym at) ∙ inv)))

-- no node more
pub row_done : (F : Nodes → Nodes) (xs : List CodeNode) (i : ℕ) (all : Nodes) → length xs ≤ i → F no_nodes ≡ no_nodes → followed (take i xs) (F (nodes_view (drop i xs))) ≡ all → nodes_view xs ≡ all
row_done F xs i all le none inv =
    let front : xs ≡ take i xs = sym (take_all i xs le) in
    let left : [] ≡ drop i xs = sym (drop_of_length-le xs le) in
    sym (followed_none xs) ∙ (ap (followed xs) (sym none) ∙ ((λ j. followed (front j) (F (nodes_view (left j)))) ∙ inv))

-- where control leaves it, with one node more
pub ways_set : (m : Mark) (xs : List CodeNode) (i : ℕ) (d y : CodeNode) (a o all : Ways) → i < length xs → in_turn a (flow m (nodes_view (drop i xs)) a.on) ≡ all → o ≡ in_turn a (flow_node m (node_view (get_or xs i d)) a.on)
    → in_turn o (flow m (nodes_view (drop (i + 1) (set xs i y))) o.on) ≡ all
ways_set m xs i d y a o all lt inv e =
    let left : drop (i + 1) (set xs i y) ≡ drop (i + 1) xs = drop-set-lt (i + 1) xs i y (omega arith) in
    ap (λ r. in_turn o (flow m (nodes_view r) o.on)) left
    ∙ row_on m xs i (get_or xs i d) a o (flow_node m (node_view (get_or xs i d)) a.on) all lt (get_or_default xs i d (get_or xs i d) lt) inv refl e

pub temp_of_if : (place x y : ℕ) (one other : Vec CodeNode) → x ≡ y → kind_view place (views.If x one other) ≡ kind_view place (views.If y one other)
temp_of_if place x y one other e = ap (λ t. kind_view place (views.If t one other)) e

-- a row in its Vec again
pub row_within : (F : Nodes → Nodes) (v : Vec CodeNode) (xs ys : List CodeNode) → xs ≡ v.items → length ys ≡ v.len → nodes_view ys ≡ F (nodes_view xs) → nodes_view (with_items v ys).items ≡ F (nodes_view v.items)
row_within F v xs ys e k f = ap nodes_view (with_items_is v ys k) ∙ (f ∙ ap (λ r. F (nodes_view r)) e)
