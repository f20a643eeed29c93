-- Where control leaves rows from either state, as the program finds it.
use Rattle.std.proofs.Common.{◌≡◌, ℕ, true, refl, sym, ap, ◌∙◌}
use Rattle.std.specs.Global.{Vec}
use Rattle.struct_ir.specs.declared.code.Node.{Node as CodeNode}
use Rattle.struct_ir.specs.declared.code.NodeKind.TheViews as views
use Rattle.struct_ir.specs.Nodes.{Node, loop, Nodes}
use Rattle.struct_ir.specs.Views.{node_view, nodes_view}
use Rattle.struct_ir.proofs.Views.{loop_is}
use Rattle.pin_flow.specs.Marks.{Mark, AllPaths, unreached, good, bad, join, Ways, at, in_turn, either, end_state, turned, round_of, head_of, flow, flow_node}
use Rattle.pin_flow.specs.Views.{leaf}
use Rattle.pin_flow.specs.inner.Both.{Both, both_of, from}
use Rattle.pin_flow.proofs.Order.{flow_idle, node_idle}
use Rattle.pin_flow.proofs.FlowRows.{is_leaf, leaf_is, either_is}

-- ---- from any state, by what leads from two

pub from_row : (m : Mark) (ns : Nodes) (t : AllPaths) → from (both_of (flow m ns)) t ≡ flow m ns t
from_row m ns unreached = sym (flow_idle m ns)
from_row m ns good = refl
from_row m ns bad = refl

pub from_node : (m : Mark) (n : Node) (t : AllPaths) → from (both_of (flow_node m n)) t ≡ flow_node m n t
from_node m n unreached = sym (node_idle m n)
from_node m n good = refl
from_node m n bad = refl

-- before the first node of a row
pub row_start : (m : Mark) (ns : Nodes) (t : AllPaths) (a : Ways) → a ≡ at t → in_turn a (flow m ns a.on) ≡ flow m ns t
row_start m ns t a e = ap (λ (o : Ways). in_turn o (flow m ns o.on)) e

-- ---- nodes that hold others

pub branches_are : (m : Mark) (n : CodeNode) (temp : ℕ) (v w : Vec CodeNode) (a b c : Both) → n.kind ≡ views.If temp v w → a ≡ both_of (flow m (nodes_view v.items)) → b ≡ both_of (flow m (nodes_view w.items))
    → c.good ≡ either a.good b.good → c.bad ≡ either a.bad b.bad → c ≡ both_of (flow_node m (node_view n))
branches_are m n temp v w a b c is e f g h =
    let x = either_is m n temp v w good a.good b.good c.good is (ap (λ (z : Both). z.good) e) (ap (λ (z : Both). z.good) f) g in
    let y = either_is m n temp v w bad a.bad b.bad c.bad is (ap (λ (z : Both). z.bad) e) (ap (λ (z : Both). z.bad) f) h in
    λ j. record { good = x j; bad = y j }

-- a round: o where its body leads, p where its step leads from there
pub round_by : (f g : AllPaths → Ways) (s z : AllPaths) (o p r : Ways) → o ≡ f s → z ≡ end_state o → p ≡ g z → r ≡ turned o p → r ≡ round_of f g s
unfolding round_of
round_by f g s z o p r a b c d = d ∙ (λ i. turned (a i) ((c ∙ ap g (b ∙ ap end_state a)) i))

-- a loop whose rounds start so
pub looped_by : (f g : AllPaths → Ways) (s h : AllPaths) (o p c : Ways) → o ≡ round_of f g s → h ≡ join s o.on → p ≡ round_of f g h → c ≡ at p.broken → c ≡ at (round_of f g (head_of f g s)).broken
unfolding head_of
looped_by f g s h o p c a b d e =
    let x : h ≡ join s (round_of f g s).on = b ∙ ap (λ (q : Ways). join s q.on) a in
    e ∙ (ap (λ (q : Ways). at q.broken) d ∙ ap (λ t. at (round_of f g t).broken) x)

loop_by : (m : Mark) (p : ℕ) (v w : Nodes) (t : AllPaths)
    → at (round_of (from (both_of (flow m v))) (from (both_of (flow m w))) (head_of (from (both_of (flow m v))) (from (both_of (flow m w))) t)).broken ≡ flow_node m (loop p v w) t
unfolding flow
loop_by m p v w t =
    let f : from (both_of (flow m v)) ≡ flow m v = λ j u. from_row m v u j in
    let g : from (both_of (flow m w)) ≡ flow m w = λ j u. from_row m w u j in
    λ j. at (round_of (f j) (g j) (head_of (f j) (g j) t)).broken

loop_is_by : (m : Mark) (n : CodeNode) (v w : Vec CodeNode) (a b : Both) (t : AllPaths) (c : Ways) → n.kind ≡ views.Loop v w → a ≡ both_of (flow m (nodes_view v.items)) → b ≡ both_of (flow m (nodes_view w.items))
    → c ≡ at (round_of (from a) (from b) (head_of (from a) (from b) t)).broken → c ≡ flow_node m (node_view n) t
loop_is_by m n v w a b t c is e f g =
    rw (loop_is n v w is) (g ∙ ((λ j. at (round_of (from (e j)) (from (f j)) (head_of (from (e j)) (from (f j)) t)).broken) ∙ loop_by m n.place (nodes_view v.items) (nodes_view w.items) t))

pub loops_are : (m : Mark) (n : CodeNode) (v w : Vec CodeNode) (a b c : Both) → n.kind ≡ views.Loop v w → a ≡ both_of (flow m (nodes_view v.items)) → b ≡ both_of (flow m (nodes_view w.items))
    → c.good ≡ at (round_of (from a) (from b) (head_of (from a) (from b) good)).broken → c.bad ≡ at (round_of (from a) (from b) (head_of (from a) (from b) bad)).broken → c ≡ both_of (flow_node m (node_view n))
loops_are m n v w a b c is e f g h =
    let x = loop_is_by m n v w a b good c.good is e f g in
    let y = loop_is_by m n v w a b bad c.bad is e f h in
    λ j. record { good = x j; bad = y j }

-- ---- nodes that hold none

pub leaves_are : (m : Mark) (n : CodeNode) (c : Both) → is_leaf (node_view n) ≡ true → c ≡ both_of (leaf m (node_view n)) → c ≡ both_of (flow_node m (node_view n))
leaves_are m n c l e =
    let x = leaf_is m n good c.good l (ap (λ (z : Both). z.good) e) in
    let y = leaf_is m n bad c.bad l (ap (λ (z : Both). z.bad) e) in
    λ j. record { good = x j; bad = y j }
