-- Rows that have no list in which a slot is wanted.
use Rattle.std.proofs.Common.{◌≡◌, ℕ, List, ◌∷◌, Bool, sym, ap, ◌∙◌}
use Rattle.std.specs.Global.{Vec}
use Rattle.struct_ir.specs.declared.code.Node.{Node as CodeNode}
use Rattle.struct_ir.specs.declared.code.NodeKind.TheViews as views
use Rattle.struct_ir.specs.Nodes.{Node, if_, loop, Nodes, more_nodes}
use Rattle.struct_ir.specs.Views.{node_view, nodes_view}
use Rattle.struct_ir.proofs.Views.{if_is, loop_is}
use Rattle.pin_flow.specs.Marks.{AllPaths, end_state, head_of, flow}
use Rattle.pin_flow.specs.Held.{held}
use Rattle.pin_flow.specs.Live.{Live, lives, live, head_live, latch_live, body_lives, latch_lives}
use Rattle.pin_frames.specs.inner.Place.{listed_one, listed_one_in}

-- no list of the row wants the slot
abbrev pub IsFree : (slot b : ℕ) → Nodes → Live → Type 0
IsFree slot b ns l = (t : AllPaths) → listed_one slot b ns t l ≡ ns

-- nor does one of the node
abbrev pub IsFreeIn : (slot b : ℕ) → Node → Live → Type 0
IsFreeIn slot b n l = (t : AllPaths) → listed_one_in slot b n t l ≡ n

-- ---- rows

-- one node more, in front
pub free_more : (slot b : ℕ) (x : CodeNode) (rest : List CodeNode) (l m : Live) (on : Bool) → on ≡ live slot b (nodes_view rest) l → m ≡ lives on l.out l.end → IsFreeIn slot b (node_view x) m → IsFree slot b (nodes_view rest) l
    → IsFree slot b (nodes_view (x ∷ rest)) l
free_more slot b x rest l m on e g h f t =
    let k : m ≡ lives (live slot b (nodes_view rest) l) l.out l.end = g ∙ ap (λ y. lives y l.out l.end) e in
    let here : listed_one_in slot b (node_view x) t (lives (live slot b (nodes_view rest) l) l.out l.end) ≡ node_view x = ap (listed_one_in slot b (node_view x) t) (sym k) ∙ h t in
    λ i. more_nodes (here i) (f (Rattle.pin_flow.specs.Marks.flow_node (held b) (node_view x) t).on i)

pub if_free : (slot b : ℕ) (n : CodeNode) (temp : ℕ) (v w : Vec CodeNode) (l : Live) → n.kind ≡ views.If temp v w → IsFree slot b (nodes_view v.items) l → IsFree slot b (nodes_view w.items) l → IsFreeIn slot b (node_view n) l
if_free slot b n temp v w l is f g t =
    let a = f t in
    let c = g t in
    rw (if_is n temp v w is) (λ i. if_ n.place temp (a i) (c i))

pub loop_free : (slot b : ℕ) (n : CodeNode) (v w : Vec CodeNode) (l p q : Live) (top end : Bool) → n.kind ≡ views.Loop v w
    → top ≡ head_live slot b (nodes_view v.items) (nodes_view w.items) l.on → end ≡ latch_live slot b (nodes_view v.items) (nodes_view w.items) l.on → p ≡ lives end l.on end → q ≡ lives top l.on top
    → IsFree slot b (nodes_view v.items) p → IsFree slot b (nodes_view w.items) q → IsFreeIn slot b (node_view n) l
loop_free slot b n v w l p q top end is te ee pe qe f g t =
    let m = held b in
    let body = nodes_view v.items in
    let latch = nodes_view w.items in
    let s = head_of (flow m body) (flow m latch) t in
    let z = end_state (flow m body s) in
    let pp : p ≡ body_lives slot b body latch l.on = pe ∙ (λ i. lives (ee i) l.on (ee i)) in
    let qq : q ≡ latch_lives slot b body latch l.on = qe ∙ (λ i. lives (te i) l.on (te i)) in
    let a : listed_one slot b body s (body_lives slot b body latch l.on) ≡ body = ap (listed_one slot b body s) (sym pp) ∙ f s in
    let c : listed_one slot b latch z (latch_lives slot b body latch l.on) ≡ latch = ap (listed_one slot b latch z) (sym qq) ∙ g z in
    rw (loop_is n v w is) (λ i. loop n.place (a i) (c i))
