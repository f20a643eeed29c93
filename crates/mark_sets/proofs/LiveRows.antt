-- Lives of rows, as the program finds them.
use Rattle.std.proofs.Common.{◌≡◌, ℕ, List, [], ◌∷◌, Bool, true, false, ◌||◌, ◌&&◌, refl, sym, ap, ◌∙◌}
use Rattle.std.specs.Prelude.{not}
use Rattle.std.specs.Global.{Vec}
use Rattle.struct_ir.specs.declared.code.Node.{Node as CodeNode}
use Rattle.struct_ir.specs.declared.code.NodeKind.TheViews as views
use Rattle.struct_ir.specs.Nodes.{Node, Nodes, plain, if_, loop, break_, next_, ret}
use Rattle.struct_ir.specs.Views.{node_view, nodes_view}
use Rattle.struct_ir.proofs.Views.{if_is, loop_is}
use Rattle.pin_flow.specs.Live.{Live, lives, live, live_node, head_live, latch_live, uses}
use Rattle.pin_flow.specs.Views.{act_is, looks_slot}
use Rattle.pin_flow.proofs.FlowRows.{is_plain}

pub live_start : (slot b : ℕ) (l : Live) → l.on ≡ live slot b (nodes_view []) l
unfolding live
live_start slot b l = refl

pub live_more : (slot b : ℕ) (x : CodeNode) (rest : List CodeNode) (l : Live) (on on' : Bool) (m : Live) → on ≡ live slot b (nodes_view rest) l → m ≡ lives on l.out l.end → on' ≡ live_node slot b (node_view x) m
    → on' ≡ live slot b (nodes_view (x ∷ rest)) l
unfolding live
live_more slot b x rest l on on' m e g h = h ∙ (ap (live_node slot b (node_view x)) g ∙ ap (λ y. live_node slot b (node_view x) (lives y l.out l.end)) e)

pub live_if : (slot b : ℕ) (n : CodeNode) (temp : ℕ) (v w : Vec CodeNode) (l : Live) (x y z : Bool) → n.kind ≡ views.If temp v w → x ≡ live slot b (nodes_view v.items) l → y ≡ live slot b (nodes_view w.items) l → z ≡ (x || y)
    → z ≡ live_node slot b (node_view n) l
unfolding live
live_if slot b n temp v w l x y z is e g h = h ∙ ((λ i. e i || g i) ∙ ap (λ k. live_node slot b k l) (sym (if_is n temp v w is)))

pub live_loop : (slot b : ℕ) (n : CodeNode) (v w : Vec CodeNode) (l m k : Live) (x y : Bool) → n.kind ≡ views.Loop v w → m ≡ lives false l.on false → x ≡ live slot b (nodes_view w.items) m → k ≡ lives x l.on x → y ≡ live slot b (nodes_view v.items) k
    → y ≡ live_node slot b (node_view n) l
unfolding live
live_loop slot b n v w l m k x y is e g h f =
    let end : x ≡ live slot b (nodes_view w.items) (lives false l.on false) = g ∙ ap (live slot b (nodes_view w.items)) e in
    f ∙ (ap (live slot b (nodes_view v.items)) (h ∙ (λ i. lives (end i) l.on (end i))) ∙ ap (λ z. live_node slot b z l) (sym (loop_is n v w is)))

-- at a loop, by the start of each round
pub live_head : (slot b : ℕ) (n : CodeNode) (v w : Vec CodeNode) (l : Live) (top : Bool) → n.kind ≡ views.Loop v w → top ≡ head_live slot b (nodes_view v.items) (nodes_view w.items) l.on → top ≡ live_node slot b (node_view n) l
unfolding live head_live
live_head slot b n v w l top is e = e ∙ ap (λ z. live_node slot b z l) (sym (loop_is n v w is))

-- at the end of a body, by the start of each round
pub latch_from : (slot b : ℕ) (body latch : Nodes) (on top end : Bool) (m : Live) → top ≡ head_live slot b body latch on → m ≡ lives top on top → end ≡ live slot b latch m → end ≡ latch_live slot b body latch on
unfolding latch_live
latch_from slot b body latch on top end m te me e = e ∙ (ap (live slot b latch) me ∙ (λ i. live slot b latch (lives (te i) on (te i))))

pub live_act_at : (slot b : ℕ) (n : Node) (l : Live) → is_plain n ≡ true → (act_is (uses slot b) n || (not (looks_slot slot n) && l.on)) ≡ live_node slot b n l
unfolding live
live_act_at slot b (plain p a) l e = refl
live_act_at slot b (if_ p x one other) l e = absurd (let h : false ≡ true = e in cc)
live_act_at slot b (loop p body latch) l e = absurd (let h : false ≡ true = e in cc)
live_act_at slot b (break_ p) l e = absurd (let h : false ≡ true = e in cc)
live_act_at slot b (next_ p) l e = absurd (let h : false ≡ true = e in cc)
live_act_at slot b (ret p x) l e = absurd (let h : false ≡ true = e in cc)

-- the start of each round
pub head_by : (i b : ℕ) (body latch : Nodes) (on top end start last s t : Bool) → s ≡ false → t ≡ false → end ≡ live i b latch (lives s on t) → start ≡ end → last ≡ end → top ≡ live i b body (lives start on last)
    → top ≡ head_live i b body latch on
unfolding head_live
head_by i b body latch on top end start last s t es et ee ss ll e =
    let first : end ≡ live i b latch (lives false on false) = ee ∙ (λ j. live i b latch (lives (es j) on (et j))) in
    e ∙ ((λ j. live i b body (lives (ss j) on (ll j))) ∙ (λ j. live i b body (lives (first j) on (first j))))
