-- Rows with one slot more in their lists, as the program makes them.
use Rattle.std.proofs.Math.Seq.{take-append_seam}
use Rattle.std.proofs.lemmas.List.{at_drop_more}
use Rattle.std.proofs.Common.{sym, ◌≤◌, ◌-◌, ◌<◌, length, length-append, take, drop, get_or, set, drop-set-lt, slice_index_or, ◌≡◌, ◌+◌, ℕ, List, [], ◌∷◌, ◌++◌, Bool, false, refl, ap, ◌∙◌, arith}
use Rattle.std.specs.Global.{Vec}
use Rattle.struct_ir.specs.declared.code.Node.{Node as CodeNode}
use Rattle.struct_ir.specs.declared.code.NodeKind.TheViews as views
use Rattle.struct_ir.specs.Nodes.{Node, if_, loop, Nodes, no_nodes, more_nodes}
use Rattle.struct_ir.specs.Views.{kind_view, node_view, nodes_view}
use Rattle.struct_ir.proofs.Views.{if_is, if_view, loop_is, loop_view}
use Rattle.pin_flow.specs.Marks.{AllPaths, Ways, in_turn, end_state, head_of, flow, flow_node}
use Rattle.pin_flow.specs.Held.{held}
use Rattle.pin_flow.specs.Live.{Live, lives, live, live_node, head_live, latch_live, body_lives, latch_lives}
use Rattle.pin_frames.specs.inner.Place.{listed_one, listed_one_in, behind, last_in}

last_append : (xs : List Bool) (y : Bool) → last_in (xs ++ (y ∷ [])) ≡ y
last_append [] y = refl
last_append (x ∷ []) y = refl
last_append (x ∷ z ∷ rest) y = last_append (z ∷ rest) y

-- the last of them is that of the row's start
pub last_behind : (slot b : ℕ) (ns : Nodes) (l : Live) → last_in (behind slot b ns l) ≡ live slot b ns l
unfolding live
last_behind slot b no_nodes l = refl
last_behind slot b (more_nodes n rest) l = last_append (behind slot b rest l) (live slot b (more_nodes n rest) l)

-- read from the end
last_at : (xs : List Bool) (x : Bool) → slice_index_or (x ∷ xs) (length xs) false ≡ last_in (x ∷ xs)
last_at [] x = refl
last_at (y ∷ rest) x = last_at rest y

pub last_read : (xs : List Bool) → 1 ≤ length xs → slice_index_or xs (length xs - 1) false ≡ last_in xs
last_read [] le = absurd (omega arith)
last_read (x ∷ rest) le =
    let e : length (x ∷ rest) - 1 ≡ length rest = omega arith in
    ap (λ n. slice_index_or (x ∷ rest) n false) e ∙ last_at rest x

take_last : (xs : List Bool) (y : Bool) → take (length (xs ++ (y ∷ [])) - 1) (xs ++ (y ∷ [])) ≡ xs
take_last xs y =
    let e : length (xs ++ (y ∷ [])) - 1 ≡ length xs = omega (arith, length-append xs (y ∷ [])) in
    ap (λ n. take n (xs ++ (y ∷ []))) e ∙ take-append_seam xs (y ∷ [])

-- one more behind
pub behind_more : (slot b : ℕ) (x : CodeNode) (rest : List CodeNode) (l : Live) (on on' : Bool) (m : Live) (old new : List Bool) → on ≡ live slot b (nodes_view rest) l → m ≡ lives on l.out l.end
    → on' ≡ live_node slot b (node_view x) m → old ≡ behind slot b (nodes_view rest) l → new ≡ old ++ (on' ∷ []) → new ≡ behind slot b (nodes_view (x ∷ rest)) l
unfolding live
behind_more slot b x rest l on on' m old new e g h o f =
    let k : on' ≡ live slot b (nodes_view (x ∷ rest)) l = h ∙ (ap (live_node slot b (node_view x)) g ∙ ap (λ y. live_node slot b (node_view x) (lives y l.out l.end)) e) in
    f ∙ (λ i. o i ++ (k i ∷ []))

-- without the last of them, it is what is behind the next
pub behind_popped : (slot b : ℕ) (x : CodeNode) (rest : List CodeNode) (l : Live) (old new : List Bool) (n : ℕ) → old ≡ behind slot b (nodes_view (x ∷ rest)) l → n ≡ length old
    → new ≡ take (n - 1) old → new ≡ behind slot b (nodes_view rest) l
behind_popped slot b x rest l old new n e ne f =
    let front = behind slot b (nodes_view rest) l in
    let on = live slot b (more_nodes (node_view x) (nodes_view rest)) l in
    f ∙ (ap (λ m. take (m - 1) old) ne ∙ (ap (λ o. take (length o - 1) o) e ∙ take_last front on))

-- one node more
pub listed_more : (slot b : ℕ) (x : Node) (y : CodeNode) (rest : Nodes) (a o : Ways) (l m : Live) (later : Bool) → m ≡ lives later l.out l.end → later ≡ live slot b rest l
    → node_view y ≡ listed_one_in slot b x a.on m → o ≡ in_turn a (flow_node (held b) x a.on) → listed_one slot b (more_nodes x rest) a.on l ≡ more_nodes (node_view y) (listed_one slot b rest o.on l)
listed_more slot b x y rest a o l m later me le ye oe =
    let node : node_view y ≡ listed_one_in slot b x a.on (lives (live slot b rest l) l.out l.end) = ye ∙ (ap (listed_one_in slot b x a.on) me ∙ ap (λ z. listed_one_in slot b x a.on (lives z l.out l.end)) le) in
    let on : o.on ≡ (flow_node (held b) x a.on).on = ap (λ (p : Ways). p.on) oe in
    λ j. more_nodes (sym node j) (listed_one slot b rest (sym on j) l)

pub popped_at : (slot b : ℕ) (xs : List CodeNode) (i : ℕ) (d : CodeNode) (l : Live) (old new : List Bool) (n : ℕ) → i < length xs → old ≡ behind slot b (nodes_view (drop i xs)) l → n ≡ length old
    → new ≡ take (n - 1) old → new ≡ behind slot b (nodes_view (drop (i + 1) xs)) l
popped_at slot b xs i d l old new n lt e ne f =
    let at : drop i xs ≡ get_or xs i d ∷ drop (i + 1) xs = at_drop_more (λ z. z) xs i d lt in
    behind_popped slot b (get_or xs i d) (drop (i + 1) xs) l old new n (e ∙ ap (λ r. behind slot b (nodes_view r) l) at) ne f

pub popped_set : (slot b : ℕ) (xs : List CodeNode) (i : ℕ) (y : CodeNode) (l : Live) (new : List Bool) → new ≡ behind slot b (nodes_view (drop (i + 1) xs)) l
    → new ≡ behind slot b (nodes_view (drop (i + 1) (set xs i y))) l
popped_set slot b xs i y l new e =
    let left : drop (i + 1) (set xs i y) ≡ drop (i + 1) xs = drop-set-lt (i + 1) xs i y (omega arith) in
    e ∙ ap (λ r. behind slot b (nodes_view r) l) (sym left)

-- what two rows become, and where
pub if_listed : (slot b temp : ℕ) (n : CodeNode) (v w one other : Vec CodeNode) (s : AllPaths) (l : Live) → n.kind ≡ views.If temp v w
    → nodes_view one.items ≡ listed_one slot b (nodes_view v.items) s l → nodes_view other.items ≡ listed_one slot b (nodes_view w.items) s l
    → kind_view n.place (views.If temp one other) ≡ listed_one_in slot b (node_view n) s l
if_listed slot b temp n v w one other s l is f g = if_view n.place temp one other ∙ ((λ i. if_ n.place temp (f i) (g i)) ∙ ap (λ y. listed_one_in slot b y s l) (sym (if_is n temp v w is)))

pub loop_listed : (slot b : ℕ) (n : CodeNode) (v w first second : Vec CodeNode) (s h z : AllPaths) (l p q : Live) (top end : Bool) → n.kind ≡ views.Loop v w
    → h ≡ head_of (flow (held b) (nodes_view v.items)) (flow (held b) (nodes_view w.items)) s → z ≡ end_state (flow (held b) (nodes_view v.items) h)
    → top ≡ head_live slot b (nodes_view v.items) (nodes_view w.items) l.on → end ≡ latch_live slot b (nodes_view v.items) (nodes_view w.items) l.on → p ≡ lives end l.on end → q ≡ lives top l.on top
    → nodes_view first.items ≡ listed_one slot b (nodes_view v.items) h p → nodes_view second.items ≡ listed_one slot b (nodes_view w.items) z q
    → kind_view n.place (views.Loop first second) ≡ listed_one_in slot b (node_view n) s l
loop_listed slot b n v w first second s h z l p q top end is he ze te ee pe qe f g =
    let m = held b in
    let zz : z ≡ end_state (flow m (nodes_view v.items) (head_of (flow m (nodes_view v.items)) (flow m (nodes_view w.items)) s)) = ze ∙ ap (λ t. end_state (flow m (nodes_view v.items) t)) he in
    let pp : p ≡ body_lives slot b (nodes_view v.items) (nodes_view w.items) l.on = pe ∙ (λ i. lives (ee i) l.on (ee i)) in
    let qq : q ≡ latch_lives slot b (nodes_view v.items) (nodes_view w.items) l.on = qe ∙ (λ i. lives (te i) l.on (te i)) in
    loop_view n.place first second ∙ ((λ i. loop n.place (f i) (g i)) ∙ ((λ i. loop n.place (listed_one slot b (nodes_view v.items) (he i) (pp i)) (listed_one slot b (nodes_view w.items) (zz i) (qq i))) ∙ ap (λ y. listed_one_in slot b y s l) (sym (loop_is n v w is))))
