-- Rows that are gone through from behind for all pairs at once.
use Rattle.std.proofs.Common.{◌≡◌, ◌≢◌, ◌<◌, ◌≤◌, ◌+◌, ℕ, List, [], ◌∷◌, ◌++◌, length, drop, get_or, Some, Result, IfOk, Bool, true, false, ◌==◌, ◌||◌, ◌&&◌, inl, inr, refl, sym, ap, subst, ◌∙◌, arith}
use Rattle.std.specs.Prelude.{not}
use Rattle.std.specs.List.{list_any}
use Rattle.std.specs.Global.{Vec}
use Rattle.std.proofs.lemmas.Bool.{and_parts, and_from, or_left, or_right, eqb-true, eq-eqb, ne_eqb, cases_eq}
use Rattle.std.proofs.lemmas.List.{at_drop_more}
use Rattle.std.proofs.lemmas.Result.{IfOk-weaker}
use Rattle.struct_ir.specs.declared.code.Node.{Node as CodeNode}
use Rattle.struct_ir.specs.declared.code.NodeKind.{NodeKind}
use Rattle.struct_ir.specs.declared.code.NodeKind.TheViews as views
use Rattle.struct_ir.specs.Nodes.{Act, set, call, step, look, safepoint, begin_object, end_object, Node, plain, if_, loop, break_, next_, ret, Nodes, more_nodes, list_of}
use Rattle.struct_ir.specs.Pins.{lacks, lacks_if}
use Rattle.struct_ir.specs.Views.{kind_view, node_view, nodes_view}
use Rattle.struct_ir.proofs.Views.{if_is, loop_is}
use Rattle.pin_flow.specs.Slots.{slot_if}
use Rattle.pin_flow.specs.Looks.{looks_into}
use Rattle.pin_flow.specs.Views.{act_is, looks_slot, lacks_at}
use Rattle.pin_flow.specs.Live.{uses, Live, lives, live, head_live}
use Rattle.pin_flow.proofs.FlowRows.{is_plain}
use Rattle.pin_flow.proofs.Strip.{by_bool}
use Rattle.mark_sets.specs.Added.{loops, loops_in}
use Rattle.mark_sets.specs.Heads.{AreHeads, AreHeadsIn}
use Rattle.mark_sets.specs.Words.{has}
use Rattle.mark_sets.specs.Homes.{Tells, lives_in, node_keeps, keeps as holds}
use Rattle.mark_sets.specs.declared.from_behind.Walked.{Walked}
use Rattle.mark_sets.specs.declared.heads.Later.{Later}
use Rattle.mark_sets.proofs.HomeSlots.{has_nothing}
use Rattle.mark_sets.proofs.Told.{lives_told, in_latch, in_body}
use Rattle.pin_checker.specs.declared.pair.Pair.{Pair}
use Rattle.pin_checker.specs.inner.Reports.{is_pair, has_pair}
use Rattle.pin_checker.specs.inner.Uses.{KeepsAct, NodeKeeps, Kept, KeptIn, AreKept, AreKeptIn, AreKeptLoop, HasHome, IsKept}

-- ---- a set without the numbers of a list

none_left : (x : Bool) → (x && false) ≡ false
none_left true = refl
none_left false = refl

pub without_more : (i : ℕ) (list : List ℕ) (k d : ℕ) (old new all : Bool) → k < length list → (i ≡ get_or list k d → new ≡ false) → (i ≢ get_or list k d → new ≡ old)
    → (old && lacks i (drop k list)) ≡ all → (new && lacks i (drop (k + 1) list)) ≡ all
without_more i list k d old new all lt gone others inv =
    let s = get_or list k d in
    let rest = drop (k + 1) list in
    let at : drop k list ≡ s ∷ rest = at_drop_more (λ z. z) list k d lt in
    let here : (old && not ((s == i) || list_any (λ x. x == i) rest)) ≡ all = ap (λ l. old && lacks i l) (sym at) ∙ inv in
    elim (cases_eq i s) [
      | inl e ↦ ap (λ y. y && lacks i rest) (gone e) ∙ (sym (ap (λ t. old && not (t || list_any (λ x. x == i) rest)) (eq-eqb s i (sym e)) ∙ none_left old) ∙ here)
      | inr ne ↦ ap (λ y. y && lacks i rest) (others ne) ∙ (ap (λ t. old && not (t || list_any (λ x. x == i) rest)) (sym (ne_eqb s i (λ e. ne (sym e)))) ∙ here)
    ]

-- nothing is left of a set of which the list has each number
pub all_listed : (x y z : Bool) → z ≡ (x && y) → z ≡ false → x ≡ true → y ≡ false
all_listed true y z e f g = sym e ∙ f
all_listed false y z e f g = absurd (let h : false ≡ true = g in cc)

-- ---- acts

no_list : (i : ℕ) (a : Act) → looks_into i a ≡ true → lacks_if i (list_of a) ≡ false
no_list i (set to calc) e = absurd (let h : false ≡ true = e in cc)
no_list i (call c) e = absurd (let h : false ≡ true = e in cc)
no_list i (step x) e = absurd (let h : false ≡ true = e in cc)
no_list i (look slot base) e = refl
no_list i (safepoint slots) e = absurd (let h : false ≡ true = e in cc)
no_list i (begin_object k) e = absurd (let h : false ≡ true = e in cc)
no_list i (end_object k) e = absurd (let h : false ≡ true = e in cc)

keeps_act : (i b : ℕ) (a : Act) (later used : Bool) → used ≡ (uses i b a || (not (looks_into i a) && later)) → (later ≡ true → holds i b a ≡ true) → (used ≡ true → lacks_if i (list_of a) ≡ false) → KeepsAct i b a later
keeps_act i b a later used is h l =
    let listed : later ≡ true → lacks_if i (list_of a) ≡ false = λ g.
    by_bool (λ y. lacks_if i (list_of a) ≡ false) (looks_into i a) (λ e. no_list i a e) (λ e. l (is ∙ or_right (uses i b a) _ (and_from _ _ (ap not e) g))) in (
      (λ g. let p = and_parts _ _ (h g) in and_from _ _ p.0 (and_from _ _ (ap not (listed g)) p.1)),
      (λ u. l (is ∙ or_left _ (not (looks_into i a) && later) u)),
    )

pub node_kept : (i b : ℕ) (n : Node) (later used : Bool) → used ≡ (act_is (uses i b) n || (not (looks_slot i n) && later)) → (later ≡ true → node_keeps i b n ≡ true) → (used ≡ true → lacks_at i n ≡ false) → NodeKeeps i b n later
node_kept i b (plain p a) later used is h l = keeps_act i b a later used is h l
node_kept i b (if_ p x one other) later used is h l = tt
node_kept i b (loop p body latch) later used is h l = tt
node_kept i b (break_ p) later used is h l = tt
node_kept i b (next_ p) later used is h l = tt
node_kept i b (ret p x) later used is h l = tt

act_kept : (i b : ℕ) (n : Node) (l : Live) → is_plain n ≡ true → NodeKeeps i b n l.on → KeptIn i b n l
unfolding Kept
act_kept i b (plain p a) l e k = k
act_kept i b (if_ p x one other) l e k = absurd (let h : false ≡ true = e in cc)
act_kept i b (loop p body latch) l e k = absurd (let h : false ≡ true = e in cc)
act_kept i b (break_ p) l e k = absurd (let h : false ≡ true = e in cc)
act_kept i b (next_ p) l e k = absurd (let h : false ≡ true = e in cc)
act_kept i b (ret p x) l e k = absurd (let h : false ≡ true = e in cc)

pub acts_kept : {E : Type 0} (r : Result Walked E) (bs on out end : List ℕ) (n : CodeNode) → IfOk r (λ w. w.kept ≡ true → (b i : ℕ) → slot_if bs b ≡ Some i → NodeKeeps i b (node_view n) (has on i)) → is_plain (node_view n) ≡ true
    → IfOk r (λ w. w.kept ≡ true → AreKeptIn bs (node_view n) on out end)
acts_kept r bs on out end n f l =
    IfOk-weaker r (λ w. w.kept ≡ true → (b i : ℕ) → slot_if bs b ≡ Some i → NodeKeeps i b (node_view n) (has on i)) (λ w. w.kept ≡ true → AreKeptIn bs (node_view n) on out end)
    (λ w g k b i e. act_kept i b (node_view n) (lives_in on out end i) l (g k b i e)) f

-- ---- rows

pub kept_start : (bs on out end : List ℕ) → AreKept bs (nodes_view []) on out end
unfolding Kept
kept_start bs on out end b i e = tt

pub kept_more : (bs on used out end : List ℕ) (rest : Nodes) → Tells bs used (λ i b. live i b rest (lives_in on out end i)) → (n : Node) → AreKeptIn bs n used out end → AreKept bs rest on out end → AreKept bs (more_nodes n rest) on out end
unfolding Kept
kept_more bs on used out end rest told n k l b i e = (subst (λ (m : Live). KeptIn i b n m) (lives_told bs on used out end rest told b i e) (k b i e), l b i e)

-- ---- heads of loops

-- what is behind is numbered as the whole is
heads_behind : (bs : List ℕ) (s : List Later) (at : ℕ) (front rest : List CodeNode) → AreHeads bs s at (nodes_view (front ++ rest)) → AreHeads bs s at (nodes_view rest)
heads_behind bs s at [] rest a = a
heads_behind bs s at (y ∷ front) rest a = heads_behind bs s at front rest a.0

loops_behind : (front rest : List CodeNode) → loops (nodes_view rest) ≤ loops (nodes_view (front ++ rest))
loops_behind [] rest = omega arith
loops_behind (y ∷ front) rest = let h = loops_behind front rest in omega (arith, h)

-- a node, where the heads of what is behind it are passed
module _ (bs : List ℕ) (s : List Later) (at next : ℕ) (all front rest : List CodeNode) (x : CodeNode) (cut : all ≡ front ++ (x ∷ rest)) (is : next ≡ at + loops (nodes_view rest)) where
  pub within_back : at + loops (nodes_view all) ≤ length s → next + loops_in (node_view x) ≤ length s
  within_back w =
      let f = loops_behind front (x ∷ rest) in
      let e = ap (λ l. loops (nodes_view l)) cut in
      omega (arith, w, f, e, is)

  pub heads_back : AreHeads bs s at (nodes_view all) → AreHeadsIn bs s next (node_view x)
  heads_back a =
      let b : AreHeads bs s at (nodes_view (x ∷ rest)) = heads_behind bs s at front (x ∷ rest) (subst (λ l. AreHeads bs s at (nodes_view l)) cut a) in
      subst (λ n. AreHeadsIn bs s n (node_view x)) (sym is) b.1

-- ---- nodes that hold others

pub if_kept : (bs on on' out end : List ℕ) (n : CodeNode) (temp : ℕ) (v w : Vec CodeNode) → n.kind ≡ views.If temp v w → on' ≡ on → AreKept bs (nodes_view v.items) on' out end → AreKept bs (nodes_view w.items) on out end
    → AreKeptIn bs (node_view n) on out end
unfolding Kept
if_kept bs on on' out end n temp v w is same k l b i e =
    subst (λ y. KeptIn i b y (lives_in on out end i)) (sym (if_is n temp v w is)) (subst (λ z. Kept i b (nodes_view v.items) (lives_in z out end i)) same (k b i e), l b i e)

pub loop_kept : (bs on out end : List ℕ) (n : CodeNode) (v w : Vec CodeNode) → n.kind ≡ views.Loop v w → AreKeptLoop bs (nodes_view v.items) (nodes_view w.items) on → AreKeptIn bs (node_view n) on out end
unfolding Kept
loop_kept bs on out end n v w is k b i e = subst (λ y. KeptIn i b y (lives_in on out end i)) (sym (loop_is n v w is)) (k b i e)

-- the same of what is the same
pub kept_at : (bs on : List ℕ) {ns ns' : Nodes} {out out' end end' : List ℕ} → ns ≡ ns' → out ≡ out' → end ≡ end' → AreKept bs ns on out end → AreKept bs ns' on out' end'
kept_at bs on {ns} {ns'} {out} {out'} {end} {end'} e f g k = subst (λ n. AreKept bs n on out' end') e (subst (λ o. AreKept bs ns on o end') f (subst (λ z. AreKept bs ns on out z) g k))

pub round_kept : (bs on head top last : List ℕ) (body latch : Nodes) → top ≡ head → (lasts : List ℕ) → lasts ≡ last → Tells bs head (λ i b. head_live i b body latch (has on i)) → Tells bs last (λ i b. live i b latch (lives_in top on head i))
    → AreKept bs body lasts on last → AreKept bs latch top on head → AreKeptLoop bs body latch on
round_kept bs on head top last body latch tops lasts same heads ends k l b i e = (
  subst (λ (m : Live). Kept i b body m) (in_body bs on head top last body latch tops lasts same heads ends b i e) (k b i e),
  subst (λ (m : Live). Kept i b latch m) (in_latch bs on head top last body latch tops lasts same heads ends b i e) (l b i e),
)

-- ---- a Break, a Next, a Ret

abbrev pub is_way : Node → Bool
is_way (plain p a) = false
is_way (if_ p x one other) = false
is_way (loop p body latch) = false
is_way (break_ p) = true
is_way (next_ p) = true
is_way (ret p x) = true

way_is_kept : (i b : ℕ) (n : Node) (l : Live) → is_way n ≡ true → KeptIn i b n l
unfolding Kept
way_is_kept i b (plain p a) l e = absurd (let h : false ≡ true = e in cc)
way_is_kept i b (if_ p x one other) l e = absurd (let h : false ≡ true = e in cc)
way_is_kept i b (loop p body latch) l e = absurd (let h : false ≡ true = e in cc)
way_is_kept i b (break_ p) l e = tt
way_is_kept i b (next_ p) l e = tt
way_is_kept i b (ret p x) l e = tt

pub way_kept : (i b : ℕ) (n : CodeNode) (k : NodeKind) (l : Live) → n.kind ≡ k → is_way (kind_view n.place k) ≡ true → KeptIn i b (node_view n) l
way_kept i b n k l e w = way_is_kept i b (node_view n) l (ap (λ x. is_way (kind_view n.place x)) e ∙ w)

-- ---- pairs

pub home_more : (bs : List ℕ) (pairs : List Pair) (k : ℕ) (d : Pair) → k < length pairs → HasHome bs (get_or pairs k d) → ((q : Pair) → has_pair q (drop (k + 1) pairs) ≡ true → HasHome bs q) → (q : Pair) → has_pair q (drop k pairs) ≡ true → HasHome bs q
home_more bs pairs k d lt h f q e =
    let r = get_or pairs k d in
    let at : drop k pairs ≡ r ∷ drop (k + 1) pairs = at_drop_more (λ z. z) pairs k d lt in
    let g : (is_pair r q || has_pair q (drop (k + 1) pairs)) ≡ true = ap (has_pair q) (sym at) ∙ e in
    by_bool (λ t. (t || has_pair q (drop (k + 1) pairs)) ≡ true → HasHome bs q) (is_pair r q)
    (λ y z. let p = and_parts _ _ y in ap (slot_if bs) (sym (eqb-true r.base q.base p.1)) ∙ (h ∙ ap (λ s. Some s) (eqb-true r.slot q.slot p.0)))
    (λ y z. f q z) g

-- all of a function's code
module _ (bs start out end used : List ℕ) (ns : Nodes) (ss : start ≡ []) (oo : out ≡ []) (nn : end ≡ []) where
  nothing : (i : ℕ) → lives_in start out end i ≡ lives false false false
  nothing i = (λ j. lives (has (ss j) i) (has (oo j) i) (has (nn j) i)) ∙ (λ j. lives (has_nothing i j) (has_nothing i j) (has_nothing i j))

  pub whole_kept : Tells bs used (λ i b. live i b ns (lives_in start out end i)) → ((i : ℕ) → has used i ≡ false) → AreKept bs ns start out end → (q : Pair) → HasHome bs q → IsKept ns q
  whole_kept told free kept q h = record {
    kept = subst (λ (l : Live). Kept q.slot q.base ns l) (nothing q.slot) (kept q.base q.slot h);
    start = ap (live q.slot q.base ns) (sym (nothing q.slot)) ∙ (sym (told q.base q.slot h) ∙ free q.slot);
  }
