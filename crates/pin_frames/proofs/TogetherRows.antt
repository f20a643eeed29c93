-- Rows that get their lists from behind, all registers at once.
use Rattle.std.proofs.Common.{◌≡◌, ◌<◌, ◌≤◌, ◌+◌, ℕ, zero, suc, List, [], ◌∷◌, ◌++◌, length, take, drop, get_or, set, take_all, drop_of_length-le, append-nil, append_assoc, Some, Result, IfOk, Bool, true, false, ◌||◌, ◌&&◌, refl, sym, ap, subst, ◌∙◌, arith}
use Rattle.std.specs.Prelude.{not}
use Rattle.std.specs.Global.{Vec}
use Rattle.std.proofs.lemmas.Result.{IfOk-weaker}
use Rattle.std.proofs.lemmas.List.{take_more, at_drop_more, length-take-le}
use Rattle.struct_ir.specs.declared.code.Node.{Node as CodeNode}
use Rattle.struct_ir.specs.declared.code.NodeKind.{NodeKind}
use Rattle.struct_ir.specs.declared.code.NodeKind.TheViews as views
use Rattle.struct_ir.specs.Nodes.{Node, plain, if_, loop, break_, next_, ret, Nodes, no_nodes, more_nodes}
use Rattle.struct_ir.specs.Structured.{row_size, node_size}
use Rattle.struct_ir.specs.Views.{kind_view, node_view, nodes_view}
use Rattle.struct_ir.proofs.Views.{if_is, if_view, loop_is, loop_view}
use Rattle.pin_flow.specs.Slots.{slot_if, slot_in}
use Rattle.pin_flow.specs.Views.{act_is, looks_slot}
use Rattle.pin_flow.specs.Live.{uses, Live, lives, live, head_live, body_lives, latch_lives}
use Rattle.pin_flow.proofs.FlowRows.{is_plain}
use Rattle.pin_flow.proofs.Bases.{slot_known}
use Rattle.mark_sets.specs.Words.{has}
use Rattle.mark_sets.specs.declared.from_behind.Walked.{Walked}
use Rattle.pin_frames.specs.inner.Place.{rest_lives, listed, none_held, none_later}
use Rattle.mark_sets.specs.Homes.{Tells, lives_in, node_keeps}
use Rattle.pin_frames.specs.inner.Together.{slots_for, used_listed, used_listed_in, node_listing, Kept, KeptIn, AreKept, AreKeptIn, AreKeptLoop}
use Rattle.mark_sets.proofs.LiveRows.{live_start}
use Rattle.mark_sets.proofs.HomeSlots.{has_nothing}
use Rattle.mark_sets.proofs.Told.{lives_told, in_latch, in_body}
use Rattle.pin_frames.proofs.Kept.{used_same, in_same, listed_used}

-- ---- a row that is gone through from its end

get_seam : (xs ys : List CodeNode) (y d : CodeNode) → get_or (xs ++ (y ∷ ys)) (length xs) d ≡ y
get_seam [] ys y d = refl
get_seam (x ∷ xs) ys y d = get_seam xs ys y d

set_seam : (xs ys : List CodeNode) (x y : CodeNode) → set (xs ++ (x ∷ ys)) (length xs) y ≡ xs ++ (y ∷ ys)
set_seam [] ys x y = refl
set_seam (z ∷ xs) ys x y = ap (λ l. z ∷ l) (set_seam xs ys x y)

module _ (all rows done : List CodeNode) (k left : ℕ) (next : left ≡ k + 1) (few : left ≤ length all) (is : rows ≡ take left all ++ done) where
  split : (d : CodeNode) → rows ≡ take k all ++ (get_or all k d ∷ done)
  split d =
      let lt : k < length all = omega arith in
      is ∙ (ap (λ n. take n all ++ done) next ∙ (ap (λ l. l ++ done) (take_more all k d lt) ∙ append_assoc (take k all) (get_or all k d ∷ []) done))

  long : length (take k all) ≡ k
  long = length-take-le k all (omega arith)

  -- the node is as it was
  pub same_item : (x : CodeNode) → x ≡ get_or rows k x → x ≡ get_or all k x
  same_item x e = e ∙ ((λ j. get_or (split x j) (sym long j) x) ∙ get_seam (take k all) done (get_or all k x) x)

  -- and is put back, changed
  pub put_item : (y : CodeNode) → set rows k y ≡ take k all ++ (y ∷ done)
  put_item y = (λ j. set (split y j) (sym long j) y) ∙ set_seam (take k all) done (get_or all k y) y

pub rest_is : (all : List CodeNode) (k left : ℕ) (x : CodeNode) → left ≡ k + 1 → left ≤ length all → x ≡ get_or all k x → drop k all ≡ x ∷ drop left all
rest_is all k left x next few is =
    at_drop_more (λ z. z) all k x (omega arith) ∙ (λ j. sym is j ∷ drop (sym next j) all)

pub size_at : (all : List CodeNode) (k : ℕ) (x : CodeNode) → k < length all → x ≡ get_or all k x → node_size (node_view x) < row_size (nodes_view all)
size_at [] k x lt e = absurd (omega arith)
size_at (y ∷ all) zero x lt e = subst (λ z. node_size (node_view z) < row_size (nodes_view (y ∷ all))) (sym e) (omega arith)
size_at (y ∷ all) (suc k) x lt e = let h = size_at all k x (omega arith) e in omega arith

-- before the first step nothing is done
module _ (bs on out end : List ℕ) (all : List CodeNode) (n : ℕ) (le : length all ≤ n) where
  none_left : drop n all ≡ []
  none_left = drop_of_length-le all le

  pub start_rows : all ≡ take n all ++ []
  start_rows = sym (append-nil (take n all) ∙ take_all n all le)

  pub start_made : nodes_view [] ≡ used_listed (slot_in bs) bs (nodes_view (drop n all)) (λ b. lives_in on out end (slot_in bs b))
  start_made = ap (λ l. used_listed (slot_in bs) bs (nodes_view l) (λ b. lives_in on out end (slot_in bs b))) (sym none_left)

  pub start_used : Tells bs on (λ i b. live i b (nodes_view (drop n all)) (lives_in on out end i))
  start_used b i e = live_start i b (lives_in on out end i) ∙ ap (λ l. live i b (nodes_view l) (lives_in on out end i)) (sym none_left)

  pub start_kept : AreKept bs (nodes_view (drop n all)) on out end
  unfolding Kept
  start_kept b i e = subst (λ l. Kept i b (nodes_view l) (lives_in on out end i)) (sym none_left) tt

-- ---- one node more

module _ (bs on set out end : List ℕ) (rest : Nodes) (told : Tells bs set (λ i b. live i b rest (lives_in on out end i))) where
  abbrev S : ℕ → ℕ
  S b = slot_in bs b

  pub node_more : (n n' : Node) (rest' : Nodes) → n' ≡ used_listed_in S bs n (λ b. lives_in set out end (S b)) → rest' ≡ used_listed S bs rest (λ b. lives_in on out end (S b))
      → more_nodes n' rest' ≡ used_listed S bs (more_nodes n rest) (λ b. lives_in on out end (S b))
  node_more n n' rest' e f =
      let here : n' ≡ used_listed_in S bs n (rest_lives S rest (λ b. lives_in on out end (S b))) =
      e ∙ in_same S bs n (λ b. lives_in set out end (S b)) (rest_lives S rest (λ b. lives_in on out end (S b))) (λ b j. lives_told bs on set out end rest told b (S b) (slot_known bs b j)) in
      λ i. more_nodes (here i) (f i)

  pub kept_more : (n : Node) → AreKeptIn bs n set out end → AreKept bs rest on out end → AreKept bs (more_nodes n rest) on out end
  unfolding Kept
  kept_more n k l b i e = (subst (λ (m : Live). KeptIn i b n m) (lives_told bs on set out end rest told b i e) (k b i e), l b i e)

pub kept_none : (bs on out end : List ℕ) → AreKept bs no_nodes on out end
unfolding Kept
kept_none bs on out end b i e = tt

-- the same of what is the same
pub kept_at : (bs on : List ℕ) {ns ns' : Nodes} {out out' end end' : List ℕ} → ns ≡ ns' → out ≡ out' → end ≡ end' → AreKept bs ns on out end → AreKept bs ns' on out' end'
kept_at bs on {ns} {ns'} {out} {out'} {end} {end'} e f g k = subst (λ n. AreKept bs n on out' end') e (subst (λ o. AreKept bs ns on o end') f (subst (λ z. AreKept bs ns on out z) g k))

-- ---- loops

module _ (bs on head top last : List ℕ) (body latch : Nodes) (tops : top ≡ head) (lasts : List ℕ) (same : lasts ≡ last)
    (heads : Tells bs head (λ i b. head_live i b body latch (has on i))) (ends : Tells bs last (λ i b. live i b latch (lives_in top on head i))) where
  abbrev L : ℕ → ℕ
  L b = slot_in bs b

  pub body_done : (body' : Nodes) → body' ≡ used_listed L bs body (λ b. lives_in lasts on last (L b)) → body' ≡ used_listed L bs body (λ b. body_lives (L b) b body latch (has on (L b)))
  body_done body' e = e ∙ used_same L bs body (λ b. lives_in lasts on last (L b)) (λ b. body_lives (L b) b body latch (has on (L b))) (λ b j. in_body bs on head top last body latch tops lasts same heads ends b (L b) (slot_known bs b j))

  pub latch_done : (latch' : Nodes) → latch' ≡ used_listed L bs latch (λ b. lives_in top on head (L b)) → latch' ≡ used_listed L bs latch (λ b. latch_lives (L b) b body latch (has on (L b)))
  latch_done latch' e = e ∙ used_same L bs latch (λ b. lives_in top on head (L b)) (λ b. latch_lives (L b) b body latch (has on (L b))) (λ b j. in_latch bs on head top last body latch tops lasts same heads ends b (L b) (slot_known bs b j))

  pub both_kept : AreKept bs body lasts on last → AreKept bs latch top on head → AreKeptLoop bs body latch on
  both_kept k l b i e = (subst (λ (m : Live). Kept i b body m) (in_body bs on head top last body latch tops lasts same heads ends b i e) (k b i e), subst (λ (m : Live). Kept i b latch m) (in_latch bs on head top last body latch tops lasts same heads ends b i e) (l b i e))

-- ---- nodes that hold others

pub if_done : (s : ℕ → ℕ) (bs : List ℕ) (ls : ℕ → Live) (n : CodeNode) (temp : ℕ) (v w one other : Vec CodeNode) → n.kind ≡ views.If temp v w → nodes_view one.items ≡ used_listed s bs (nodes_view v.items) ls
    → nodes_view other.items ≡ used_listed s bs (nodes_view w.items) ls → kind_view n.place (views.If temp one other) ≡ used_listed_in s bs (node_view n) ls
if_done s bs ls n temp v w one other is f g = if_view n.place temp one other ∙ ((λ i. if_ n.place temp (f i) (g i)) ∙ ap (λ y. used_listed_in s bs y ls) (sym (if_is n temp v w is)))

pub if_kept : (bs on on' out end : List ℕ) (n : CodeNode) (temp : ℕ) (v w : Vec CodeNode) → n.kind ≡ views.If temp v w → on' ≡ on → AreKept bs (nodes_view v.items) on' out end → AreKept bs (nodes_view w.items) on out end
    → AreKeptIn bs (node_view n) on out end
unfolding Kept
if_kept bs on on' out end n temp v w is same k l b i e =
    subst (λ y. KeptIn i b y (lives_in on out end i)) (sym (if_is n temp v w is)) (subst (λ z. Kept i b (nodes_view v.items) (lives_in z out end i)) same (k b i e), l b i e)

pub loop_done : (s : ℕ → ℕ) (bs : List ℕ) (ls : ℕ → Live) (n : CodeNode) (v w first second : Vec CodeNode) → n.kind ≡ views.Loop v w
    → nodes_view first.items ≡ used_listed s bs (nodes_view v.items) (λ b. body_lives (s b) b (nodes_view v.items) (nodes_view w.items) (ls b).on)
    → nodes_view second.items ≡ used_listed s bs (nodes_view w.items) (λ b. latch_lives (s b) b (nodes_view v.items) (nodes_view w.items) (ls b).on)
    → kind_view n.place (views.Loop first second) ≡ used_listed_in s bs (node_view n) ls
loop_done s bs ls n v w first second is f g = loop_view n.place first second ∙ ((λ i. loop n.place (f i) (g i)) ∙ ap (λ y. used_listed_in s bs y ls) (sym (loop_is n v w is)))

pub loop_kept : (bs on out end : List ℕ) (n : CodeNode) (v w : Vec CodeNode) → n.kind ≡ views.Loop v w → AreKeptLoop bs (nodes_view v.items) (nodes_view w.items) on → AreKeptIn bs (node_view n) on out end
unfolding Kept
loop_kept bs on out end n v w is k b i e = subst (λ y. KeptIn i b y (lives_in on out end i)) (sym (loop_is n v w is)) (k b i e)

-- ---- acts

pub act_listed : (bs on out end : List ℕ) (n : Node) → is_plain n ≡ true
    → node_listing n (slots_for (slot_in bs) bs (λ b. act_is (uses (slot_in bs b) b) n || (not (looks_slot (slot_in bs b) n) && has on (slot_in bs b)))) ≡ used_listed_in (slot_in bs) bs n (λ b. lives_in on out end (slot_in bs b))
act_listed bs on out end (plain p a) l = refl
act_listed bs on out end (if_ p x one other) l = absurd (let h : false ≡ true = l in cc)
act_listed bs on out end (loop p body latch) l = absurd (let h : false ≡ true = l in cc)
act_listed bs on out end (break_ p) l = absurd (let h : false ≡ true = l in cc)
act_listed bs on out end (next_ p) l = absurd (let h : false ≡ true = l in cc)
act_listed bs on out end (ret p x) l = absurd (let h : false ≡ true = l in cc)

pub act_kept : (i b : ℕ) (n : Node) (l : Live) → is_plain n ≡ true → (l.on ≡ true → node_keeps i b n ≡ true) → KeptIn i b n l
unfolding Kept
act_kept i b (plain p a) l e k = k
act_kept i b (if_ p x one other) l e k = absurd (let h : false ≡ true = e in cc)
act_kept i b (loop p body latch) l e k = absurd (let h : false ≡ true = e in cc)
act_kept i b (break_ p) l e k = absurd (let h : false ≡ true = e in cc)
act_kept i b (next_ p) l e k = absurd (let h : false ≡ true = e in cc)
act_kept i b (ret p x) l e k = absurd (let h : false ≡ true = e in cc)

module _ {E : Type 0} (r : Result Walked E) (bs on out end : List ℕ) (n' : Node) (n : CodeNode) where
  pub act_keeps : IfOk r (λ w. w.kept ≡ true → (b i : ℕ) → slot_if bs b ≡ Some i → has on i ≡ true → node_keeps i b n' ≡ true) → n' ≡ node_view n → is_plain (node_view n) ≡ true
      → IfOk r (λ w. w.kept ≡ true → AreKeptIn bs (node_view n) on out end)
  act_keeps f same l =
      IfOk-weaker r (λ w. w.kept ≡ true → (b i : ℕ) → slot_if bs b ≡ Some i → has on i ≡ true → node_keeps i b n' ≡ true) (λ w. w.kept ≡ true → AreKeptIn bs (node_view n) on out end)
      (λ w g k b i e. act_kept i b (node_view n) (lives_in on out end i) l (λ h. ap (node_keeps i b) (sym same) ∙ g k b i e h)) f

abbrev pub is_way : Node → Bool
is_way (plain p a) = false
is_way (if_ p x one other) = false
is_way (loop p body latch) = false
is_way (break_ p) = true
is_way (next_ p) = true
is_way (ret p x) = true

way_is_kept : (i b : ℕ) (n : Node) (l : Live) → is_way n ≡ true → KeptIn i b n l
unfolding Kept
way_is_kept i b (plain p a) l e = absurd (let h : false ≡ true = e in cc)
way_is_kept i b (if_ p x one other) l e = absurd (let h : false ≡ true = e in cc)
way_is_kept i b (loop p body latch) l e = absurd (let h : false ≡ true = e in cc)
way_is_kept i b (break_ p) l e = tt
way_is_kept i b (next_ p) l e = tt
way_is_kept i b (ret p x) l e = tt

-- a Break, a Next, a Ret
pub way_kept : (i b : ℕ) (n : CodeNode) (k : NodeKind) (l : Live) → n.kind ≡ k → is_way (kind_view n.place k) ≡ true → KeptIn i b (node_view n) l
way_kept i b n k l e w = way_is_kept i b (node_view n) l (ap (λ x. is_way (kind_view n.place x)) e ∙ w)

-- ---- all of a function's code

module _ (bs start out end set : List ℕ) (ns : Nodes) (ss : start ≡ []) (oo : out ≡ []) (nn : end ≡ []) where
  abbrev A : ℕ → ℕ
  A b = slot_in bs b

  nothing : (i : ℕ) → lives_in start out end i ≡ lives false false false
  nothing i = (λ j. lives (has (ss j) i) (has (oo j) i) (has (nn j) i)) ∙ (λ j. lives (has_nothing i j) (has_nothing i j) (has_nothing i j))

  pub whole_listed : Tells bs set (λ i b. live i b ns (lives_in start out end i)) → ((i : ℕ) → has set i ≡ false) → AreKept bs ns start out end → (made : Nodes) → made ≡ used_listed A bs ns (λ b. lives_in start out end (A b))
      → made ≡ listed A bs ns none_held none_later
  whole_listed told free kept made e =
      let same = used_same A bs ns (λ b. lives_in start out end (A b)) none_later (λ b j. nothing (A b)) in
      e ∙ (same ∙ sym (listed_used A bs ns none_held none_later
      (λ b j. subst (λ (l : Live). Kept (A b) b ns l) (nothing (A b)) (kept b (A b) (slot_known bs b j)))
      (λ b j g. ap (live (A b) b ns) (sym (nothing (A b))) ∙ (sym (told b (A b) (slot_known bs b j)) ∙ free (A b)))))
