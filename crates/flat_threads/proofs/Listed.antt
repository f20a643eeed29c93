-- Listed slots of a call, in the array of its thread.
use Rattle.std.proofs.Common.{◌≡◌, ℕ, suc, ◌+◌, ◌<◌, ◌≤◌, ◌^◌, List, [], ◌∷◌, ◌++◌, length, take, drop, get_or, All, Bool, true, false, cond, refl, sym, subst, ap, ◌∙◌, arith, Some}
use Rattle.std.specs.Prelude.{nat_le, nat_lt, not, ◌&&◌, ◌==◌}
use Rattle.std.specs.List.{filter, list_any, IsDistinct, AllByRecursion}
use Rattle.std.proofs.lemmas.Bool.{and_parts, ltb-true, eqb-true}
use Rattle.std.proofs.lemmas.List.{get_or-take, get_or-drop}
use Rattle.std.proofs.lemmas.Map.Steps.{length-le_from_distinct_below}
use Rattle.handle_table.specs.declared.frame.PinSlot.{PinSlot}
use Rattle.handle_table.specs.Frame.{blank_slot, slot_at, HasSlot, listed_words, listed_handles}
use Rattle.handle_table.specs.Words.{WordList}
use Rattle.struct_ir.specs.Linear.{Spot}
use Rattle.struct_ir.specs.Threads.{Thread}
use Rattle.flat_meaning.specs.Words.{Words}
use Rattle.flat_meaning.specs.Allowed.{handles_in}
use Rattle.flat_threads.specs.declared.call.Call.{Call}
use Rattle.flat_threads.specs.Contexts.{IsListFor}
use Rattle.flat_threads.specs.inner.Arrays.{thread_of, IsKept}
use Rattle.std.proofs.Common.{None}
use Rattle.std.specs.Prelude.{slice_get, ◌||◌}
use Rattle.std.specs.List.{list_all}
use Rattle.std.proofs.lemmas.Option.{same_Some}
use Rattle.struct_ir.specs.Nodes.{Act, set, call, step, look, safepoint, begin_object, end_object, list_of, may_wait}
use Rattle.struct_ir.specs.Flow.{Here, does, tests, passes, round, returns}
use Rattle.struct_ir.specs.Instrs.{LinearCode}
use Rattle.struct_ir.specs.Linear.{linear}
use Rattle.struct_ir.specs.Machine.{Point}
use Rattle.struct_ir.specs.Valid.{Scope, are_below, is_distinct, is_list, is_act, is_below_if, has_params, is_place, has_counts, counts_of, is_action, is_own_list}
use Rattle.struct_ir.specs.ValidCode.{is_here, code_scope_of}
use Rattle.flat_meaning.specs.Words.{Used}
use Rattle.flat_meaning.specs.Allowed.{list_at}
use Rattle.flat_threads.specs.Contexts.{IsProgram, IsCallOf}
use Rattle.flat_threads.proofs.Threads.{here_fits}
use Rattle.flat_threads.proofs.Entering.{below_all}
use Rattle.flat_threads.proofs.Spans.{slots_count}

-- no more pass than there are
pub filter_short : (p : ℕ → Bool) (xs : List ℕ) → length (filter p xs) ≤ length xs
filter_short p [] = omega arith
filter_short p (x ∷ xs) = by (p x) (filter_short p xs) where
  by : (b : Bool) → length (filter p xs) ≤ length xs → length (cond b (x ∷ filter p xs) (filter p xs)) ≤ suc (length xs)
  by true le = omega (arith, le)
  by false le = omega (arith, le)

same_words : (ss : List PinSlot) (first n : ℕ) (list : List ℕ) → All (λ s. s < n) list → listed_words ss first list ≡ listed_words (take n (drop first ss)) 0 list
same_words ss first n [] all = refl
same_words ss first n (s ∷ list) all =
    let z : 0 + s ≡ s = omega arith in
    let lt : s < n = all 0 0 (omega arith) in
    let a : get_or (take n (drop first ss)) (0 + s) blank_slot ≡ get_or ss (first + s) blank_slot =
    ap (λ k. get_or (take n (drop first ss)) k blank_slot) z ∙ (get_or-take n (drop first ss) s blank_slot lt ∙ get_or-drop first ss s blank_slot) in
    let b = same_words ss first n list (λ k d lt. all (suc k) d (omega (arith, lt))) in
    ap (λ (p : PinSlot). p.word ∷ listed_words ss first list) (sym a) ∙ ap (λ l. (slot_at (take n (drop first ss)) (0 + s)).word ∷ l) b

-- the call's own slots are those of the array from its first one on
pub listed_same : (ss : List PinSlot) (first n : ℕ) (list : List ℕ) → All (λ s. s < n) list → listed_handles ss first list ≡ listed_handles (take n (drop first ss)) 0 list
listed_same ss first n list all = ap (filter (nat_le (2 ^ 63))) (same_words ss first n list all)

-- no more handles than listed slots
pub few_handles : (ss : List PinSlot) (first : ℕ) (list : List ℕ) → length (listed_handles ss first list) ≤ length list
few_handles ss first list =
    let n = filter_short (nat_le (2 ^ 63)) (listed_words ss first list) in
    omega (arith, n, Rattle.std.proofs.lemmas.List.length-map list (λ (s : ℕ). (slot_at ss (first + s)).word))

-- words behind those that there are
abbrev pub with_more : WordList → List ℕ → WordList
with_more w l = record { room = w.room; words = w.words ++ l }

-- a list of the call under way
module _ (xs : List ℕ) (ss : List PinSlot) (top : Call) (cs : List Call) (kept : IsKept top cs xs ss) (now : Thread Spot Words) (is : thread_of xs ss top cs ≡ now) (list : List ℕ) (listed : IsListFor now.top.own list) where
  here : IsListFor (thread_of xs ss top cs).top.own list
  here = subst (λ (t : Thread Spot Words). IsListFor t.top.own list) (sym is) listed

  below : All (λ s. s < top.own_slots) list
  below = subst (λ n. All (λ s. s < n) list) (slots_count xs ss top cs kept) here.0

  pub top_slots : All (λ s. HasSlot ss (top.slots + s)) list
  top_slots k d lt = let b = below k d lt in omega (arith, b, kept.slots_within, kept.slot_count)

  pub top_handles : listed_handles ss top.slots list ≡ handles_in now.top.own (Some list)
  top_handles = listed_same ss top.slots top.own_slots list below ∙ ap (λ (t : Thread Spot Words). handles_in t.top.own (Some list)) is

  pub top_few : length (listed_handles ss top.slots list) ≤ length now.top.own.slots
  top_few = let n = few_handles ss top.slots list in omega (arith, n, listed.1)

-- ---- lists of valid code

apart : (x : ℕ) (xs : List ℕ) → not (list_any (λ y. y == x) xs) ≡ true → AllByRecursion (λ y. (x == y) ≡ false) xs
apart x [] e = tt
apart x (y ∷ xs) e = by (apart x xs) (y == x) refl e where
  by : (not (list_any (λ y. y == x) xs) ≡ true → AllByRecursion (λ y. (x == y) ≡ false) xs) → (b : Bool) → (y == x) ≡ b → not (b || list_any (λ y. y == x) xs) ≡ true → ((x == y) ≡ false) × AllByRecursion (λ y. (x == y) ≡ false) xs
  by go true f g = absurd cc
  by go false f g = (Rattle.std.proofs.lemmas.Bool.ne_eqb x y (λ h. Rattle.std.proofs.lemmas.Bool.eqb-false y x f (sym h)), go g)

distinct : (xs : List ℕ) → is_distinct xs ≡ true → IsDistinct ◌==◌ xs
unfolding IsDistinct
distinct [] e = tt
distinct (x ∷ xs) e = let a = and_parts (not (list_any (λ y. y == x) xs)) (is_distinct xs) e in (apart x xs a.0, distinct xs a.1)

below_any : (n : ℕ) (xs : List ℕ) → are_below n xs ≡ true → (q : ℕ) → list_any (λ y. q == y) xs ≡ true → q < n
below_any n [] e q h = absurd cc
below_any n (x ∷ xs) e q h = by (λ e g. below_any n xs e q g) (q == x) refl h where
  parts : (nat_lt x n ≡ true) × (are_below n xs ≡ true)
  parts = and_parts (nat_lt x n) (are_below n xs) e

  by : (are_below n xs ≡ true → list_any (λ y. q == y) xs ≡ true → q < n) → (b : Bool) → (q == x) ≡ b → (b || list_any (λ y. q == y) xs) ≡ true → q < n
  by go true f g = let same = eqb-true q x f in omega (arith, same, ltb-true x n parts.0)
  by go false f g = go parts.1 g

-- a list that names slots of a call, none twice, names no more than it has
pub list_for : (l : Words) (n : ℕ) (list : List ℕ) → length l.slots ≡ n → are_below n list ≡ true → is_distinct list ≡ true → IsListFor l list
list_for l n list e below distinct_ =
    let le = length-le_from_distinct_below list n (distinct list distinct_) (below_any n list below) in
    (subst (λ k. All (λ s. s < k) list) (sym e) (below_all n list below), omega (arith, le, e))

-- the list of an act in range names slots
act_list : (x : Scope) (a : Act) (list : List ℕ) → is_act x a ≡ true → list_of a ≡ Some list → is_list x list ≡ true
act_list x (set to calc) list e f = absurd cc
act_list x (call c) list e f =
    let same : c.slots ≡ list = same_Some _ _ f in
    let a = and_parts (is_below_if x.temps c.to && are_below x.temps c.temps) (has_params (slice_get x.params c.function) (length c.temps) && is_list x c.slots) e in
    subst (λ l. is_list x l ≡ true) same (and_parts (has_params (slice_get x.params c.function) (length c.temps)) (is_list x c.slots) a.1).1
act_list x (step s) list e f =
    let a = and_parts (list_all (is_place x) s.places && (are_below x.temps s.temps && is_below_if x.temps s.to)) (has_counts (counts_of s.action) s && (is_action x s.action && is_own_list x s.action s.slots)) e in
    let b = and_parts (has_counts (counts_of s.action) s) (is_action x s.action && is_own_list x s.action s.slots) a.1 in
    let d = and_parts (is_action x s.action) (is_own_list x s.action s.slots) b.1 in
    let l = and_parts (is_list x s.slots) (may_wait s.action || (length s.slots == 0)) d.1 in
    by (may_wait s.action) l.0 f where
      by : (b : Bool) → is_list x s.slots ≡ true → cond b (Some s.slots) None ≡ Some list → is_list x list ≡ true
      by true l f = subst (λ k. is_list x k ≡ true) (same_Some _ _ f) l
      by false l f = absurd cc
act_list x (look slot base) list e f = absurd cc
act_list x (safepoint slots) list e f = subst (λ k. is_list x k ≡ true) (same_Some _ _ f) e
act_list x (begin_object i) list e f = absurd cc
act_list x (end_object i) list e f = absurd cc

-- the list where a call stands names slots of it, and no more than it has
pub listed_for : (code : LinearCode) → IsProgram code → (below : Used) (p : Point Spot Words) → IsCallOf code below p → (list : List ℕ) → list_at ((linear code.funcs).here p.at) ≡ Some list → IsListFor p.own list
listed_for code program below p is list e = by ((linear code.funcs).here p.at) (here_fits code program p.at is.function is.there) e where
  by : (h : Here) → is_here (code_scope_of code is.function) h ≡ true → list_at h ≡ Some list → IsListFor p.own list
  by (does place a) g f =
      let l = act_list (code_scope_of code is.function) a list g f in
      let d = and_parts (are_below is.function.slots list) (is_distinct list) l in
      list_for p.own is.function.slots list is.slots d.0 d.1
  by (tests place temp) g f = absurd cc
  by passes g f = absurd cc
  by round g f = absurd cc
  by (returns temp) g f = absurd cc
