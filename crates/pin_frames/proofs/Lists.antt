-- Lists are exact in any code in which each register has a slot of its own.
use Rattle.std.proofs.Common.{◌≡◌, ◌≢◌, ◌⊎◌, ◌↔◌, inl, inr, ℕ, ◌≤◌, List, [], Some, Bool, true, false, ◌||◌, ◌&&◌, refl, sym, ap, subst, ◌∙◌, arith}
use Rattle.std.proofs.lemmas.Bool.{both_ways, not-true, not-false, and_parts, or_cases, or_left, or_right, not_from_true}
use Rattle.std.specs.Prelude.{not}
use Rattle.struct_ir.specs.Nodes.{Act, set, call, step, look, safepoint, begin_object, end_object, Nodes, places_of, list_of}
use Rattle.struct_ir.specs.Flow.{does, entry}
use Rattle.struct_ir.specs.Structured.{Position, done, then_, here, structured}
use Rattle.struct_ir.specs.Pins.{lacks, Available}
use Rattle.pin_flow.specs.Marks.{answer, AllPaths, unreached, good, bad, Each, EveryAct}
use Rattle.pin_flow.specs.Looks.{some_act, Uses, UsesItself, IsUsed, PinsExact}
use Rattle.pin_flow.specs.Held.{held, fresh}
use Rattle.pin_flow.specs.Slots.{own, IsOwn, IsIn, AreApart}
use Rattle.pin_flow.specs.Live.{uses, live_at}
use Rattle.pin_frames.specs.inner.Place.{is_bad, wanted, act_listing, listed, none_held, none_later}
use Rattle.pin_flow.proofs.Order.{rank}
use Rattle.pin_flow.proofs.Sound.{each_holds}
use Rattle.pin_flow.proofs.Real.{Seen}
use Rattle.pin_flow.proofs.Strip.{by_bool}
use Rattle.pin_flow.proofs.Switch.{each_agree}
use Rattle.pin_flow.proofs.Fresh.{fresh_answer, held_answer, fresh_fair, held_fair, own_agrees}
use Rattle.pin_flow.proofs.Covers.{all_owned, not_bad_yes, some_same}
use Rattle.pin_flow.proofs.Live.{has_among, among_has, live_is_used, used_is_live, all_told}
use Rattle.pin_flow.proofs.At.{EachAt, each_of, every_at, every_both, every_all, some_finds}
use Rattle.pin_frames.proofs.Listed.{uses_listing, some_listed}
use Rattle.pin_frames.proofs.Exact.{IsListed, each_exact, IsTheirs, every_theirs}

pub own_listing : (slot_of : ℕ → ℕ) (a : Act) (l : List ℕ) → own slot_of (act_listing a l) ≡ own slot_of a
own_listing slot_of (set to calc) l = refl
own_listing slot_of (call c) l = refl
own_listing slot_of (step x) l = refl
own_listing slot_of (look s base) l = refl
own_listing slot_of (safepoint old) l = refl
own_listing slot_of (begin_object i) l = refl
own_listing slot_of (end_object i) l = refl

pub not_bad : (t : AllPaths) → is_bad t ≡ false → t ≢ bad
not_bad unreached e = λ h. absurd cc
not_bad good e = λ h. absurd cc
not_bad bad e = absurd cc

pub bad_is : (t : AllPaths) → is_bad t ≡ true → t ≡ bad
bad_is unreached e = absurd cc
bad_is good e = absurd cc
bad_is bad e = refl

module _ (slot_of : ℕ → ℕ) (apart : AreApart slot_of) (bs : List ℕ) (ns : Nodes) (owns : IsOwn slot_of ns) (among : (b : ℕ) → some_act (uses (slot_of b) b) ns ≡ true → IsIn bs b) where
  abbrev out : Nodes
  out = listed slot_of bs ns none_held none_later

  abbrev start : Position
  start = then_ out done

  abbrev strange : Act → Bool
  strange a = not (own slot_of a)

  out_some : (f : Act → Bool) → ((a : Act) (l : List ℕ) → f (act_listing a l) ≡ f a) → some_act f out ≡ some_act f ns
  out_some f same = some_listed slot_of bs f same ns none_held none_later

  pub out_own : some_act strange out ≡ false
  out_own = out_some strange (λ a l. ap not (own_listing slot_of a l)) ∙ owns

  pub out_uses : (s b : ℕ) → some_act (uses s b) out ≡ some_act (uses s b) ns
  out_uses s b = out_some (uses s b) (λ a l. uses_listing s b a l)

  pub exact : (b : ℕ) (i : IsIn bs b) → EachAt (IsListed slot_of apart bs b i) (held b) out done bad
  exact b i = each_exact slot_of apart bs b i ns done none_held none_later refl

  -- what uses a slot for a temporary, is of them
  used_slot : (s b : ℕ) → some_act (uses s b) out ≡ true → (s ≡ slot_of b) × IsIn bs b
  used_slot s b e =
      let same : s ≡ slot_of b =
      some_finds (uses s b) strange (s ≡ slot_of b)
      (λ a u o.
      let x = has_among s b a u in
      let named : x.0.slot ≡ Some (slot_of x.0.base) = all_owned slot_of (places_of a) x.0 ((and_parts _ _ (not-false _ o)).1) x.1 in
      let e : Some s ≡ Some (slot_of b) = sym x.3 ∙ (named ∙ ap (λ y. Some (slot_of y)) x.2) in
      some_same s (slot_of b) e) out e out_own in
      (same, among b (sym (out_uses (slot_of b) b) ∙ subst (λ x. some_act (uses x b) out ≡ true) same e))

  -- ---- a list holds only what is available
  abbrev IsFine : ℕ → Act → AllPaths → Type 0
  IsFine b a t = (list : List ℕ) → list_of a ≡ Some list → lacks (slot_of b) list ≡ false → uses (slot_of b) b a ≡ false → t ≢ bad

  fine_down : (b : ℕ) (a : Act) (t u : AllPaths) → rank t ≤ rank u → IsFine b a u → IsFine b a t
  fine_down b a unreached u le f = λ list e h g x. absurd cc
  fine_down b a good u le f = λ list e h g x. absurd cc
  fine_down b a bad unreached le f = absurd (omega arith)
  fine_down b a bad good le f = absurd (omega arith)
  fine_down b a bad bad le f = f

  fine_if : (x y z w : Bool) → w ≡ false → w ≡ not ((not x && y) || z) → z ≡ false → (x ≡ false) × (y ≡ true)
  fine_if x y z w e f g =
      let h : not ((not x && y) || z) ≡ false = sym f ∙ e in
      elim (or_cases (not x && y) z (not-false _ h)) [
        | inl k ↦ (let p = and_parts (not x) y k in (not-true x p.0, p.1))
        | inr k ↦ absurd (both_ways z g k)
      ]

  each_fine : (b : ℕ) (i : IsIn bs b) → Each (IsFine b) (fresh (slot_of b) b) out bad
  each_fine b i =
      each_agree (held b) (fresh (slot_of b) b) strange (λ a e v. own_agrees slot_of apart b a (not-false _ e) v) (IsFine b) out out_own bad
      (each_of (IsListed slot_of apart bs b i) (held b) (IsFine b)
      (λ a t k listed list e h g. not_bad t ((fine_if (is_bad t) (live_at (slot_of b) b k).on (uses (slot_of b) b a) (lacks (slot_of b) list) h (listed list e) g).0)) out done bad (exact b i))

  -- ---- exact
  abbrev Theirs : Type 0
  Theirs = (b : ℕ) × IsIn bs b

  abbrev Shown : Theirs → Act → Position → Type 0
  Shown x a k = (list : List ℕ) → list_of a ≡ Some list → (t : AllPaths) × Seen false (held x.0) (held_fair x.0) start k t × (lacks (slot_of x.0) list ≡ not (wanted slot_of x.0 a t (live_at (slot_of x.0) x.0 k).on))

  shown : EveryAct (λ a k. (x : Theirs) → Shown x a k) out done
  shown = every_all Theirs Shown out done (λ x.
      every_at (IsListed slot_of apart bs x.0 x.1) (held x.0) (held_fair x.0) start (Shown x) (λ p a t k here seen listed list e. (t, seen, listed list e)) out done bad ([], entry, refl) (exact x.0 x.1))

  abbrev Told : (ℕ × ℕ) → Act → Position → Type 0
  Told x a k = (live_at x.0 x.1 k).on ≡ true → some_act (uses x.0 x.1) out ≡ true

  told : EveryAct (λ a k. (x : ℕ × ℕ) → Told x a k) out done
  told = every_all (ℕ × ℕ) Told out done (λ x. all_told x.0 x.1 (some_act (uses x.0 x.1) out ≡ true) out (λ e. e))

  abbrev Known : Act → Position → Type 0
  Known a k = ((x : Theirs) → Shown x a k) × ((x : ℕ × ℕ) → Told x a k) × IsTheirs slot_of bs a k

  known : EveryAct Known out done
  known = every_both (λ a k. ((x : Theirs) → Shown x a k) × ((x : ℕ × ℕ) → Told x a k)) (IsTheirs slot_of bs) Known (λ p a k e r s. (r.0, r.1, s)) out done
      (every_both (λ a k. (x : Theirs) → Shown x a k) (λ a k. (x : ℕ × ℕ) → Told x a k) (λ a k. ((x : Theirs) → Shown x a k) × ((x : ℕ × ℕ) → Told x a k)) (λ p a k e r s. (r, s)) out done shown told)
      (every_theirs slot_of bs ns done none_held none_later)

  abbrev Reason : Position → Act → ℕ → Type 0
  Reason k a s = ((b : ℕ) × Available structured start s b k × IsUsed structured s b k) ⊎ UsesItself s a

  module _ (p : ℕ) (a : Act) (k : Position) (at : here k ≡ does p a) (q : Known a k) (list : List ℕ) (e : list_of a ≡ Some list) where
    why_listed : (b : ℕ) → IsIn bs b → lacks (slot_of b) list ≡ false → Reason k a (slot_of b)
    why_listed b i h =
        let s = slot_of b in
        let x = q.0 (b, i) list e in
        by_bool (λ u. uses s b a ≡ u → Reason k a s) (uses s b a)
        (λ u _. inr (b, has_among s b a u))
        (λ u _.
        let g = fine_if (is_bad x.0) (live_at s b k).on (uses s b a) (lacks s list) h x.2 u in
        let available : Available structured start s b k = λ w path.
        let no = each_holds (IsFine b) (fresh s b) (fresh_fair s b) (fine_down b) out (each_fine b i) w k path p a at list e h u in
        fresh_answer structured s b w ∙ not_bad_yes (answer structured (fresh s b) w) no in
        inl (b, available, live_is_used s b k g.1)) refl

    -- with its access used later, and where it is available, it is listed
    why_not : (s b : ℕ) → (live_at s b k).on ≡ true → (Available structured start s b k ⊎ (uses s b a ≡ true)) → lacks s list ≡ false
    why_not s b l why =
        let v = used_slot s b (q.1 (s, b) l) in
        let x = q.0 (b, v.1) list e in
        let full : wanted slot_of b a x.0 (live_at (slot_of b) b k).on ≡ true = elim why [
          | inr u ↦ or_right _ _ (subst (λ y. uses y b a ≡ true) v.0 u)
          | inl av ↦ (let l' : (live_at (slot_of b) b k).on ≡ true = subst (λ y. (live_at y b k).on ≡ true) v.0 l in
              by_bool (λ y. is_bad x.0 ≡ y → ((not y && (live_at (slot_of b) b k).on) || uses (slot_of b) b a) ≡ true) (is_bad x.0)
              (λ g _. absurd (
              let seen : Seen false (held b) (held_fair b) start k bad = subst (λ t. Seen false (held b) (held_fair b) start k t) (bad_is x.0 g) x.1 in
              let yes = held_answer structured s b seen.0 (sym (fresh_answer structured s b seen.0) ∙ av seen.0 seen.1) in
              both_ways (answer structured (held b) seen.0) seen.2 yes))
              (λ g _. or_left _ _ l') refl)
        ] in
        ap (λ y. lacks y list) v.0 ∙ (x.2 ∙ not_from_true _ full)

    own_live : (s b : ℕ) → Uses s b a → (live_at s b k).on ≡ true
    own_live s b i = used_is_live s b k (record { way = []; at = k; path = entry; clear = refl; place = p; act = a; here = at; uses = i })

    exact_list : (s : ℕ) → (lacks s list ≡ false) ↔ Reason k a s
    exact_list s = (
      (λ h. let x = q.2 list e s h in subst (λ y. Reason k a y) (sym x.2) (why_listed x.0 x.1 (subst (λ y. lacks y list ≡ false) x.2 h))),
      (λ r. elim r [
        | inl x ↦ why_not s x.0 (used_is_live s x.0 k x.2) (inl x.1)
        | inr x ↦ why_not s x.0 (own_live s x.0 x.1) (inr (among_has s x.0 a x.1))
      ]),
    )

  pub exact_lists : PinsExact out
  exact_lists = every_both Known Known (λ act k. (list : List ℕ) → list_of act ≡ Some list → (s : ℕ) → (lacks s list ≡ false) ↔ Reason k act s)
      (λ p a k at q _ list e s. exact_list p a k at q list e s) out done known known
