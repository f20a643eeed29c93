-- Placing is right.
use Rattle.std.proofs.Common.{◌≡◌, ◌≢◌, ℕ, List, Some, None, Bool, true, false, ◌||◌, ◌&&◌, refl, sym, subst, ◌∙◌, arith}
use Rattle.std.proofs.lemmas.Bool.{both_ways, not-false, and_parts, or_right, not_from_true}
use Rattle.std.specs.Prelude.{not}
use Rattle.struct_ir.specs.Nodes.{Act, set, call, step, look, safepoint, begin_object, end_object, Nodes, places_of, list_of}
use Rattle.struct_ir.specs.Structured.{Position, done, then_, structured}
use Rattle.struct_ir.specs.Pins.{facts, lacks, lacks_if, held_by, PinSafe}
use Rattle.pin_flow.specs.Marks.{Mark, AllPaths, bad, Each}
use Rattle.pin_flow.specs.Looks.{some_act, Uses, Covered, PinsExact}
use Rattle.pin_flow.specs.Held.{held, fresh, pinned}
use Rattle.pin_flow.specs.Slots.{own, IsOwn, IsIn, AreApart}
use Rattle.pin_flow.specs.Points.{numbered, PinsExactAtPoints}
use Rattle.pin_flow.specs.Live.{uses, live_at}
use Rattle.pin_frames.specs.inner.Place.{is_bad, act_listing, none_held, none_later, placed, PlacingIsRight}
use Rattle.pin_flow.proofs.Sound.{each_holds}
use Rattle.pin_flow.proofs.Strip.{by_bool}
use Rattle.pin_flow.proofs.Switch.{each_weaker, each_always}
use Rattle.pin_flow.proofs.Fresh.{held_fair, own_agrees}
use Rattle.pin_flow.proofs.Covers.{Serves, serves_down, covered_each, all_owned, not_bad_yes}
use Rattle.pin_flow.proofs.Covers as covers
use Rattle.pin_flow.proofs.Live.{among_has}
use Rattle.pin_flow.proofs.At.{EachAt, each_of, at_agree}
use Rattle.pin_flow.proofs.Numbered.{some_numbered}
use Rattle.pin_frames.proofs.Listed.{uses_listing, erase_listed, some_listed, each_listed}
use Rattle.pin_frames.proofs.Exact.{IsListed}
pub use Rattle.pin_frames.proofs.Lists.{own_listing}
use Rattle.pin_frames.proofs.Lists.{bad_is}
use Rattle.pin_frames.proofs.Lists as lists
use Rattle.pin_frames.proofs.Points.{numbered_listed}
use Rattle.pin_flow.proofs.Pinned.{pinned_answer, pinned_fair, pinned_fact}
use Rattle.pin_frames.proofs.Pin.{Lists, each_pin}
use Rattle.pin_frames.proofs.Stand.{stands_placed}
use Rattle.pin_frames.proofs.Seat.{sat, erase_seated, some_seated, each_seated}

pub fresh_listing : (slot b : ℕ) (a : Act) (l : List ℕ) (v : Bool) → fresh slot b (act_listing a l) v ≡ fresh slot b a v
fresh_listing slot b (set to calc) l v = refl
fresh_listing slot b (call c) l v = refl
fresh_listing slot b (step x) l v = refl
fresh_listing slot b (look s base) l v = refl
fresh_listing slot b (safepoint old) l v = refl
fresh_listing slot b (begin_object i) l v = refl
fresh_listing slot b (end_object i) l v = refl

pub serves_listing : (slot b : ℕ) (a : Act) (l : List ℕ) (t : AllPaths) → Serves slot b a t → Serves slot b (act_listing a l) t
serves_listing slot b (set to calc) l t s = s
serves_listing slot b (call c) l t s = s
serves_listing slot b (step x) l t s = s
serves_listing slot b (look s' base) l t s = s
serves_listing slot b (safepoint old) l t s = s
serves_listing slot b (begin_object i) l t s = s
serves_listing slot b (end_object i) l t s = s

listed_if : (s : ℕ) (a : Act) (P : Bool → Type 0) → P false → ((list : List ℕ) → list_of a ≡ Some list → P (lacks s list)) → P (lacks_if s (list_of a))
listed_if s a P p f = elim (list_of a) as (λ o. ((list : List ℕ) → o ≡ Some list → P (lacks s list)) → P (lacks_if s o)) [ None ↦ λ f. p | Some list ↦ λ f. f list refl ] f

pinned_list : (s : ℕ) (a : Act) (P : Bool → Type 0) → P false → ((list : List ℕ) → list_of a ≡ Some list → P (lacks s list)) → P (lacks_if s (held_by a))
pinned_list s (set to calc) P p f = p
pinned_list s (call c) P p f = p
pinned_list s (step x) P p f = listed_if s (step x) P p f
pinned_list s (look s' base) P p f = p
pinned_list s (safepoint slots) P p f = p
pinned_list s (begin_object i) P p f = p
pinned_list s (end_object i) P p f = p

module _ (slot_of : ℕ → ℕ) (apart : AreApart slot_of) (bs : List ℕ) (ns : Nodes) (owns : IsOwn slot_of ns) (among : (b : ℕ) → some_act (uses (slot_of b) b) ns ≡ true → IsIn bs b) where
  abbrev seats : Nodes
  seats = sat ns

  abbrev out : Nodes
  out = placed slot_of bs ns

  abbrev start : Position
  start = then_ out done

  abbrev strange : Act → Bool
  strange a = not (own slot_of a)

  own_seats : IsOwn slot_of seats
  own_seats = some_seated strange (λ slots. refl) ns ∙ owns

  among_seats : (b : ℕ) → some_act (uses (slot_of b) b) seats ≡ true → IsIn bs b
  among_seats b e = among b (sym (some_seated (uses (slot_of b) b) (λ slots. refl) ns) ∙ e)

  pub out_some : (f : Act → Bool) → ((slots : List ℕ) → f (safepoint slots) ≡ false) → ((a : Act) (l : List ℕ) → f (act_listing a l) ≡ f a) → some_act f out ≡ some_act f ns
  out_some f blind same = some_listed slot_of bs f same seats none_held none_later ∙ some_seated f blind ns

  out_own : some_act strange out ≡ false
  out_own = lists.out_own slot_of apart bs seats own_seats among_seats

  out_uses : (s b : ℕ) → some_act (uses s b) out ≡ some_act (uses s b) ns
  out_uses s b = out_some (uses s b) (λ slots. refl) (λ a l. uses_listing s b a l)

  exact : (b : ℕ) (i : IsIn bs b) → EachAt (IsListed slot_of apart bs b i) (held b) out done bad
  exact b i = lists.exact slot_of apart bs seats own_seats among_seats b i

  exact_lists : PinsExact out
  exact_lists = lists.exact_lists slot_of apart bs seats own_seats among_seats

  -- numbering the listed code is listing the numbered code, whose lists are exact
  exact_at_points : PinsExactAtPoints out
  exact_at_points = subst (λ (x : Nodes). PinsExact x) (sym (numbered_listed slot_of bs 0 seats none_held none_later))
      (lists.exact_lists slot_of apart bs (numbered 0 seats) (some_numbered strange 0 seats ∙ own_seats) (λ b e. among_seats b (sym (some_numbered (uses (slot_of b) b) 0 seats) ∙ e)))

  -- ---- safe for moves

  -- what no list says otherwise is so; where no act uses the slot, there is nothing to say
  lists_at : (b : ℕ) (i : IsIn bs b) → EachAt (Lists (slot_of b) b) (fresh (slot_of b) b) out done bad
  lists_at b i =
      at_agree (held b) (fresh (slot_of b) b) strange (λ a e v. own_agrees slot_of apart b a (not-false _ e) v) (IsListed slot_of apart bs b i) (Lists (slot_of b) b)
      (λ a t k listed. listed_if (slot_of b) a (λ y. y ≡ true → t ≢ bad → (live_at (slot_of b) b k).on ≡ false)
      (λ e h. absurd (let x : false ≡ true = e in cc))
      (λ list e h g. no_more (is_bad t) (live_at (slot_of b) b k).on (uses (slot_of b) b a) (lacks (slot_of b) list) h (listed list e) (λ x. g (bad_is t x))))
      out done bad out_own (exact b i)
    where
      no_more : (x y z w : Bool) → w ≡ true → w ≡ not ((not x && y) || z) → (x ≡ true → ⊥) → y ≡ false
      no_more true y z w e f g = absurd (g refl)
      no_more false false z w e f g = refl
      no_more false true z w e f g = absurd (let h : false ≡ true = sym f ∙ e in cc)

  unused : (b : ℕ) (m : Mark) (Q : Act → AllPaths → Type 0) → ((a : Act) (t : AllPaths) → uses (slot_of b) b a ≡ false → Q a t) → some_act (uses (slot_of b) b) ns ≡ false → Each Q m out bad
  unused b m Q f e =
      let all : Act → AllPaths → Type 0 = λ a t. Unit {0} in
      each_weaker m all Q (uses (slot_of b) b) (λ a t g q. f a t g) out (out_uses (slot_of b) b ∙ e) bad (each_always m all (λ a t. tt) out bad)

  -- each act's own list has the slots of its accesses
  Holds : ℕ → Act → AllPaths → Type 0
  Holds b a t = uses (slot_of b) b a ≡ true → lacks_if (slot_of b) (held_by a) ≡ false

  each_holding : (b : ℕ) → Each (Holds b) (held b) out bad
  unfolding Holds
  each_holding b = by_bool (λ x. some_act (uses (slot_of b) b) ns ≡ x → Each (Holds b) (held b) out bad) (some_act (uses (slot_of b) b) ns)
      (λ e _. let i = among b e in
      each_of (IsListed slot_of apart bs b i) (held b) (Holds b)
      (λ a t k listed u. pinned_list (slot_of b) a (λ y. y ≡ false) refl
      (λ list g. listed list g ∙ not_from_true _ (or_right (not (is_bad t) && (live_at (slot_of b) b k).on) _ u))) out done bad (exact b i))
      (λ e _. unused b (held b) (Holds b) (λ a t g u. absurd (both_ways (uses (slot_of b) b a) g u)) e) refl

  module _ (covered : Covered structured (then_ ns done)) where
    each_served : (b : ℕ) → Each (Serves (slot_of b) b) (fresh (slot_of b) b) out bad
    each_served b =
        let s = slot_of b in
        each_listed slot_of bs (fresh s b) (fresh_listing s b) (Serves s b) (λ a l t q. serves_listing s b a l t q) seats none_held none_later bad
        (each_seated (fresh s b) (λ slots v. refl) (Serves s b) (λ slots t i. absurd i.1) ns (covered_each ns covered s b))

    each_pinned : (b : ℕ) → Each (Serves (slot_of b) b) (pinned (slot_of b) b) out bad
    each_pinned b = by_bool (λ x. some_act (uses (slot_of b) b) ns ≡ x → Each (Serves (slot_of b) b) (pinned (slot_of b) b) out bad) (some_act (uses (slot_of b) b) ns)
        (λ e _. each_pin (slot_of b) b out done bad bad (lists_at b (among b e)) (record { idle = λ h. h; le = λ h. omega arith }) (each_served b))
        (λ e _. unused b (pinned (slot_of b) b) (Serves (slot_of b) b) (λ a t g i. absurd (both_ways (uses (slot_of b) b a) g (among_has (slot_of b) b a i))) e) refl

    safe : PinSafe structured start
    unfolding Holds
    safe = record {
      each = λ w k path p act at x i.
          let s = slot_of x.base in
          let named : x.slot ≡ Some s = all_owned slot_of (places_of act) x ((and_parts _ _ (covers.act_own slot_of out out_own w k path p act at)).1) i in
          let u : Uses s x.base act = (x, i, refl, named) in
          let yes = each_holds (Serves s x.base) (pinned s x.base) (pinned_fair s x.base) (serves_down s x.base) out (each_pinned x.base) w k path p act at u in
          record {
            slot = s;
            named = named;
            looked_for = pinned_fact x.base (facts structured s w) (pinned_answer structured s x.base w ∙ not_bad_yes _ yes);
            held = each_holds (Holds x.base) (held x.base) (held_fair x.base) (λ a t u le q. q) out (each_holding x.base) w k path p act at (among_has s x.base act u);
          };
    }

pub placing_is_right : PlacingIsRight
placing_is_right slot_of apart bs ns owns among = record {
  erased = erase_listed slot_of bs (sat ns) none_held none_later ∙ erase_seated ns;
  stand = stands_placed slot_of bs ns;
  exact = exact_lists slot_of apart bs ns owns among;
  exact_at_points = exact_at_points slot_of apart bs ns owns among;
  safe = safe slot_of apart bs ns owns among;
}
