-- Hoisting is right.
use Rattle.std.proofs.Common.{◌≡◌, ℕ, ◌≤◌, List, [], ◌∷◌, Bool, true, false, ◌==◌, ◌⊎◌, inl, inr, refl, sym, ap, subst, ◌∙◌, arith}
use Rattle.std.proofs.lemmas.Bool.{eqb-true, eq-eqb, ne_eqb, cases_eq, not-false, both_ways}
use Rattle.std.specs.Prelude.{not}
use Rattle.struct_ir.specs.Nodes.{Act, set, call, step, look, safepoint, begin_object, end_object, Nodes}
use Rattle.struct_ir.specs.Erased.{erased, is_kept}
use Rattle.pin_flow.specs.Marks.{AllPaths, bad, Each}
use Rattle.pin_flow.specs.Looks.{act_looks, some_act, loops_assign}
use Rattle.pin_flow.specs.Held.{held, fresh, IsDue}
use Rattle.pin_flow.specs.Slots.{own, IsOwn, IsIn}
use Rattle.hoist_pass.specs.inner.Hoist.{lifted, hoisted_one, hoisted, HoistingIsRight}
use Rattle.pin_flow.proofs.Order.{rank}
use Rattle.pin_flow.proofs.Strip.{by_bool, loops_sifted, each_sifted, each_back, erased_sifted}
use Rattle.pin_flow.proofs.Switch.{each_agree, each_weaker, each_always, no_act, no_acts}
use Rattle.pin_flow.proofs.Fresh.{own_agrees}
use Rattle.pin_flow.proofs.Covers.{Serves, serves_down, covered_each, each_covered, due_needed}
use Rattle.hoist_pass.proofs.Drop.{Left, each_dropped}
use Rattle.hoist_pass.proofs.Lift.{each_lifted}
use Rattle.hoist_pass.proofs.Quiet.{loops_bare, still_none, lifts_still}
use Rattle.hoist_pass.proofs.Same.{no_look_of, strip_one}
use Rattle.hoist_pass.proofs.Done.{look_assigns_none, loops_done}

look_serves : (slot b s base : ℕ) (t : AllPaths) → Serves slot b (look s base) t
look_serves slot b s base t i = absurd i.1

stripped_serves : (slot c b : ℕ) (a : Act) → no_look_of b a ≡ false → (t : AllPaths) → Serves slot c a t
stripped_serves slot c b (set to calc) e t = absurd cc
stripped_serves slot c b (call x) e t = absurd cc
stripped_serves slot c b (step x) e t = absurd cc
stripped_serves slot c b (look s base) e t = λ i. absurd i.1
stripped_serves slot c b (safepoint slots) e t = absurd cc
stripped_serves slot c b (begin_object i) e t = absurd cc
stripped_serves slot c b (end_object i) e t = absurd cc

stripped_kept : (b : ℕ) (a : Act) → no_look_of b a ≡ false → is_kept a ≡ false
stripped_kept b (set to calc) e = absurd cc
stripped_kept b (call c) e = absurd cc
stripped_kept b (step x) e = absurd cc
stripped_kept b (look s base) e = refl
stripped_kept b (safepoint slots) e = absurd cc
stripped_kept b (begin_object i) e = absurd cc
stripped_kept b (end_object i) e = absurd cc

-- a Look of b is none of another
module _ (b c : ℕ) (other : b ≡ c → ⊥) where
  pub other_looks : (a : Act) → no_look_of b a ≡ false → act_looks c a ≡ false
  other_looks (set to calc) e = refl
  other_looks (call c) e = refl
  other_looks (step x) e = refl
  other_looks (look s base) e = ne_eqb base c (λ h. other (sym (eqb-true base b (not-false _ e)) ∙ h))
  other_looks (safepoint slots) e = refl
  other_looks (begin_object i) e = refl
  other_looks (end_object i) e = refl

  pub other_idle : (a : Act) → no_look_of b a ≡ false → (v : Bool) → held c a v ≡ v
  other_idle a e v = rw (other_looks a e, look_assigns_none b c a e) refl

  module _ (slot : ℕ) (ns : Nodes) where
    other_loops : loops_assign c (hoisted_one slot b ns) ≡ loops_assign c ns
    other_loops =
        sym (loops_sifted (no_look_of b) c other_looks (look_assigns_none b c) (hoisted_one slot b ns))
        ∙ (ap (loops_assign c) (strip_one b slot ns) ∙ loops_sifted (no_look_of b) c other_looks (look_assigns_none b c) ns)

    other_each : (Q : Act → AllPaths → Type 0) → ((a : Act) → no_look_of b a ≡ false → (t : AllPaths) → Q a t) → Each Q (held c) ns bad → Each Q (held c) (hoisted_one slot b ns) bad
    other_each Q known e =
        each_back (no_look_of b) (held c) other_idle Q known (hoisted_one slot b ns) bad
        (subst (λ (x : Nodes). Each Q (held c) x bad) (sym (strip_one b slot ns)) (each_sifted (no_look_of b) (held c) other_idle Q ns bad e))

-- ---- one temporary's turn

record Good (c : ℕ) (ns : Nodes) : Type 0 where
  due : Each (IsDue c) (held c) ns bad
  loops : loops_assign c ns ≡ true

module _ (slot b : ℕ) (ns : Nodes) where
  own_turn : (Q : Act → AllPaths → Type 0) → ((a : Act) (t u : AllPaths) → rank t ≤ rank u → Q a u → Q a t) → ((t : AllPaths) → Q (look slot b) t) → Each Q (held b) ns bad
      → Each (Left b Q) (held b) (hoisted_one slot b ns) bad
  own_turn Q down known e = each_dropped b Q (lifted slot b ns) bad (each_lifted slot b Q down known ns bad bad (omega arith) e)

  turn_good : Good b (hoisted_one slot b ns)
  turn_good = record {
    due = let all : Act → AllPaths → Type 0 = λ a t. Unit {0} in
        each_weaker (held b) (Left b all) (IsDue b) no_act (λ a t e q. q.1) (hoisted_one slot b ns) (no_acts (hoisted_one slot b ns)) bad
        (own_turn all (λ a t u le q. tt) (λ t. tt) (each_always (held b) all (λ a t. tt) ns bad));
    loops = loops_done slot b ns bad;
  }

  turn_serves : (s c : ℕ) → Each (Serves s c) (held c) ns bad → Each (Serves s c) (held c) (hoisted_one slot b ns) bad
  turn_serves s c e = elim (cases_eq b c) [
    | inl h ↦ subst (λ x. Each (Serves s x) (held x) ns bad → Each (Serves s x) (held x) (hoisted_one slot b ns) bad) h
        (λ e. each_weaker (held b) (Left b (Serves s b)) (Serves s b) no_act (λ a t e q. q.0) (hoisted_one slot b ns) (no_acts (hoisted_one slot b ns)) bad
        (own_turn (Serves s b) (serves_down s b) (look_serves s b slot b) e)) e
    | inr h ↦ other_each b c h slot ns (Serves s c) (stripped_serves s c b) e
  ]

  turn_keeps : (c : ℕ) → (b ≡ c → ⊥) → Good c ns → Good c (hoisted_one slot b ns)
  turn_keeps c h g = record {
    due = other_each b c h slot ns (IsDue c) (λ a e t x. absurd (both_ways (act_looks c a) (other_looks b c h a e) x)) g.due;
    loops = other_loops b c h slot ns ∙ g.loops;
  }

  turn_own : (slot_of : ℕ → ℕ) → slot ≡ slot_of b → IsOwn slot_of ns → IsOwn slot_of (hoisted_one slot b ns)
  turn_own slot_of e o =
      let f : Act → Bool = λ a. not (own slot_of a) in
      let x : (slot == slot_of b) ≡ true = eq-eqb slot (slot_of b) e in
      let y : f (look slot b) ≡ false = rw x refl in
      still_none b f (lifted slot b ns) bad (lifts_still b slot f y ns o)

  turn_erased : erased (hoisted_one slot b ns) ≡ erased ns
  turn_erased =
      sym (erased_sifted (no_look_of b) (stripped_kept b) (hoisted_one slot b ns))
      ∙ (ap erased (strip_one b slot ns) ∙ erased_sifted (no_look_of b) (stripped_kept b) ns)

-- ---- all of them

all_serve : (slot_of : ℕ → ℕ) (bs : List ℕ) (ns : Nodes) (s c : ℕ) → Each (Serves s c) (held c) ns bad → Each (Serves s c) (held c) (hoisted slot_of bs ns) bad
all_serve slot_of [] ns s c e = e
all_serve slot_of (b ∷ bs) ns s c e = all_serve slot_of bs (hoisted_one (slot_of b) b ns) s c (turn_serves (slot_of b) b ns s c e)

all_good : (slot_of : ℕ → ℕ) (bs : List ℕ) (ns : Nodes) (c : ℕ) → Good c ns ⊎ IsIn bs c → Good c (hoisted slot_of bs ns)
all_good slot_of [] ns c (inl g) = g
all_good slot_of [] ns c (inr i) = absurd i
all_good slot_of (b ∷ bs) ns c x =
    let next = hoisted_one (slot_of b) b ns in
    let here : b ≡ c → Good c next = λ h. subst (λ y. Good y next) h (turn_good (slot_of b) b ns) in
    all_good slot_of bs next c (elim (cases_eq b c) [
      | inl h ↦ inl (here h)
      | inr h ↦ elim x [
        | inl g ↦ inl (turn_keeps (slot_of b) b ns c h g)
        | inr i ↦ elim i [ inl e ↦ absurd (h (sym e)) | inr r ↦ inr r ]
      ]
    ])

all_own_kept : (slot_of : ℕ → ℕ) (bs : List ℕ) (ns : Nodes) → IsOwn slot_of ns → IsOwn slot_of (hoisted slot_of bs ns)
all_own_kept slot_of [] ns o = o
all_own_kept slot_of (b ∷ bs) ns o = all_own_kept slot_of bs (hoisted_one (slot_of b) b ns) (turn_own (slot_of b) b ns slot_of refl o)

pub all_erased : (slot_of : ℕ → ℕ) (bs : List ℕ) (ns : Nodes) → erased (hoisted slot_of bs ns) ≡ erased ns
all_erased slot_of [] ns = refl
all_erased slot_of (b ∷ bs) ns = all_erased slot_of bs (hoisted_one (slot_of b) b ns) ∙ turn_erased (slot_of b) b ns

in_or : (bs : List ℕ) (c : ℕ) → IsIn bs c ⊎ (IsIn bs c → ⊥)
in_or [] c = inr (λ i. i)
in_or (b ∷ bs) c = elim (cases_eq c b) [
  | inl e ↦ inl (inl e)
  | inr n ↦ elim (in_or bs c) [ inl i ↦ inl (inr i) | inr m ↦ inr (λ i. elim i [ inl e ↦ n e | inr j ↦ m j ]) ]
]

-- no Look of a register that is none of these
never_looked : (slot_of : ℕ → ℕ) (c : ℕ) (bs : List ℕ) (ns : Nodes) → (IsIn bs c → ⊥) → some_act (act_looks c) ns ≡ false → some_act (act_looks c) (hoisted slot_of bs ns) ≡ false
never_looked slot_of c [] ns h e = e
never_looked slot_of c (b ∷ bs) ns h e =
    let ne : (b == c) ≡ false = ne_eqb b c (λ g. h (inl (sym g))) in
    never_looked slot_of c bs (hoisted_one (slot_of b) b ns) (λ i. h (inr i)) (still_none b (act_looks c) (lifted (slot_of b) b ns) bad (lifts_still b (slot_of b) (act_looks c) ne ns e))

all_looks : (slot_of : ℕ → ℕ) (bs : List ℕ) (ns : Nodes) → ((b : ℕ) → some_act (act_looks b) ns ≡ true → IsIn bs b) → (c : ℕ) → some_act (act_looks c) (hoisted slot_of bs ns) ≡ true → IsIn bs c
all_looks slot_of bs ns listed c e = elim (in_or bs c) [
  | inl i ↦ i
  | inr n ↦ by_bool (λ x. some_act (act_looks c) ns ≡ x → IsIn bs c) (some_act (act_looks c) ns) (λ g _. listed c g)
      (λ g _. absurd (both_ways (some_act (act_looks c) (hoisted slot_of bs ns)) (never_looked slot_of c bs ns n g) e)) refl
]

-- without Looks of c nothing is due
bare_good : (c : ℕ) (ns : Nodes) → some_act (act_looks c) ns ≡ false → Good c ns
bare_good c ns e =
    let all : Act → AllPaths → Type 0 = λ a t. Unit {0} in
    record {
      due = each_weaker (held c) all (IsDue c) (act_looks c) (λ a t e q x. absurd (both_ways (act_looks c a) e x)) ns e bad (each_always (held c) all (λ a t. tt) ns bad);
      loops = loops_bare c ns e;
    }

-- ---- together

pub hoisting_is_right : HoistingIsRight
hoisting_is_right slot_of apart bs ns o listed =
    let out = hoisted slot_of bs ns in
    let f : Act → Bool = λ a. not (own slot_of a) in
    let out_own = all_own_kept slot_of bs ns o in
    let good : (c : ℕ) → Good c out = λ c. all_good slot_of bs ns c (by_bool (λ x. some_act (act_looks c) ns ≡ x → Good c ns ⊎ IsIn bs c) (some_act (act_looks c) ns) (λ e g. inr (listed c g)) (λ e g. inl (bare_good c ns g)) refl) in
    record {
      erased = all_erased slot_of bs ns;
      own = out_own;
      looks = all_looks slot_of bs ns listed;
      covered = λ covered. each_covered slot_of out out_own (λ c.
          each_agree (held c) (fresh (slot_of c) c) f (λ a e v. own_agrees slot_of apart c a (not-false _ e) v) (Serves (slot_of c) c) out out_own bad
          (all_serve slot_of bs ns (slot_of c) c
          (each_agree (fresh (slot_of c) c) (held c) f (λ a e v. sym (own_agrees slot_of apart c a (not-false _ e) v)) (Serves (slot_of c) c) ns o bad
          (covered_each ns covered (slot_of c) c))));
      hoisted = record { out_of_loops = λ c. (good c).loops; needed = λ c. due_needed out c (good c).due };
      throughout = record { out_of_loops = λ c. (good c).loops; due = λ c. (good c).due };
    }
