-- What a path says of a slot, as a mark.
use Rattle.std.proofs.Common.{◌≡◌, inl, inr, ℕ, List, [], ◌∷◌, Option, Some, None, Bool, true, false, ◌==◌, ◌||◌, ◌&&◌, if◌then◌else◌, refl, sym, ap, ◌∙◌}
use Rattle.std.proofs.lemmas.Bool.{eqb-true, eq-eqb, ne_eqb, and_parts, cases_eq}
use Rattle.std.specs.Prelude.{not}
use Rattle.struct_ir.specs.Nodes.{Act, set, call, step, look, safepoint, begin_object, end_object, own_list}
use Rattle.struct_ir.specs.Flow.{Flow, Here, does, tests, passes, round, returns}
use Rattle.struct_ir.specs.Pins.{Fact, unlooked, looked, lacks, lacks_if, assigning, listing, doing, passing, facts, is_fresh}
use Rattle.pin_flow.specs.Marks.{IsFair, marked, answer}
use Rattle.pin_flow.specs.Looks.{act_looks, act_assigns, is_to}
use Rattle.pin_flow.specs.Held.{held, fresh}
use Rattle.pin_flow.specs.Slots.{own}
use Rattle.pin_flow.proofs.Strip.{by_bool}

fresh_assigned : (b to : ℕ) (f : Fact) → is_fresh b (assigning (Some to) f) ≡ (not (b == to) && is_fresh b f)
fresh_assigned b to unlooked = by_bool (λ x. false ≡ (not x && false)) (b == to) (λ e. refl) (λ e. refl)
fresh_assigned b to (looked base stale lacked) = by_bool (λ x. (x && not (stale || (base == to))) ≡ (not (b == to) && (x && not stale))) (base == b)
    (λ e. let same : base ≡ b = eqb-true base b e in rw same (of_bools stale (b == to)))
    (λ e. by_bool (λ x. false ≡ (not x && false)) (b == to) (λ e. refl) (λ e. refl))
  where
    of_bools : (x y : Bool) → not (x || y) ≡ (not y && not x)
    of_bools true true = refl
    of_bools true false = refl
    of_bools false true = refl
    of_bools false false = refl

fresh_to : (b : ℕ) (to : Option ℕ) (f : Fact) → is_fresh b (assigning to f) ≡ (not (is_to b to) && is_fresh b f)
fresh_to b None f = refl
fresh_to b (Some to) f = fresh_assigned b to f

fresh_listed : (b : ℕ) (out : Bool) (f : Fact) → is_fresh b (listing out f) ≡ is_fresh b f
fresh_listed b out unlooked = refl
fresh_listed b out (looked base stale lacked) = refl

fresh_done : (slot b : ℕ) (a : Act) (f : Fact) → is_fresh b (doing slot a f) ≡ fresh slot b a (is_fresh b f)
fresh_done slot b (set to calc) f = fresh_to b (Some to) f
fresh_done slot b (call c) f = fresh_to b c.to (listing (lacks slot c.slots) f) ∙ ap (λ x. not (is_to b c.to) && x) (fresh_listed b (lacks slot c.slots) f)
fresh_done slot b (step x) f = fresh_to b x.to (listing (lacks_if slot (own_list x)) f) ∙ ap (λ y. not (is_to b x.to) && y) (fresh_listed b (lacks_if slot (own_list x)) f)
fresh_done slot b (look s base) f = by_bool (λ x. is_fresh b (if x then looked base false false else f) ≡ (if x then base == b else is_fresh b f)) (s == slot)
    (λ e. by_bool (λ x. (x && true) ≡ x) (base == b) (λ e. refl) (λ e. refl)) (λ e. refl)
fresh_done slot b (safepoint slots) f = fresh_listed b (lacks slot slots) f
fresh_done slot b (begin_object i) f = refl
fresh_done slot b (end_object i) f = refl

fresh_passed : (slot b : ℕ) (h : Here) (f : Fact) → is_fresh b (passing slot h f) ≡ marked (fresh slot b) h (is_fresh b f)
fresh_passed slot b (does p a) f = fresh_done slot b a f
fresh_passed slot b (tests p x) f = refl
fresh_passed slot b passes f = refl
fresh_passed slot b round f = refl
fresh_passed slot b (returns x) f = refl

pub fresh_answer : {P : Type 0} (C : Flow P) (slot b : ℕ) (w : List P) → is_fresh b (facts C slot w) ≡ answer C (fresh slot b) w
fresh_answer C slot b [] = refl
fresh_answer C slot b (k ∷ w) = fresh_passed slot b (C.here k) (facts C slot w) ∙ ap (marked (fresh slot b) (C.here k)) (fresh_answer C slot b w)

-- what is fresh in some slot is held
held_if : (slot b : ℕ) (a : Act) (v v' : Bool) → (v ≡ true → v' ≡ true) → fresh slot b a v ≡ true → held b a v' ≡ true
held_if slot b (set to calc) v v' h e = let p = and_parts (not (b == to)) v e in rw (p.0, h p.1) refl
held_if slot b (call c) v v' h e = let p = and_parts (not (is_to b c.to)) v e in rw (p.0, h p.1) refl
held_if slot b (step x) v v' h e = let p = and_parts (not (is_to b x.to)) v e in rw (p.0, h p.1) refl
held_if slot b (look s base) v v' h e = by_bool (λ x. (x || v') ≡ true) (base == b) (λ g. refl)
    (λ g. by_bool (λ x. (if x then base == b else v) ≡ true → v' ≡ true) (s == slot) (λ k e. absurd cc) (λ k e. h e) e)
held_if slot b (safepoint slots) v v' h e = h e
held_if slot b (begin_object i) v v' h e = h e
held_if slot b (end_object i) v v' h e = h e

held_here : (slot b : ℕ) (h : Here) (v v' : Bool) → (v ≡ true → v' ≡ true) → marked (fresh slot b) h v ≡ true → marked (held b) h v' ≡ true
held_here slot b (does p a) v v' g e = held_if slot b a v v' g e
held_here slot b (tests p x) v v' g e = g e
held_here slot b passes v v' g e = g e
held_here slot b round v v' g e = g e
held_here slot b (returns x) v v' g e = g e

pub held_answer : {P : Type 0} (C : Flow P) (slot b : ℕ) (w : List P) → answer C (fresh slot b) w ≡ true → answer C (held b) w ≡ true
held_answer C slot b [] e = e
held_answer C slot b (k ∷ w) e = held_here slot b (C.here k) (answer C (fresh slot b) w) (answer C (held b) w) (held_answer C slot b w) e

pub fresh_fair : (slot b : ℕ) → IsFair (fresh slot b)
fresh_fair slot b (set to calc) e = absurd (let h : (not (b == to) && false) ≡ true = e in by_bool (λ x. (not x && false) ≡ true → ⊥) (b == to) (λ g e. cc) (λ g e. cc) h)
fresh_fair slot b (call c) e = by_bool (λ x. (not x && false) ≡ true → (not x && true) ≡ true) (is_to b c.to) (λ g e. e) (λ g e. refl) e
fresh_fair slot b (step x) e = by_bool (λ y. (not y && false) ≡ true → (not y && true) ≡ true) (is_to b x.to) (λ g e. e) (λ g e. refl) e
fresh_fair slot b (look s base) e = by_bool (λ x. (if x then base == b else false) ≡ true → (if x then base == b else true) ≡ true) (s == slot) (λ g e. e) (λ g e. refl) e
fresh_fair slot b (safepoint slots) e = refl
fresh_fair slot b (begin_object i) e = refl
fresh_fair slot b (end_object i) e = refl

fair_of : (x y : Bool) → (x || (y && false)) ≡ true → (x || (y && true)) ≡ true
fair_of true y e = refl
fair_of false true e = absurd cc
fair_of false false e = absurd cc

pub held_fair : (b : ℕ) → IsFair (held b)
held_fair b a e = fair_of (act_looks b a) (not (act_assigns b a)) e

-- with one slot for each temporary, they are one
module _ (slot_of : ℕ → ℕ) (apart : (b c : ℕ) → slot_of b ≡ slot_of c → b ≡ c) where
  look_agrees : (b s base : ℕ) → (s == slot_of base) ≡ true → (v : Bool) → fresh (slot_of b) b (look s base) v ≡ held b (look s base) v
  look_agrees b s base e v =
      let same : s ≡ slot_of base = eqb-true s (slot_of base) e in
      elim (cases_eq base b) [
        | inl g ↦ (let x : (s == slot_of b) ≡ true = eq-eqb s (slot_of b) (same ∙ ap slot_of g) in let y : (base == b) ≡ true = eq-eqb base b g in rw (x, y) refl)
        | inr g ↦ (let x : (s == slot_of b) ≡ false = ne_eqb s (slot_of b) (λ h. g (apart base b (sym same ∙ h))) in let y : (base == b) ≡ false = ne_eqb base b g in rw (x, y) refl)
      ]

  pub own_agrees : (b : ℕ) (a : Act) → own slot_of a ≡ true → (v : Bool) → fresh (slot_of b) b a v ≡ held b a v
  own_agrees b (set to calc) e v = refl
  own_agrees b (call c) e v = refl
  own_agrees b (step x) e v = refl
  own_agrees b (look s base) e v = look_agrees b s base ((and_parts (s == slot_of base) true e).0) v
  own_agrees b (safepoint slots) e v = refl
  own_agrees b (begin_object i) e v = refl
  own_agrees b (end_object i) e v = refl
