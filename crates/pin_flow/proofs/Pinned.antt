-- What a path says of a slot, as the answer of a mark.
use Rattle.std.proofs.Common.{◌≡◌, ℕ, Option, Some, None, Bool, true, false, ◌==◌, ◌||◌, ◌&&◌, List, [], ◌∷◌, if◌then◌else◌, refl, ap, subst, ◌∙◌}
use Rattle.std.proofs.lemmas.Bool.{eqb-true, and_parts}
use Rattle.std.specs.Prelude.{not}
use Rattle.struct_ir.specs.Nodes.{Act, set, call, step, look, safepoint, begin_object, end_object, own_list, list_of}
use Rattle.struct_ir.specs.Flow.{Flow, Here, does, tests, passes, round, returns}
use Rattle.struct_ir.specs.Pins.{Fact, unlooked, looked, lacks, lacks_if, assigning, listing, doing, passing, facts}
use Rattle.pin_flow.specs.Marks.{Mark, IsFair, marked, answer_from}
use Rattle.pin_flow.specs.Looks.{act_looks, act_assigns, is_to, looks_into}
use Rattle.pin_flow.specs.Held.{pinned}
use Rattle.pin_flow.proofs.Strip.{by_bool}

-- what acts make of facts, a mark makes of its answers
module _ (yes : Fact → Bool) (m : Mark) (slot : ℕ) (v : Bool) (starts : yes unlooked ≡ v) (done : (a : Act) (f : Fact) → yes (doing slot a f) ≡ m a (yes f)) where
  passed : (h : Here) (f : Fact) → yes (passing slot h f) ≡ marked m h (yes f)
  passed (does p a) f = done a f
  passed (tests p x) f = refl
  passed passes f = refl
  passed round f = refl
  passed (returns x) f = refl

  pub says : {P : Type 0} (C : Flow P) (w : List P) → yes (facts C slot w) ≡ answer_from C m v w
  says C [] = starts
  says C (k ∷ w) = passed (C.here k) (facts C slot w) ∙ ap (marked m (C.here k)) (says C w)

-- ---- the register looked at is b, its Look is not stale, and each list has the slot

abbrev pub is_pinned : ℕ → Fact → Bool
is_pinned b unlooked = false
is_pinned b (looked base stale lacked) = (base == b) && (not stale && not lacked)

pub pinned_fact : (b : ℕ) (f : Fact) → is_pinned b f ≡ true → f ≡ looked b false false
pinned_fact b unlooked e = absurd cc
pinned_fact b (looked base true lacked) e = absurd (let p = and_parts (base == b) false e in let x : false ≡ true = p.1 in cc)
pinned_fact b (looked base false true) e = absurd (let p = and_parts (base == b) false e in let x : false ≡ true = p.1 in cc)
pinned_fact b (looked base false false) e = ap (λ x. looked x false false) (eqb-true base b ((and_parts (base == b) true e).0))

of_assigned : (x y z w : Bool) → (x && (not (y || w) && not z)) ≡ (not w && (x && (not y && not z)))
of_assigned x y z true = by_bool (λ x. (x && (not (y || true) && not z)) ≡ false) x (λ e. by_bool (λ y. (not (y || true) && not z) ≡ false) y (λ e. refl) (λ e. refl)) (λ e. refl)
of_assigned x true z false = refl
of_assigned x false z false = refl

of_listed : (x y z w : Bool) → (x && (not y && not (z || w))) ≡ (not w && (x && (not y && not z)))
of_listed true true z true = refl
of_listed true true z false = refl
of_listed true false true true = refl
of_listed true false false true = refl
of_listed true false true false = refl
of_listed true false false false = refl
of_listed false y z true = refl
of_listed false y z false = refl

no_more : (x : Bool) → false ≡ (not x && false)
no_more true = refl
no_more false = refl

pinned_assigned : (b to : ℕ) (f : Fact) → is_pinned b (assigning (Some to) f) ≡ (not (b == to) && is_pinned b f)
pinned_assigned b to unlooked = no_more (b == to)
pinned_assigned b to (looked base stale lacked) = by_bool (λ x. (x && (not (stale || (base == to)) && not lacked)) ≡ (not (b == to) && (x && (not stale && not lacked)))) (base == b)
    (λ e. let same : base ≡ b = eqb-true base b e in rw same (of_assigned true stale lacked (b == to)))
    (λ e. no_more (b == to))

pinned_to : (b : ℕ) (to : Option ℕ) (f : Fact) → is_pinned b (assigning to f) ≡ (not (is_to b to) && is_pinned b f)
pinned_to b None f = refl
pinned_to b (Some to) f = pinned_assigned b to f

pinned_listed : (b : ℕ) (out : Bool) (f : Fact) → is_pinned b (listing out f) ≡ (not out && is_pinned b f)
pinned_listed b out unlooked = no_more out
pinned_listed b out (looked base stale lacked) = of_listed (base == b) stale lacked out

pinned_done : (slot b : ℕ) (a : Act) (f : Fact) → is_pinned b (doing slot a f) ≡ pinned slot b a (is_pinned b f)
pinned_done slot b (set to calc) f = pinned_to b (Some to) f
pinned_done slot b (call c) f = pinned_to b c.to (listing (lacks slot c.slots) f) ∙ ap (λ x. not (is_to b c.to) && x) (pinned_listed b (lacks slot c.slots) f)
pinned_done slot b (step x) f = pinned_to b x.to (listing (lacks_if slot (own_list x)) f) ∙ ap (λ y. not (is_to b x.to) && y) (pinned_listed b (lacks_if slot (own_list x)) f)
pinned_done slot b (look s base) f = by_bool (λ x. is_pinned b (if x then looked base false false else f) ≡ (if x then base == b else is_pinned b f)) (s == slot)
    (λ e. by_bool (λ x. (x && true) ≡ x) (base == b) (λ e. refl) (λ e. refl)) (λ e. refl)
pinned_done slot b (safepoint slots) f = pinned_listed b (lacks slot slots) f
pinned_done slot b (begin_object i) f = refl
pinned_done slot b (end_object i) f = refl

pub pinned_answer : {P : Type 0} (C : Flow P) (slot b : ℕ) (w : List P) → is_pinned b (facts C slot w) ≡ answer_from C (pinned slot b) false w
pinned_answer C slot b w = says (is_pinned b) (pinned slot b) slot false refl (pinned_done slot b) C w

-- ---- no answer is worse than a yes

never : (x y z : Bool) → (if x then y else (z && false)) ≡ true → (v : Bool) → (if x then y else v) ≡ true
never true y z e v = e
never false y true e v = absurd cc
never false y false e v = absurd cc

no_no : (x : Bool) → (x && false) ≡ false
no_no true = refl
no_no false = refl

pub pinned_fair : (slot b : ℕ) → IsFair (pinned slot b)
pinned_fair slot b a e =
    let x = looks_into slot a in
    let y = act_looks b a in
    let l = not (lacks_if slot (list_of a)) in
    let n = not (act_assigns b a) in
    let g : (if x then y else (n && false)) ≡ true = subst (λ u. (if x then y else (n && u)) ≡ true) (no_no l) e in
    never x y n g (n && (l && true))
