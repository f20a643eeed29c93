-- What a path says of a slot, as the marks' answers.
use Rattle.std.proofs.Common.{◌≡◌, ℕ, List, Option, Some, None, Bool, true, false, ◌==◌, ◌||◌, if◌then◌else◌, refl, ◌∙◌}
use Rattle.struct_ir.specs.Nodes.{Act, set, call, step, look, safepoint, begin_object, end_object, own_list}
use Rattle.struct_ir.specs.Flow.{Flow}
use Rattle.struct_ir.specs.Pins.{Fact, unlooked, looked, lacks, lacks_if, assigning, listing, doing, facts}
use Rattle.pin_flow.specs.Marks.{IsFair, answer_from}
use Rattle.pin_flow.specs.Looks.{act_looks, looks_into}
use Rattle.pin_flow.specs.Held.{filled, filled_for}
use Rattle.pin_flow.proofs.Strip.{by_bool}
use Rattle.pin_flow.proofs.Pinned.{says}

-- there is no Look, or the last one was of b
abbrev pub suits : ℕ → Fact → Bool
suits b unlooked = true
suits b (looked base stale lacked) = base == b

-- there is a Look
abbrev pub is_looked : Fact → Bool
is_looked unlooked = false
is_looked (looked base stale lacked) = true

-- ---- the last Look was of b, if there is one

suits_assigned : (b : ℕ) (to : Option ℕ) (f : Fact) → suits b (assigning to f) ≡ suits b f
suits_assigned b None f = refl
suits_assigned b (Some to) unlooked = refl
suits_assigned b (Some to) (looked base stale lacked) = refl

suits_listed : (b : ℕ) (out : Bool) (f : Fact) → suits b (listing out f) ≡ suits b f
suits_listed b out unlooked = refl
suits_listed b out (looked base stale lacked) = refl

suits_done : (slot b : ℕ) (a : Act) (f : Fact) → suits b (doing slot a f) ≡ filled_for slot b a (suits b f)
suits_done slot b (set to calc) f = suits_assigned b (Some to) f
suits_done slot b (call c) f = suits_assigned b c.to (listing (lacks slot c.slots) f) ∙ suits_listed b (lacks slot c.slots) f
suits_done slot b (step x) f = suits_assigned b x.to (listing (lacks_if slot (own_list x)) f) ∙ suits_listed b (lacks_if slot (own_list x)) f
suits_done slot b (look s base) f = by_bool (λ x. suits b (if x then looked base false false else f) ≡ (if x then base == b else suits b f)) (s == slot) (λ e. refl) (λ e. refl)
suits_done slot b (safepoint slots) f = suits_listed b (lacks slot slots) f
suits_done slot b (begin_object i) f = refl
suits_done slot b (end_object i) f = refl

pub suits_answer : {P : Type 0} (C : Flow P) (slot b : ℕ) (w : List P) → suits b (facts C slot w) ≡ answer_from C (filled_for slot b) true w
suits_answer C slot b w = says (suits b) (filled_for slot b) slot true refl (suits_done slot b) C w

-- ---- there is a Look

looked_assigned : (to : Option ℕ) (f : Fact) → is_looked (assigning to f) ≡ is_looked f
looked_assigned None f = refl
looked_assigned (Some to) unlooked = refl
looked_assigned (Some to) (looked base stale lacked) = refl

looked_listed : (out : Bool) (f : Fact) → is_looked (listing out f) ≡ is_looked f
looked_listed out unlooked = refl
looked_listed out (looked base stale lacked) = refl

looked_done : (slot : ℕ) (a : Act) (f : Fact) → is_looked (doing slot a f) ≡ filled slot a (is_looked f)
looked_done slot (set to calc) f = looked_assigned (Some to) f
looked_done slot (call c) f = looked_assigned c.to (listing (lacks slot c.slots) f) ∙ looked_listed (lacks slot c.slots) f
looked_done slot (step x) f = looked_assigned x.to (listing (lacks_if slot (own_list x)) f) ∙ looked_listed (lacks_if slot (own_list x)) f
looked_done slot (look s base) f = by_bool (λ x. is_looked (if x then looked base false false else f) ≡ (x || is_looked f)) (s == slot) (λ e. refl) (λ e. refl)
looked_done slot (safepoint slots) f = looked_listed (lacks slot slots) f
looked_done slot (begin_object i) f = refl
looked_done slot (end_object i) f = refl

pub looked_answer : {P : Type 0} (C : Flow P) (slot : ℕ) (w : List P) → is_looked (facts C slot w) ≡ answer_from C (filled slot) false w
looked_answer C slot w = says is_looked (filled slot) slot false refl (looked_done slot) C w

-- ---- no answer is worse than a yes

same_fair : (x y : Bool) → (if x then y else false) ≡ true → (if x then y else true) ≡ true
same_fair true y e = e
same_fair false y e = refl

pub filled_for_fair : (slot b : ℕ) → IsFair (filled_for slot b)
filled_for_fair slot b a e = same_fair (looks_into slot a) (act_looks b a) e

or_fair : (x : Bool) → (x || false) ≡ true → (x || true) ≡ true
or_fair true e = refl
or_fair false e = refl

pub filled_fair : (slot : ℕ) → IsFair (filled slot)
filled_fair slot a e = or_fair (looks_into slot a) e
