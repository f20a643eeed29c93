-- Room that is taken bit by bit.
use Rattle.std.proofs.Common.{◌≡◌, ℕ, ◌+◌, ◌-◌, ◌<◌, ◌≤◌, Bool, true, false, if◌then◌else◌, Some, None, refl, sym, ap, ◌∙◌, arith}
use Rattle.std.specs.Prelude.{nat_le, is_some}
use Rattle.std.proofs.lemmas.Bool.{le-leb, lt-leb, leb-true, leb-false}
use Rattle.code_load.specs.inner.Rooms.{without}

pub has_room : (room n : ℕ) → n ≤ room → without room n ≡ Some (room - n)
has_room room n le = ap (λ (b : Bool). if b then Some (room - n) else None) (le-leb n room le)

pub has_none : (room n : ℕ) → room < n → without room n ≡ None
has_none room n lt = ap (λ (b : Bool). if b then Some (room - n) else None) (lt-leb n room lt)

same_some : (x y : ℕ) → Some x ≡ Some y → x ≡ y
same_some x y e = cc

no_some : {A : Type 0} (x : ℕ) → Some x ≡ None → A
no_some x e = absurd cc

left_by : (room n new : ℕ) (b : Bool) → nat_le n room ≡ b → Some new ≡ (if b then Some (room - n) else None) → (n ≤ room) × (new ≡ room - n)
left_by room n new true e s = (leb-true n room e, same_some new (room - n) s)
left_by room n new false e s = no_some new s

-- what is left
pub left_is : (room n new : ℕ) → Some new ≡ without room n → (n ≤ room) × (new ≡ room - n)
left_is room n new e = left_by room n new (nat_le n room) refl e

more_by : (room n s new : ℕ) (b : Bool) → nat_le s new ≡ b → n ≤ room → new ≡ room - n → without new s ≡ without room (n + s)
more_by room n s new true e le is =
    let k : s ≤ new = leb-true s new e in
    let same : new - s ≡ room - (n + s) = omega (arith, k, le, is) in
    has_room new s k ∙ (ap (λ (x : ℕ). Some x) same ∙ sym (has_room room (n + s) (omega (arith, k, le, is))))
more_by room n s new false e le is =
    let k : new < s = leb-false s new e in
    has_none new s k ∙ sym (has_none room (n + s) (omega (arith, k, le, is)))

-- behind one thing more
pub room_more : (room n s new : ℕ) → Some new ≡ without room n → without new s ≡ without room (n + s)
room_more room n s new e = let p = left_is room n new e in more_by room n s new (nat_le s new) refl p.0 p.1

none_by : (room n s : ℕ) (b : Bool) → nat_le n room ≡ b → None ≡ (if b then Some (room - n) else None) → without room (n + s) ≡ None
none_by room n s true e f = no_some (room - n) (sym f)
none_by room n s false e f = let k : room < n = leb-false n room e in has_none room (n + s) (omega (arith, k))

-- where one thing has no room, it has none with others
pub room_none : (room n s : ℕ) → None ≡ without room n → without room (n + s) ≡ None
room_none room n s e = none_by room n s (nat_le n room) refl e

is_some_if : (b : Bool) (x : ℕ) → is_some (if b then Some x else None) ≡ b
is_some_if true x = refl
is_some_if false x = refl

-- it has room exactly where there is some left
pub is_room : (room n : ℕ) → is_some (without room n) ≡ nat_le n room
is_room room n = is_some_if (nat_le n room) (room - n)
