-- Bytes that are written one after the other.
use Rattle.std.proofs.Common.{◌≡◌, ℕ, ◌+◌, ◌-◌, ◌/◌, ◌≤◌, ◌<◌, Bool, true, false, ◌&&◌, zero, suc, List, [], ◌∷◌, ◌++◌, length, map, get_or, take, drop, refl, sym, ap, ◌∙◌, subst, append_assoc, arith}
use Rattle.std.specs.Prelude.{sum_by}
use Rattle.std.specs.List.{list_all}
use Rattle.std.proofs.lemmas.Bool.Decides.{nat_tests}
use Rattle.ak_words.specs.Num.{num}
use Rattle.ak_words.specs.Width.{is_width}
use Rattle.ak_words.specs.Wrapped.{bit_pattern}
use Rattle.ak_words.proofs.Bytes.{length-low_bytes}
use Rattle.c_tree.specs.Typed.{Init}
use Rattle.c_tree.specs.Typed as inits
use Rattle.flat_meaning.specs.Image.{Layout, first_bytes, literal_address}
use Rattle.std.proofs.Math.Seq.{take-append_seam}
use Rattle.std.proofs.lemmas.List.{length-take-le, length-append, length-map, length_push, take-append-drop, append-nil, get_or-map, drop_more}
use Rattle.std.proofs.lemmas.List.Sums.{sum_by-drop_more}
use Rattle.std.proofs.lemmas.Slice.{drop-append-drop}
use Rattle.flat_store.specs.Flat.{first_address, with_bytes}

-- with none, they are as they were
pub with_bytes-none : (bytes : List ℕ) (at : ℕ) → with_bytes bytes at [] ≡ bytes
with_bytes-none bytes at =
    let k = at - first_address in
    let none : k + 0 ≡ k = omega arith in
    ap (λ (xs : List ℕ). xs ++ drop (k + 0) bytes) (append-nil (take k bytes)) ∙ ap (λ (n : ℕ). take k bytes ++ drop n bytes) none ∙ take-append-drop k bytes

pub length-with_bytes : (bytes new : List ℕ) (at : ℕ) → at - first_address + length new ≤ length bytes → length (with_bytes bytes at new) ≡ length bytes
length-with_bytes bytes new at fits =
    let k = at - first_address in
    omega (arith, length-append (take k bytes ++ new) (drop (k + length new) bytes), length-append (take k bytes) new, length-take-le k bytes (omega arith), rest_length bytes (k + length new) fits)
  where
    rest_length : (bytes : List ℕ) (n : ℕ) → n ≤ length bytes → n + length (drop n bytes) ≡ length bytes
    rest_length bytes n le = omega (arith, ap length (take-append-drop n bytes), length-append (take n bytes) (drop n bytes), length-take-le n bytes le)

-- and one more behind the others
pub with_bytes-push : (bytes new : List ℕ) (at next x : ℕ) → first_address ≤ at → at - first_address + length new ≤ length bytes → next ≡ at + length new → with_bytes (with_bytes bytes at new) next (x ∷ []) ≡ with_bytes bytes at (new ++ x ∷ [])
with_bytes-push bytes new at next x low fits is =
    let k = at - first_address in
    let m = k + length new in
    let front = take k bytes ++ new in
    let whole = front ++ drop m bytes in
    let long : length front ≡ m = omega (arith, length-append (take k bytes) new, length-take-le k bytes (omega arith)) in
    let here : next - first_address ≡ m = omega arith in
    let taken : take m whole ≡ front = subst (λ (j : ℕ). take j whole ≡ front) long (take-append_seam front (drop m bytes)) in
    let left : drop (m + 1) whole ≡ drop (m + 1) bytes = drop-append-drop m bytes front (m + 1) (omega arith) long in
    let more : m + 1 ≡ k + length (new ++ x ∷ []) = omega (arith, length_push new x) in
    ap (λ (j : ℕ). (take j whole ++ x ∷ []) ++ drop (j + 1) whole) here
    ∙ ap (λ (ys : List ℕ). (ys ++ x ∷ []) ++ drop (m + 1) whole) taken
    ∙ ap (λ (zs : List ℕ). (front ++ x ∷ []) ++ zs) left
    ∙ ap (λ (ys : List ℕ). ys ++ drop (m + 1) bytes) (append_assoc (take k bytes) new (x ∷ []))
    ∙ ap (λ (j : ℕ). (take k bytes ++ (new ++ x ∷ [])) ++ drop j bytes) more

-- ---- plain data

-- one of a list that is another one's view
pub viewed : {A B : Type 0} (view : A → B) (items : List A) (all : List B) (i : ℕ) (a : A) → map view items ≡ all → i < length items → a ≡ get_or items i a → (i < length all) × (get_or all i (view a) ≡ view a)
viewed {A = A} {B = B} view items all i a is below here =
    let long : length (map view items) ≡ length items = length-map items view in
    let same : get_or (map view items) i (view a) ≡ view a = get_or-map view items i a (view a) below ∙ ap view (sym here) in
    (omega (arith, ap (λ (xs : List B). length xs) is, long), ap (λ xs. get_or xs i (view a)) (sym is) ∙ same)

-- the next of them
pub next_of : {B : Type 0} (all : List B) (i : ℕ) (b : B) → (i < length all) × (get_or all i b ≡ b) → drop i all ≡ b ∷ drop (i + 1) all
next_of all i b at = drop_more all i b at.0 ∙ ap (λ y. y ∷ drop (i + 1) all) at.1

-- the bytes that it takes, and those that are behind it
pub next_sum : {B : Type 0} (f : B → ℕ) (all : List B) (i : ℕ) (b : B) → (i < length all) × (get_or all i b ≡ b) → sum_by f (drop i all) ≡ f b + sum_by f (drop (i + 1) all)
next_sum f all i b at = sum_by-drop_more f all i b at.0 ∙ ap (λ y. f y + sum_by f (drop (i + 1) all)) at.1

-- one of a list all of which pass
pub all_at : {A : Type 0} (p : A → Bool) (xs : List A) (i : ℕ) (d : A) → list_all p xs ≡ true → i < length xs → p (get_or xs i d) ≡ true
all_at p [] i d all below = absurd (omega arith)
all_at p (x ∷ xs) zero d all below = elim (p x) as (λ b. (b && list_all p xs) ≡ true → b ≡ true) [ true ↦ λ h. refl | false ↦ λ h. h ] all
all_at p (x ∷ xs) (suc i) d all below = all_at p xs i d (elim (p x) as (λ b. (b && list_all p xs) ≡ true → list_all p xs ≡ true) [ true ↦ λ h. h | false ↦ λ h. absurd cc ] all) (omega arith)

-- the literals lie behind the globals
pub literals_behind : (x : Layout) → literal_address x 0 ≤ literal_address x (length x.literals)
literals_behind x = omega arith

-- what a global begins with is no longer than what it takes
width_small : (bits : ℕ) → is_width bits ≡ true → bits / 8 ≤ 16
width_small bits is = grind (arith, nat_tests)

pub first_few : (x : Layout) (init : Init) → length (first_bytes x init) ≤ 16
first_few x inits.zero_bytes = omega arith
first_few x (inits.number t z) = omega (arith, length-low_bytes (t.bits / 8) (bit_pattern t (num t z).value), width_small t.bits t.known_width)
first_few x (inits.literal_at n) = omega (arith, length-low_bytes 8 (literal_address x n))
