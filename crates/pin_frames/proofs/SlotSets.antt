-- Registers and their slots, and the numbers in sets of slots.
use Rattle.std.proofs.Common.{◌≡◌, ◌≢◌, ◌<◌, ◌≤◌, ◌+◌, ◌-◌, ◌*◌, ◌/◌, ◌%◌, ◌^◌, nat_eq, ℕ, zero, suc, List, [], ◌∷◌, ◌++◌, length, get_or, Bool, true, false, if◌then◌else◌, append_assoc, inl, inr, refl, sym, ap, subst, ◌∙◌, arith}
use Rattle.std.proofs.lemmas.Bool.{eq-eqb, ne_eqb, cases_lt}
use Rattle.std.proofs.lemmas.Nat.Bits.{bit_at_above}
use Rattle.std.proofs.lemmas.Nat.{pow_pos}
use Rattle.std.proofs.Math.Nat.{mod-lt, mod-add-div}
use Rattle.std.specs.Int.{bit_at}
use Rattle.pin_flow.specs.Slots.{slot_in, IsIn}
use Rattle.pin_flow.proofs.Bases.{slot_known}
use Rattle.mark_sets.specs.Words.{has}
use Rattle.mark_sets.specs.Homes.{AreOnce, Tells}
use Rattle.pin_frames.specs.inner.Together.{numbers, slots_for}
use Rattle.pin_frames.proofs.Kept.{slots_same}

-- ---- the numbers in a set

in_at : (bs : List ℕ) (k : ℕ) → k < length bs → IsIn bs (get_or bs k 0)
in_at [] k h = absurd (omega arith)
in_at (c ∷ rest) zero h = inl refl
in_at (c ∷ rest) (suc k) h = inr (in_at rest k (omega arith))

slot_at : (bs : List ℕ) → AreOnce bs → (k : ℕ) → k < length bs → slot_in bs (get_or bs k 0) ≡ k
slot_at [] o k h = absurd (omega arith)
slot_at (c ∷ rest) o zero h = ap (λ t. if t then 0 else suc (slot_in rest c)) (eq-eqb c c refl)
slot_at (c ∷ rest) o (suc k) h =
    let b = get_or rest k 0 in
    let i : IsIn rest b = in_at rest k (omega arith) in
    let ne : b ≢ c = λ e. o.0 (subst (λ y. IsIn rest y) e i) in
    ap (λ t. if t then 0 else suc (slot_in rest b)) (ne_eqb b c ne) ∙ ap suc (slot_at rest o.1 k (omega arith))

for_numbers : (s : ℕ → ℕ) (g : ℕ → Bool) (todo : List ℕ) (i : ℕ) → ((k : ℕ) → k < length todo → s (get_or todo k 0) ≡ i + k) → slots_for s todo (λ b. g (s b)) ≡ numbers g i (length todo)
for_numbers s g [] i h = refl
for_numbers s g (b ∷ todo) i h =
    let e : s b ≡ i = (let w = h 0 (omega arith) in omega (arith, w)) in
    let r = for_numbers s g todo (suc i) (λ k lt. let w = h (suc k) (omega arith) in omega (arith, w)) in
    λ j. if g (e j) then e j ∷ r j else r j

-- the slots of registers that stand once each, of those in a set, are the numbers in it
pub numbers_are : (bs : List ℕ) (set : List ℕ) (used : ℕ → ℕ → Bool) → AreOnce bs → Tells bs set used → numbers (has set) 0 (length bs) ≡ slots_for (slot_in bs) bs (λ b. used (slot_in bs b) b)
numbers_are bs set used o t =
    sym (for_numbers (slot_in bs) (has set) bs 0 (λ k lt. slot_at bs o k lt ∙ (let z : k ≡ 0 + k = omega arith in z)))
    ∙ slots_same (slot_in bs) (λ b. has set (slot_in bs b)) (λ b. used (slot_in bs b) b) bs (λ b j. t b (slot_in bs b) (slot_known bs b j))

-- one number less is left
pub numbers_step : (f : ℕ → Bool) (i n : ℕ) → i < n → numbers f i (n - i) ≡ (if f i then i ∷ numbers f (i + 1) (n - (i + 1)) else numbers f (i + 1) (n - (i + 1)))
numbers_step f i n lt =
    let e : n - i ≡ suc (n - (i + 1)) = omega arith in
    let s : suc i ≡ i + 1 = omega arith in
    ap (numbers f i) e ∙ (λ j. if f i then i ∷ numbers f (s j) (n - (i + 1)) else numbers f (s j) (n - (i + 1)))

pub number_in : (f : ℕ → Bool) (i n : ℕ) (y : Bool) (out out' all : List ℕ) → i < n → y ≡ f i → y ≡ true → out' ≡ out ++ (i ∷ []) → out ++ numbers f i (n - i) ≡ all → out' ++ numbers f (i + 1) (n - (i + 1)) ≡ all
number_in f i n y out out' all lt e t o inv =
    let r = numbers f (i + 1) (n - (i + 1)) in
    let here : numbers f i (n - i) ≡ i ∷ r = numbers_step f i n lt ∙ ap (λ b. if b then i ∷ r else r) (sym e ∙ t) in
    ap (λ l. l ++ r) o ∙ (append_assoc out (i ∷ []) r ∙ (ap (λ l. out ++ l) (sym here) ∙ inv))

pub number_out : (f : ℕ → Bool) (i n : ℕ) (y : Bool) (out all : List ℕ) → i < n → y ≡ f i → y ≡ false → out ++ numbers f i (n - i) ≡ all → out ++ numbers f (i + 1) (n - (i + 1)) ≡ all
number_out f i n y out all lt e t inv =
    let r = numbers f (i + 1) (n - (i + 1)) in
    let here : numbers f i (n - i) ≡ r = numbers_step f i n lt ∙ ap (λ b. if b then i ∷ r else r) (sym e ∙ t) in
    ap (λ l. out ++ l) (sym here) ∙ inv

-- numbers that aren't in it are passed over
skipped : (f : ℕ → Bool) (n d i : ℕ) → ((j : ℕ) → i ≤ j → j < i + d → f j ≡ false) → numbers f i (n - i) ≡ numbers f (i + d) (n - (i + d))
skipped f n zero i h = let e : i ≡ i + 0 = omega arith in ap (λ k. numbers f k (n - k)) e
skipped f n (suc d) i h = elim (cases_lt i n) [
  | inl lt ↦
      (let r = numbers f (i + 1) (n - (i + 1)) in
      let here : f i ≡ false = h i (omega arith) (omega arith) in
      let e : (i + 1) + d ≡ i + suc d = omega arith in
      numbers_step f i n lt
      ∙ (ap (λ b. if b then i ∷ r else r) here ∙ (skipped f n d (i + 1) (λ j a b. h j (omega arith) (omega arith)) ∙ ap (λ k. numbers f k (n - k)) e)))
  | inr ge ↦
      (let a : n - i ≡ 0 = omega arith in
      let b : n - (i + suc d) ≡ 0 = omega arith in
      ap (numbers f i) a ∙ sym (ap (numbers f (i + suc d)) b))
]

pub pass_over : (f : ℕ → Bool) (n i k : ℕ) (out all : List ℕ) → i ≤ k → ((j : ℕ) → i ≤ j → j < k → f j ≡ false) → out ++ numbers f i (n - i) ≡ all → out ++ numbers f k (n - k) ≡ all
pass_over f n i k out all le h inv =
    let e : i + (k - i) ≡ k = omega arith in
    ap (λ m. out ++ numbers f m (n - m)) (sym e) ∙ (ap (λ l. out ++ l) (sym (skipped f n (k - i) i (λ j a b. h j a (omega arith)))) ∙ inv)

-- from its number on a word has no more bits
pub rest_empty : (set : List ℕ) (i w : ℕ) → w ≡ get_or set (i / 64) 0 → w / 2 ^ (i % 64) ≡ 0 → (j : ℕ) → i ≤ j → j < (i / 64 + 1) * 64 → has set j ≡ false
unfolding has
rest_empty set i w e z j le lt =
    let same : j / 64 ≡ i / 64 = omega arith in
    let later : i % 64 ≤ j % 64 = omega arith in
    let low : w < 2 ^ (i % 64) = below w (2 ^ (i % 64)) (pow_pos (i % 64)) z in
    ap (λ k. nat_eq (bit_at (get_or set k 0) (j % 64)) 1) same ∙ (ap (λ x. nat_eq (bit_at x (j % 64)) 1) (sym e) ∙ ap (λ x. nat_eq x 1) (bit_at_above w (i % 64) (j % 64) low later))
  where
    below : (w p : ℕ) → 0 < p → w / p ≡ 0 → w < p
    below w p pos q =
        let m : w % p < p = mod-lt w pos in
        let e : w % p + p * (w / p) ≡ w = mod-add-div w p in
        let z : p * (w / p) ≡ p * 0 = ap (λ x. p * x) q in
        omega (arith, m, e, z)
