-- The formats that are made of the four ways keep the laws.
use Rattle.std.proofs.Common.{◌≡◌, ℕ, zero, suc, ◌+◌, ◌*◌, ◌/◌, ◌%◌, ◌^◌, ◌<◌, ◌≤◌, Bool, true, false, cond, List, [], ◌∷◌, ◌++◌, length, Result, Ok, Err, refl, sym, ap, subst, ◌∙◌, append_assoc, arith, ltb, eqb}
use Rattle.std.proofs.lemmas.Bool.{ltb-true, lt-ltb, eqb-true, eq-eqb}
use Rattle.formats.specs.Formats.{Got, ◌>>=◌, Format, byte_if, one_byte, nothing, behind, seen, ◌▸◌, byte, byte_below, number, u32, u64, exactly, at_number, one_of, first_or, rows, list}
use Rattle.formats.specs.Laws.{Begins, Takes, Stops, SoundAt, Lawful}
use Rattle.formats.proofs.Ways.{one_byte_lawful, nothing_lawful, behind_lawful, seen_lawful}

pub byte_lawful : Lawful byte
byte_lawful = one_byte_lawful (λ b. ltb b 256) 0 refl

pub below_lawful : (n : ℕ) → 0 < n → Lawful (byte_below n)
below_lawful n h = one_byte_lawful (λ b. ltb b n) 0 (lt-ltb 0 n h)

pub both_lawful : {A B : Type 0} (F : Format A) (G : Format B) → Lawful F → Lawful G → Lawful (F ▸ G)
both_lawful {B = B} F G f g = behind_lawful {B = λ a. B} F (λ a. G) f (λ a is. g)

-- each stands at its own number, of which the first one's is n
abbrev pub AreNumbered : {A : Type 0} → (A → ℕ) → (n : ℕ) → A → List A → Type 0
AreNumbered number_of n first [] = number_of first ≡ n
AreNumbered number_of n first (second ∷ more) = (number_of first ≡ n) × AreNumbered number_of (suc n) second more

at_its_number : {A : Type 0} (number_of : A → ℕ) (n : ℕ) (first : A) (more : List A) → AreNumbered number_of n first more → (k : ℕ) → k < suc (length more) → number_of (at_number first more k) ≡ n + k
at_its_number number_of n first [] h zero lt = h ∙ omega arith
at_its_number number_of n first [] h (suc k) lt = absurd (omega arith)
at_its_number number_of n first (second ∷ more) h zero lt = h.0 ∙ omega arith
at_its_number number_of n first (second ∷ more) h (suc k) lt = at_its_number number_of (suc n) second more h.1 k (omega arith) ∙ omega arith

pub one_of_lawful : {A : Type 0} (first : A) (more : List A) (number_of : A → ℕ) → AreNumbered number_of 0 first more → Lawful (one_of first more number_of)
one_of_lawful first more number_of h =
    seen_lawful (at_number first more) number_of (byte_below (suc (length more))) (below_lawful (suc (length more)) (omega arith))
    (λ k is. at_its_number number_of 0 first more h k (ltb-true k (suc (length more)) is) ∙ omega arith)

split_number : (b n : ℕ) → ltb b 256 ≡ true → ((b + 256 * n) % 256 ≡ b) × ((b + 256 * n) / 256 ≡ n)
split_number b n h = let lt : b < 256 = ltb-true b 256 h in (omega arith, omega arith)

pub number_lawful : (k : ℕ) → Lawful (number k)
number_lawful zero = seen_lawful (λ x. 0) (λ n. tt) nothing nothing_lawful (λ a is. refl)
number_lawful (suc k) =
    seen_lawful (λ (x : ℕ × ℕ). x.0 + 256 * x.1) (λ n. (n % 256, n / 256)) (byte ▸ number k) (both_lawful byte (number k) byte_lawful (number_lawful k))
    (λ a is. let s = split_number a.0 a.1 is.0 in λ i. (s.0 i, s.1 i))

pub exactly_lawful : (bs : List ℕ) → Lawful (exactly bs)
exactly_lawful [] = nothing_lawful
exactly_lawful (b ∷ bs) =
    seen_lawful (λ (x : ℕ × Unit {0}). tt) (λ x. (b, tt)) (one_byte (λ c. eqb c b) b ▸ exactly bs)
    (both_lawful (one_byte (λ c. eqb c b) b) (exactly bs) (one_byte_lawful (λ c. eqb c b) b (eq-eqb b b refl)) (exactly_lawful bs))
    (λ a is. let e = eqb-true a.0 b is.0 in λ i. (sym e i, tt))

pub rows_lawful : {A : Type 0} (F : Format A) → Lawful F → (n : ℕ) → Lawful (rows F n)
rows_lawful F f zero = seen_lawful (λ x. []) (λ xs. tt) nothing nothing_lawful (λ a is. refl)
rows_lawful {A = A} F f (suc n) =
    seen_lawful (λ (x : A × List A). x.0 ∷ x.1) (first_or F.some) (F ▸ rows F n) (both_lawful F (rows F n) f (rows_lawful F f n)) (λ a is. refl)

pub rows_count : {A : Type 0} (F : Format A) (n : ℕ) (xs : List A) → (rows F n).Is xs → length xs ≡ n
rows_count F zero xs is = ap length (sym is.1)
rows_count F (suc n) xs is = ap length (sym is.1) ∙ ap suc (rows_count F n (first_or F.some xs).1 is.0.1)

pub u32_lawful : Lawful u32
unfolding u32
u32_lawful = number_lawful 4

pub u64_lawful : Lawful u64
unfolding u64
u64_lawful = number_lawful 8

pub list_lawful : {A : Type 0} (F : Format A) → Lawful F → Lawful (list F)
unfolding list
list_lawful {A = A} F f =
    seen_lawful (λ (x : ℕ × List A). x.1) (λ xs. (length xs, xs)) (behind u32 (rows F)) (behind_lawful u32 (rows F) u32_lawful (λ n is. rows_lawful F f n))
    (λ a is. let e = rows_count F a.0 a.1 is.1 in λ i. (e i, a.1))

-- ---- which numbers are spelled

pub number_fits : (k n : ℕ) → n < 256 ^ k → (number k).Is n
number_fits zero n h = (tt, omega arith)
number_fits (suc k) n h = ((lt-ltb (n % 256) 256 (omega arith), number_fits k (n / 256) (omega arith)), omega arith)

pub number_below : (k n : ℕ) → (number k).Is n → n < 256 ^ k
number_below zero n is = omega (arith, is.1)
number_below (suc k) n is = let below : n / 256 < 256 ^ k = number_below k (n / 256) is.0.1 in omega arith
