-- Laws of a number's bytes.
use Rattle.std.proofs.Common.{◌≡◌, ℕ, zero, suc, ◌+◌, ◌*◌, ◌/◌, ◌%◌, ◌^◌, ◌<◌, List, [], ◌∷◌, length, take, get_or, refl, sym, ◌∙◌, ap, arith}
use Rattle.std.proofs.Math.Nat.{mod-eq_of_lt, suc-add, pow-suc, pow-succ', div-div-eq-div-mul}
use Rattle.std.proofs.Math.Arith.{mod-mul}
use Rattle.std.specs.Int.{byte_at, bytes_low_first}
use Rattle.ak_words.specs.Bytes.{low_bytes, number_of}

-- each element is a byte
abbrev pub AreBytes : List ℕ → Type 0
AreBytes bs = (k : ℕ) → get_or bs k 0 < 256

-- worked rows: the four bytes of -2 as an int, and 300 from its two
row_low_bytes : low_bytes 4 4294967294 ≡ 254 ∷ 255 ∷ 255 ∷ 255 ∷ []
row_low_bytes = refl

row_number_of : number_of (44 ∷ 1 ∷ []) ≡ 300
row_number_of = refl

-- byte i + 1 of a number is byte i of what is left without the lowest
byte_at-suc : (i v : ℕ) → byte_at (suc i) v ≡ byte_at i (v / 256)
byte_at-suc zero v = refl
byte_at-suc (suc i) v = ap (λ q. q % 256) (ap (λ p. v / p) (pow-succ' 256 (suc i)) ∙ sym (div-div-eq-div-mul v 256 (256 ^ suc i)))

bytes_low_first-suc : (i n v : ℕ) → bytes_low_first (suc i) n v ≡ bytes_low_first i n (v / 256)
bytes_low_first-suc i zero v = refl
bytes_low_first-suc i (suc n) v = λ j. byte_at-suc i v j ∷ bytes_low_first-suc (suc i) n v j

-- the lowest byte, and then those of the rest
pub low_bytes-suc : (n v : ℕ) → low_bytes (suc n) v ≡ (v % 256) ∷ low_bytes n (v / 256)
low_bytes-suc n v = ap (λ bs. (v % 256) ∷ bs) (bytes_low_first-suc 0 n v)

pub length-low_bytes : (n v : ℕ) → length (low_bytes n v) ≡ n
length-low_bytes zero v = refl
length-low_bytes (suc n) v = ap length (low_bytes-suc n v) ∙ ap suc (length-low_bytes n (v / 256))

power-positive : (n : ℕ) → 0 < 256 ^ n
power-positive zero = omega arith
power-positive (suc n) = omega (arith, pow-suc 256 n, power-positive n)

-- the bytes stand for the number, as far as they reach
pub number_of-low_bytes : (n v : ℕ) → number_of (low_bytes n v) ≡ v % 256 ^ n
number_of-low_bytes zero v = omega arith
number_of-low_bytes (suc n) v =
    let rest = number_of-low_bytes n (v / 256) in
    let split = mod-mul v {m = 256 ^ n} {c = 256} (power-positive n) (omega arith) in
    ap number_of (low_bytes-suc n v) ∙ omega (arith, rest, split) ∙ ap (λ p. v % p) (sym (pow-suc 256 n))

-- so a number that fits comes back
pub number_of-low_bytes-fits : (n v : ℕ) → v < 256 ^ n → number_of (low_bytes n v) ≡ v
number_of-low_bytes-fits n v fits = number_of-low_bytes n v ∙ mod-eq_of_lt fits

-- a number of so many bytes is below that power of 256
pub number_of-below : (bs : List ℕ) → AreBytes bs → number_of bs < 256 ^ length bs
number_of-below [] bytes = omega arith
number_of-below (b ∷ bs) bytes = rw (pow-suc 256 (length bs)) (next_below b (number_of bs) (256 ^ length bs) (bytes 0) (number_of-below bs (λ k. bytes (suc k))))
  where
    next_below : (b n p : ℕ) → b < 256 → n < p → b + 256 * n < p * 256
    next_below b n p byte below = omega arith

-- bytes are those of the number that they stand for
pub low_bytes-number_of : (bs : List ℕ) → AreBytes bs → low_bytes (length bs) (number_of bs) ≡ bs
low_bytes-number_of [] bytes = refl
low_bytes-number_of (b ∷ bs) bytes =
    let low : (b + 256 * number_of bs) % 256 ≡ b = omega (arith, bytes 0) in
    let high : (b + 256 * number_of bs) / 256 ≡ number_of bs = omega (arith, bytes 0) in
    low_bytes-suc (length bs) (b + 256 * number_of bs) ∙ (λ i. low i ∷ low_bytes (length bs) (high i)) ∙ ap (λ xs. b ∷ xs) (low_bytes-number_of bs (λ k. bytes (suc k)))

-- they are bytes
pub low_bytes-AreBytes : (n v : ℕ) → AreBytes (low_bytes n v)
low_bytes-AreBytes n v k = by n v k
  where
    by : (n v k : ℕ) → get_or (low_bytes n v) k 0 < 256
    by zero v k = omega arith
    by (suc n) v zero = omega arith
    by (suc n) v (suc k) = rw (low_bytes-suc n v) (by n (v / 256) k)

-- the first of them are those of the same number
pub take-low_bytes : (k n v : ℕ) → take k (low_bytes (k + n) v) ≡ low_bytes k v
take-low_bytes zero n v = refl
take-low_bytes (suc k) n v =
    ap (λ m. take (suc k) (low_bytes m v)) (suc-add k n)
    ∙ ap (take (suc k)) (low_bytes-suc (k + n) v)
    ∙ ap (λ bs. (v % 256) ∷ bs) (take-low_bytes k n (v / 256))
    ∙ sym (low_bytes-suc k v)
