-- Formats: which bytes spell a value, and how a value is read from the front of a list of bytes.
use Rattle.std.specs.Prelude.{◌≡◌, ℕ, zero, suc, ◌+◌, ◌*◌, ◌/◌, ◌%◌, ◌^◌, Bool, true, false, ◌&&◌, ◌==◌, nat_lt, if◌then◌else◌, List, [], ◌∷◌, ◌++◌, length, Option, Some, None, Result, Ok, Err}

-- What reading gives: a value and the bytes behind it, or how many bytes are left where it gives up.
abbrev pub Got : Type 0 → Type 0
Got A = Result (A × List ℕ) ℕ

infixl 10 ◌>>=◌
-- what comes of reading goes on by the second, or gives up as the first
abbrev pub ◌>>=◌ : {A B : Type 0} → Result A ℕ → (A → Result B ℕ) → Result B ℕ
(Ok x) >>= f = f x
(Err n) >>= f = Err n

-- A format of A: which values have a spelling, what it is, how it is read, and a value that has one.
pub record Format (A : Type 0) : Type 1 where
  pub Is : A → Type 0
  pub spell : A → List ℕ
  pub read : List ℕ → Got A
  pub some : A

-- ---- the four ways to make one

-- one byte, of those that pass a test
abbrev pub byte_if : (ℕ → Bool) → List ℕ → Got ℕ
byte_if ok [] = Err 0
byte_if ok (b ∷ rest) = if ok b then Ok (b, rest) else Err (length (b ∷ rest))

-- its format
abbrev pub one_byte : (ok : ℕ → Bool) (some : ℕ) → Format ℕ
one_byte ok some = record { Is = λ b. ok b ≡ true; spell = λ b. b ∷ []; read = byte_if ok; some = some }

-- no bytes
abbrev pub nothing : Format (Unit {0})
nothing = record { Is = λ x. Unit {0}; spell = λ x. []; read = λ bytes. Ok (tt, bytes); some = tt }

-- one part and then another, whose format may depend on the first
abbrev pub with_first : {A : Type 0} {B : A → Type 0} → (a : A) → B a × List ℕ → Got ((a : A) × B a)
with_first a y = Ok ((a, y.0), y.1)

-- a pair of them
abbrev pub behind : {A : Type 0} {B : A → Type 0} → Format A → ((a : A) → Format (B a)) → Format ((a : A) × B a)
behind F G = record {
  Is = λ x. F.Is x.0 × (G x.0).Is x.1;
  spell = λ x. F.spell x.0 ++ (G x.0).spell x.1;
  read = λ bytes. F.read bytes >>= λ x. (G x.0).read x.1 >>= λ y. Ok ((x.0, y.0), y.1);
  some = (F.some, (G F.some).some);
}

-- the same bytes for another type of value
abbrev pub seen : {A B : Type 0} → (A → B) → (B → A) → Format A → Format B
seen make parts F = record {
  Is = λ b. F.Is (parts b) × (make (parts b) ≡ b);
  spell = λ b. F.spell (parts b);
  read = λ bytes. F.read bytes >>= λ x. Ok (make x.0, x.1);
  some = make F.some;
}

-- ---- made of these

infixr 20 ◌▸◌
-- one behind the other, where the second doesn't depend on the first
abbrev pub ◌▸◌ : {A B : Type 0} → Format A → Format B → Format (A × B)
F ▸ G = behind F (λ a. G)

-- any byte
abbrev pub byte : Format ℕ
byte = one_byte (λ b. nat_lt b 256) 0

-- any byte below a number
abbrev pub byte_below : ℕ → Format ℕ
byte_below n = one_byte (λ b. nat_lt b n) 0

-- a byte that is the number of one of these, which is its place among them
abbrev pub at_number : {A : Type 0} → A → List A → ℕ → A
at_number first more zero = first
at_number first [] (suc n) = first
at_number first (second ∷ more) (suc n) = at_number second more n

-- one of these, by its number
abbrev pub one_of : {A : Type 0} (first : A) (more : List A) (number_of : A → ℕ) → Format A
one_of first more number_of = seen (at_number first more) number_of (byte_below (suc (length more)))

-- an unsigned number of so many bytes, little-endian
abbrev pub number : ℕ → Format ℕ
number zero = seen (λ x. 0) (λ n. tt) nothing
number (suc k) = seen (λ x. x.0 + 256 * x.1) (λ n. (n % 256, n / 256)) (byte ▸ number k)

-- a number of four bytes
unfoldable pub u32 : Format ℕ
u32 = number 4

-- a number of eight bytes
unfoldable pub u64 : Format ℕ
u64 = number 8

-- these very bytes
abbrev pub exactly : List ℕ → Format (Unit {0})
exactly [] = nothing
exactly (b ∷ bs) = seen (λ x. tt) (λ x. (b, tt)) (one_byte (λ c. c == b) b ▸ exactly bs)

-- the first of some, or a value in its place, and the others
abbrev pub first_or : {A : Type 0} → A → List A → A × List A
first_or a [] = (a, [])
first_or a (x ∷ xs) = (x, xs)

-- so many of one kind
abbrev pub rows : {A : Type 0} → Format A → ℕ → Format (List A)
rows F zero = seen (λ x. []) (λ xs. tt) nothing
rows F (suc n) = seen (λ x. x.0 ∷ x.1) (first_or F.some) (F ▸ rows F n)

-- their count, and then so many
unfoldable pub list : {A : Type 0} → Format A → Format (List A)
list F = seen (λ x. x.1) (λ xs. (length xs, xs)) (behind u32 (rows F))

-- ---- a byte that says which fields follow

-- what the fields behind a tag make, with the bytes behind them
abbrev pub field_of : {A B : Type 0} {T : A → Type 0} → ((t : A) → T t → B) → (t : A) → T t × List ℕ → Got B
field_of make t y = Ok (make t y.0, y.1)

-- how the fields behind a tag are read
abbrev pub behind_tag : {A B : Type 0} {T : A → Type 0} → ((t : A) → Format (T t)) → ((t : A) → T t → B) → A → List ℕ → Got B
behind_tag fields make t bytes = (fields t).read bytes >>= field_of make t

-- a tag, and the fields that it says
abbrev pub tagged : {A B : Type 0} {T : A → Type 0} → Format A → ((t : A) → Format (T t)) → ((t : A) → T t → B) → (B → (t : A) × T t) → Format B
tagged tag fields make parts = seen (λ x. make x.0 x.1) parts (behind tag fields)

-- ---- all the bytes

-- a value behind which nothing stands, or how many bytes do
abbrev pub ended : {A : Type 0} → A × List ℕ → Result A ℕ
ended x = if length x.1 == 0 then Ok x.0 else Err (length x.1)

-- what reading all the bytes gives
abbrev pub whole : {A : Type 0} → Format A → List ℕ → Result A ℕ
whole F bytes = F.read bytes >>= ended
