-- The characters of a literal, one behind the other.
use Rattle.std.proofs.Common.{◌≡◌, ℕ, zero, suc, ◌+◌, ◌-◌, ◌<◌, ◌≤◌, List, [], ◌∷◌, ◌++◌, length, take, drop, take_all, Bool, true, false, Ok, Err, None, if◌then◌else◌, refl, sym, ap, ◌∙◌, inl, inr, append_assoc, arith}
use Rattle.std.proofs.lemmas.Bool.{cases_lt}
use Rattle.std.specs.List.{list_any}
use Rattle.std.specs.Result.{result_err}
use Rattle.std.proofs.lemmas.List.{drop-drop, length-drop, drop_all}
use Rattle.c_lex.specs.declared.refusal.Kind.TheVariants as kinds
use Rattle.c_lex.specs.declared.quoted.Character.{Character}
use Rattle.c_lex.specs.declared.quoted.Character.TheVariants as characters
use Rattle.c_lex.specs.declared.quoted.Spelled.{Spelled}
use Rattle.c_lex.specs.Quoted.{character_at, characters_of, is_too_wide, is_unknown, bytes_of, bytes_or_kind, one_char, char_value}

-- bytes that are passed over
characters_passed : (n : ℕ) (bytes : List ℕ) → characters_of n bytes ≡ characters_of 0 (drop n bytes)
characters_passed zero bytes = refl
characters_passed (suc n) [] = refl
characters_passed (suc n) (byte ∷ bytes) = characters_passed n bytes

-- one byte less of what follows the first
pub drop_tail : {X : Type 0} (n : ℕ) (x : X) (xs : List X) → 0 < n → drop (n - 1) xs ≡ drop n (x ∷ xs)
drop_tail zero x xs some = absurd (omega arith)
drop_tail (suc n) x xs some = let e : suc n - 1 ≡ n = omega arith in ap (λ k. drop k xs) e

-- what stands behind a place, as code takes it
pub rest_of : {X : Type 0} (place : ℕ) (xs : List X) → take (length xs - place) (drop place xs) ≡ drop place xs
rest_of place xs = take_all _ _ (omega (arith, length-drop place xs))

-- the first character and the rest
pub characters_first : (bytes : List ℕ) (next : Spelled) → next ≡ character_at bytes → 0 < length bytes → 0 < next.len → characters_of 0 bytes ≡ next.character ∷ characters_of 0 (drop next.len bytes)
characters_first [] next is some long = absurd (omega arith)
characters_first (byte ∷ bytes) next is some long =
    rw (← is) (ap (λ rest. next.character ∷ rest) (characters_passed (next.len - 1) bytes ∙ ap (characters_of 0) (drop_tail next.len byte bytes long)))

-- the same at a place
pub characters_at : (body : List ℕ) (place : ℕ) (next : Spelled) → next ≡ character_at (drop place body) → place < length body → 0 < next.len
    → characters_of 0 (drop place body) ≡ next.character ∷ characters_of 0 (drop (place + next.len) body)
characters_at body place next is lt long =
    characters_first (drop place body) next is (omega (arith, length-drop place body)) long
    ∙ ap (λ rest. next.character ∷ characters_of 0 rest) (drop-drop next.len place body)

-- where no character is at fault, none is too wide and none unknown
no_fault : (wide unknown : Bool) (bytes : List ℕ) → result_err {T = List ℕ} (if wide then Err kinds.NumberTooWide else (if unknown then Err kinds.UnexpectedToken else Ok bytes)) ≡ None → (wide ≡ false) × (unknown ≡ false)
no_fault true unknown bytes none = cc
no_fault false true bytes none = cc
no_fault false false bytes none = (refl, refl)

-- one byte alone is a character constant
pub one_char-whole : (all rest : List Character) (byte : ℕ) → all ≡ characters.Byte byte ∷ rest → rest ≡ [] → one_char (bytes_or_kind all) ≡ Ok (char_value byte)
one_char-whole all rest byte is end = rw (is, end) refl

-- two bytes or more
two_bytes : (wide unknown : Bool) (a b : ℕ) (bytes : List ℕ) → wide ≡ false → unknown ≡ false
    → one_char (if wide then Err kinds.NumberTooWide else (if unknown then Err kinds.UnexpectedToken else Ok (a ∷ b ∷ bytes))) ≡ Err kinds.UnexpectedToken
two_bytes true unknown a b bytes p q = cc
two_bytes false true a b bytes p q = cc
two_bytes false false a b bytes p q = refl

-- and everything else that has no fault is none
pub one_char-other : (all : List Character) → result_err (bytes_or_kind all) ≡ None → ((byte : ℕ) → all ≡ characters.Byte byte ∷ [] → ⊥) → one_char (bytes_or_kind all) ≡ Err kinds.UnexpectedToken
one_char-other [] none other = refl
one_char-other (characters.TooWide ∷ rest) none other = cc
one_char-other (characters.Unknown ∷ rest) none other = let h = no_fault (list_any is_too_wide rest) true (bytes_of rest) none in let h1 = h.1 in cc
one_char-other (characters.Byte a ∷ []) none other = absurd (other a refl)
one_char-other (characters.Byte a ∷ characters.TooWide ∷ rest) none other = cc
one_char-other (characters.Byte a ∷ characters.Unknown ∷ rest) none other = let h = no_fault (list_any is_too_wide rest) true (a ∷ bytes_of rest) none in let h1 = h.1 in cc
one_char-other (characters.Byte a ∷ characters.Byte b ∷ rest) none other =
    let h = no_fault (list_any is_too_wide rest) (list_any is_unknown rest) (a ∷ b ∷ bytes_of rest) none in
    two_bytes (list_any is_too_wide rest) (list_any is_unknown rest) a b (bytes_of rest) h.0 h.1

-- characters that stand there take a byte
pub characters-none : (body : List ℕ) (place : ℕ) → length body ≤ place → characters_of 0 (drop place body) ≡ []
characters-none body place le = rw drop_all refl

-- bytes are a character or more
characters-some : (bytes : List ℕ) → 0 < length bytes → characters_of 0 bytes ≡ [] → ⊥
characters-some [] some none = absurd (omega arith)
characters-some (byte ∷ bytes) some none = cc

-- one character alone takes all bytes
pub characters-single : (body : List ℕ) (first : Spelled) (c : Character) → first ≡ character_at body → 0 < first.len → (0 < length body → first.len ≤ length body)
    → characters_of 0 body ≡ c ∷ [] → (first.len ≡ length body) × (first.character ≡ c)
characters-single [] first c is long within one = absurd cc
characters-single (byte ∷ bytes) first c is long within one =
    let body = byte ∷ bytes in
    let some : 0 < length body = omega arith in
    let both = sym (characters_first body first is some long) ∙ one in
    let none : characters_of 0 (drop first.len body) ≡ [] = cc in
    let head : first.character ≡ c = cc in
    elim (cases_lt first.len (length body)) as (λ _. (first.len ≡ length body) × (first.character ≡ c)) [
      | inl lt ↦ absurd (characters-some (drop first.len body) (omega (arith, length-drop first.len body)) none)
      | inr ge ↦ let le = within some in (omega arith, head)
    ]

-- a byte more of a string
pub bytes_of-push : (items more : List ℕ) (here rest : List Character) (c : Character) (byte : ℕ) → here ≡ c ∷ rest → c ≡ characters.Byte byte → more ≡ items ++ byte ∷ []
    → items ++ bytes_of here ≡ more ++ bytes_of rest
bytes_of-push items more here rest c byte is byte_is pushed = rw (is, byte_is, pushed) (sym (append_assoc items (byte ∷ []) (bytes_of rest)))

-- no byte
pub bytes_of-pass : (items : List ℕ) (here rest : List Character) (c : Character) → here ≡ c ∷ rest → ((byte : ℕ) → c ≡ characters.Byte byte → ⊥) → items ++ bytes_of here ≡ items ++ bytes_of rest
bytes_of-pass items here rest (characters.Byte byte) is none = absurd (none byte refl)
bytes_of-pass items here rest characters.TooWide is none = rw is refl
bytes_of-pass items here rest characters.Unknown is none = rw is refl

-- where there are bytes and no fault, they are the characters' bytes
bytes_are : (wide unknown : Bool) (bytes value : List ℕ) → (if wide then Err kinds.NumberTooWide else (if unknown then Err kinds.UnexpectedToken else Ok bytes)) ≡ Ok value → value ≡ bytes
bytes_are true unknown bytes value is = absurd cc
bytes_are false true bytes value is = absurd cc
bytes_are false false bytes value is = cc

pub bytes_or_kind-Ok : (all : List Character) (value : List ℕ) → bytes_or_kind all ≡ Ok value → value ≡ bytes_of all
bytes_or_kind-Ok all value is = bytes_are (list_any is_too_wide all) (list_any is_unknown all) (bytes_of all) value is
