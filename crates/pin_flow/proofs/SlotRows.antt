-- Slots, as the program finds them.
use Rattle.std.proofs.lemmas.List.{drop_all}
use Rattle.std.proofs.Common.{◌≡◌, ℕ, ◌+◌, ◌≤◌, length, drop, List, ◌∷◌, Option, Some, None, true, false, ◌==◌, refl, sym, ap, ◌∙◌, arith}
use Rattle.pin_flow.specs.Slots.{slot_if, one_more}

-- so many numbers on
abbrev pub slot_from : ℕ → Option ℕ → Option ℕ
slot_from n None = None
slot_from n (Some s) = Some (n + s)

from_zero : (o : Option ℕ) → o ≡ slot_from 0 o
from_zero None = refl
from_zero (Some s) = ap Some (omega arith)

from_more : (n : ℕ) (o : Option ℕ) → slot_from n (one_more o) ≡ slot_from (n + 1) o
from_more n None = refl
from_more n (Some s) = ap Some (omega arith)

pub slot_start : (bases : List ℕ) (b : ℕ) → slot_if bases b ≡ slot_from 0 (slot_if (drop 0 bases) b)
slot_start bases b = from_zero (slot_if bases b)

pub slot_step : (bases : List ℕ) (i b c n : ℕ) (all : Option ℕ) → drop i bases ≡ c ∷ drop (i + 1) bases → (b == c) ≡ false → all ≡ slot_from n (slot_if (drop i bases) b) → all ≡ slot_from (n + 1) (slot_if (drop (i + 1) bases) b)
slot_step bases i b c n all split ne e = e ∙ (ap (λ l. slot_from n (slot_if l b)) split ∙ (rw ne (from_more n (slot_if (drop (i + 1) bases) b))))

pub slot_here : (bases : List ℕ) (i b c n : ℕ) (all : Option ℕ) → drop i bases ≡ c ∷ drop (i + 1) bases → (b == c) ≡ true → all ≡ slot_from n (slot_if (drop i bases) b) → Some n ≡ all
slot_here bases i b c n all split eq e = sym (e ∙ (ap (λ l. slot_from n (slot_if l b)) split ∙ (rw eq (ap Some (omega arith)))))

pub slot_none : (bases : List ℕ) (i b n : ℕ) (all : Option ℕ) → length bases ≤ i → all ≡ slot_from n (slot_if (drop i bases) b) → None ≡ all
slot_none bases i b n all le e = sym (e ∙ ap (λ l. slot_from n (slot_if l b)) (drop_all i bases le))
