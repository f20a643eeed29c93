-- An element of a list that is read, and those behind it.
use Rattle.std.proofs.Common.{◌≡◌, ◌<◌, ◌≤◌, ◌+◌, ℕ, List, ◌∷◌, length, drop, get_or, Option, Some, None, refl, sym, ap, ◌∙◌}
use Rattle.std.proofs.lemmas.List.{at_drop_more}
use Rattle.std.proofs.lemmas.Option.{slice_get-get_or, slice_get_past, slice_get_read}
use Rattle.std.specs.List.{slice_get}
use Rattle.std.specs.Option.{option_flatten}
use Rattle.block_store.specs.Runs.{own_at}

pub drop_read : {A : Type 0} (xs : List A) (i : ℕ) (x : A) → i < length xs → x ≡ get_or xs i x → drop i xs ≡ x ∷ drop (i + 1) xs
drop_read xs i x h e = at_drop_more (λ l. l) xs i x h ∙ ap (λ y. y ∷ drop (i + 1) xs) (sym e)

-- what a thread has of its own, where it was made and where it wasn't
pub own_within : {A : Type 0} (all : List (Option A)) (i : ℕ) (own : Option A) → i < length all → own ≡ get_or all i own → own_at all i ≡ own
own_within all i own h e = ap option_flatten (slice_get-get_or all i own h) ∙ sym e

pub own_past : {A : Type 0} (all : List (Option A)) (i : ℕ) → length all ≤ i → own_at all i ≡ None
own_past all i h = ap option_flatten (slice_get_past all i h)

-- an element that was looked up, and one that isn't there
pub lookup_some : {A : Type 0} (xs ys : List A) (i : ℕ) (x : A) → i < length xs → x ≡ get_or xs i x → xs ≡ ys → Some x ≡ slice_get ys i
lookup_some xs ys i x h e s = sym (slice_get_read xs (length xs) i x refl h e) ∙ ap (λ l. slice_get l i) s

pub lookup_none : {A : Type 0} (xs ys : List A) (i : ℕ) → length xs ≤ i → xs ≡ ys → None ≡ slice_get ys i
lookup_none xs ys i h s = sym (slice_get_past xs i h) ∙ ap (λ l. slice_get l i) s
