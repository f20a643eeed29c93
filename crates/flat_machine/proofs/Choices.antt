-- The least id and the lowest place, as the definitions find them.
use Rattle.std.proofs.Common.{◌≡◌, ℕ, ◌+◌, ◌*◌, ◌%◌, ◌<◌, ◌≤◌, Bool, true, false, not, ltb, List, length, get_or, Option, Some, None, refl, ap, arith, Decides}
use Rattle.std.specs.Prelude.{IsSome, IsNone, is_none, nat_le, position}
use Rattle.std.specs.List.{All, list_all, position_or_len}
use Rattle.std.proofs.lemmas.Bool.Decides.{nat_tests, Decides-and, Decides-or, Decides-by_and, Decides-like}
use Rattle.std.proofs.lemmas.List.Sums.{position_or_len_is}
use Rattle.handle_table.specs.Table.{IsFull, IsLeastFree, address_of}
use Rattle.flat_store.proofs.Firsts.{find-first, find-none}
use Rattle.sub_heaps.specs.declared.objects.Object.{Object}
use Rattle.sub_heaps.specs.ByPlace.{end_of}
use Rattle.sub_heaps.specs.SubHeaps.{SubHeaps, FitsAt, IsApartFrom, IsLowestFit}
use Rattle.flat_machine.specs.Choices.{is_apart, fits_at, least_free, lowest_fit}

-- ---- tests

Decides-le : (a b : ℕ) → Decides (nat_le a b) (a ≤ b)
Decides-le a b = grind (arith, nat_tests)

-- a test that fails, since what it decides does not hold
fails : {P : Type 0} (r : Bool) → Decides r P → ¬ P → r ≡ false
fails true d absent = absurd (absent (d.0 refl))
fails false d absent = refl

-- ---- ids

-- a number that some test finds first
pub position_first : (p : Option ℕ → Bool) (table : List (Option ℕ)) (id : ℕ) → id < length table → p (get_or table id None) ≡ true → ((k : ℕ) → k < id → p (get_or table k None) ≡ false) → position p table ≡ Some id
position_first p table id within passes before =
    let e : position_or_len p table ≡ id = position_or_len_is p table id None (omega arith) before (λ _. passes) in
    let here : ltb id (length table) ≡ true = grind (arith, nat_tests) in
    rw (e, here) refl

pub position_none : (p : Option ℕ → Bool) (table : List (Option ℕ)) → ((k : ℕ) → k < length table → p (get_or table k None) ≡ false) → position p table ≡ None
position_none p table none =
    let e : position_or_len p table ≡ length table = position_or_len_is p table (length table) None (omega arith) none (λ below. absurd (omega arith)) in
    let past : ltb (length table) (length table) ≡ false = grind (arith, nat_tests) in
    rw (e, past) refl

taken : (o : Option ℕ) → ¬ IsNone o → is_none o ≡ false
taken None absent = absurd (absent refl)
taken (Some a) absent = refl

not_free : (o : Option ℕ) → IsSome o → is_none o ≡ false
not_free None some = absurd cc
not_free (Some a) some = refl

pub least_free_is : (table : List (Option ℕ)) (id : ℕ) → IsLeastFree table id → least_free table ≡ Some id
least_free_is table id h =
    position_first is_none table id h.free.0 (ap not h.free.1) (λ k below. taken (address_of table k) (λ none. absurd (omega (arith, h.least k (omega (arith, h.free.0), none)))))

pub none_free : (table : List (Option ℕ)) → IsFull table → least_free table ≡ None
none_free table full = position_none is_none table (λ k below. not_free (address_of table k) (full k below))

-- ---- places

Decides-apart : (bytes at : ℕ) (o : Object) → Decides (is_apart bytes at o) (IsApartFrom bytes at o)
Decides-apart bytes at o = Decides-or _ _ (Decides-le (end_of o) at) (Decides-le (at + bytes) o.at)

Decides-clear : (bytes at : ℕ) (os : List Object) → Decides (list_all (is_apart bytes at) os) (All (IsApartFrom bytes at) os)
Decides-clear bytes at os =
    Decides-by_and (is_apart bytes at) (IsApartFrom bytes at) (list_all (is_apart bytes at)) (Decides-apart bytes at) refl (λ _ _. refl) os

module _ (h : SubHeaps) (bytes : ℕ) where
  pub Decides-fits : (at : ℕ) → at < h.count * h.size → Decides (fits_at h bytes at) (FitsAt h bytes at)
  Decides-fits at within =
      Decides-like _ (λ both. record { inside = (within, both.0); clear = both.1 }) (λ f. (f.inside.1, f.clear))
      (Decides-and _ _ (Decides-le (at % h.size + bytes) h.size) (Decides-clear bytes at h.objects))

  pub lowest_fit_is : (at : ℕ) → IsLowestFit h bytes at → lowest_fit h bytes ≡ Some at
  lowest_fit_is at l =
      let within : at < h.count * h.size = l.fits.inside.0 in
      find-first (fits_at h bytes) 0 (h.count * h.size) at (omega arith) (omega arith) ((Decides-fits at within).1 l.fits)
      (λ j low below. fails _ (Decides-fits j (omega arith)) (λ f. absurd (omega (arith, l.lowest j f))))

  pub none_fits : ((at : ℕ) → ¬ FitsAt h bytes at) → lowest_fit h bytes ≡ None
  none_fits absent =
      find-none (fits_at h bytes) 0 (h.count * h.size) (λ j low below. fails _ (Decides-fits j (omega arith)) (absent j))
