-- Locks that wait, and mutexes that are free.
use Rattle.std.proofs.Common.{◌≡◌, ◌≢◌, ℕ, ◌||◌, Bool, false, eqb, List, Option, Some, None, refl, ap, sym, ◌∙◌, arith}
use Rattle.std.specs.Prelude.{is_some}
use Rattle.std.proofs.lemmas.Bool.Decides.{nat_tests}
use Rattle.flat_store.specs.Flat.{HasBytes, bytes_from, first_outside}
use Rattle.flat_store.specs.Word.{number_of}
use Rattle.flat_store.proofs.Firsts.{none_outside}
use Rattle.flat_meaning.specs.Accesses.{waits}
use Rattle.flat_meaning.specs.Actions.{is_free, locked}
use Rattle.flat_meaning.specs.Memory.{Memory}
use Rattle.flat_meaning.specs.Ready.{may_lock}
use Rattle.flat_meaning.specs.Words.{Target}
use Rattle.flat_machine.proofs.Doing.{within_none, if_not}

or_none : (outside : Option ℕ) (b : Bool) → outside ≡ None → (is_some outside || b) ≡ b
or_none None b e = refl
or_none (Some a) b e = absurd cc

module _ (m : Memory) (bytes : List ℕ) (same : bytes ≡ m.storage.bytes) (address : ℕ) (has : HasBytes bytes address 8) (number : ℕ) (is : number ≡ number_of (bytes_from bytes address 8)) where
  there : first_outside m.storage.bytes address 8 ≡ None
  there = ap (λ (all : List ℕ). first_outside all address 8) (sym same) ∙ none_outside bytes address 8 has

  number_is : number ≡ number_of (bytes_from m.storage.bytes address 8)
  number_is = is ∙ ap (λ (all : List ℕ). number_of (bytes_from all address 8)) same

  -- the mutex is free just where its number is 0
  free_is : eqb number 0 ≡ is_free m address
  free_is = ap (λ (n : ℕ). eqb n 0) number_is

  -- where it isn't, a lock waits
  pub locked_waits : (thread : ℕ) (a : Target) → a.address ≡ address → number ≢ 0 → locked thread a m ≡ waits
  locked_waits thread a at held =
      let busy : eqb number 0 ≡ false = grind (arith, nat_tests) in
      rw at (within_none _ (first_outside m.storage.bytes address 8) _ there ∙ if_not (is_free m address) _ _ (sym free_is ∙ busy))

  pub may_lock_is : eqb number 0 ≡ may_lock m address
  may_lock_is = free_is ∙ sym (or_none (first_outside m.storage.bytes address 8) (is_free m address) there)
