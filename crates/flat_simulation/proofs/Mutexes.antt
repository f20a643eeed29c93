-- Locks and unlocks that break no rule, over named blocks and over bytes.
use Rattle.std.proofs.Common.{◌≡◌, ℕ, ◌+◌, ◌≤◌, Bool, true, false, ◌==◌, List, length, map, Option, Some, None, Result, Ok, Err, refl, sym, ap, subst, ◌∙◌, ◌⊎◌, inl, inr, arith}
use Rattle.std.specs.Prelude.{if◌then◌else◌}
use Rattle.std.specs.Option.{ok_or}
use Rattle.std.proofs.lemmas.List.{length-map}
use Rattle.std.proofs.lemmas.Option.{same_Some}
use Rattle.ak_words.specs.declared.rule.Rule.{Rule}
use Rattle.ak_words.specs.declared.rule.Rule.TheVariants.{C4, C12, C13, C16}
use Rattle.ak_words.specs.Bytes as bytes
use Rattle.ak_words.specs.Bytes.{low_bytes}
use Rattle.ak_words.proofs.Bytes.{length-low_bytes}
use Rattle.block_store.specs.declared.values.Cell.TheVariants.{Byte}
use Rattle.block_store.specs.declared.values.Ptr.{Ptr}
use Rattle.block_store.specs.Blocks.{Blocks, Range, spot_at, cells_at, is_literal}
use Rattle.block_store.specs.Cells.{has_unknown, number_of, read_number}
use Rattle.block_store.specs.Mutexes as source
use Rattle.block_store.specs.Mutexes.{Mutex, with_number, mutex_in, mutex_at, renumbered, lock_by, unlock_by}
use Rattle.flat_store.specs.Flat.{bytes_from, first_outside}
use Rattle.ak_trace.specs.declared.endings.TrapKind.TheVariants as kinds
use Rattle.flat_meaning.specs.Words.{Target}
use Rattle.flat_meaning.specs.Memory.{Memory, written}
use Rattle.flat_meaning.specs.Accesses.{went, waits, within}
use Rattle.flat_meaning.specs.Actions as words
use Rattle.flat_meaning.specs.Actions.{is_free}
use Rattle.flat_meaning.specs.Names.{Name}
use Rattle.flat_simulation.specs.inner.World.{BlocksStand, GoesTo}
use Rattle.flat_simulation.proofs.Cells.{bytes_stand, number_stands}
use Rattle.flat_simulation.proofs.Memory.{row_read}
use Rattle.flat_simulation.proofs.Pointers.{if_ok}
use Rattle.flat_simulation.proofs.Accesses.{found, reaches, there_at, IsWritten, write_stands}

-- ---- a mutex that was found

was_number : (b : Bool) (o : Option ℕ) (n : ℕ) → (if b then Err C4 else ok_or o C16) ≡ Ok n → o ≡ Some n
was_number true o n e = absurd cc
was_number false (Some k) n e = let is : k ≡ n = cc in ap Some is
was_number false None n e = absurd cc

numbered : (s : Range) (r : Result ℕ Rule) (mu : Mutex) → with_number s r ≡ Ok mu → (s ≡ mu.spot) × (r ≡ Ok mu.number)
numbered s (Ok n) mu e = let is : (record { spot = s; number = n }) ≡ mu = cc in (ap (λ (x : Mutex). x.spot) is, ap (λ (x : Mutex). Ok x.number) is)
numbered s (Err rule) mu e = absurd cc

unless_literal : {A : Type 0} (b : Bool) (r : Result A Rule) (x : A) → (if b then Err C12 else r) ≡ Ok x → r ≡ Ok x
unless_literal true r x e = absurd cc
unless_literal false r x e = e

-- its spot, and its number
pub mutex_there : (r : Result Range Rule) (mu : Mutex) → mutex_in r ≡ Ok mu → (r ≡ Ok mu.spot) × (number_of (cells_at 8 mu.spot) ≡ Some mu.number)
mutex_there (Ok s) mu e =
    let n = numbered s (read_number (cells_at 8 s)) mu (unless_literal (is_literal s.block.kind) _ mu e) in
    (ap Ok n.0, ap (λ x. number_of (cells_at 8 x)) (sym n.0) ∙ was_number (has_unknown (cells_at 8 s)) (number_of (cells_at 8 s)) mu.number n.1)
mutex_there (Err rule) mu e = absurd cc

module _ (names : List Name) (blocks : Blocks) (m : Memory) (stand : BlocksStand names blocks m.storage) (p : Ptr) (a : Target) (goes : GoesTo names blocks m.storage p a.address) where
  -- what both see of it
  pub record SeesMutex (mu : Mutex) : Type 0 where
    pub there : first_outside m.storage.bytes a.address 8 ≡ None
    pub free : is_free m a.address ≡ (mu.number == 0)
    pub renumbers : (n : ℕ) → IsWritten names blocks m stand (renumbered blocks mu n) a.address (low_bytes 8 n)

  pub sees_mutex : (mu : Mutex) → mutex_at blocks p ≡ Ok mu → SeesMutex mu
  sees_mutex mu e =
      let at = mutex_there (spot_at blocks 8 p) mu e in
      let f = found blocks 8 8 p mu.spot at.0 in
      let here = reaches names blocks m stand 8 p mu.spot a.address (omega arith) f goes in
      let row = row_read names blocks m.storage stand.consistent stand.names_stand stand.memory mu.spot.name mu.spot.block f.lives mu.spot.offset 8 f.within in
      let read : bytes.number_of (bytes_from m.storage.bytes a.address 8) ≡ mu.number =
      ap (λ x. bytes.number_of (bytes_from m.storage.bytes x 8)) here ∙ number_stands names blocks (cells_at 8 mu.spot) _ mu.number row at.1 in
      record {
        there = there_at names blocks m stand 8 p mu.spot a.address (omega arith) f goes;
        free = ap (λ n. n == 0) read;
        renumbers = λ n.
            let long : length (map Byte (low_bytes 8 n)) ≡ 8 = length-map (low_bytes 8 n) Byte ∙ length-low_bytes 8 n in
            subst (λ x. IsWritten names blocks m stand (renumbered blocks mu n) x (low_bytes 8 n)) (sym here)
            (write_stands names blocks m stand (map Byte (low_bytes 8 n)) mu.spot (low_bytes 8 n) f.lives (subst (λ k. mu.spot.offset + k ≤ length mu.spot.block.cells) (sym long) f.within) (bytes_stand names blocks (low_bytes 8 n)));
      }

  -- ---- a lock

  taken_or_waits : (b c : Bool) (x : Blocks) (o : Option Blocks) → (if b then Ok (Some x) else (if c then Err C13 else Ok None)) ≡ Ok o → ((b ≡ true) × (Some x ≡ o)) ⊎ ((b ≡ false) × (None ≡ o))
  taken_or_waits true c x o e = inl (refl, cc)
  taken_or_waits false true x o e = absurd cc
  taken_or_waits false false x o e = inr (refl, cc)

  pub was_locked : (thread : ℕ) (r : Result Mutex Rule) (o : Option Blocks) → lock_by blocks thread r ≡ Ok o
      → (mu : Mutex) × (r ≡ Ok mu) × ((((mu.number == 0) ≡ true) × (Some (renumbered blocks mu (thread + 1)) ≡ o)) ⊎ (((mu.number == 0) ≡ false) × (None ≡ o)))
  was_locked thread (Ok mu) o e = (mu, refl, taken_or_waits (mu.number == 0) (mu.number == thread + 1) (renumbered blocks mu (thread + 1)) o e)
  was_locked thread (Err rule) o e = absurd cc

  -- what the machine does at a mutex that it sees
  locks_as : (thread : ℕ) (mu : Mutex) → SeesMutex mu → (b : Bool) → (mu.number == 0) ≡ b → words.locked thread a m ≡ (if b then went None (written m a.address (low_bytes 8 (thread + 1))) else waits)
  locks_as thread mu sees b e = λ i. within kinds.Lock (sees.there i) (if (sees.free ∙ e) i then went None (written m a.address (low_bytes 8 (thread + 1))) else waits)

  -- it takes a free mutex
  pub record IsLocked (thread : ℕ) (later : Blocks) : Type 0 where
    pub went : words.locked thread a m ≡ went None (written m a.address (low_bytes 8 (thread + 1)))
    pub after : IsWritten names blocks m stand later a.address (low_bytes 8 (thread + 1))

  pub lock_stands : (thread : ℕ) (later : Blocks) → source.locked blocks p thread ≡ Ok (Some later) → IsLocked thread later
  lock_stands thread later e =
      let w = was_locked thread (mutex_at blocks p) (Some later) e in
      let sees = sees_mutex w.0 w.1 in
      elim w.2 [
        | inl x ↦
            let is : renumbered blocks w.0 (thread + 1) ≡ later = same_Some (renumbered blocks w.0 (thread + 1)) later x.1 in
            record { went = locks_as thread w.0 sees true x.0; after = subst (λ z. IsWritten names blocks m stand z a.address (low_bytes 8 (thread + 1))) is (sees.renumbers (thread + 1)) }
        | inr x ↦ let no : None ≡ Some later = x.1 in absurd cc
      ]

  -- and waits for one that is held
  pub lock_waits : (thread : ℕ) → source.locked blocks p thread ≡ Ok None → words.locked thread a m ≡ waits
  lock_waits thread e =
      let w = was_locked thread (mutex_at blocks p) None e in
      elim w.2 [
        | inl x ↦ let no : Some (renumbered blocks w.0 (thread + 1)) ≡ None = x.1 in absurd cc
        | inr x ↦ locks_as thread w.0 (sees_mutex w.0 w.1) false x.0
      ]

  -- ---- an unlock

  pub record IsUnlocked (later : Blocks) : Type 0 where
    pub went : words.unlocked a m ≡ went None (written m a.address (low_bytes 8 0))
    pub after : IsWritten names blocks m stand later a.address (low_bytes 8 0)

  pub was_unlocked : (thread : ℕ) (r : Result Mutex Rule) (later : Blocks) → unlock_by blocks thread r ≡ Ok later → (mu : Mutex) × (r ≡ Ok mu) × (renumbered blocks mu 0 ≡ later)
  was_unlocked thread (Ok mu) later e = (mu, refl, (if_ok (mu.number == thread + 1) (renumbered blocks mu 0) later C13 e).1)
  was_unlocked thread (Err rule) later e = absurd cc

  pub unlock_stands : (thread : ℕ) (later : Blocks) → source.unlocked blocks p thread ≡ Ok later → IsUnlocked later
  unlock_stands thread later e =
      let w = was_unlocked thread (mutex_at blocks p) later e in
      let sees = sees_mutex w.0 w.1 in
      record {
        went = ap (λ o. within kinds.Lock o (went None (written m a.address (low_bytes 8 0)))) sees.there;
        after = subst (λ z. IsWritten names blocks m stand z a.address (low_bytes 8 0)) w.2 (sees.renumbers 0);
      }
