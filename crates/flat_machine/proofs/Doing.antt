-- What an answer of the code has done, from what the calls of the objects promise. The code sees what threads share as `v`, which a
-- contract calls `old`.
use Rattle.std.proofs.Common.{◌≡◌, ℕ, Bool, true, false, cond, List, Option, Some, None, refl, ap, subst}
use Rattle.block_store.specs.declared.values.Access.{Access}
use Rattle.block_store.specs.Cells.{size_of}
use Rattle.flat_store.specs.Flat.{HasBytes, bytes_from, first_outside_of_both, with_bytes}
use Rattle.flat_store.specs.Word.{number_of}
use Rattle.flat_store.proofs.Firsts.{none_outside}
use Rattle.arena_meaning.specs.Arena.{Storage}
use Rattle.ak_trace.specs.declared.endings.TrapKind.{TrapKind}
use Rattle.flat_meaning.specs.Memory.{Memory, with_storage, written}
use Rattle.flat_meaning.specs.Accesses as actions
use Rattle.flat_meaning.specs.Accesses.{trap, within, word_read, loaded}
use Rattle.flat_meaning.specs.Words.{Target}
use Rattle.flat_threads.specs.declared.wait.Wait.{Wait}
use Rattle.flat_machine.specs.declared.done.Done.{Done}
use Rattle.flat_machine.specs.declared.done.Done.TheVariants as dones
use Rattle.flat_machine.specs.declared.turned.Turned.{Turned}
use Rattle.flat_machine.specs.Shares.{Shared}
use Rattle.flat_machine.specs.inner.Dones.{Does, done_view, with_memory}

-- what threads share, with other objects and bytes
abbrev pub with_arena : Shared → Storage → Shared
with_arena s storage = with_memory s (with_storage s.memory storage)

-- what is done to the one is done to the other
pub does_same : (v old new : Shared) (r : Done) (d : Shared → actions.Done) → v ≡ old → Does v new r (d v) → Does old new r (d old)
does_same v old new r d is does = subst (λ (s : Shared). Does s new r (d s)) is does

module _ (v : Shared) (r : Done) (d : actions.Done) where
  -- it is done, and has left this memory
  pub does_go : (new : Shared) (m : Memory) (word : Option ℕ) (t : Turned) → r ≡ dones.Went word t → d ≡ actions.went word m → new ≡ with_memory v m → Does v new r d
  does_go new m word t r_is d_is new_is = rw (r_is, d_is, new_is) (record { done_ = refl; left = refl })

  -- it waits
  pub does_wait : (for : Wait) → r ≡ dones.Waits for → d ≡ actions.waits → Does v v r d
  does_wait for r_is d_is = rw (r_is, d_is) (record { done_ = refl; left = refl })

  -- it ends the run
  pub does_trap : (new : Shared) (address : ℕ) (kind : TrapKind) → r ≡ dones.Trap address kind → d ≡ actions.over (trap address kind) → new ≡ v → Does v new r d
  does_trap new address kind r_is d_is new_is = rw (r_is, d_is, new_is) (record { done_ = refl; left = refl })

-- what went is told so
pub went_only : (r : Done) (m : Memory) (word : Option ℕ) (after : Memory) → done_view m r ≡ actions.went word after → (w : Option ℕ) × (t : Turned) × (r ≡ dones.Went w t)
went_only (dones.Went w t) m word after e = (w, t, refl)
went_only (dones.Waits for) m word after e = absurd cc
went_only (dones.Trap w kind) m word after e = absurd cc
went_only dones.Full m word after e = absurd cc

-- ---- tests

pub within_none : (kind : TrapKind) (outside : Option ℕ) (d : actions.Done) → outside ≡ None → within kind outside d ≡ d
within_none kind None d e = refl
within_none kind (Some a) d e = absurd cc

pub if_so : (b : Bool) (x y : actions.Done) → b ≡ true → cond b x y ≡ x
if_so true x y e = refl
if_so false x y e = absurd cc

pub if_not : (b : Bool) (x y : actions.Done) → b ≡ false → cond b x y ≡ y
if_not true x y e = absurd cc
if_not false x y e = refl

-- ---- accesses

module _ (v : Shared) (kind : TrapKind) (outside : Option ℕ) (r : Done) (storage : Storage) where
  -- bytes are written, where no address is outside
  pub does_write : (at : ℕ) (new : List ℕ) (word : Option ℕ) (t : Turned) → r ≡ dones.Went word t → outside ≡ None → storage ≡ record v.memory.storage { bytes = with_bytes v.memory.storage.bytes at new }
      → Does v (with_arena v storage) r (within kind outside (actions.went word (written v.memory at new)))
  does_write at new word t r_is none storage_is = rw (r_is, none, storage_is) (record { done_ = refl; left = refl })

  -- or it is a trap
  pub does_reach : (address : ℕ) (d : actions.Done) → r ≡ dones.Trap address kind → outside ≡ Some address → storage ≡ v.memory.storage → Does v (with_arena v storage) r (within kind outside d)
  does_reach address d r_is some storage_is = rw (r_is, some, storage_is) (record { done_ = refl; left = refl })

-- no address of the two is outside
pub none_of_both : (bytes : List ℕ) (to from n : ℕ) → HasBytes bytes to n × HasBytes bytes from n → first_outside_of_both bytes to from n ≡ None
none_of_both bytes to from n has = rw (none_outside bytes to n has.0) (none_outside bytes from n has.1)

-- the word that bytes stand for was read
pub done_load : (m : Memory) (how : Access) (a : Target) (r : Done) (t : Turned) (word number : ℕ) → r ≡ dones.Went (Some word) t → ((all : List ℕ) → number ≡ number_of all → word ≡ word_read how all)
    → (size : ℕ) → size ≡ size_of how → (bytes : List ℕ) → bytes ≡ m.storage.bytes → HasBytes bytes a.address size → number ≡ number_of (bytes_from bytes a.address size) → done_view m r ≡ loaded how a m
done_load m how a r t word number r_is read size size_is bytes bytes_is has value =
    let there : HasBytes m.storage.bytes a.address (size_of how) = rw (← bytes_is, ← size_is) has in
    let number_is : number ≡ number_of (bytes_from m.storage.bytes a.address (size_of how)) = rw (← bytes_is, ← size_is) value in
    let word_is : word ≡ word_read how (bytes_from m.storage.bytes a.address (size_of how)) = read _ number_is in
    rw (r_is, none_outside m.storage.bytes a.address (size_of how) there) (ap (λ (w : ℕ). actions.went (Some w) m) word_is)
