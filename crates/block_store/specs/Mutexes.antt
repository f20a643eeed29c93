-- Mutexes in memory (C11 7.26.4). A mutex is a number of 8 bytes: 0 while it is free, and else its holder's thread number plus 1
-- (this project's profile).
use Rattle.std.specs.Prelude.{ℕ, ◌+◌, ◌==◌, if◌then◌else◌, map, Option, Some, None, Result, Ok, Err}
use Rattle.ak_words.specs.declared.rule.Rule.{Rule}
use Rattle.ak_words.specs.declared.rule.Rule.TheVariants.{C12, C13}
use Rattle.ak_words.specs.Bytes.{low_bytes}
use Rattle.block_store.specs.declared.values.Cell.TheVariants.{Byte}
use Rattle.block_store.specs.declared.values.LockEnd.{LockEnd}
use Rattle.block_store.specs.declared.values.LockEnd.TheVariants as ends
use Rattle.block_store.specs.declared.values.Ptr.{Ptr}
use Rattle.block_store.specs.Blocks.{Blocks, Range, spot_at, cells_at, with_cells_at, is_literal}
use Rattle.block_store.specs.Cells.{read_number}

-- where a mutex lies, and its number
pub record Mutex : Type 0 where
  pub spot : Range
  pub number : ℕ

-- the mutex at a spot, of this number if that could be read
abbrev pub with_number : Range → Result ℕ Rule → Result Mutex Rule
with_number s (Err rule) = Err rule
with_number s (Ok n) = Ok (record { spot = s; number = n })

-- the mutex at a spot: C12 in a string literal, then C4 and C16 of its cells
abbrev pub mutex_in : Result Range Rule → Result Mutex Rule
mutex_in (Err rule) = Err rule
mutex_in (Ok s) = if is_literal s.block.kind then Err C12 else with_number s (read_number (cells_at 8 s))

-- the mutex that a pointer points to: C5, C6, C12, C4, C16
abbrev pub mutex_at : Blocks → Ptr → Result Mutex Rule
mutex_at blocks at = mutex_in (spot_at blocks 8 at)

-- the store in which the mutex has another number
abbrev pub renumbered : Blocks → Mutex → ℕ → Blocks
renumbered blocks m n = with_cells_at blocks (map Byte (low_bytes 8 n)) m.spot

-- lock, by a thread: it takes a free mutex, breaks C13 where it is the holder, and else would wait (none)
abbrev pub lock_by : Blocks → (thread : ℕ) → Result Mutex Rule → Result (Option Blocks) Rule
lock_by blocks thread (Err rule) = Err rule
lock_by blocks thread (Ok m) =
    if m.number == 0 then Ok (Some (renumbered blocks m (thread + 1))) else (if m.number == thread + 1 then Err C13 else Ok None)

-- a thread locks the mutex that a pointer points to: the next store, or none where it would wait (C11 7.26.4.3)
abbrev pub locked : Blocks → Ptr → (thread : ℕ) → Result (Option Blocks) Rule
locked blocks at thread = lock_by blocks thread (mutex_at blocks at)

-- unlock, by a thread: the holder sets the mutex free, and any other breaks C13, also of a free mutex
abbrev pub unlock_by : Blocks → (thread : ℕ) → Result Mutex Rule → Result Blocks Rule
unlock_by blocks thread (Err rule) = Err rule
unlock_by blocks thread (Ok m) = if m.number == thread + 1 then Ok (renumbered blocks m 0) else Err C13

-- a thread unlocks the mutex that a pointer points to (C11 7.26.4.6)
abbrev pub unlocked : Blocks → Ptr → (thread : ℕ) → Result Blocks Rule
unlocked blocks at thread = unlock_by blocks thread (mutex_at blocks at)

-- destroy: nothing changes; C13 where the mutex is held (this project's profile)
abbrev pub destroy_of : Result Mutex Rule → Result (Unit {0}) Rule
destroy_of (Err rule) = Err rule
destroy_of (Ok m) = if m.number == 0 then Ok tt else Err C13

-- the mutex that a pointer points to is destroyed (C11 7.26.4.1)
abbrev pub destroyed : Blocks → Ptr → Result (Unit {0}) Rule
destroyed blocks at = destroy_of (mutex_at blocks at)

-- what a lock answers
abbrev pub lock_end : Result (Option Blocks) Rule → Result LockEnd Rule
lock_end (Err rule) = Err rule
lock_end (Ok None) = Ok ends.Held
lock_end (Ok (Some next)) = Ok ends.Got

-- the store after a lock
abbrev pub store_after_lock : Result (Option Blocks) Rule → Blocks → Blocks
store_after_lock (Err rule) blocks = blocks
store_after_lock (Ok None) blocks = blocks
store_after_lock (Ok (Some next)) blocks = next
