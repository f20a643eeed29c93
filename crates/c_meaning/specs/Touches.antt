-- What an action touches (C11 5.1.2.4 p4, 7.26.4, 7.26.5): which cells, and how, in order; and the turns that it orders.
use Rattle.std.specs.Prelude.{ℕ, ◌+◌, ◌/◌, ◌==◌, Bool, true, false, if◌then◌else◌, List, [], ◌∷◌, ◌++◌, map, length, Option, Some, None, Result, Ok, Err}
use Rattle.ak_words.specs.declared.int_type.IntType.{IntType}
use Rattle.ak_words.specs.declared.rule.Rule.{Rule}
use Rattle.block_store.specs.declared.values.Answer.{Answer}
use Rattle.block_store.specs.declared.values.Answer.TheVariants as answers
use Rattle.block_store.specs.declared.values.Ptr.{Ptr}
use Rattle.block_store.specs.declared.values.Ptr.TheVariants.{Null, To}
use Rattle.block_store.specs.Actions.{World, Reached, SharedAction, load, store, copy, allocate, reallocate, free, change, compare, print, lock, unlock, destroy, start, join, finish, reading, writing, reading_parts}
use Rattle.block_store.specs.Atomics.{Compared, compared}
use Rattle.block_store.specs.Blocks.{Blocks, live, cells_in}
use Rattle.block_store.specs.Cells.{size_of, access_of}
use Rattle.race_rules.specs.declared.touch.Touch.{Touch}
use Rattle.race_rules.specs.declared.touch.TouchKind.{TouchKind}
use Rattle.race_rules.specs.declared.touch.TouchKind.TheVariants.{Read, Write, AtomicRead, AtomicWrite, Lock, Unlock, Start, Join}

-- an object that is read, which is atomic or not
abbrev pub read_kind : (atomic : Bool) → TouchKind
read_kind true = AtomicRead
read_kind false = Read

-- an object that is written, which is atomic or not
abbrev pub write_kind : (atomic : Bool) → TouchKind
write_kind true = AtomicWrite
write_kind false = Write

module _ (place : ℕ) where
  -- a touch of this kind of the cells that are reached
  abbrev pub touching : TouchKind → Reached → Touch
  touching kind r = record { kind = kind; block = r.block; from = r.offset; to = r.offset + r.bytes; place = place }

  -- of all that are reached
  abbrev pub each : TouchKind → List Reached → List Touch
  each kind reached = map (touching kind) reached

  -- what has no cells: that a thread is made, or joined
  abbrev pub of_thread : TouchKind → Touch
  of_thread kind = record { kind = kind; block = 0; from = 0; to = 0; place = place }

  -- all cells of the block at a pointer
  abbrev pub whole_block : TouchKind → Blocks → Ptr → List Touch
  whole_block kind blocks Null = []
  whole_block kind blocks (To name offset) = each kind (writing (length (cells_in (live blocks name))) (To name 0))

  -- a realloc that gets its block reads the whole old one, and ends it as free does
  abbrev pub renewal : Answer → Blocks → Ptr → List Touch
  renewal answers.Got blocks at = whole_block Read blocks at ++ whole_block Write blocks at
  renewal answer blocks at = []

  -- a compare writes the number where the wanted one is equal, and else the wanted one
  abbrev pub compare_ends : (at want : Ptr) → (ty : IntType) → Result Compared Rule → List Touch
  compare_ends at want ty (Err rule) = []
  compare_ends at want ty (Ok c) = if c.equal then each AtomicWrite (writing (ty.bits / 8) at) else each Write (writing (ty.bits / 8) want)

  -- a thread is made with this number, which is stored; one that is refused touches nothing
  abbrev pub starting : Answer → (to : Ptr) → (number : ℕ) → List Touch
  starting answers.Got to number = each Write (writing 8 to) ++ of_thread (Start number) ∷ []
  starting answer to number = []

  -- ---- the table of the actions: what each touches that is done under this answer, where what it reaches is named by an expression at
  -- this place, which is atomic or not. A mutex has 8 cells
  abbrev pub touches_of : World → Answer → (atomic : Bool) → SharedAction → List Touch
  touches_of w answer atomic (load at how) = each (read_kind atomic) (reading (size_of how) at)
  touches_of w answer atomic (store at value) = each (write_kind atomic) (writing (size_of (access_of value)) at)
  touches_of w answer atomic (copy to from n align same) = each Read (reading n from) ++ each Write (writing n to)
  touches_of w answer atomic (allocate size first) = []
  touches_of w answer atomic (reallocate at size) = renewal answer w.blocks at
  touches_of w answer atomic (free at) = whole_block Write w.blocks at
  touches_of w answer atomic (change at ty how by) = each AtomicRead (reading (ty.bits / 8) at) ++ each AtomicWrite (writing (ty.bits / 8) at)
  touches_of w answer atomic (compare at want ty new) =
      each AtomicRead (reading (ty.bits / 8) at) ++ each Read (reading (ty.bits / 8) want) ++ compare_ends at want ty (compared w.blocks at want ty new)
  touches_of w answer atomic (print parts) = each Read (reading_parts w.blocks parts)
  touches_of w answer atomic (lock at) = each Lock (writing 8 at)
  touches_of w answer atomic (unlock at) = each Unlock (writing 8 at)
  touches_of w answer atomic (destroy at) = each Write (writing 8 at)
  touches_of w answer atomic (start to function argument) = starting answer to (length w.threads)
  touches_of w answer atomic (join number to) = each Write (writing 4 to) ++ of_thread (Join number) ∷ []
  touches_of w answer atomic (finish value) = []
