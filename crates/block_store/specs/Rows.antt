-- Actions worked out by hand: the definitions, put to the test.
use Rattle.std.specs.Prelude.{◌≡◌, ℕ, ◌^◌, List, [], ◌∷◌, ◌++◌, map, take, set, replicate, codes, Option, Some, None, Ok, Err, pos, negsuc, true, false}
use Rattle.ak_words.specs.declared.operation.Op.TheVariants as ops
use Rattle.ak_words.specs.declared.rule.Rule.TheVariants as rules
use Rattle.ak_words.specs.IntType.{char, int}
use Rattle.ak_words.specs.Num.{num}
use Rattle.block_store.specs.declared.values.Access.TheVariants as accesses
use Rattle.block_store.specs.declared.values.Answer.TheVariants as answers
use Rattle.block_store.specs.declared.values.BlockKind.TheVariants as kinds
use Rattle.block_store.specs.declared.values.Cell.{Cell}
use Rattle.block_store.specs.declared.values.Cell.TheVariants.{Unknown, Byte}
use Rattle.block_store.specs.declared.values.Ptr.{Ptr}
use Rattle.block_store.specs.declared.values.Ptr.TheVariants.{Null, To}
use Rattle.block_store.specs.declared.values.Value.{Value}
use Rattle.block_store.specs.declared.values.Value.TheVariants as values
use Rattle.block_store.specs.Blocks.{Blocks, first_cells}
use Rattle.block_store.specs.Cells.{cells_of}
use Rattle.block_store.specs.Pointers.{moved, indexed, tested, compared, difference}
use Rattle.block_store.specs.Actions.{ThreadRecord, Reached, World, running, returned, joined, with_blocks, with_reached, staged, bytes, text, SharedAction, load, store, copy, allocate, free, print, lock, unlock, destroy, start, join, finish, Done, went, blocked, unfit, broke, reads_of, acted}

-- a mutex of zero bytes; the literal "hi"; a local of four bytes never written; a block that was freed; and a heap block with a
-- pointer to its own first byte, and then 41, an int
abbrev pub blocks : (mutex : List Cell) → (heap : List Cell) → Blocks
blocks mutex heap =
    Some (record { kind = kinds.Global; cells = mutex })
    ∷ Some (record { kind = kinds.Literal; cells = map Byte (codes "hi" ++ 0 ∷ []) })
    ∷ Some (record { kind = kinds.Local; cells = replicate 4 Unknown })
    ∷ None
    ∷ Some (record { kind = kinds.Heap; cells = heap })
    ∷ []

-- a mutex of this number
abbrev pub mutex : ℕ → List Cell
mutex n = Byte n ∷ replicate 7 (Byte 0)

-- the cells of a pointer to the start of the heap block
abbrev pub pointer : List Cell
pointer = cells_of (values.Pointer (To 4 0))

-- the first half of its parts
abbrev pub pointer_half : List Cell
pointer_half = take 4 pointer

-- the value n, an int
abbrev pub an_int : ℕ → Value
an_int n = values.Num (num int (pos n))

-- the cells of the heap block: the pointer to its own start, and the int 41
abbrev pub heap : List Cell
heap = pointer ++ cells_of (an_int 41)

-- a thread that runs, and began with function n and a null argument
abbrev pub thread : ℕ → ThreadRecord
thread n = record { function = n; argument = Null; stage = running }

-- threads 0 and 1 run, 2 has returned 7, and 3 has returned 8 and was joined
abbrev pub threads : List ThreadRecord
threads =
    thread 0 ∷ thread 1
    ∷ record { function = 1; argument = Null; stage = returned (pos 7) }
    ∷ record { function = 1; argument = Null; stage = joined (pos 8) }
    ∷ []

-- bytes of a block that were read: so many of them from an offset on
abbrev pub read : (block offset n : ℕ) → Reached
read block offset n = record { block = block; offset = offset; bytes = n; writes = false }

-- bytes of a block that were written
abbrev pub written : (block offset n : ℕ) → Reached
written block offset n = record { block = block; offset = offset; bytes = n; writes = true }

-- the world of these blocks, after an action that wrote the local
abbrev pub world_of : Blocks → World
world_of all = record { blocks = all; output = codes "> "; threads = threads; reached = written 2 0 4 ∷ [] }

-- the world, with this number in its mutex
abbrev pub world : ℕ → World
world n = world_of (blocks (mutex n) heap)

-- an action of thread 0 or 1 in it
abbrev pub plainly : (mutex thread : ℕ) → SharedAction → Done
plainly mutex thread = acted (world mutex) thread answers.Plain

-- an action of thread 0 in the world with the free mutex, where it gets what it asks for
abbrev pub if_got : SharedAction → Done
if_got = acted (world 0) 0 answers.Got

-- the same where it doesn't get it
abbrev pub if_none : SharedAction → Done
if_none = acted (world 0) 0 answers.None

-- the int at the start of the heap block
abbrev pub at_int : Ptr
at_int = To 4 8

-- the world with the free mutex, and with these cells in its heap block
abbrev pub with_heap : List Cell → World
with_heap cells = world_of (blocks (mutex 0) cells)

-- what is done: it gives a value or none, reached these bytes, and leaves this world beside
abbrev pub gives : Option Value → List Reached → World → Done
gives value reached w = went value (with_reached w reached)

-- what each action makes of that world, row by row
pub record ActionsStand : Type 0 where
  -- what is read, and what can't be
  pub an_int_is_read : plainly 0 0 (load at_int (accesses.Number int)) ≡ gives (Some (an_int 41)) (read 4 8 4 ∷ []) (world 0)
  pub through_null : plainly 0 0 (load Null accesses.Pointer) ≡ broke rules.C5
  pub of_dead_block : plainly 0 0 (load (To 3 0) (accesses.Number int)) ≡ broke rules.C5
  pub behind_the_end : plainly 0 0 (load (To 4 12) (accesses.Number int)) ≡ broke rules.C5
  pub between_ints : plainly 0 0 (load (To 4 6) (accesses.Number int)) ≡ broke rules.C6
  pub never_written : plainly 0 0 (load (To 2 0) (accesses.Number int)) ≡ broke rules.C4
  pub of_pointer : plainly 0 0 (load (To 4 0) (accesses.Number int)) ≡ broke rules.C16
  -- a load takes no other answer, not even where its check fails
  pub load_is_plain : if_got (load Null accesses.Pointer) ≡ unfit
  -- what is written
  pub an_int_is_written : plainly 0 0 (store at_int (an_int 5)) ≡ gives None (written 4 8 4 ∷ []) (with_heap (pointer ++ cells_of (an_int 5)))
  pub into_literal : plainly 0 0 (store (To 1 0) (values.Num (num char (pos 5)))) ≡ broke rules.C12
  -- copies: the target is judged first; whatever cells hold is copied; ranges that overlap; a struct onto itself; no byte at all
  pub a_copy : plainly 0 0 (copy (To 4 8) (To 2 0) 4 1 false) ≡ gives None (read 2 0 4 ∷ written 4 8 4 ∷ []) (with_heap (pointer ++ replicate 4 Unknown))
  pub target_first : plainly 0 0 (copy (To 4 6) (To 3 0) 4 4 false) ≡ broke rules.C6
  pub then_source : plainly 0 0 (copy (To 1 0) (To 3 0) 2 1 false) ≡ broke rules.C5
  pub then_literal : plainly 0 0 (copy (To 1 0) (To 1 0) 2 1 false) ≡ broke rules.C12
  pub then_overlap : plainly 0 0 (copy (To 4 4) (To 4 1) 4 1 false) ≡ broke rules.C11
  pub side_by_side : plainly 0 0 (copy (To 4 4) (To 4 8) 4 1 false) ≡ gives None (read 4 8 4 ∷ written 4 4 4 ∷ []) (with_heap (pointer_half ++ cells_of (an_int 41) ++ cells_of (an_int 41)))
  pub onto_itself : plainly 0 0 (copy (To 4 0) (To 4 0) 12 8 false) ≡ broke rules.C11
  pub struct_to_itself : plainly 0 0 (copy (To 4 0) (To 4 0) 12 4 true) ≡ gives None (read 4 0 12 ∷ written 4 0 12 ∷ []) (world 0)
  pub of_no_byte : plainly 0 0 (copy Null (To 3 1) 0 8 false) ≡ gives None [] (world 0)
  -- allocations: the next name, or null; they want an answer; none of 2^32 bytes is got
  pub allocation_waits_for_answer : plainly 0 0 (allocate 4 Unknown) ≡ unfit
  pub a_block : if_got (allocate 4 Unknown) ≡ gives (Some (values.Pointer (To 5 0))) [] (with_blocks (world 0) (blocks (mutex 0) heap ++ Some (record { kind = kinds.Heap; cells = replicate 4 Unknown }) ∷ []))
  pub no_block : if_none (allocate 4 Unknown) ≡ gives (Some (values.Pointer Null)) [] (world 0)
  pub too_great : if_got (allocate (2 ^ 32) Unknown) ≡ unfit
  pub too_great_is_refused : if_none (allocate (2 ^ 32) Unknown) ≡ gives (Some (values.Pointer Null)) [] (world 0)
  -- free ends a block, and reaches none of its bytes
  pub a_free : plainly 0 0 (free (To 4 0)) ≡ gives None [] (world_of (set (blocks (mutex 0) heap) 4 None))
  pub free_of_null : plainly 0 0 (free Null) ≡ gives None [] (world 0)
  pub free_of_inner : plainly 0 0 (free at_int) ≡ broke rules.C10
  pub free_of_local : plainly 0 0 (free (To 2 0)) ≡ broke rules.C10
  pub second_free : plainly 0 0 (free (To 3 0)) ≡ broke rules.C10
  -- what is printed, in one piece: its value is its length; a text is read with the zero byte that ends it; one without an end
  -- prints nothing
  pub a_print : plainly 0 0 (print (bytes (codes "x=") ∷ text (To 1 1) ∷ [])) ≡ gives (Some (an_int 3)) (read 1 1 2 ∷ []) (record { blocks = blocks (mutex 0) heap; output = codes "> x=i"; threads = threads; reached = [] })
  pub text_of_no_bytes : plainly 0 0 (print (bytes (codes "x=") ∷ text (To 2 0) ∷ text Null ∷ [])) ≡ broke rules.C4
  pub text_of_parts : plainly 0 0 (print (text (To 4 0) ∷ [])) ≡ broke rules.C16
  pub text_without_end : plainly 0 0 (print (text (To 1 3) ∷ [])) ≡ broke rules.C5
  -- mutexes: free, held by the thread itself, held by another
  pub a_lock : plainly 0 1 (lock (To 0 0)) ≡ gives None (read 0 0 8 ∷ written 0 0 8 ∷ []) (world 2)
  pub lock_again : plainly 2 1 (lock (To 0 0)) ≡ broke rules.C13
  pub lock_waits : plainly 2 0 (lock (To 0 0)) ≡ blocked
  pub lock_of_literal : plainly 0 0 (lock (To 1 0)) ≡ broke rules.C5
  pub lock_of_parts : plainly 0 0 (lock (To 4 0)) ≡ broke rules.C16
  pub waiting_lock_is_plain : acted (world 2) 0 answers.Got (lock (To 0 0)) ≡ unfit
  pub an_unlock : plainly 2 1 (unlock (To 0 0)) ≡ gives None (read 0 0 8 ∷ written 0 0 8 ∷ []) (world 0)
  pub unlock_by_another : plainly 2 0 (unlock (To 0 0)) ≡ broke rules.C13
  pub unlock_of_free : plainly 0 0 (unlock (To 0 0)) ≡ broke rules.C13
  pub a_destroy : plainly 0 1 (destroy (To 0 0)) ≡ gives None (read 0 0 8 ∷ []) (world 0)
  pub destroy_of_held : plainly 2 1 (destroy (To 0 0)) ≡ broke rules.C13
  -- threads: a new one has the next number; its place is checked where it is made
  pub a_start : if_got (start (To 0 0) 1 at_int) ≡ gives (Some (an_int 0)) (written 0 0 8 ∷ []) (record { blocks = blocks (mutex 4) heap; output = codes "> "; threads = threads ++ record { function = 1; argument = at_int; stage = running } ∷ []; reached = [] })
  pub start_nowhere : if_got (start Null 1 at_int) ≡ broke rules.C5
  pub start_refused : if_none (start Null 1 at_int) ≡ gives (Some (an_int 1)) [] (world 0)
  pub start_waits_for_answer : plainly 0 0 (start Null 1 at_int) ≡ unfit
  -- joins: C14, then it waits, then it stores
  pub a_join : plainly 0 0 (join 2 at_int) ≡ gives (Some (an_int 0)) (written 4 8 4 ∷ []) (staged (with_heap (pointer ++ cells_of (an_int 7))) 2 (joined (pos 7)))
  pub join_without_place : plainly 0 0 (join 2 Null) ≡ gives (Some (an_int 0)) [] (staged (world 0) 2 (joined (pos 7)))
  pub join_to_literal : plainly 0 0 (join 2 (To 1 0)) ≡ broke rules.C5
  pub join_waits : plainly 0 0 (join 1 (To 1 0)) ≡ blocked
  pub join_of_oneself : plainly 0 1 (join 1 Null) ≡ broke rules.C14
  pub second_join : plainly 0 0 (join 3 Null) ≡ broke rules.C14
  pub join_of_none : plainly 0 0 (join 4 Null) ≡ broke rules.C14
  -- the end of a thread
  pub an_end : plainly 0 1 (finish (Some (pos 9))) ≡ gives None [] (staged (world 0) 1 (returned (pos 9)))
  pub an_end_without_value : plainly 0 1 (finish None) ≡ gives None [] (staged (world 0) 1 (returned (pos 0)))

-- what actions read, or try to, that are not done, and in which order one print reads: row by row
pub record ReadsStand : Type 0 where
  -- a broken rule: nothing at null, and else what the access asks for, be it there or not
  pub through_null : reads_of (world 0) (load Null accesses.Pointer) ≡ []
  pub of_dead_block : reads_of (world 0) (load (To 3 0) (accesses.Number int)) ≡ read 3 0 4 ∷ []
  pub of_overlap : reads_of (world 0) (copy (To 4 4) (To 4 1) 4 1 false) ≡ read 4 1 4 ∷ []
  -- a lock that waits
  pub of_held_mutex : reads_of (world 2) (lock (To 0 0)) ≡ read 0 0 8 ∷ []
  -- texts: each in turn, the empty one by its zero byte, up to the one that breaks a rule, and that one up to the byte that does
  pub of_two_texts : reads_of (world 0) (print (text (To 1 0) ∷ bytes (codes "-") ∷ text (To 1 2) ∷ [])) ≡ read 1 0 3 ∷ read 1 2 1 ∷ []
  pub of_bytes_alone : reads_of (world 0) (print (bytes (codes "x=") ∷ [])) ≡ []
  pub of_unknown_cells : reads_of (world 0) (print (text (To 1 0) ∷ text (To 2 0) ∷ text (To 1 0) ∷ [])) ≡ read 1 0 3 ∷ read 2 0 1 ∷ []
  pub of_text_without_end : reads_of (with_heap (map Byte (codes "ab"))) (print (text (To 4 0) ∷ [])) ≡ read 4 0 3 ∷ []
  pub of_dead_text : reads_of (world 0) (print (text (To 3 2) ∷ [])) ≡ read 3 2 1 ∷ []

-- what globals hold at the start, row by row
pub record FirstsStand : Type 0 where
  pub zeros : first_cells 3 None ≡ Byte 0 ∷ Byte 0 ∷ Byte 0 ∷ []
  pub a_number : first_cells 4 (Some (an_int 258)) ≡ Byte 2 ∷ Byte 1 ∷ Byte 0 ∷ Byte 0 ∷ []
  pub a_pointer : first_cells 8 (Some (values.Pointer (To 4 0))) ≡ pointer

-- the blocks of the rows
abbrev pub here : Blocks
here = blocks (mutex 0) heap

-- what arithmetic, tests and comparisons of pointers give in those blocks, row by row
pub record PointersStand : Type 0 where
  -- up to just behind the end, and not below the start; null moves by 0 alone; a dead block's pointer not at all
  pub to_the_end : indexed here (To 4 8) (pos 1) 4 ≡ Ok (To 4 12)
  pub past_the_end : indexed here (To 4 8) (pos 2) 4 ≡ Err rules.C7
  pub to_the_start : indexed here (To 4 8) (negsuc 1) 4 ≡ Ok (To 4 0)
  pub below_the_start : indexed here (To 4 8) (negsuc 2) 4 ≡ Err rules.C7
  pub null_by_0 : moved here Null (pos 0) ≡ Ok Null
  pub null_by_1 : moved here Null (pos 1) ≡ Err rules.C7
  pub dead_by_0 : moved here (To 3 0) (pos 0) ≡ Err rules.C9
  -- tests
  pub null_is_false : tested here Null ≡ Ok false
  pub other_is_true : tested here (To 4 12) ≡ Ok true
  pub dead_is_neither : tested here (To 3 0) ≡ Err rules.C9
  -- equality across blocks; order within one alone; dead blocks first
  pub equal : compared here ops.Eq (To 4 8) (To 4 8) ≡ Ok true
  pub end_and_start : compared here ops.Eq (To 1 3) (To 2 0) ≡ Ok false
  pub null_and_other : compared here ops.Ne Null (To 2 0) ≡ Ok true
  pub less : compared here ops.Lt (To 4 0) (To 4 8) ≡ Ok true
  pub not_less : compared here ops.Lt (To 4 8) (To 4 8) ≡ Ok false
  pub at_most : compared here ops.Le (To 4 8) (To 4 8) ≡ Ok true
  pub greater : compared here ops.Gt (To 4 0) (To 4 8) ≡ Ok false
  pub at_least : compared here ops.Ge Null Null ≡ Ok true
  pub order_across_blocks : compared here ops.Lt (To 1 0) (To 2 0) ≡ Err rules.C8
  pub order_with_null : compared here ops.Lt Null (To 2 0) ≡ Err rules.C8
  pub dead_first : compared here ops.Lt Null (To 3 0) ≡ Err rules.C9
  pub equality_with_dead : compared here ops.Eq (To 3 0) (To 3 0) ≡ Err rules.C9
  -- differences
  pub two_ints : difference here (To 4 0) (To 4 8) 4 ≡ Ok (negsuc 1)
  pub no_whole_ints : difference here (To 4 6) (To 4 0) 4 ≡ Err rules.C8
  pub of_nulls : difference here Null Null 4 ≡ Ok (pos 0)
  pub across_blocks : difference here (To 1 0) (To 2 0) 1 ≡ Err rules.C8
  pub of_no_size : difference here (To 4 6) (To 4 0) 0 ≡ Err rules.C8
  pub of_no_size_back : difference here (To 4 0) (To 4 6) 0 ≡ Err rules.C8
  pub nothing_of_no_size : difference here (To 4 6) (To 4 6) 0 ≡ Ok (pos 0)
