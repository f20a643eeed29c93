-- Small codes with dead pointers, and with waiting calls whose objects stay where they are while another moves, worked out by hand.
use Rattle.std.specs.Prelude.{◌≡◌, ℕ, suc, pos, Bool, true, false, List, [], ◌∷◌, ◌++◌, codes, map, Option, Some, None}
use Rattle.std.specs.Option.{option_map}
use Rattle.ak_words.specs.declared.operation.Op.TheVariants.{Add, Lt, Eq}
use Rattle.ak_words.specs.declared.rule.Rule.TheVariants.{C9}
use Rattle.ak_words.specs.IntType.{int}
use Rattle.block_store.specs.declared.values.Access.TheVariants as accesses
use Rattle.block_store.specs.declared.values.Answer.{Answer}
use Rattle.block_store.specs.declared.values.Answer.TheVariants.{Plain, Got}
use Rattle.block_store.specs.Actions.{first_world, returned}
use Rattle.block_store.specs.Runs.{Pick, run, own_at}
use Rattle.c_tree.specs.Typed.{bytes}
use Rattle.handle_table.specs.declared.frame.PinSlot.{PinSlot}
use Rattle.struct_ir.specs.Nodes.{constant, copy, apply, pointer_compare, load, store, free, print, Act, set, call, look, safepoint, plain, if_, loop, break_, Nodes, no_nodes, more_nodes, Func, Ir}
use Rattle.struct_ir.specs.Instrs.{Instr, acts, unless, round_to, LinearFunc, LinearCode}
use Rattle.struct_ir.specs.meaning.Threads.{program_of}
use Rattle.struct_ir.specs.meaning.Rows.{Came, came, broke, seen as source_of}
use Rattle.ak_trace.specs.declared.endings.End.TheVariants as ends
use Rattle.flat_meaning.specs.Image.{Limits, Image, structured_image, linear_image}
use Rattle.flat_meaning.specs.Stages.{Stage, thread_at}
use Rattle.flat_meaning.specs.Events.{MachineState, Event, barrier, after_all, first_state}
use Rattle.flat_meaning.specs.Allowed.{pinned, IsAllowed}
use Rattle.flat_meaning.specs.SmallCodes.{row, instrs, structured_main, linear_main, small, through, does, store_int, load_int, print_int, malloc_bytes}
use Rattle.flat_meaning.specs.Rows.{go, looks, steps, gets, moving, Seen, seen, turns}

-- where a run stands after these events
abbrev pub stands_after : {P : Type 0} → Image P → List Event → MachineState P
stands_after x es = after_all x es (first_state x)

-- what turns come to over blocks
abbrev pub source_came : Ir → List Pick → Came
source_came p order = source_of (run (program_of p) (first_world [] 0) order)

-- these bytes are printed, and main returns 0 after these turns
abbrev pub printed : (output : List ℕ) → List Answer → Seen
printed output answers = record { output = output; end = Some (ends.Done (pos 0)); order = turns answers; attempts = [] }

-- main with so many registers and 2 pin slots
abbrev pub main_of : (temps : ℕ) → Nodes → Ir
main_of temps nodes = record { globals = []; literals = []; funcs = record { params = 0; temps = temps; slots = 2; objects = []; nodes = nodes } ∷ []; main = 0 }

-- the same of linear code
abbrev pub line_of : (temps : ℕ) → List Instr → LinearCode
line_of temps all = record { globals = []; literals = []; funcs = record { params = 0; temps = temps; slots = 2; objects = []; instrs = all } ∷ []; main = 0 }

-- ---- an id that is used again

-- these acts, and then the rest
abbrev pub acts_then : List Act → Nodes → Nodes
acts_then [] rest = rest
acts_then (a ∷ all) rest = more_nodes (plain 10 a) (acts_then all rest)

-- the same as instructions
abbrev pub instrs_then : List Act → List Instr → List Instr
instrs_then all rest = map (acts 10) all ++ rest

-- t0 = malloc(40); free(t0); t1 = malloc(40); *t1 = 5; t2 = 0; t3 = 0; and the Look of t0 that stands before the loop
abbrev pub before_loop : List Act
before_loop = malloc_bytes 0 40 ++ does free [] None (0 ∷ []) ∷ malloc_bytes 1 40
    ++ set 2 (constant int (pos 5)) ∷ look 1 1 ∷ does (store (accesses.Number int)) (through 1 1 ∷ []) None (2 ∷ [])
    ∷ set 2 (constant int (pos 0)) ∷ set 3 (constant int (pos 0)) ∷ set 4 (constant int (pos 1)) ∷ set 8 (constant int (pos 2)) ∷ set 9 (constant int (pos 5)) ∷ look 0 0 ∷ []

-- t5 = *t0; t2 = t2 + t5
abbrev pub read_there : List Act
read_there = load_int 5 0 ∷ set 2 (apply Add int 2 5) ∷ []

-- a round ends: t3 = t3 + 1, and a safepoint that lists both slots
abbrev pub round_ends : List Act
round_ends = set 3 (apply Add int 3 4) ∷ safepoint (0 ∷ 1 ∷ []) ∷ []

-- print t2 + *t1; free(t1); return 0
abbrev pub behind_loop : List Act
behind_loop = does (load (accesses.Number int)) (through 1 1 ∷ []) (Some 5) [] ∷ set 2 (apply Add int 2 5) ∷ print_int 2 ∷ does free [] None (1 ∷ []) ∷ set 6 (constant int (pos 0)) ∷ []

-- all of it: while (t3 < 2) { if (5 < t3) the read; the round ends }
abbrev pub reusing : Nodes
reusing = acts_then before_loop (more_nodes (loop 11
    (acts_then (set 5 (apply Lt int 3 8) ∷ []) (more_nodes (if_ 12 5 no_nodes (more_nodes (break_ 12) no_nodes))
    (acts_then (set 5 (apply Lt int 9 3) ∷ []) (more_nodes (if_ 13 5 (acts_then read_there no_nodes) no_nodes) no_nodes))))
    (acts_then round_ends no_nodes)) (row behind_loop (Some 6)))

-- the same as instructions
abbrev pub reusing_in_a_line : List Instr
reusing_in_a_line = instrs_then before_loop
    (acts 10 (set 5 (apply Lt int 3 8)) ∷ unless 12 5 23 ∷ acts 10 (set 5 (apply Lt int 9 3)) ∷ unless 13 5 20
    ∷ instrs_then read_there (instrs_then round_ends (round_to 11 14 ∷ instrs behind_loop (Some 6))))

-- a machine with one id
abbrev pub one_id : Limits
one_id = record (small 10) { ids = 1 }

-- up to the safepoint of the first round: both mallocs get the one id and the same place
abbrev pub first_round : List Event
first_round = go ∷ gets 0 0 ∷ steps ∷ go ∷ gets 0 0 ∷ go ∷ looks ∷ steps ∷ go ∷ looks ∷ go ∷ []

-- there a barrier comes; and then the rest
abbrev pub reuse_events : List Event
reuse_events = first_round ++ barrier [] [] ∷ go ∷ go ∷ go ∷ go ∷ steps ∷ go ∷ steps ∷ steps ∷ go ∷ steps ∷ []

-- ten turns, of which two are rounds, that print 5
abbrev pub reused : Seen
reused = printed (codes "5\n") (Got ∷ Plain ∷ Got ∷ Plain ∷ Plain ∷ Plain ∷ Plain ∷ Plain ∷ Plain ∷ Plain ∷ [])

-- the pin slots of the call that a thread is in
abbrev pub slots_if : {P : Type 0} → Image P → Option (Stage P) → Option (List PinSlot)
slots_if x stage = option_map (λ g. (thread_at x g).top.own.slots) stage

-- thread 0's, after these events
abbrev pub slots_after : {P : Type 0} → Image P → List Event → Option (List PinSlot)
slots_after x es = slots_if x (own_at (stands_after x es).own 0)

-- a slot that has the word of id 0, and the address of the first place
abbrev pub there : PinSlot
there = record { word = 9223372036854775808; address = 4160 }

-- a Look of a dead pointer before a loop, whose word names another object by then
pub record ReuseRowsHold : Type 0 where
  pub runs : seen (structured_image (main_of 10 reusing) one_id) reuse_events ≡ reused
  pub runs_in_a_line : seen (linear_image (line_of 10 reusing_in_a_line) one_id) reuse_events ≡ reused
  -- the barrier may come; there each of the two slots names that object, which is pinned
  pub may_come : IsAllowed (structured_image (main_of 10 reusing) one_id) (stands_after (structured_image (main_of 10 reusing) one_id) first_round) (barrier [] [])
  pub slots : slots_after (structured_image (main_of 10 reusing) one_id) first_round ≡ Some (there ∷ there ∷ [])
  pub pinned_there : pinned (structured_image (main_of 10 reusing) one_id) (stands_after (structured_image (main_of 10 reusing) one_id) first_round) 0 ≡ true
  -- over blocks the same turns print the same
  pub source_runs : source_came (main_of 10 reusing) reused.order ≡ came (codes "5\n") (Some (returned (pos 0)))

-- ---- dead pointers that are copied

-- t0 = malloc(4); t1 = t0; free(t0); t2 = t0; t3 = malloc(4)
abbrev pub copying : List Act
copying = malloc_bytes 0 4 ++ set 1 (copy 0) ∷ does free [] None (0 ∷ []) ∷ set 2 (copy 0) ∷ malloc_bytes 3 4

-- print ok; return 0
abbrev pub says_ok : List Act
says_ok = does (print (bytes (codes "ok\n") ∷ [])) [] None [] ∷ set 6 (constant int (pos 0)) ∷ []

-- the word is copied twice; print ok; return 0
abbrev pub copied : List Act
copied = copying ++ says_ok

-- before the print the copies are compared
abbrev pub compared : List Act
compared = copying ++ set 5 (pointer_compare Eq 1 2) ∷ says_ok

-- the second malloc gets the id of the first
abbrev pub copy_events : List Event
copy_events = go ∷ gets 0 0 ∷ go ∷ steps ∷ go ∷ gets 0 0 ∷ steps ∷ go ∷ steps ∷ []

-- the same, where the thread goes on alone before the print
abbrev pub compare_events : List Event
compare_events = go ∷ gets 0 0 ∷ go ∷ steps ∷ go ∷ gets 0 0 ∷ go ∷ steps ∷ go ∷ steps ∷ []

-- five turns that print ok
abbrev pub said : Seen
said = printed (codes "ok\n") (Got ∷ Plain ∷ Got ∷ Plain ∷ Plain ∷ [])

-- a dead pointer may be copied, before it dies and after, and not be compared: then the source breaks C9, and the machine goes on
pub record CopyRowsHold : Type 0 where
  pub copies : seen (structured_image (structured_main copied (Some 6)) (small 10)) copy_events ≡ said
  pub copies_in_a_line : seen (linear_image (linear_main copied (Some 6)) (small 10)) copy_events ≡ said
  pub source_copies : source_came (structured_main copied (Some 6)) said.order ≡ came (codes "ok\n") (Some (returned (pos 0)))
  pub compares : seen (structured_image (structured_main compared (Some 6)) (small 10)) compare_events ≡ said
  pub source_compares : source_came (structured_main compared (Some 6)) said.order ≡ broke C9 3

-- ---- a barrier under three calls that wait

-- t0 = malloc(4); *t0 = t1, which is this number
abbrev pub makes : (number : ℕ) → List Act
makes number = malloc_bytes 0 4 ++ set 1 (constant int (pos number)) ∷ look 0 0 ∷ store_int 0 1 ∷ []

-- print *t0; free(t0); return 0
abbrev pub tells : List Act
tells = load_int 2 0 ∷ print_int 2 ∷ does free [] None (0 ∷ []) ∷ set 6 (constant int (pos 0)) ∷ []

-- between the two a function calls the next one, and its slot is listed there
abbrev pub calls_next : (number : ℕ) → List Act
calls_next number = makes number ++ call (record { to = None; function = suc number; temps = []; slots = 0 ∷ [] }) ∷ tells

-- in the last one there is a safepoint with an empty list, and a new Look behind it
abbrev pub last_one : List Act
last_one = makes 3 ++ safepoint [] ∷ look 0 0 ∷ tells

-- a function with these acts
abbrev pub func : List Act → Func
func all = record { params = 0; temps = 8; slots = 1; objects = []; nodes = row all (Some 6) }

-- the same of linear code
abbrev pub line : List Act → LinearFunc
line all = record { params = 0; temps = 8; slots = 1; objects = []; instrs = instrs all (Some 6) }

-- the acts of main, and of the three others
abbrev pub four : List (List Act)
four = calls_next 0 ∷ calls_next 1 ∷ calls_next 2 ∷ last_one ∷ []

-- the program, as structured code
abbrev pub nested : Ir
nested = record { globals = []; literals = []; funcs = map func four; main = 0 }

-- and as linear code
abbrev pub nested_in_a_line : LinearCode
nested_in_a_line = record { globals = []; literals = []; funcs = map line four; main = 0 }

-- a machine that has room for four calls, and for five objects
abbrev pub room_for_four : Limits
room_for_four = record { registers = 32; slots = 4; frames = 4; stack = 32; threads = 1; output = 8; heaps = 1; heap = 80; ids = 4 }

-- an object is made at this place, and its number is stored
abbrev pub making : (id place : ℕ) → List Event
making id place = go ∷ gets id place ∷ go ∷ looks ∷ steps ∷ []

-- the number is printed, and the object ends
abbrev pub telling : List Event
telling = steps ∷ steps ∷ steps ∷ go ∷ []

-- up to the safepoint
abbrev pub nested_calls : List Event
nested_calls = making 0 0 ++ go ∷ making 1 16 ++ go ∷ making 2 32 ++ go ∷ making 3 64

-- there the last object moves; and then the rest
abbrev pub nested_events : List Event
nested_events = nested_calls ++ moving 64 48 ∷ go ∷ looks ∷ telling ++ telling ++ telling ++ telling ++ steps ∷ []

-- a malloc, a store and a call, or what comes in its place
abbrev pub makes_turns : List Answer
makes_turns = Got ∷ Plain ∷ Plain ∷ []

-- a load, a print, a free, and a return
abbrev pub tells_turns : List Answer
tells_turns = Plain ∷ Plain ∷ Plain ∷ Plain ∷ []

-- all turns, which print the four numbers
abbrev pub nested_seen : Seen
nested_seen = printed (codes "3\n2\n1\n0\n") (makes_turns ++ makes_turns ++ makes_turns ++ Got ∷ Plain ∷ tells_turns ++ tells_turns ++ tells_turns ++ tells_turns)

-- the object at this place is pinned where the barrier comes
abbrev pub pinned_at : (place : ℕ) → Bool
pinned_at = pinned (structured_image nested room_for_four) (stands_after (structured_image nested room_for_four) nested_calls)

-- the objects of calls that wait are pinned, and read where they were; the one of the last call moves
pub record NestedRowsHold : Type 0 where
  pub runs : seen (structured_image nested room_for_four) nested_events ≡ nested_seen
  pub runs_in_a_line : seen (linear_image nested_in_a_line room_for_four) nested_events ≡ nested_seen
  pub may_come : IsAllowed (structured_image nested room_for_four) (stands_after (structured_image nested room_for_four) nested_calls) (moving 64 48)
  pub first : pinned_at 0 ≡ true
  pub second : pinned_at 16 ≡ true
  pub third : pinned_at 32 ≡ true
  pub last : pinned_at 64 ≡ false
  pub source_runs : source_came nested nested_seen.order ≡ came (codes "3\n2\n1\n0\n") (Some (returned (pos 0)))
