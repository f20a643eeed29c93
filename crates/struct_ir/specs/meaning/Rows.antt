-- Small structured codes over named blocks, worked out by hand: the definitions, put to the test.
use Rattle.std.specs.Prelude.{◌≡◌, ℕ, pos, List, [], ◌∷◌, codes, replicate, Option, Some, None}
use Rattle.ak_words.specs.declared.operation.Op.TheVariants.{Sub, Lt}
use Rattle.ak_words.specs.declared.rule.Rule.{Rule}
use Rattle.ak_words.specs.declared.rule.Rule.TheVariants.{C4, C5, C9, C15}
use Rattle.ak_words.specs.IntType.{char, int, unsigned_int, unsigned_long}
use Rattle.block_store.specs.declared.values.Access.TheVariants as accesses
use Rattle.block_store.specs.declared.values.Answer.{Answer}
use Rattle.block_store.specs.declared.values.Answer.TheVariants as answers
use Rattle.block_store.specs.declared.values.BlockKind.TheVariants as kinds
use Rattle.block_store.specs.declared.values.Cell.{Cell}
use Rattle.block_store.specs.declared.values.Cell.TheVariants.{Byte, Part}
use Rattle.block_store.specs.declared.values.Ptr.TheVariants.{Null}
use Rattle.block_store.specs.Blocks.{Block}
use Rattle.block_store.specs.Actions as actions
use Rattle.block_store.specs.Runs.{Pick, Run, reaches, breaks, no_run, run}
use Rattle.c_tree.specs.Typed.{signed, zero_bytes, number, literal_at}
use Rattle.struct_ir.specs.Nodes.{Calc, constant, null, object, apply, pointer_test, Place, load, store, malloc, print, set, call, step, begin_object, end_object, Node, plain, if_, loop, break_, next_, ret, Nodes, no_nodes, more_nodes, Global, Ir}
use Rattle.struct_ir.specs.meaning.Blocks.{Own}
use Rattle.struct_ir.specs.meaning.Threads.{program_of}
use Rattle.struct_ir.specs.meaning.Start.{start, linear_start}
use Rattle.struct_ir.specs.Structured.{Position}
use Rattle.struct_ir.specs.Threads.{Thread}

-- a row of these nodes
abbrev pub row : List Node → Nodes
row [] = no_nodes
row (n ∷ rest) = more_nodes n (row rest)

-- what a pointer in a register points to
abbrev pub at : ℕ → Place
at t = record { base = t; index = None; scale = 0; offset = 0; slot = None }

-- an int is stored
abbrev pub store_int : (to t : ℕ) → Node
store_int to t = plain 10 (step (record { action = store (accesses.Number int); places = at to ∷ []; to = None; temps = t ∷ []; slots = [] }))

-- an int is loaded
abbrev pub load_int : (to from : ℕ) → Node
load_int to from = plain 11 (step (record { action = load (accesses.Number int); places = at from ∷ []; to = Some to; temps = []; slots = [] }))

-- an int is printed
abbrev pub print_int : ℕ → Node
print_int t = plain 12 (step (record { action = print (signed 32 ∷ []); places = []; to = None; temps = t ∷ []; slots = [] }))

-- a register is set
abbrev pub set_to : ℕ → Calc → Node
set_to t c = plain 13 (set t c)

-- a call
abbrev pub call_to : Option ℕ → (function : ℕ) → List ℕ → Node
call_to to function temps = plain 14 (call (record { to = to; function = function; temps = temps; slots = [] }))

-- main with these nodes and one int on the stack, and a function of one parameter
abbrev pub of_nodes : List Node → List Node → Ir
of_nodes nodes others = record {
  globals = [];
  literals = [];
  funcs = record { params = 0; temps = 3; slots = 0; objects = record { size = 4; align = 4 } ∷ []; nodes = row nodes }
      ∷ record { params = 1; temps = 2; slots = 0; objects = []; nodes = row others } ∷ [];
  main = 0;
}

-- so many turns of main
abbrev pub turns : ℕ → List Pick
turns n = replicate n (record { thread = 0; answer = answers.Plain })

-- how far main is
abbrev pub stage_of : List actions.ThreadRecord → Option actions.Stage
stage_of [] = None
stage_of (t ∷ ts) = Some t.stage

-- what a run came to: what is printed and how far main is; a broken rule after so many turns; or a turn that is none
pub data Came : Type 0 where
  came : (output : List ℕ) (main : Option actions.Stage) → Came
  broke : (rule : Rule) (k : ℕ) → Came
  nowhere : (k : ℕ) → Came

-- what is seen of a run
abbrev pub seen : Run (Thread Position Own) → Came
seen (reaches s) = came s.world.output (stage_of s.world.threads)
seen (breaks rule k) = broke rule k
seen (no_run k) = nowhere k

-- so many turns of main
abbrev pub ran : Ir → ℕ → Came
ran p n = seen (run (program_of p) (actions.first_world [] 0) (turns n))

-- t0 = 2; object 0 begins; t2 = its address; for (; t0; print t0, t0 = t0 - 1) { store t0; continue; } t0 = function 1 of t2; return t0;
-- function 1 gives the int that its parameter points to
abbrev pub counting : Ir
counting = of_nodes
    (set_to 0 (constant int (pos 2)) ∷ set_to 1 (constant int (pos 1)) ∷ plain 0 (begin_object 0) ∷ set_to 2 (object 0)
    ∷ loop 0 (row (if_ 0 0 no_nodes (row (break_ 0 ∷ [])) ∷ store_int 2 0 ∷ next_ 0 ∷ print_int 1 ∷ []))
    (row (print_int 0 ∷ set_to 0 (apply Sub int 0 1) ∷ []))
    ∷ call_to (Some 0) 1 (2 ∷ []) ∷ ret 0 (Some 0) ∷ [])
    (load_int 1 0 ∷ ret 0 (Some 1) ∷ [])

-- t0 = 8; t1 = malloc(t0), with this answer
abbrev pub allocating : Answer → Came
allocating answer = seen (run (program_of (of_nodes
    (set_to 0 (constant unsigned_long (pos 8)) ∷ plain 0 (step (record { action = malloc; places = []; to = Some 1; temps = 0 ∷ []; slots = [] })) ∷ []) []))
    (actions.first_world [] 0) (record { thread = 0; answer = answer } ∷ []))

-- t0 = 4294967295 and t1 = 1, of type unsigned int; t2 is what is computed of them, and is printed
abbrev pub of_unsigned : Calc → List Node
of_unsigned calc = set_to 0 (constant unsigned_int (pos 4294967295)) ∷ set_to 1 (constant unsigned_int (pos 1)) ∷ set_to 2 calc ∷ print_int 2 ∷ []

-- two zero bytes, a char, and a pointer to the second literal
abbrev pub some_globals : List Global
some_globals =
    record { size = 2; align = 1; init = zero_bytes }
    ∷ record { size = 1; align = 1; init = number char (pos 65) }
    ∷ record { size = 8; align = 8; init = literal_at 1 }
    ∷ []

-- the bytes of two literals
abbrev pub some_literals : List (List ℕ)
some_literals = (0 ∷ []) ∷ (104 ∷ 0 ∷ []) ∷ []

-- a block of a global
abbrev pub of_global : List Cell → Option Block
of_global cells = Some (record { kind = kinds.Global; cells = cells })

-- a block of a literal
abbrev pub of_literal : List Cell → Option Block
of_literal cells = Some (record { kind = kinds.Literal; cells = cells })

-- the part of a pointer to the start of block 4
abbrev pub part : ℕ → Cell
part = Part 4 0

-- the world in which code with those globals and literals begins, whose main is function 1
abbrev pub first : actions.World
first = record {
  blocks = of_global (Byte 0 ∷ Byte 0 ∷ []) ∷ of_global (Byte 65 ∷ []) ∷ of_global (part 0 ∷ part 1 ∷ part 2 ∷ part 3 ∷ part 4 ∷ part 5 ∷ part 6 ∷ part 7 ∷ [])
      ∷ of_literal (Byte 0 ∷ []) ∷ of_literal (Byte 104 ∷ Byte 0 ∷ []) ∷ [];
  output = [];
  threads = record { function = 1; argument = Null; stage = actions.running } ∷ [];
  reached = [];
}

-- what they come to
pub record RowsHold : Type 0 where
  -- two rounds of three turns, a call that is entered, its load, its return, and main's
  pub counted : ran counting 10 ≡ came (codes "21") (Some (actions.returned (pos 1)))
  pub before_the_call : ran counting 6 ≡ came (codes "21") (Some actions.running)
  -- no turn of a thread that has ended
  pub after_the_end : ran counting 11 ≡ nowhere 10
  -- a malloc takes the two answers of an allocation, and not Plain
  pub allocated : allocating answers.Got ≡ came [] (Some actions.running)
  pub refused : allocating answers.None ≡ came [] (Some actions.running)
  pub unfit : allocating answers.Plain ≡ nowhere 0
  -- a register that was never set; a null pointer that is loaded from; an object that has ended; a test of a pointer to it; the
  -- value of a call that gave none
  pub unset_register : ran (of_nodes (print_int 0 ∷ []) []) 1 ≡ broke C4 0
  pub through_null : ran (of_nodes (set_to 0 null ∷ load_int 1 0 ∷ []) []) 1 ≡ broke C5 0
  pub ended_object : ran (of_nodes (plain 0 (begin_object 0) ∷ set_to 0 (object 0) ∷ plain 0 (end_object 0) ∷ load_int 1 0 ∷ []) []) 1 ≡ broke C5 0
  pub dead_pointer : ran (of_nodes (plain 0 (begin_object 0) ∷ set_to 0 (object 0) ∷ plain 0 (end_object 0) ∷ set_to 1 (pointer_test 0) ∷ []) []) 1 ≡ broke C9 0
  pub no_value : ran (of_nodes (set_to 0 null ∷ call_to (Some 1) 1 (0 ∷ []) ∷ print_int 1 ∷ []) (ret 0 None ∷ [])) 3 ≡ broke C15 2
  -- a comparison of unsigned ints, as such; the same, where the code says that they are ints; a first function that returns a
  -- register that was never set, and one that returns a pointer
  pub unsigned_order : ran (of_nodes (of_unsigned (apply Lt unsigned_int 0 1)) []) 1 ≡ came (codes "0") (Some actions.running)
  pub other_type : ran (of_nodes (of_unsigned (apply Lt int 0 1)) []) 1 ≡ nowhere 0
  pub returns_unset : ran (of_nodes (ret 0 (Some 0) ∷ []) []) 1 ≡ broke C4 0
  pub returns_pointer : ran (of_nodes (set_to 0 null ∷ ret 0 (Some 0) ∷ []) []) 1 ≡ nowhere 0
  -- where structured code begins, and linear code
  pub begins : start (record { globals = some_globals; literals = some_literals; funcs = []; main = 1 }) ≡ first
  pub linear_begins : linear_start (record { globals = some_globals; literals = some_literals; funcs = []; main = 1 }) ≡ first
