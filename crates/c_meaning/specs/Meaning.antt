-- What a C program means: its runs, over named blocks, under every order of its threads' turns and every answer.
use Rattle.std.specs.Prelude.{ℕ, zero, suc, ◌+◌, List, [], ◌∷◌, ◌++◌, length, map, slice_get, Option, Some, None}
use Rattle.ak_words.specs.Num.{num}
use Rattle.block_store.specs.declared.values.Ptr.{Ptr}
use Rattle.block_store.specs.declared.values.Ptr.TheVariants.{To}
use Rattle.block_store.specs.declared.values.Value.{Value}
use Rattle.block_store.specs.declared.values.Value.TheVariants as values
use Rattle.block_store.specs.Blocks.{Block, Blocks, literal_block, global_block}
use Rattle.block_store.specs.Actions.{World, first_world}
use Rattle.block_store.specs.Runs as runs
use Rattle.c_tree.specs.Typed as tree
use Rattle.c_tree.specs.TypedLayout.{size_in}
use Rattle.c_meaning.specs.Control.{Control, begins, leaves}
use Rattle.c_meaning.specs.Turns.{begins_in, turn}

-- the first value of a global, where it has one; a literal's block comes behind the globals (C11 6.7.9 p10)
abbrev pub first_value : (globals : ℕ) → tree.Init → Option Value
first_value globals tree.zero_bytes = None
first_value globals (tree.number t z) = Some (values.Num (num t z))
first_value globals (tree.literal_at number) = Some (values.Pointer (To (globals + number) 0))

-- the block of a global at the start, of the size of its type
abbrev pub block_of : tree.Typed → tree.GlobalVar → Option Block
block_of t g = global_block (size_in t.structs g.ty) (first_value (length t.globals) g.init)

-- the blocks at the start: the globals in order, then the literals in order
abbrev pub first_blocks : tree.Typed → Blocks
first_blocks t = map (block_of t) t.globals ++ map literal_block t.literals

-- the argument of a thread's first function, if it takes one: main takes none
abbrev pub arguments_if : (params : ℕ) → Ptr → List Value
arguments_if zero argument = []
arguments_if (suc n) argument = values.Pointer argument ∷ []

-- a thread begins with a function; of a well formed program there is one of each number that it may begin with
abbrev pub begins_if : (function : ℕ) → Ptr → Option tree.Func → Control
begins_if number argument None = record { function = number; locals = []; point = begins leaves; callers = []; touched = [] }
begins_if number argument (Some f) = begins_in number f (arguments_if f.params argument) []

-- the program: how a thread begins, one turn of it, and how many of its calls wait
abbrev pub program : tree.Typed → runs.Program Control
program t = record {
  main = t.main;
  begins = λ number argument. begins_if number argument (slice_get t.funcs number);
  turn = turn t;
  calls = λ c. length c.callers;
}

-- the world in which a program begins: its first blocks, nothing printed, and one thread, in main (C11 5.1.2)
abbrev pub start : tree.Typed → World
start t = first_world (first_blocks t) t.main

-- the run of an order
abbrev pub run : tree.Typed → List runs.Pick → runs.Run Control
run t order = runs.run (program t) (start t) order

-- what an order shows, turn by turn
abbrev pub shown : tree.Typed → List runs.Pick → List runs.Shown
shown t order = runs.shown (program t) (start t) order
