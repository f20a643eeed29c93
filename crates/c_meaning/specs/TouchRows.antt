-- What the turns of small programs touch, worked out by hand. Each place is 0.
use Rattle.std.specs.Prelude.{◌≡◌, ℕ, ℤ, List, [], ◌∷◌, ◌++◌, Some, None, pos}
use Rattle.block_store.specs.Runs.{Pick}
use Rattle.c_tree.specs.Typed
use Rattle.c_tree.specs.Typed.{assign, update}
use Rattle.ak_words.specs.declared.operation.Op.TheVariants as ops
use Rattle.c_meaning.specs.AtomicRows.{with_a, a0, value_of_a, compared_twice}
use Rattle.c_meaning.specs.Rows.{int_ty, k, printf_int, returns, in_memory, main_only, joined_twice, turns, got}
use Rattle.c_meaning.specs.Rows as rows
use Rattle.c_tree.specs.Typed.{integer, atomic}
use Rattle.ak_words.specs.IntType.{int}
use Rattle.c_meaning.specs.Touching.{turns_of}
use Rattle.race_rules.specs.declared.touch.Touch.{Touch}
use Rattle.race_rules.specs.declared.touch.TouchKind.{TouchKind}
use Rattle.race_rules.specs.declared.touch.TouchKind.TheVariants.{Read, Write, AtomicRead, AtomicWrite, Start, Join}
use Rattle.race_rules.specs.Turns.{Turn}

-- a touch of these cells of a block
abbrev pub of_cells : TouchKind → (block from to : ℕ) → Touch
of_cells kind block from to = record { kind = kind; block = block; from = from; to = to; place = 0 }

-- a turn of a thread that touches this
abbrev pub turn : (thread : ℕ) → List Touch → Turn
turn thread touches = record { thread = thread; touches = touches }

-- _Atomic int a=5;int main(void){a=2;a+=1;printf("%d\n",a);return 0;}
abbrev pub atomic_turns : List Turn
atomic_turns = turns_of (with_a (atomic int) (pos 5) [] (assign a0 (k 2) ∷ update a0 ops.Add (k 1) ∷ printf_int value_of_a ∷ returns (k 0) ∷ [])) (turns 0 5)

-- int a=5;, and the same
abbrev pub plain_turns : List Turn
plain_turns = turns_of (with_a int_ty (pos 5) [] (assign rows.x0 (k 2) ∷ update rows.x0 ops.Add (k 1) ∷ printf_int rows.x0 ∷ returns (k 0) ∷ [])) (turns 0 6)

-- the first comparison misses, and the second doesn't
abbrev pub compare_turns : List Turn
compare_turns = turns_of compared_twice (turns 0 2)

-- a thread frees what main reads then, which breaks a rule
abbrev pub freed_turns : List Turn
freed_turns = turns_of rows.shared_block (rows.first_turns 0 ++ turns 1 2 ++ turns 0 2)

-- a thread is made, ends, and is joined twice, which breaks a rule
abbrev pub joined_turns : List Turn
joined_turns = turns_of joined_twice (got 0 ++ turns 1 1 ++ turns 0 4)

-- what turns touch
pub record TouchesStand : Type 0 where
  -- an atomic number is touched as one
  pub atomic_touches : atomic_turns ≡ turn 0 (of_cells AtomicWrite 0 0 4 ∷ []) ∷ turn 0 (of_cells AtomicRead 0 0 4 ∷ of_cells AtomicWrite 0 0 4 ∷ []) ∷ turn 0 (of_cells AtomicRead 0 0 4 ∷ []) ∷ turn 0 [] ∷ turn 0 [] ∷ []
  -- and a plain one as one that isn't
  pub plain_touches : plain_turns ≡ turn 0 (of_cells Write 0 0 4 ∷ []) ∷ turn 0 (of_cells Read 0 0 4 ∷ []) ∷ turn 0 (of_cells Write 0 0 4 ∷ []) ∷ turn 0 (of_cells Read 0 0 4 ∷ []) ∷ turn 0 [] ∷ turn 0 [] ∷ []
  -- a compare that misses writes the wanted number
  pub compare_touches : compare_turns ≡ turn 0 (of_cells Write 1 0 4 ∷ []) ∷ turn 0 (of_cells AtomicRead 0 0 4 ∷ of_cells Read 1 0 4 ∷ of_cells Write 1 0 4 ∷ []) ∷ []
  -- free writes the whole block; no turn is told from a broken rule on
  pub freed_touches : freed_turns ≡ turn 0 [] ∷ turn 0 (of_cells Write 0 0 8 ∷ []) ∷ turn 0 (of_cells Read 0 0 8 ∷ []) ∷ turn 0 (of_cells Write 1 0 4 ∷ []) ∷ turn 0 (of_cells Write 2 0 8 ∷ of_cells (Start 1) 0 0 0 ∷ []) ∷ turn 1 (of_cells Read 0 0 8 ∷ []) ∷ turn 1 (of_cells Write 1 0 4 ∷ []) ∷ turn 0 (of_cells Read 0 0 8 ∷ []) ∷ []
  -- a thread that is made is started, and one that is joined is joined
  pub joined_touches : joined_turns ≡ turn 0 (of_cells Write 0 0 8 ∷ of_cells (Start 1) 0 0 0 ∷ []) ∷ turn 1 [] ∷ turn 0 (of_cells Read 0 0 8 ∷ []) ∷ turn 0 (of_cells (Join 1) 0 0 0 ∷ []) ∷ turn 0 (of_cells Read 0 0 8 ∷ []) ∷ []
