-- How many declarations a turn can still reach, and that no function has more than so many.
use Rattle.std.specs.Prelude.{ℕ, ◌+◌, ◌≤◌, ◌≡◌, List, [], ◌∷◌, length, slice_get, Option, Some, None}
use Rattle.block_store.specs.Runs.{State}
use Rattle.c_tree.specs.Typed as tree
use Rattle.c_meaning.specs.Control.{Loop, Todo, leaves, then_row, then_end, then_loop, in_body, in_step, in_switch}
use Rattle.c_meaning.specs.Control.{Use, first_of, second_of, only_of, place_read, first_test, second_test, choice, argument, to_local, left_place, to_place, struct_left, struct_right, update_left, update_local, update_right, update_read, if_test, loop_test, switch_test, to_caller, to_nowhere}
use Rattle.c_meaning.specs.Control.{Wait, wanted, dropped, Caller, TurnStart, gives, lacks, begins, round, Control}

-- the declarations of a statement, with those of all statements in it
abbrev mutual
  pub in_stmt : tree.Stmt → ℕ
  in_stmt (tree.at_stmt place node) = in_node node

  pub in_node : tree.StmtNode → ℕ
  in_node (tree.block body) = in_row body
  in_node (tree.declare number init) = 1
  in_node (tree.if_ e one) = in_stmt one
  in_node (tree.if_else e one other) = in_stmt one + in_stmt other
  in_node (tree.while_ e body) = in_stmt body
  in_node (tree.for_ first e step body) = in_stmt first + (in_stmt body + in_stmt step)
  in_node (tree.do_while body e) = in_stmt body
  in_node (tree.switch e labels body) = in_row body
  in_node tree.break_ = 0
  in_node tree.continue_ = 0
  in_node (tree.return_ value) = 0
  in_node (tree.assign left right) = 0
  in_node (tree.update left op right) = 0
  in_node (tree.evaluate e) = 0
  in_node tree.empty = 0

  pub in_row : tree.Stmts → ℕ
  in_row tree.no_stmts = 0
  in_row (tree.more_stmts s rest) = in_stmt s + in_row rest

-- the declarations of a loop's body and step
abbrev pub in_loop : Loop → ℕ
in_loop l = in_stmt l.body + in_stmt l.step

-- the declarations that a turn can reach which goes on with what is left to do: a round's end ends it
abbrev pub reached : Todo → ℕ
reached leaves = 0
reached (then_row rest k) = in_row rest + reached k
reached (then_end numbers k) = reached k
reached (then_loop l k) = in_loop l + reached k
reached (in_body l k) = in_stmt l.step + reached k
reached (in_step l k) = reached k
reached (in_switch k) = reached k

-- the same of a turn that goes on with a value: an action and a call end it
abbrev pub reached_by : Use → ℕ
reached_by (first_of place op right k) = reached_by k
reached_by (second_of place op left k) = reached_by k
reached_by (only_of place op k) = reached_by k
reached_by (place_read place how atomic k) = reached_by k
reached_by (first_test place decides right k) = reached_by k
reached_by (second_test place k) = reached_by k
reached_by (choice place one other k) = reached_by k
reached_by (argument place callee before rest k) = 0
reached_by (to_local number k) = reached k
reached_by (left_place place atomic right k) = reached k
reached_by (to_place place atomic to k) = reached k
reached_by (struct_left place ty right k) = reached k
reached_by (struct_right place ty to k) = reached k
reached_by (update_left u right k) = reached k
reached_by (update_local u number k) = reached k
reached_by (update_right u at k) = reached k
reached_by (update_read u at by k) = reached k
reached_by (if_test place one other k) = in_stmt one + in_stmt other + reached k
reached_by (loop_test place l k) = in_loop l + reached k
reached_by (switch_test labels body k) = in_row body + reached k
reached_by to_caller = 0
reached_by (to_nowhere k) = reached k

-- wherever a later turn begins in what is left to do, it reaches at most n
abbrev pub Fits : (n : ℕ) → Todo → Type 0
Fits n leaves = Unit {0}
Fits n (then_row rest k) = (in_row rest + reached k ≤ n) × Fits n k
Fits n (then_end numbers k) = Fits n k
Fits n (then_loop l k) = (in_loop l + reached k ≤ n) × Fits n k
Fits n (in_body l k) = (in_loop l + reached k ≤ n) × Fits n k
Fits n (in_step l k) = (in_loop l + reached k ≤ n) × Fits n k
Fits n (in_switch k) = Fits n k

-- the same of a use of a value, and of what waits for one
abbrev mutual
  pub FitsUse : (n : ℕ) → Use → Type 0
  FitsUse n (first_of place op right k) = FitsUse n k
  FitsUse n (second_of place op left k) = FitsUse n k
  FitsUse n (only_of place op k) = FitsUse n k
  FitsUse n (place_read place how atomic k) = FitsUse n k
  FitsUse n (first_test place decides right k) = FitsUse n k
  FitsUse n (second_test place k) = FitsUse n k
  FitsUse n (choice place one other k) = FitsUse n k
  FitsUse n (argument place callee before rest k) = FitsWait n k
  FitsUse n (to_local number k) = Fits n k
  FitsUse n (left_place place atomic right k) = Fits n k
  FitsUse n (to_place place atomic to k) = Fits n k
  FitsUse n (struct_left place ty right k) = Fits n k
  FitsUse n (struct_right place ty to k) = Fits n k
  FitsUse n (update_left u right k) = Fits n k
  FitsUse n (update_local u number k) = Fits n k
  FitsUse n (update_right u at k) = Fits n k
  FitsUse n (update_read u at by k) = Fits n k
  FitsUse n (if_test place one other k) = (in_stmt one + in_stmt other + reached k ≤ n) × Fits n k
  FitsUse n (loop_test place l k) = (in_loop l + reached k ≤ n) × Fits n k
  FitsUse n (switch_test labels body k) = (in_row body + reached k ≤ n) × Fits n k
  FitsUse n to_caller = Unit {0}
  FitsUse n (to_nowhere k) = Fits n k

  pub FitsWait : (n : ℕ) → Wait → Type 0
  FitsWait n (wanted place k) = FitsUse n k
  FitsWait n (dropped k) = Fits n k

-- the same of where a turn begins
abbrev pub FitsPoint : (n : ℕ) → TurnStart → Type 0
FitsPoint n (gives v k) = FitsUse n k
FitsPoint n (lacks place) = Unit {0}
FitsPoint n (begins k) = Fits n k
FitsPoint n (round l k) = (in_loop l + reached k ≤ n) × Fits n k

-- the same of the calls that wait
abbrev pub FitsCallers : (n : ℕ) → List Caller → Type 0
FitsCallers n [] = Unit {0}
FitsCallers n (c ∷ callers) = FitsWait n c.wait × FitsCallers n callers

-- the same of a thread
abbrev pub FitsControl : (n : ℕ) → Control → Type 0
FitsControl n c = FitsPoint n c.point × FitsCallers n c.callers

-- of all threads
abbrev pub FitsOwns : (n : ℕ) → List (Option Control) → Type 0
FitsOwns n [] = Unit {0}
FitsOwns n (None ∷ all) = FitsOwns n all
FitsOwns n (Some c ∷ all) = FitsControl n c × FitsOwns n all

-- no function has more than n declarations
abbrev pub HasFewDeclarations : (n : ℕ) → tree.Typed → Type 0
HasFewDeclarations n typed = (number : ℕ) (f : tree.Func) → slice_get typed.funcs number ≡ Some f → in_row f.body ≤ n

-- no function has more than n declarations, and no turn of a thread reaches more
pub record ReachesFew (n : ℕ) (typed : tree.Typed) (s : State Control) : Type 0 where
  pub functions : HasFewDeclarations n typed
  pub threads : FitsOwns n s.own

-- from one state to another at most n blocks are made, and one
pub record MakesFew (n : ℕ) (typed : tree.Typed) (before after : State Control) : Type 0 where
  pub made : length after.world.blocks ≤ length before.world.blocks + n + 1
  pub few : ReachesFew n typed after
