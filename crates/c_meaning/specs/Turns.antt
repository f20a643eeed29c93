-- What a thread of the source does in a turn, form by form (C11 6.5 to 6.8; the order of evaluation is this project's profile: from left
-- to right). A turn goes on until one action is done, one round of a loop is over, a call of a function is entered, or a call is left.
-- All else belongs to the turn in which it's met, also the begin and end of locals.
--
-- What follows an expression or a statement is a way: what is left to do, as data, which is kept where a turn ends, and what it does,
-- which goes on inside a turn.
use Rattle.std.specs.Prelude.{ℕ, zero, suc, ◌+◌, ◌-◌, Bool, true, false, not, ◌==◌, if◌then◌else◌, List, [], ◌∷◌, ◌++◌, length, map, set, replicate, slice_get, Option, Some, None, Result, Ok, Err, ℤ, pos}
use Rattle.ak_words.specs.declared.operation.Op.{Op}
use Rattle.ak_words.specs.declared.rule.Rule.{Rule}
use Rattle.ak_words.specs.declared.rule.Rule.TheVariants.{C4, C15}
use Rattle.ak_words.specs.IntType.{int}
use Rattle.ak_words.specs.Num.{num}
use Rattle.block_store.specs.declared.values.Access.{Access}
use Rattle.block_store.specs.declared.values.Answer.{Answer}
use Rattle.block_store.specs.declared.values.Answer.TheVariants as answers
use Rattle.block_store.specs.declared.values.Ptr.TheVariants.{Null, To}
use Rattle.block_store.specs.declared.values.Ptr.{Ptr}
use Rattle.block_store.specs.declared.values.Value.{Value}
use Rattle.block_store.specs.declared.values.Value.TheVariants as values
use Rattle.block_store.specs.Actions as actions
use Rattle.block_store.specs.Actions.{World, with_local, without_local, SharedAction}
use Rattle.block_store.specs.Runs.{Turn, went, ended, blocked, unfit, broke}
use Rattle.c_tree.specs.Typed as tree
use Rattle.c_tree.specs.TypedLayout.{size_in, align_in}
use Rattle.c_meaning.specs.Values.{access_of_type, is_scalar, is_atomic, is_minus, element_size, member_offset, int_of, truth_of, Unary, converts, negates, tests, selects, Binary, on_numbers, forward, backward, distance, on_pointers, of_one, of_two, updated}
use Rattle.race_rules.specs.declared.touch.Touch.{Touch}
use Rattle.c_meaning.specs.Touches.{touches_of}
use Rattle.c_meaning.specs.Library.{changed_by, action_of, value_of_call, names_atomic}
use Rattle.c_meaning.specs.Switches.{chosen, starts_at}
use Rattle.c_meaning.specs.Control.{Variable, unset, holds, lies, Loop, Update, Callee, function, library, Todo, leaves, then_row, then_end, then_loop, in_body, in_step, in_switch}
use Rattle.c_meaning.specs.Control.{Use, first_of, second_of, only_of, place_read, first_test, second_test, choice, argument, to_local, left_place, to_place, struct_left, struct_right, update_left, update_local, update_right, update_read, if_test, loop_test, switch_test, to_caller, to_nowhere}
use Rattle.c_meaning.specs.Control.{Wait, wanted, dropped, Caller, TurnStart, gives, lacks, begins, round, Control}

-- what stays the same in a turn: the program, the thread's number, the answer that the turn is told, and the function and the callers
-- of the call under way
pub record TurnContext : Type 0 where
  pub typed : tree.Typed
  pub thread : ℕ
  pub answer : Answer
  pub function : ℕ
  pub callers : List Caller

-- what changes in it: the locals of the call under way, and what threads share
pub record Now : Type 0 where
  pub locals : List Variable
  pub world : World

-- the rest of a turn
abbrev pub Does : Type 0
Does = Now → Turn Control

-- what follows a value
pub record WayOfUse : Type 0 where
  pub k : Use
  pub go : Value → Does

-- what follows a statement, at its end, a break and a continue
pub record Way : Type 0 where
  pub k : Todo
  pub end : Does
  pub breaks : Does
  pub continues : Does

-- ---- where a turn ends

-- a result, or the rule that is broken at a place
abbrev pub on_ok : {V : Type 0} → (place : ℕ) → (V → Turn Control) → Result V Rule → Turn Control
on_ok place go (Ok v) = go v
on_ok place go (Err rule) = broke rule place

-- a turn that ends without an action takes Plain alone
abbrev pub plainly : Answer → Turn Control → Turn Control
plainly answers.Plain t = t
plainly answers.Got t = unfit
plainly answers.None t = unfit

-- the call under way goes on from a point in its next turn
abbrev pub stays : TurnContext → List Variable → TurnStart → World → Turn Control
stays h locals point w = went (record { function = h.function; locals = locals; point = point; callers = h.callers; touched = [] }) w

-- the thread keeps what it touched
abbrev pub having_touched : List Touch → Turn Control → Turn Control
having_touched touched (went c w) = went (record { function = c.function; locals = c.locals; point = c.point; callers = c.callers; touched = touched }) w
having_touched touched (ended w) = ended w
having_touched touched blocked = blocked
having_touched touched unfit = unfit
having_touched touched (broke rule place) = broke rule place

-- how an action comes out
abbrev pub on_done : (place : ℕ) → (Option Value → World → Turn Control) → actions.Done → Turn Control
on_done place go (actions.went v w) = go v w
on_done place go actions.blocked = blocked
on_done place go actions.unfit = unfit
on_done place go (actions.broke rule) = broke rule place

-- an action is done, and ends the turn; at this place it is named what the action reaches, which is an atomic object or not
abbrev pub acts : TurnContext → (place : ℕ) → (atomic : Bool) → SharedAction → (Option Value → World → Turn Control) → Does
acts h place atomic action go x =
    on_done place (λ v w. having_touched (touches_of place x.world h.answer atomic action) (go v w)) (actions.acted x.world h.thread h.answer action)

-- what a call's value leads to
abbrev pub after_call : Wait → Option Value → TurnStart
after_call (wanted place k) (Some v) = gives v k
after_call (wanted place k) None = lacks place
after_call (dropped k) v = begins k

-- ---- locals

-- the function of the call under way
abbrev pub func_at : TurnContext → Option tree.Func
func_at h = slice_get h.typed.funcs h.function

-- what a function says of its local of this number: the type, and whether it lies in memory
abbrev pub declared_in : Option tree.Func → (number : ℕ) → Option tree.Local
declared_in None number = None
declared_in (Some f) number = slice_get f.locals number

-- what the function of the call under way says of its local of this number
abbrev pub local_at : TurnContext → (number : ℕ) → Option tree.Local
local_at h number = declared_in (func_at h) number

-- the local lies in memory, in a block of its own
abbrev pub is_block : Option tree.Local → Bool
is_block None = false
is_block (Some l) = l.in_memory

-- the local is a number that is read and written whole
abbrev pub is_atomic_local : Option tree.Local → Bool
is_atomic_local None = false
is_atomic_local (Some l) = is_atomic l.ty

-- the size of a local's type
abbrev pub size_of_local : TurnContext → Option tree.Local → ℕ
size_of_local h None = 0
size_of_local h (Some l) = size_in h.typed.structs l.ty

-- what a local holds
abbrev pub variable_or_unset : Option Variable → Variable
variable_or_unset None = unset
variable_or_unset (Some v) = v

-- what the local of this number holds in the call under way
abbrev pub variable_at : Now → (number : ℕ) → Variable
variable_at x number = variable_or_unset (slice_get x.locals number)

-- the local of this number holds this from now on
abbrev pub with_variable : (number : ℕ) → Variable → Now → Now
with_variable number v x = record { locals = set x.locals number v; world = x.world }

-- the block of a local ends, if it has one
abbrev pub ended_if : (number : ℕ) → Variable → Now → Now
ended_if number unset x = x
ended_if number (holds v) x = x
ended_if number (lies block) x = record { locals = set x.locals number unset; world = without_local x.world block }

-- the block of the local of this number ends, if it has one
abbrev pub ended_local : (number : ℕ) → Now → Now
ended_local number x = ended_if number (variable_at x number) x

-- the blocks of these locals end, in order (C11 6.2.4 p6)
abbrev pub ended_locals : List ℕ → Now → Now
ended_locals [] x = x
ended_locals (number ∷ numbers) x = ended_locals numbers (ended_local number x)

-- a local gets a block of its own, also where it had one
abbrev pub with_block : (number size : ℕ) → Now → Now
with_block number size x = record { locals = set x.locals number (lies (length x.world.blocks)); world = with_local x.world size }

-- the block that a local had ends, if it had one, and it gets a new one of its type's size
abbrev pub made_local : TurnContext → (number : ℕ) → Now → Now
made_local h number x = with_block number (size_of_local h (local_at h number)) (ended_local number x)

-- a declaration is reached: its local has a block of cells that were never written, or no value (C11 6.2.4 p6)
abbrev pub declared_local : TurnContext → (number : ℕ) → Now → Now
declared_local h number x = if is_block (local_at h number) then made_local h number x else with_variable number unset x

-- the world without the block of this local
abbrev pub without_block : Variable → World → World
without_block unset w = w
without_block (holds v) w = w
without_block (lies block) w = without_local w block

-- the world in which the blocks of all these locals have ended
abbrev pub without_blocks : List Variable → World → World
without_blocks [] w = w
without_blocks (v ∷ vs) w = without_blocks vs (without_block v w)

-- the locals that the statements of a block declare, and not those of blocks in it
abbrev pub with_declared : tree.StmtNode → List ℕ → List ℕ
with_declared (tree.declare number init) numbers = number ∷ numbers
with_declared node numbers = numbers

-- the local that this statement declares, if it is a declaration, and then those already found
abbrev pub declared_by : tree.Stmt → List ℕ → List ℕ
declared_by (tree.at_stmt place node) numbers = with_declared node numbers

-- the locals that these statements declare, in order
abbrev pub declared : tree.Stmts → List ℕ
declared tree.no_stmts = []
declared (tree.more_stmts s rest) = declared_by s (declared rest)

-- ---- calls

-- the locals of a function's call: its parameters have the arguments' values, the others none
abbrev pub first_locals : tree.Func → List Value → List Variable
first_locals f args = map holds args ++ replicate (length f.locals - length args) unset

-- where a thread stands that has just entered a function: before the first statement of its body, above these callers
abbrev pub begins_in : (function : ℕ) → tree.Func → List Value → (callers : List Caller) → Control
begins_in number f args callers = record { function = number; locals = first_locals f args; point = begins (then_row f.body leaves); callers = callers; touched = [] }

-- a function is entered
abbrev pub enters : TurnContext → (function : ℕ) → List Value → Wait → Now → Option tree.Func → Turn Control
enters h number args k x None = unfit
enters h number args k x (Some f) =
    plainly h.answer (went (begins_in number f args (record { function = h.function; locals = x.locals; wait = k } ∷ h.callers)) x.world)

-- a library's call is an action
abbrev pub calls_library : TurnContext → (place : ℕ) → tree.Lib → List Value → Wait → Option SharedAction → Does
calls_library h place which args k None x = unfit
calls_library h place which args k (Some action) x = acts h place (names_atomic which) action (λ v w. stays h x.locals (after_call k (value_of_call which args v)) w) x

-- a call, of which the arguments' values are known
abbrev pub calls : TurnContext → (place : ℕ) → Callee → List Value → Wait → Does
calls h place (function number) args k x = enters h number args k x (slice_get h.typed.funcs number)
calls h place (library which) args k x = calls_library h place which args k (action_of which args) x

-- the value that a function ends with: main gives 0 where it has none (C11 5.1.2.2.3; this project's profile where the program calls it)
abbrev pub result_of_call : TurnContext → Option Value → Option Value
result_of_call h (Some v) = Some v
result_of_call h None = if h.function == h.typed.main then Some (values.Num (num int (pos 0))) else None

-- the number that a thread's first function returns
abbrev pub number_in : Option Value → Option ℤ
number_in (Some (values.Num n)) = Some n.value
number_in (Some (values.Pointer p)) = None
number_in None = None

-- a call is left: the thread goes on in the caller, or its first function has returned, which is an action
abbrev pub returns_to : TurnContext → Option Value → World → List Caller → Turn Control
returns_to h v w [] = on_done 0 (λ u next. ended next) (actions.acted w h.thread h.answer (actions.finish (number_in v)))
returns_to h v w (c ∷ callers) = plainly h.answer (went (record { function = c.function; locals = c.locals; point = after_call c.wait v; callers = callers; touched = [] }) w)

-- its locals end
abbrev pub leaves_call : TurnContext → Option Value → Does
leaves_call h v x = returns_to h (result_of_call h v) (without_blocks x.locals x.world) h.callers

-- ---- expressions

-- the pointer that a value is; in a well typed program no number stands here
abbrev pub pointer_in : Value → Ptr
pointer_in (values.Pointer p) = p
pointer_in (values.Num n) = Null

-- an object is read: one action
abbrev pub read_way : TurnContext → (place : ℕ) → Access → (atomic : Bool) → WayOfUse → WayOfUse
read_way h place how atomic w = record {
  k = place_read place how atomic w.k;
  go = λ v x. acts h place atomic (actions.load (pointer_in v) how) (λ u next. stays h x.locals (after_call (wanted place w.k) u) next) x;
}

-- one operand, and two: the left one is evaluated first
abbrev pub only_way : (place : ℕ) → Unary → WayOfUse → WayOfUse
only_way place op w = record { k = only_of place op w.k; go = λ v x. on_ok place (λ r. w.go r x) (of_one x.world.blocks op v) }

-- once the right operand has its value: the operator is applied to both
abbrev pub second_way : (place : ℕ) → Binary → (left : Value) → WayOfUse → WayOfUse
second_way place op left w = record { k = second_of place op left w.k; go = λ v x. on_ok place (λ r. w.go r x) (of_two x.world.blocks op left v) }

-- once the left operand has its value: the right one is evaluated
abbrev pub first_way : (place : ℕ) → Binary → tree.Expr → (WayOfUse → Does) → WayOfUse → WayOfUse
first_way place op right run_right w = record { k = first_of place op right w.k; go = λ v. run_right (second_way place op v w) }

-- && and ||: the right operand is evaluated only where the left one doesn't decide (C11 6.5.13, 6.5.14)
abbrev pub second_test_way : (place : ℕ) → WayOfUse → WayOfUse
second_test_way place w = record { k = second_test place w.k; go = λ v x. on_ok place (λ b. w.go (int_of b) x) (truth_of x.world.blocks v) }

-- two truth values are the same
abbrev pub is_same : (a b : Bool) → Bool
is_same true b = b
is_same false b = not b

-- once the left operand of && or || has its value: that decides, and the result is 0 or 1, or else the right one is evaluated
abbrev pub first_test_way : (place : ℕ) → (decides : Bool) → tree.Expr → (WayOfUse → Does) → WayOfUse → WayOfUse
first_test_way place decides right run_right w = record {
  k = first_test place decides right w.k;
  go = λ v x. on_ok place (λ b. if is_same b decides then w.go (int_of b) x else run_right (second_test_way (tree.place_of right) w) x) (truth_of x.world.blocks v);
}

-- ?: (C11 6.5.15)
abbrev pub choice_way : (place : ℕ) → (one other : tree.Expr) → (run_one run_other : WayOfUse → Does) → WayOfUse → WayOfUse
choice_way place one other run_one run_other w = record {
  k = choice place one other w.k;
  go = λ v x. on_ok place (λ b. if b then run_one w x else run_other w x) (truth_of x.world.blocks v);
}

-- an argument: the rest follow it (C11 6.5.2.2 p10, from left to right)
abbrev pub argument_way : (place : ℕ) → Callee → (before : List Value) → tree.Exprs → (List Value → Wait → Does) → Wait → WayOfUse
argument_way place callee before rest run_rest k = record { k = argument place callee before rest k; go = λ v. run_rest (before ++ v ∷ []) k }

-- the value of a local: it has one, or lies in a block, which is read; else C4 (C11 6.3.2.1 p2)
abbrev pub reads_variable : TurnContext → (place : ℕ) → tree.Ty → WayOfUse → Variable → Does
reads_variable h place ty w unset x = broke C4 place
reads_variable h place ty w (holds v) x = w.go v x
reads_variable h place ty w (lies block) x = (read_way h place (access_of_type ty) (is_atomic ty) w).go (values.Pointer (To block 0)) x

-- the block of a local; C4 where it has none yet
abbrev pub finds_variable : (place : ℕ) → WayOfUse → Variable → Does
finds_variable place w unset x = broke C4 place
finds_variable place w (holds v) x = broke C4 place
finds_variable place w (lies block) x = w.go (values.Pointer (To block 0)) x

-- the blocks of globals have the first names, and those of literals the next ones
abbrev pub literal_block : TurnContext → (number : ℕ) → ℕ
literal_block h number = length h.typed.globals + number

-- the size of the elements that a pointer points to (C11 6.5.6)
abbrev pub size_of_elements : TurnContext → tree.Expr → ℕ
size_of_elements h p = element_size h.typed.structs (tree.type_of p)

-- `run` evaluates an expression to its value, `run_place` an lvalue to the pointer to its object, and `run_arguments` the arguments of
-- a call, which it then makes
abbrev mutual
  -- an expression is evaluated to its value, by its form, its type and its place in the text
  pub run : TurnContext → tree.Expr → WayOfUse → Does
  run h (tree.at place ty node) w x = run_node h place ty node w x

  -- the same for each form: a constant is its value, an lvalue is read (C11 6.3.2.1 p2), and operands are evaluated from left to right
  pub run_node : TurnContext → (place : ℕ) → tree.Ty → tree.ExprNode → WayOfUse → Does
  run_node h place ty (tree.num t z) w x = w.go (values.Num (num t z)) x
  run_node h place ty tree.null w x = w.go (values.Pointer Null) x
  run_node h place ty (tree.literal number) w x = (read_way h place (access_of_type ty) (is_atomic ty) w).go (values.Pointer (To (literal_block h number) 0)) x
  run_node h place ty (tree.global number) w x = (read_way h place (access_of_type ty) (is_atomic ty) w).go (values.Pointer (To number 0)) x
  run_node h place ty (tree.local number) w x = reads_variable h place ty w (variable_at x number) x
  run_node h place ty (tree.deref e) w x = run h e (read_way h place (access_of_type ty) (is_atomic ty) w) x
  run_node h place ty (tree.member e number) w x =
      run_place h e (only_way place (selects (member_offset h.typed.structs (tree.type_of e) number)) (read_way h place (access_of_type ty) (is_atomic ty) w)) x
  run_node h place ty (tree.address_of e) w x = run_place h e w x
  run_node h place ty (tree.decay e) w x = run_place h e w x
  run_node h place ty (tree.convert e) w x = run h e (only_way place (converts ty) w) x
  run_node h place ty (tree.not_ e) w x = run h e (only_way place negates w) x
  run_node h place ty (tree.binary op a b) w x = run h a (first_way place (on_numbers op) b (run h b) w) x
  run_node h place ty (tree.and_also a b) w x = run h a (first_test_way (tree.place_of a) false b (run h b) w) x
  run_node h place ty (tree.or_else a b) w x = run h a (first_test_way (tree.place_of a) true b (run h b) w) x
  run_node h place ty (tree.choose c a b) w x = run h c (choice_way (tree.place_of c) a b (run h a) (run h b) w) x
  run_node h place ty (tree.pointer_add a b) w x = run h a (first_way place (forward (element_size h.typed.structs ty)) b (run h b) w) x
  run_node h place ty (tree.pointer_sub p n) w x = run h p (first_way place (backward (size_of_elements h p)) n (run h n) w) x
  run_node h place ty (tree.pointer_diff p q) w x = run h p (first_way place (distance (size_of_elements h p)) q (run h q) w) x
  run_node h place ty (tree.pointer_compare op p q) w x = run h p (first_way place (on_pointers op) q (run h q) w) x
  run_node h place ty (tree.pointer_test p) w x = run h p (only_way place tests w) x
  run_node h place ty (tree.call number args) w x = run_arguments h place (function number) args [] (wanted place w.k) x
  run_node h place ty (tree.lib which args) w x = run_arguments h place (library which) args [] (wanted place w.k) x

  -- an lvalue is evaluated to the pointer to its object, which isn't read
  pub run_place : TurnContext → tree.Expr → WayOfUse → Does
  run_place h (tree.at place ty node) w x = run_place_node h place node w x

  -- the same for each form that is an lvalue; in a well typed program no other stands here
  pub run_place_node : TurnContext → (place : ℕ) → tree.ExprNode → WayOfUse → Does
  run_place_node h place (tree.literal number) w x = w.go (values.Pointer (To (literal_block h number) 0)) x
  run_place_node h place (tree.global number) w x = w.go (values.Pointer (To number 0)) x
  run_place_node h place (tree.local number) w x = finds_variable place w (variable_at x number) x
  run_place_node h place (tree.deref e) w x = run h e w x
  run_place_node h place (tree.member e number) w x =
      run_place h e (only_way place (selects (member_offset h.typed.structs (tree.type_of e) number)) w) x
  run_place_node h place node w x = unfit

  -- the arguments that are left are evaluated from left to right, behind those whose values are known, and then the call is made
  pub run_arguments : TurnContext → (place : ℕ) → Callee → tree.Exprs → List Value → Wait → Does
  run_arguments h place callee tree.no_exprs before k x = calls h place callee before k x
  run_arguments h place callee (tree.more_exprs e rest) before k x = run h e (argument_way place callee before rest (run_arguments h place callee rest) k) x

-- ---- statements

-- a value that nothing uses
abbrev pub nowhere_way : Way → WayOfUse
nowhere_way w = record { k = to_nowhere w.k; go = λ v x. w.end x }

-- an object whose value is dropped: a number, also an atomic one, or a pointer is read all the same, and any other object is only found
abbrev pub drops_object : TurnContext → (place : ℕ) → tree.Ty → tree.ExprNode → Way → Does
drops_object h place ty node w x = if is_scalar ty then run_node h place ty node (nowhere_way w) x else run_place_node h place node (nowhere_way w) x

-- an expression whose value is dropped: a call's isn't missed; a struct, an array or an object of type void is found and not read
abbrev mutual
  -- an expression is evaluated, and its value is dropped (C11 6.8.3 p2)
  pub run_dropped : TurnContext → tree.Expr → Way → Does
  run_dropped h (tree.at place ty node) w x = run_dropped_node h place ty node w x

  -- the same for each form; a cast to void drops its operand's value (C11 6.3.2.2)
  pub run_dropped_node : TurnContext → (place : ℕ) → tree.Ty → tree.ExprNode → Way → Does
  run_dropped_node h place ty (tree.call number args) w x = run_arguments h place (function number) args [] (dropped w.k) x
  run_dropped_node h place ty (tree.lib which args) w x = run_arguments h place (library which) args [] (dropped w.k) x
  run_dropped_node h place tree.void (tree.convert e) w x = run_dropped h e w x
  run_dropped_node h place ty (tree.literal number) w x = drops_object h place ty (tree.literal number) w x
  run_dropped_node h place ty (tree.global number) w x = drops_object h place ty (tree.global number) w x
  run_dropped_node h place ty (tree.local number) w x = drops_object h place ty (tree.local number) w x
  run_dropped_node h place ty (tree.deref e) w x = drops_object h place ty (tree.deref e) w x
  run_dropped_node h place ty (tree.member e number) w x = drops_object h place ty (tree.member e number) w x
  run_dropped_node h place ty node w x = run_node h place ty node (nowhere_way w) x

-- a local gets a value; an object does: one action, whose check is placed at the left side (C11 6.5.16.1)
abbrev pub local_way : (number : ℕ) → Way → WayOfUse
local_way number w = record { k = to_local number w.k; go = λ v x. w.end (with_variable number (holds v) x) }

-- once the value is there: it is stored in the object that was found before, one action
abbrev pub place_way : TurnContext → (place : ℕ) → (atomic : Bool) → (to : Value) → Way → WayOfUse
place_way h place atomic to w = record {
  k = to_place place atomic to w.k;
  go = λ v x. acts h place atomic (actions.store (pointer_in to) v) (λ u next. stays h x.locals (begins w.k) next) x;
}

-- the left side's place is found, then the right side is evaluated
abbrev pub left_way : TurnContext → (place : ℕ) → (atomic : Bool) → tree.Expr → Way → WayOfUse
left_way h place atomic right w = record { k = left_place place atomic right w.k; go = λ v. run h right (place_way h place atomic v w) }

-- a struct is assigned, also to itself: one action
abbrev pub struct_right_way : TurnContext → (place : ℕ) → tree.Ty → (to : Value) → Way → WayOfUse
struct_right_way h place ty to w = record {
  k = struct_right place ty to w.k;
  go = λ v x. acts h place false (actions.copy (pointer_in to) (pointer_in v) (size_in h.typed.structs ty) (align_in h.typed.structs ty) true) (λ u next. stays h x.locals (begins w.k) next) x;
}

-- once the struct of the left side is found: the one of the right side is found
abbrev pub struct_left_way : TurnContext → (place : ℕ) → tree.Ty → tree.Expr → Way → WayOfUse
struct_left_way h place ty right w = record { k = struct_left place ty right w.k; go = λ v. run_place h right (struct_right_way h place ty v w) }

-- the type of a struct
abbrev pub is_struct : tree.Ty → Bool
is_struct (tree.structure number) = true
is_struct ty = false

-- an assignment to an object, by its type
abbrev pub assigns_object : TurnContext → tree.Expr → tree.Expr → Way → Does
assigns_object h left right w =
    if is_struct (tree.type_of left) then run_place h left (struct_left_way h (tree.place_of left) (tree.type_of left) right w)
    else run_place h left (left_way h (tree.place_of left) (is_atomic (tree.type_of left)) right w)

-- an assignment, by its left side: a local without a block, or an object
abbrev pub assigns : TurnContext → tree.ExprNode → (left right : tree.Expr) → Way → Does
assigns h (tree.local number) left right w =
    if is_block (local_at h number) then assigns_object h left right w else run h right (local_way number w)
assigns h node left right w = assigns_object h left right w

-- a op= b: the place of a, then b, then a is read, and the result is stored: two actions; but an a that is atomic is changed, in one
-- (C11 6.5.16.2)
abbrev pub update_read_way : TurnContext → Update → (at by : Value) → Way → WayOfUse
update_read_way h u at by w = record {
  k = update_read u at by w.k;
  go = λ v x. on_ok u.operator (λ r. (place_way h u.place false at w).go r x) (updated h.typed.structs x.world.blocks u.ty u.op v by);
}

-- a is read, one action
abbrev pub update_reads : TurnContext → Update → (at by : Value) → Way → Does
update_reads h u at by w x = acts h u.place false (actions.load (pointer_in at) (access_of_type u.ty)) (λ read next. stays h x.locals (after_call (wanted u.place (update_read u at by w.k)) read) next) x

-- a, which is atomic, is changed, one action, and its old number is dropped (C11 6.5.16.2 p3)
abbrev pub update_changes : TurnContext → Update → Way → Option SharedAction → Does
update_changes h u w None x = unfit
update_changes h u w (Some action) x = acts h u.place true action (λ old next. stays h x.locals (begins w.k) next) x

-- once b has its value: a is changed where it is atomic, and else read
abbrev pub update_right_way : TurnContext → Update → (at : Value) → Way → WayOfUse
update_right_way h u at w = record {
  k = update_right u at w.k;
  go = λ v x. if is_atomic u.ty then update_changes h u w (changed_by (is_minus u.op) (pointer_in at) v) x else update_reads h u at v w x;
}

-- once the place of a is found: b is evaluated
abbrev pub update_left_way : TurnContext → Update → tree.Expr → Way → WayOfUse
update_left_way h u right w = record { k = update_left u right w.k; go = λ v. run h right (update_right_way h u v w) }

-- the same where a is a local without a block: no action; C4 where it has no value, once b was evaluated
abbrev pub updates_variable : TurnContext → Update → (number : ℕ) → (by : Value) → Way → Variable → Does
updates_variable h u number by w (holds v) x =
    on_ok u.operator (λ r. w.end (with_variable number (holds r) x)) (updated h.typed.structs x.world.blocks u.ty u.op v by)
updates_variable h u number by w v x = broke C4 u.place

-- once b has its value, where a is a local without a block
abbrev pub update_local_way : TurnContext → Update → (number : ℕ) → Way → WayOfUse
update_local_way h u number w = record { k = update_local u number w.k; go = λ v x. updates_variable h u number v w (variable_at x number) x }

-- a compound assignment, by its left side: a local without a block, or an object
abbrev pub updates : TurnContext → Update → tree.ExprNode → (left right : tree.Expr) → Way → Does
updates h u (tree.local number) left right w =
    if is_block (local_at h number) then run_place h left (update_left_way h u right w) else run h right (update_local_way h u number w)
updates h u node left right w = run_place h left (update_left_way h u right w)

-- a local is declared: a value is put into it, or stored in its block (C11 6.7.9)
abbrev pub initialises : TurnContext → (place number : ℕ) → tree.Expr → Way → Does
initialises h place number init w x =
    if is_block (local_at h number) then run h init (place_way h place (is_atomic_local (local_at h number)) (values.Pointer (To (length (ended_local number x).world.blocks) 0)) w) (made_local h number x)
    else run h init (local_way number w) (with_variable number unset x)

-- a declaration, with an initial value, or without one, where the value is indeterminate (C11 6.7.9 p10)
abbrev pub declares : TurnContext → (place number : ℕ) → Option tree.Expr → Way → Does
declares h place number None w x = w.end (declared_local h number x)
declares h place number (Some init) w x = initialises h place number init w x

-- a returned value
abbrev pub caller_way : TurnContext → WayOfUse
caller_way h = record { k = to_caller; go = λ v x. leaves_call h (Some v) x }

-- return, without a value or with one (C11 6.8.6.4)
abbrev pub returns : TurnContext → Option tree.Expr → Does
returns h None x = leaves_call h None x
returns h (Some e) x = run h e (caller_way h) x

-- if (C11 6.8.4.1)
abbrev pub if_way : (place : ℕ) → (one other : tree.Stmt) → (run_one run_other : Way → Does) → Way → WayOfUse
if_way place one other run_one run_other w = record {
  k = if_test place one other w.k;
  go = λ v x. on_ok place (λ b. if b then run_one w x else run_other w x) (truth_of x.world.blocks v);
}

-- the empty statement: an else that isn't there, or the step of a while (C11 6.8.3 p3)
abbrev pub nothing : (place : ℕ) → tree.Stmt
nothing place = tree.at_stmt place tree.empty

-- a break: the else of a do's condition
abbrev pub leaving : (place : ℕ) → tree.Stmt
leaving place = tree.at_stmt place tree.break_

-- the end of a function's body
abbrev pub leave_way : TurnContext → Way
leave_way h = record { k = leaves; end = leaves_call h None; breaks = leaves_call h None; continues = leaves_call h None }

-- behind a statement of a block: the rest of the block follows, and a break or a continue passes over it
abbrev pub row_way : tree.Stmts → (Way → Does) → Way → Way
row_way rest run_rest w = record { k = then_row rest w.k; end = run_rest w; breaks = w.breaks; continues = w.continues }

-- locals end on every way out of what declares them
abbrev pub end_way : List ℕ → Way → Way
end_way numbers w = record {
  k = then_end numbers w.k;
  end = λ x. w.end (ended_locals numbers x);
  breaks = λ x. w.breaks (ended_locals numbers x);
  continues = λ x. w.continues (ended_locals numbers x);
}

-- ---- loops (C11 6.8.5): the condition, the body, the step, and the round is over, which ends the turn. A continue goes to the step, and a
-- break, or a condition that doesn't hold, leaves the loop

-- a round is over, and the turn ends: the thread's next turn begins with the next round
abbrev pub round_over : TurnContext → Loop → Todo → Does
round_over h l k x = plainly h.answer (stays h x.locals (round l k) x.world)

-- behind a loop's step: the round is over
abbrev pub step_way : TurnContext → Loop → Way → Way
step_way h l w = record { k = in_step l w.k; end = round_over h l w.k; breaks = w.end; continues = round_over h l w.k }

-- behind the body: the step follows, also from a continue; a break leaves the loop (C11 6.8.6.2, 6.8.6.3)
abbrev pub body_way : TurnContext → Loop → (run_step : Way → Does) → Way → Way
body_way h l run_step w = record { k = in_body l w.k; end = run_step (step_way h l w); breaks = w.end; continues = run_step (step_way h l w) }

-- once the condition has its value: the body follows where that counts as true, and else the loop is left (C11 6.8.5 p4)
abbrev pub loop_test_way : TurnContext → (place : ℕ) → Loop → (run_body run_step : Way → Does) → Way → WayOfUse
loop_test_way h place l run_body run_step w = record {
  k = loop_test place l w.k;
  go = λ v x. on_ok place (λ b. if b then run_body (body_way h l run_step w) x else w.end x) (truth_of x.world.blocks v);
}

-- a round under this condition; without one the body follows at once (C11 6.8.5.3 p2)
abbrev pub rounds_if : TurnContext → Loop → (run_body run_step : Way → Does) → Way → Option tree.Expr → Does
rounds_if h l run_body run_step w None x = run_body (body_way h l run_step w) x
rounds_if h l run_body run_step w (Some e) x = run h e (loop_test_way h (tree.place_of e) l run_body run_step w) x

-- a round of a loop: its condition is evaluated, and where it holds the body and the step follow
abbrev pub rounds : TurnContext → Loop → (run_body run_step : Way → Does) → Way → Does
rounds h l run_body run_step w x = rounds_if h l run_body run_step w l.condition x

-- behind the first clause of a for
abbrev pub loop_way : TurnContext → Loop → (run_body run_step : Way → Does) → Way → Way
loop_way h l run_body run_step w = record { k = then_loop l w.k; end = rounds h l run_body run_step w; breaks = w.breaks; continues = w.continues }

-- the loops of a while and of a for
abbrev pub while_loop : (place : ℕ) → tree.Expr → tree.Stmt → Loop
while_loop place e body = record { condition = Some e; step = nothing place; body = body }

-- the loop of a for, which begins behind its first clause (C11 6.8.5.3)
abbrev pub for_loop : Option tree.Expr → (step body : tree.Stmt) → Loop
for_loop e step body = record { condition = e; step = step; body = body }

-- the loop of a do: the condition stands behind the body, where a continue leads, too. A round is over where it holds, and the loop is left
-- where it doesn't (C11 6.8.5.2)
abbrev pub do_loop : tree.Stmt → tree.Expr → Loop
do_loop body e = record { condition = None; step = tree.at_stmt (tree.place_of e) (tree.if_else e (nothing (tree.place_of e)) (leaving (tree.place_of e))); body = body }

-- ---- switch (C11 6.8.4.2)

-- behind the statements of a switch: a break leaves it, and a continue goes to the loop around
abbrev pub switch_way : Way → Way
switch_way w = record { k = in_switch w.k; end = w.end; breaks = w.end; continues = w.continues }

-- the statements from this one on, if there is one
abbrev pub starts : (run_from : (at : ℕ) → Way → Does) → Way → Option ℕ → Does
starts run_from w None x = w.end x
starts run_from w (Some at) x = run_from at (switch_way w) x

-- once the value is there: the statements from the chosen label on follow
abbrev pub switch_test_way : List tree.Label → tree.Stmts → (run_from : (at : ℕ) → Way → Does) → Way → WayOfUse
switch_test_way labels body run_from w = record { k = switch_test labels body w.k; go = λ v x. starts run_from w (starts_at labels (chosen labels v)) x }

-- a compound assignment of this operator to this left side, and where both stand in the text
abbrev pub update_of : (operator : ℕ) → tree.Expr → Op → Update
update_of operator left op = record { place = tree.place_of left; operator = operator; op = op; ty = tree.type_of left }

abbrev mutual
  -- a statement is executed, by its form and its place in the text
  pub run_stmt : TurnContext → tree.Stmt → Way → Does
  run_stmt h (tree.at_stmt place node) w x = run_stmt_node h place node w x

  -- the same for each form (C11 6.8; an assignment is a statement in this project's profile)
  pub run_stmt_node : TurnContext → (place : ℕ) → tree.StmtNode → Way → Does
  run_stmt_node h place (tree.block body) w x = run_row h body (end_way (declared body) w) x
  run_stmt_node h place (tree.declare number init) w x = declares h place number init w x
  run_stmt_node h place (tree.if_ e one) w x = run h e (if_way (tree.place_of e) one (nothing place) (run_stmt h one) (λ v. v.end) w) x
  run_stmt_node h place (tree.if_else e one other) w x = run h e (if_way (tree.place_of e) one other (run_stmt h one) (run_stmt h other) w) x
  run_stmt_node h place (tree.while_ e body) w x = rounds h (while_loop place e body) (run_stmt h body) (λ v. v.end) w x
  run_stmt_node h place (tree.for_ first e step body) w x =
      run_stmt h first (loop_way h (for_loop e step body) (run_stmt h body) (run_stmt h step) (end_way (declared_by first []) w)) x
  run_stmt_node h place (tree.do_while body e) w x =
      rounds h (do_loop body e) (run_stmt h body) (λ v. run h e (if_way (tree.place_of e) (nothing (tree.place_of e)) (leaving (tree.place_of e)) (λ u. u.end) (λ u. u.breaks) v)) w x
  run_stmt_node h place (tree.switch e labels body) w x = run h e (switch_test_way labels body (run_from h body) w) x
  run_stmt_node h place tree.break_ w x = w.breaks x
  run_stmt_node h place tree.continue_ w x = w.continues x
  run_stmt_node h place (tree.return_ value) w x = returns h value x
  run_stmt_node h place (tree.assign left right) w x = assigns h (tree.node_of left) left right w x
  run_stmt_node h place (tree.update left op right) w x = updates h (update_of place left op) (tree.node_of left) left right w x
  run_stmt_node h place (tree.evaluate e) w x = run_dropped h e w x
  run_stmt_node h place tree.empty w x = w.end x

  -- the statements of a block are executed in order (C11 6.8.2)
  pub run_row : TurnContext → tree.Stmts → Way → Does
  run_row h tree.no_stmts w x = w.end x
  run_row h (tree.more_stmts s rest) w x = run_stmt h s (row_way rest (run_row h rest) w) x

  -- those from the one of this index on
  pub run_from : TurnContext → tree.Stmts → (at : ℕ) → Way → Does
  run_from h tree.no_stmts at w x = w.end x
  run_from h (tree.more_stmts s rest) zero w x = run_stmt h s (row_way rest (run_row h rest) w) x
  run_from h (tree.more_stmts s rest) (suc at) w x = run_from h rest at w x

-- ---- what is left to do, carried out

-- what is left to do in a call, as the way that does it
abbrev pub way_of : TurnContext → Todo → Way
way_of h leaves = leave_way h
way_of h (then_row rest k) = row_way rest (run_row h rest) (way_of h k)
way_of h (then_end numbers k) = end_way numbers (way_of h k)
way_of h (then_loop l k) = loop_way h l (run_stmt h l.body) (run_stmt h l.step) (way_of h k)
way_of h (in_body l k) = body_way h l (run_stmt h l.step) (way_of h k)
way_of h (in_step l k) = step_way h l (way_of h k)
way_of h (in_switch k) = switch_way (way_of h k)

-- what a value is used for, as the way that does it
abbrev pub use_of : TurnContext → Use → WayOfUse
use_of h (first_of place op right k) = first_way place op right (run h right) (use_of h k)
use_of h (second_of place op left k) = second_way place op left (use_of h k)
use_of h (only_of place op k) = only_way place op (use_of h k)
use_of h (place_read place how atomic k) = read_way h place how atomic (use_of h k)
use_of h (first_test place decides right k) = first_test_way place decides right (run h right) (use_of h k)
use_of h (second_test place k) = second_test_way place (use_of h k)
use_of h (choice place one other k) = choice_way place one other (run h one) (run h other) (use_of h k)
use_of h (argument place callee before rest k) = argument_way place callee before rest (run_arguments h place callee rest) k
use_of h (to_local number k) = local_way number (way_of h k)
use_of h (left_place place atomic right k) = left_way h place atomic right (way_of h k)
use_of h (to_place place atomic to k) = place_way h place atomic to (way_of h k)
use_of h (struct_left place ty right k) = struct_left_way h place ty right (way_of h k)
use_of h (struct_right place ty to k) = struct_right_way h place ty to (way_of h k)
use_of h (update_left u right k) = update_left_way h u right (way_of h k)
use_of h (update_local u number k) = update_local_way h u number (way_of h k)
use_of h (update_right u at k) = update_right_way h u at (way_of h k)
use_of h (update_read u at by k) = update_read_way h u at by (way_of h k)
use_of h (if_test place one other k) = if_way place one other (run_stmt h one) (run_stmt h other) (way_of h k)
use_of h (loop_test place l k) = loop_test_way h place l (run_stmt h l.body) (run_stmt h l.step) (way_of h k)
use_of h (switch_test labels body k) = switch_test_way labels body (run_from h body) (way_of h k)
use_of h to_caller = caller_way h
use_of h (to_nowhere k) = nowhere_way (way_of h k)

-- from a point on; the value of a call that ended without one can't be used (C11 6.9.1 p12)
abbrev pub from_point : TurnContext → TurnStart → Does
from_point h (gives v k) x = (use_of h k).go v x
from_point h (lacks place) x = broke C15 place
from_point h (begins k) x = (way_of h k).end x
from_point h (round l k) x = rounds h l (run_stmt h l.body) (run_stmt h l.step) (way_of h k) x

-- what stays the same in this turn of a thread
abbrev pub here : tree.Typed → (thread : ℕ) → Answer → Control → TurnContext
here typed thread answer c = record { typed = typed; thread = thread; answer = answer; function = c.function; callers = c.callers }

-- one turn of a thread
abbrev pub turn : tree.Typed → (thread : ℕ) → Answer → Control → World → Turn Control
turn typed thread answer c w = from_point (here typed thread answer c) c.point (record { locals = c.locals; world = w })
