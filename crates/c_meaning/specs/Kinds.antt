-- Of what type the values are that a thread of a well formed program has: in its locals, where they are used, and where they are awaited.
use Rattle.std.specs.Prelude.{◌≡◌, ℕ, ◌⊎◌, true, false, List, [], ◌∷◌, slice_get, Option, Some, None}
use Rattle.std.specs.List.{AllByRecursion}
use Rattle.ak_words.specs.IntType.{int, long}
use Rattle.ak_words.specs.Op.{result_type}
use Rattle.block_store.specs.declared.values.Access.{Access}
use Rattle.block_store.specs.declared.values.Access.TheVariants as accesses
use Rattle.block_store.specs.declared.values.Value.{Value}
use Rattle.block_store.specs.declared.values.Value.TheVariants as values
use Rattle.block_store.specs.Actions as actions
use Rattle.block_store.specs.Actions.{World}
use Rattle.c_tree.specs.Typed as tree
use Rattle.c_tree.specs.TypedForm.{IsScalar, AreOperands, CanUpdate, IsNth, IsLvalue, IsTyped, IsTypedNode, IfTyped, InScope, Inside, Jumps, IsWell, AreWell, context_of, signature_of, IsMain, CanStart}
use Rattle.c_meaning.specs.Values.{Unary, converts, negates, tests, selects, Binary, on_numbers, forward, backward, distance, on_pointers, access_of_type}
use Rattle.c_meaning.specs.Control.{Variable, unset, holds, lies, Loop, Update, Callee, function, library, Todo, leaves, then_row, then_end, then_loop, in_body, in_step, in_switch}
use Rattle.c_meaning.specs.Control.{Use, first_of, second_of, only_of, place_read, first_test, second_test, choice, argument, to_local, left_place, to_place, struct_left, struct_right, update_left, update_local, update_right, update_read, if_test, loop_test, switch_test, to_caller, to_nowhere}
use Rattle.c_meaning.specs.Control.{Wait, wanted, dropped, Caller, TurnStart, gives, lacks, begins, round, Control}

-- ---- values and locals

-- a value of this type: a number of exactly this integer type, also in an object of its atomic type, or a pointer; no other type has values
abbrev pub HasType : tree.Ty → Value → Type 0
HasType (tree.integer t) (values.Num n) = n.ty ≡ t
HasType (tree.atomic t) (values.Num n) = n.ty ≡ t
HasType (tree.pointer to) (values.Pointer p) = Unit {0}
HasType ty v = ⊥

-- a value of this type, if there is one: a call may end without
abbrev pub HasTypeIf : tree.Ty → Option Value → Type 0
HasTypeIf ty None = Unit {0}
HasTypeIf ty (Some v) = HasType ty v

-- what a local of a function may hold: nothing; and else its block where it's in memory, and where it isn't a value of its type
abbrev pub MayHold : tree.Local → Variable → Type 0
MayHold l unset = Unit {0}
MayHold l (holds v) = (l.in_memory ≡ false) × HasType l.ty v
MayHold l (lies block) = l.in_memory ≡ true

-- each local of a function holds what it may
abbrev pub AllHold : List tree.Local → List Variable → Type 0
AllHold [] [] = Unit {0}
AllHold (l ∷ ls) (v ∷ vs) = MayHold l v × AllHold ls vs
AllHold ls vs = ⊥

-- ---- kinds

-- Operators ask of a value only how one of its type is read: as a number of this type, or as a pointer, to whatever.

-- a value of this kind
abbrev pub HasKind : Access → Value → Type 0
HasKind (accesses.Number t) (values.Num n) = n.ty ≡ t
HasKind accesses.Pointer (values.Pointer p) = Unit {0}
HasKind how v = ⊥

-- numbers of some type
abbrev pub IsNumberKind : Access → Type 0
IsNumberKind (accesses.Number t) = Unit {0}
IsNumberKind accesses.Pointer = ⊥

-- an operation on one value takes one of the first kind, and gives one of the second
abbrev pub TakesOne : Unary → (from to : Access) → Type 0
TakesOne (converts (tree.integer t)) (accesses.Number s) to = to ≡ accesses.Number t
TakesOne (converts (tree.pointer ty)) accesses.Pointer to = to ≡ accesses.Pointer
TakesOne negates from to = to ≡ accesses.Number int
TakesOne tests from to = to ≡ accesses.Number int
TakesOne (selects offset) accesses.Pointer to = to ≡ accesses.Pointer
TakesOne op from to = ⊥

-- an operation on two values takes two of these kinds, and gives one of the last
abbrev pub TakesTwo : Binary → (left right to : Access) → Type 0
TakesTwo (on_numbers op) (accesses.Number s) (accesses.Number t) to = AreOperands op (tree.integer s) (tree.integer t) × (to ≡ accesses.Number (result_type op s))
TakesTwo (forward size) accesses.Pointer (accesses.Number t) to = to ≡ accesses.Pointer
TakesTwo (forward size) (accesses.Number t) accesses.Pointer to = to ≡ accesses.Pointer
TakesTwo (backward size) accesses.Pointer (accesses.Number t) to = to ≡ accesses.Pointer
TakesTwo (distance size) accesses.Pointer accesses.Pointer to = to ≡ accesses.Number long
TakesTwo (on_pointers op) accesses.Pointer accesses.Pointer to = to ≡ accesses.Number int
TakesTwo op left right to = ⊥

-- a compound assignment to an object of this type takes a value of this kind
abbrev pub UpdatesBy : Inside → Update → Access → Type 0
UpdatesBy i u how = (t : tree.Ty) × CanUpdate i.context.structs u.op u.ty t × (access_of_type t ≡ how)

-- ---- calls

-- a call of this callee with these arguments is well formed, and its value has this type
abbrev pub IsCalled : InScope → Callee → (all : tree.Exprs) → tree.Ty → Type 0
IsCalled c (function number) all ty = IsTypedNode c ty (tree.call number all)
IsCalled c (library which) all ty = IsTypedNode c ty (tree.lib which all)

-- of all arguments these values are those of the first, each of its argument's type, and these arguments are left
abbrev pub StandBefore : List Value → (rest all : tree.Exprs) → Type 0
StandBefore [] rest all = rest ≡ all
StandBefore (v ∷ vs) rest tree.no_exprs = ⊥
StandBefore (v ∷ vs) rest (tree.more_exprs e all) = HasType (tree.type_of e) v × StandBefore vs rest all

-- ---- what is left to do, in a function

-- what is in scope in a function of a program, and what it returns
abbrev pub inside : tree.Typed → tree.Func → Inside
inside t f = record { context = context_of t f; params = f.params; result = f.result }

-- a statement is well formed, where some jumps may stand
abbrev pub IsWellSomewhere : Inside → tree.Stmt → Type 0
IsWellSomewhere i s = (jumps : Jumps) × IsWell i jumps s

-- so are all of a row
abbrev pub AreWellSomewhere : Inside → tree.Stmts → Type 0
AreWellSomewhere i rest = (jumps : Jumps) × AreWell i jumps rest

-- the parts of a loop are well formed
pub record IsTypedLoop (i : Inside) (l : Loop) : Type 0 where
  pub condition : IfTyped i.context IsScalar l.condition
  pub step : IsWellSomewhere i l.step
  pub body : IsWellSomewhere i l.body

-- what is left to do is well formed
abbrev pub IsTypedTodo : Inside → Todo → Type 0
IsTypedTodo i leaves = Unit {0}
IsTypedTodo i (then_row rest k) = AreWellSomewhere i rest × IsTypedTodo i k
IsTypedTodo i (then_end numbers k) = IsTypedTodo i k
IsTypedTodo i (then_loop l k) = IsTypedLoop i l × IsTypedTodo i k
IsTypedTodo i (in_body l k) = IsTypedLoop i l × IsTypedTodo i k
IsTypedTodo i (in_step l k) = IsTypedLoop i l × IsTypedTodo i k
IsTypedTodo i (in_switch k) = IsTypedTodo i k

-- ---- what a use expects

abbrev mutual
  -- a use of a value expects one of this kind: with its other operands it's what the operator takes, and what that gives is of the kind
  -- that is expected next
  pub Expects : Inside → Access → Use → Type 0
  Expects i how (first_of place op right k) = IsTyped i.context right × IsScalar (tree.type_of right) × ((to : Access) × TakesTwo op how (access_of_type (tree.type_of right)) to × Expects i to k)
  Expects i how (second_of place op left k) = (from : Access) × (to : Access) × HasKind from left × TakesTwo op from how to × Expects i to k
  Expects i how (only_of place op k) = (to : Access) × TakesOne op how to × Expects i to k
  Expects i how (place_read place read atomic k) = (how ≡ accesses.Pointer) × Expects i read k
  Expects i how (first_test place decides right k) = IsTyped i.context right × IsScalar (tree.type_of right) × Expects i (accesses.Number int) k
  Expects i how (second_test place k) = Expects i (accesses.Number int) k
  Expects i how (choice place one other k) = IsTyped i.context one × IsTyped i.context other × IsScalar (tree.type_of one) × (tree.type_of other ≡ tree.type_of one)
      × Expects i (access_of_type (tree.type_of one)) k
  Expects i how (argument place callee before rest k) = (ty : tree.Ty) × (e : tree.Expr) × (all : tree.Exprs) × IsCalled i.context callee all ty
      × StandBefore before (tree.more_exprs e rest) all × (access_of_type (tree.type_of e) ≡ how) × Awaits i ty k
  Expects i how (to_local number k) = IsNth i.context.locals number (λ l. (l.in_memory ≡ false) × (access_of_type l.ty ≡ how)) × IsTypedTodo i k
  Expects i how (left_place place atomic right k) = (how ≡ accesses.Pointer) × IsTyped i.context right × IsScalar (tree.type_of right) × IsTypedTodo i k
  Expects i how (to_place place atomic to k) = HasKind accesses.Pointer to × IsTypedTodo i k
  Expects i how (struct_left place ty right k) = (how ≡ accesses.Pointer) × IsTyped i.context right × IsLvalue (tree.node_of right) × IsTypedTodo i k
  Expects i how (struct_right place ty to k) = (how ≡ accesses.Pointer) × HasKind accesses.Pointer to × IsTypedTodo i k
  Expects i how (update_left u right k) = (how ≡ accesses.Pointer) × IsTyped i.context right × CanUpdate i.context.structs u.op u.ty (tree.type_of right) × IsTypedTodo i k
  Expects i how (update_local u number k) = IsNth i.context.locals number (λ l. (l.in_memory ≡ false) × (l.ty ≡ u.ty)) × UpdatesBy i u how × IsTypedTodo i k
  Expects i how (update_right u at k) = HasKind accesses.Pointer at × UpdatesBy i u how × IsTypedTodo i k
  Expects i how (update_read u at by k) = IsScalar u.ty × (how ≡ access_of_type u.ty) × HasKind accesses.Pointer at × ((kind : Access) × UpdatesBy i u kind × HasKind kind by) × IsTypedTodo i k
  Expects i how (if_test place one other k) = IsWellSomewhere i one × IsWellSomewhere i other × IsTypedTodo i k
  Expects i how (loop_test place l k) = IsTypedLoop i l × IsTypedTodo i k
  Expects i how (switch_test labels body k) = IsNumberKind how × AreWellSomewhere i body × IsTypedTodo i k
  Expects i how to_caller = IsScalar i.result × (access_of_type i.result ≡ how)
  Expects i how (to_nowhere k) = IsTypedTodo i k

  -- what waits for a call waits for a value of this type, or goes on without it
  pub Awaits : Inside → tree.Ty → Wait → Type 0
  Awaits i ty (wanted place k) = Expects i (access_of_type ty) k
  Awaits i ty (dropped k) = IsTypedTodo i k

-- ---- threads

-- where a turn begins is well formed: a value is of the kind that its use expects
abbrev pub IsTypedPoint : Inside → TurnStart → Type 0
IsTypedPoint i (gives v k) = (how : Access) × HasKind how v × Expects i how k
IsTypedPoint i (lacks place) = Unit {0}
IsTypedPoint i (begins k) = IsTypedTodo i k
IsTypedPoint i (round l k) = IsTypedLoop i l × IsTypedTodo i k

-- a call that waits for the one above it, whose value has this type
pub record IsTypedCaller (t : tree.Typed) (ty : tree.Ty) (f : tree.Func) (c : Caller) : Type 0 where
  pub found : slice_get t.funcs c.function ≡ Some f
  pub locals : AllHold f.locals c.locals
  pub waits : Awaits (inside t f) ty c.wait

-- the calls that wait, the nearest first: that one for a value of this type, and each other for what the one above it returns; a
-- thread's first function, for which none waits, returns an int
abbrev pub AreTypedCallers : tree.Typed → tree.Ty → List Caller → Type 0
AreTypedCallers t ty [] = ty ≡ tree.integer int
AreTypedCallers t ty (c ∷ callers) = (f : tree.Func) × IsTypedCaller t ty f c × AreTypedCallers t f.result callers

-- a thread's own is well formed: all its values have the types that the program says
pub record IsTypedControl (t : tree.Typed) (c : Control) : Type 0 where
  pub func : tree.Func
  pub found : slice_get t.funcs c.function ≡ Some func
  pub locals : AllHold func.locals c.locals
  pub point : IsTypedPoint (inside t func) c.point
  pub callers : AreTypedCallers t func.result c.callers

-- a thread may begin with main, and with each function that takes one pointer and returns an int
abbrev pub CanBegin : tree.Typed → (number : ℕ) → Type 0
CanBegin t number = IsNth t.funcs number (λ f. IsMain f ⊎ CanStart (signature_of f))

-- each thread of a world has begun with a function that one may begin with
abbrev pub IsTypedWorld : tree.Typed → World → Type 0
IsTypedWorld t w = AllByRecursion (λ (h : actions.ThreadRecord). CanBegin t h.function) w.threads
