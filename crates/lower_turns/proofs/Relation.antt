-- When a thread of the code stands where a thread of the source does.
use Rattle.std.proofs.Common.{◌≡◌, ℕ, suc, ◌<◌, ◌≤◌, ◌^◌, ◌*ℤ◌, ℤ, pos, Bool, true, false, List, [], ◌∷◌, ◌++◌, length, ◌==◌, ◌⊎◌, Option, Some, None, Ok}
use Rattle.std.specs.Prelude.{slice_get}
use Rattle.ak_words.specs.declared.int_type.IntType.{IntType}
use Rattle.ak_words.specs.declared.number.Num.{Num}
use Rattle.ak_words.specs.declared.operation.Op.{Op}
use Rattle.ak_words.specs.Op.{result_type}
use Rattle.ak_words.specs.IntType.{int, long}
use Rattle.block_store.specs.declared.values.Access.{Access}
use Rattle.block_store.specs.declared.values.Access.TheVariants as accesses
use Rattle.block_store.specs.declared.values.Ptr.{Ptr}
use Rattle.block_store.specs.declared.values.Ptr.TheVariants.{To}
use Rattle.block_store.specs.declared.values.Value.{Value}
use Rattle.block_store.specs.declared.values.Value.TheVariants as values
use Rattle.c_tree.specs.Typed as tree
use Rattle.c_tree.specs.TypedForm.{Jumps, in_function, in_switch, IsLabel, stmts_count, IsScalar, IsNth, CanUpdate, CanStart, signature_of, InScope, Inside, IsTyped, AreTyped, IfTyped, AreArguments, IsLibCall, IsWell, AreWell, context_of}
use Rattle.c_tree.specs.TypedLayout.{size_in}
use Rattle.race_rules.specs.declared.touch.Touch.{Touch}
use Rattle.c_meaning.specs.Values.{Binary, converts, negates, tests, selects, on_numbers, forward, backward, distance, on_pointers, access_of_type}
use Rattle.c_meaning.specs.Control as source
use Rattle.c_meaning.specs.Control.{Variable, Loop, Callee, function, library, Todo, Use, wanted, dropped, Caller, Control}
use Rattle.c_meaning.specs.Switches.{default_from, starts_at}
use Rattle.c_meaning.specs.Turns.{update_of, variable_or_unset, declared, declared_by}
use Rattle.struct_ir.specs.Nodes as ir
use Rattle.struct_ir.specs.Nodes.{Calc, Nodes, no_nodes, more_nodes}
use Rattle.block_store.specs.Actions as actions
use Rattle.block_store.specs.Actions.{World}
use Rattle.block_store.specs.Blocks.{Blocks}
use Rattle.block_store.specs.Runs as runs
use Rattle.block_store.specs.Runs.{Turn}
use Rattle.std.specs.List.{AllByRecursion}
use Rattle.ak_words.specs.Num.{num}
use Rattle.ak_words.specs.declared.rule.Rule.{Rule}
use Rattle.struct_ir.specs.Threads.{Thread}
use Rattle.struct_ir.specs.Structured as position
use Rattle.struct_ir.specs.Structured.{Position, then_}
use Rattle.struct_ir.specs.Machine.{Point}
use Rattle.struct_ir.specs.meaning.Blocks as code
use Rattle.struct_ir.specs.meaning.Blocks.{Held, Own, value, number, pointer, takes}
use Rattle.struct_ir.specs.meaning.Threads.{further, moved_if}
use Rattle.lower_forms.specs.Counts.{greatest, greatest_row, count_if}
use Rattle.lower_forms.specs.Forms as forms
use Rattle.lower_forms.specs.Forms.{Frame, home, home_or_none, negation, looped, held, among, again, fresh, breaks_in, nexts_in, over_break, over_next, sets, acts, branches, sets_int, sets_truth, Reach, found, direct, indexed, reached, behind, at_temp, member_reach, reach, member_nodes, temps_of, lib_nodes, expr_nodes, place_nodes, args_nodes, ends, with_home, sized_copy, computes, update_by, test_nodes, choose_nodes, stmt_nodes, row_nodes, switch_nodes}
use Rattle.lower_forms.specs.Programs.{homes_from, body_frame, registers_of, last_nodes}

-- ---- values and registers

-- a value is of the kind that an access takes
abbrev pub HasKind : Access → Value → Type 0
HasKind (accesses.Number s) (values.Num n) = n.ty ≡ s
HasKind (accesses.Number s) (values.Pointer p) = ⊥
HasKind accesses.Pointer (values.Num n) = ⊥
HasKind accesses.Pointer (values.Pointer p) = Unit {0}

-- the registers below t are the same
abbrev pub Below : (t : ℕ) → (a b : ℕ → Held) → Type 0
Below t a b = (i : ℕ) → i < t → b i ≡ a i

-- an access leads from p to q, so many bytes further on, or behind a member's offset
abbrev pub Further : (p : Ptr) → (by : ℤ) → (q : Ptr) → Type 0
Further p by q = (place : ℕ) → further place by p ≡ Ok q

abbrev pub Moved : (offset : ℕ) → (p q : Ptr) → Type 0
Moved offset p q = (place : ℕ) → moved_if place offset p ≡ Ok q

pub record DirectTo (tm : ℕ → Held) (base offset t : ℕ) (p : Ptr) : Type 0 where
  pub below : base < t
  pub start : Ptr
  pub holds : tm base ≡ pointer start
  pub moved : Moved offset start p

pub record IndexedTo (tm : ℕ → Held) (base scale offset t : ℕ) (p : Ptr) : Type 0 where
  pub below : base < t
  pub start : Ptr
  pub index : Num
  pub element : Ptr
  pub holds : tm base ≡ pointer start
  pub by : tm (suc t) ≡ number index
  pub further : Further start (index.value *ℤ pos scale) element
  pub moved : Moved offset element p

-- the pointer p, which is in the register t, is where this place leads
abbrev pub Reaches : (ℕ → Held) → Reach → (t : ℕ) → Ptr → Type 0
Reaches tm found t p = tm t ≡ pointer p
Reaches tm (direct base offset) t p = DirectTo tm base offset t p
Reaches tm (indexed base scale offset) t p = IndexedTo tm base scale offset t p

abbrev pub Points : (ℕ → Held) → Reach → (t : ℕ) → Value → Type 0
Points tm r t (values.Num n) = Unit {0}
Points tm r t (values.Pointer p) = Reaches tm r t p

-- ---- locals

pub data InRegister (how : Access) : Variable → Held → Type 0 where
  no_value : InRegister how source.unset code.unset
  one_value : (v : Value) → HasKind how v → InRegister how (source.holds v) (value v)

pub data InBlock : Variable → Option ℕ → Type 0 where
  no_block : InBlock source.unset None
  one_block : (b : ℕ) → InBlock (source.lies b) (Some b)

-- what the local of this number holds
abbrev pub held_in : List Variable → ℕ → Variable
held_in vs i = variable_or_unset (slice_get vs i)

-- ---- where a statement stands

-- the stack objects of these locals
abbrev pub homes_of : List (Option ℕ) → List ℕ → List ℕ
homes_of homes [] = []
homes_of homes (i ∷ is) = with_home (home_or_none (slice_get homes i)) (homes_of homes is)

-- the first register that is free, the flag that a break clears, or none where it leaves a loop, and what the registers of the switches
-- around hold besides, the last one first: ints
pub record Around : Type 0 where
  pub first : ℕ
  pub flag : Option ℕ
  pub held : List (ℕ × ℕ)
  -- the stack objects of the blocks around, up to the function's body, and those of them that the loop around stands in
  pub around : List ℕ
  pub outer : List ℕ
  -- what ends behind the loop around once a break has left it, and before its step once a continue has
  pub over : ℕ → Bool

abbrev pub with_flag : Option ℕ → ℕ → List (ℕ × ℕ) → List (ℕ × ℕ)
with_flag None z rest = rest
with_flag (Some i) z rest = (i, z) ∷ rest

-- while the statements are executed, and from a break on
abbrev pub running : Around → List (ℕ × ℕ)
running a = with_flag a.flag 1 a.held

abbrev pub stopped : Around → List (ℕ × ℕ)
stopped a = with_flag a.flag 0 a.held

-- in the body of a function, in a loop, and in a switch of which the label of this number is chosen
abbrev pub outermost : List tree.Layout → tree.Func → Around
outermost structs f = record { first = length f.locals; flag = None; held = []; around = (body_frame structs f).around; outer = []; over = λ k. true }

abbrev pub in_a_loop : Around → (ℕ → Bool) → Around
in_a_loop a over = record { first = a.first; flag = None; held = running a; around = a.around; outer = a.around; over = over }

abbrev pub in_a_switch : Around → ℕ → Around
in_a_switch a number = record { first = suc (suc a.first); flag = Some (suc a.first); held = (a.first, number) ∷ running a; around = a.around; outer = a.outer; over = a.over }

-- in a block that declares locals with these stack objects
abbrev pub in_a_block : Around → List ℕ → Around
in_a_block a objects = record { first = a.first; flag = a.flag; held = a.held; around = objects ++ a.around; outer = a.outer; over = a.over }

-- the same as if these registers were of other switches
abbrev pub halted : Around → Around
halted a = record { first = a.first; flag = None; held = stopped a; around = a.around; outer = a.outer; over = a.over }

-- they hold these ints, and are apart
abbrev pub Holds : (low high : ℕ) → (ℕ → Held) → List (ℕ × ℕ) → Type 0
Holds low high tm [] = Unit {0}
Holds low high tm (x ∷ rest) = (low ≤ x.0) × (x.0 < high) × (tm x.0 ≡ number (num int (pos x.1))) × Holds low x.0 tm rest

pub record Agrees (homes : List (Option ℕ)) (first : ℕ) (held : List (ℕ × ℕ)) (around : List ℕ) (locals : List tree.Local) (vs : List Variable) (tm : ℕ → Held) (ob : ℕ → Option ℕ) : Type 0 where
  pub count : length vs ≡ length locals
  pub low : length locals ≤ first
  pub switches : Holds (length locals) first tm held
  pub register : (i : ℕ) (l : tree.Local) → slice_get locals i ≡ Some l → home_or_none (slice_get homes i) ≡ None → InRegister (access_of_type l.ty) (held_in vs i) (tm i)
  pub block : (i k : ℕ) → home_or_none (slice_get homes i) ≡ Some k → InBlock (held_in vs i) (ob k)
  -- an object of no block around has ended, or never began
  pub closed : (k : ℕ) → among around k ≡ false → ob k ≡ None

-- in a call of this function
abbrev pub AgreesIn : tree.Func → Around → List Variable → (ℕ → Held) → (ℕ → Option ℕ) → Type 0
AgreesIn f a vs tm ob = Agrees (homes_from 0 f.locals) a.first (running a) a.around f.locals vs tm ob

-- ---- operators

-- the kinds of an operator's operands, and of its result
pub data BinaryFits : Binary → (left right result : Access) → Type 0 where
  numbers : (op : Op) (a b : IntType) → takes op a a b ≡ true → BinaryFits (on_numbers op) (accesses.Number a) (accesses.Number b) (accesses.Number (result_type op a))
  forwards : (size : ℕ) (s : IntType) → BinaryFits (forward size) accesses.Pointer (accesses.Number s) accesses.Pointer
  forwards_from : (size : ℕ) (s : IntType) → BinaryFits (forward size) (accesses.Number s) accesses.Pointer accesses.Pointer
  backwards : (size : ℕ) (s : IntType) → BinaryFits (backward size) accesses.Pointer (accesses.Number s) accesses.Pointer
  distances : (size : ℕ) → BinaryFits (distance size) accesses.Pointer accesses.Pointer (accesses.Number long)
  comparisons : (op : Op) → BinaryFits (on_pointers op) accesses.Pointer accesses.Pointer (accesses.Number int)

-- the type of the numbers that an access takes
abbrev pub number_taken : Access → IntType
number_taken (accesses.Number s) = s
number_taken accesses.Pointer = int

-- what a register is set to, by the kind of the left operand
abbrev pub calc_of : Binary → Access → (a b : ℕ) → Calc
calc_of (on_numbers op) lh a b = ir.apply op (number_taken lh) a b
calc_of (forward size) (accesses.Number s) a b = ir.pointer_add b a size
calc_of (forward size) accesses.Pointer a b = ir.pointer_add a b size
calc_of (backward size) lh a b = ir.pointer_sub a b size
calc_of (distance size) lh a b = ir.pointer_diff a b size
calc_of (on_pointers op) lh a b = ir.pointer_compare op a b

-- how the sum is reached, by the kind of its left operand and how that is
pub data Joins : Binary → Access → Reach → Reach → Type 0 where
  no_join : (op : Binary) (lh : Access) (r : Reach) → Joins op lh r found
  one_join : (base size : ℕ) → Joins (forward size) accesses.Pointer (direct base 0) (indexed base size 0)

-- the same once the left operand is there
pub data Joined (tm : ℕ → Held) (t : ℕ) : Binary → Value → Reach → Type 0 where
  not_joined : (op : Binary) (v : Value) → Joined tm t op v found
  joined : (base size : ℕ) (a : Ptr) → base < t → tm base ≡ pointer a → Joined tm t (forward size) (values.Pointer a) (indexed base size 0)

-- a conversion of a number to a number, of an atomic number to its own value, and of a pointer to a pointer
pub data ConvertFits : (from to : tree.Ty) → Type 0 where
  to_number : (a b : IntType) → ConvertFits (tree.integer a) (tree.integer b)
  from_atomic : (a : IntType) → ConvertFits (tree.atomic a) (tree.integer a)
  to_pointer : (a b : tree.Ty) → ConvertFits (tree.pointer a) (tree.pointer b)

-- ---- a program

-- main has a register, as each main has of which a thread does more than end
abbrev pub Calls : tree.Typed → Type 0
Calls t = (f : tree.Func) → slice_get t.funcs t.main ≡ Some f → 0 < registers_of f

-- so many nodes are there only where that is so
abbrev pub Free : tree.Typed → ℕ → Type 0
Free t m = 0 < m → Calls t

-- what follows the arguments of a call, whose value comes to t, or is dropped
abbrev pub after_args : (place : ℕ) → Callee → tree.Exprs → (t : ℕ) → Nodes → Nodes
after_args place (function m) all t r = forms.calls place (Some t) m (temps_of all t) (sets place t (ir.copy t) r)
after_args place (library which) all t r = lib_nodes place which all t r

abbrev pub dropped_args : (place : ℕ) → Callee → tree.Exprs → (t : ℕ) → Nodes → Nodes
dropped_args place (function m) all t r = forms.calls place None m (temps_of all t) r
dropped_args place (library which) all t r = lib_nodes place which all t r

-- a call is well formed, and its value has this type
abbrev pub CallIs : InScope → Callee → tree.Exprs → tree.Ty → Type 0
CallIs c (function m) all ty = IsNth c.funcs m (λ s. AreArguments s.params all × (ty ≡ s.result))
CallIs c (library which) all ty = IsLibCall c which all ty

-- the arguments whose values are known stand in the registers from t0 up to t
pub data Taken (tm : ℕ → Held) (all : tree.Exprs) (t0 : ℕ) : tree.Exprs → List Value → ℕ → Type 0 where
  none_yet : Taken tm all t0 all [] t0
  one_more : {e : tree.Expr} {rest : tree.Exprs} {before : List Value} {t : ℕ} (v : Value) → HasKind (access_of_type (tree.type_of e)) v → tm t ≡ value v
      → Taken tm all t0 (tree.more_exprs e rest) before t → Taken tm all t0 rest (before ++ v ∷ []) (suc t)

-- a type whose objects have values: a number, also an atomic one, or a pointer
abbrev pub HasValues : tree.Ty → Type 0
HasValues (tree.integer s) = Unit {0}
HasValues (tree.atomic s) = Unit {0}
HasValues (tree.pointer u) = Unit {0}
HasValues ty = ⊥

-- each is a number or a pointer
abbrev pub AreScalars : tree.Exprs → Type 0
AreScalars tree.no_exprs = Unit {0}
AreScalars (tree.more_exprs e es) = IsScalar (tree.type_of e) × AreScalars es

-- an object that lies in a block
abbrev pub IsPlace : Frame → tree.ExprNode → Type 0
IsPlace fr (tree.literal i) = Unit {0}
IsPlace fr (tree.global i) = Unit {0}
IsPlace fr (tree.local i) = (k : ℕ) × (home fr i ≡ Some k)
IsPlace fr (tree.deref e) = Unit {0}
IsPlace fr (tree.member e i) = Unit {0}
IsPlace fr node = ⊥

-- the values of these arguments stand in the registers from t on
abbrev pub Stand : (ℕ → Held) → tree.Exprs → List Value → (t : ℕ) → Type 0
Stand tm tree.no_exprs [] t = Unit {0}
Stand tm tree.no_exprs (v ∷ vs) t = ⊥
Stand tm (tree.more_exprs e es) [] t = ⊥
Stand tm (tree.more_exprs e es) (v ∷ vs) t = HasKind (access_of_type (tree.type_of e)) v × (tm t ≡ value v) × Stand tm es vs (suc t)

-- ---- work lists and positions, in a call of the function f, which has the number n

-- the label of this number is chosen, and stands before the statement of index i
pub record IsPast (labels : List tree.Label) (number i : ℕ) : Type 0 where
  pub at : ℕ
  pub starts : starts_at labels number ≡ Some at
  pub past : at < i
  pub few : length labels ≤ 1024

-- the step of a loop: a break leaves the loop, and there's no continue
abbrev pub in_step : Jumps
in_step = record { breaks = true; continues = false }

module _ (t : tree.Typed) (n : ℕ) (f : tree.Func) where
  abbrev pub ctx : InScope
  ctx = context_of t f

  abbrev pub inside : Inside
  inside = record { context = context_of t f; params = f.params; result = f.result }

  abbrev pub fr : Around → Frame
  fr a = record { structs = t.structs; homes = homes_from 0 f.locals; first = a.first; flag = a.flag; around = a.around; outer = a.outer }

  -- a frame of this function, of which only the homes of the locals count
  abbrev pub bare : Frame
  bare = record { structs = t.structs; homes = homes_from 0 f.locals; first = 0; flag = None; around = []; outer = [] }

  -- where statements stand whose blocks have these objects, and that declare these locals: each of the objects ends behind the loop
  -- around, unless it is declared around that loop, too, and those of the locals are of blocks around
  abbrev pub Room : Around → List ℕ → List ℕ → Type 0
  Room a objects is = ((k : ℕ) → among objects k ≡ true → among a.outer k ≡ false → a.over k ≡ true) × ((k : ℕ) → among (homes_of (homes_from 0 f.locals) is) k ≡ true → among a.around k ≡ true)

  abbrev pub RoomOf : Around → tree.Stmt → Type 0
  RoomOf a s = Room a (held bare s) (declared_by s [])

  abbrev pub RoomRow : Around → tree.Stmts → Type 0
  RoomRow a rest = Room a (forms.held_in bare rest) (declared rest)

  -- the jumps out of a loop's body
  abbrev pub jumps_of : tree.Stmt → Jumps
  jumps_of body = record { breaks = breaks_in body; continues = nexts_in body }

  pub record LoopIs (l : Loop) : Type 0 where
    pub condition : IfTyped ctx IsScalar l.condition
    pub step : IsWell inside in_step l.step
    pub body : IsWell inside (jumps_of l.body) l.body
    pub step_holds : held bare l.step ≡ []
    pub step_declares : declared_by l.step [] ≡ []
    pub body_declares : declared_by l.body [] ≡ []
    pub free_condition : Free t (count_if l.condition)
    pub free_step : Free t (greatest l.step)
    pub free_body : Free t (greatest l.body)

  -- in the body of a loop, and in its step
  abbrev pub in_the_body : Around → Loop → Around
  in_the_body a l = in_a_loop a (among (fresh a.around (held (looped (fr a)) l.body)))

  abbrev pub in_the_step : Around → Around
  in_the_step a = in_a_loop a (λ k. false)

  abbrev pub body_nodes : Around → Loop → Nodes
  body_nodes a l = test_nodes (looped (fr a)) l.condition (stmt_nodes (looped (fr a)) l.body [] no_nodes)

  abbrev pub latch_nodes : Around → (place : ℕ) → Loop → Nodes
  latch_nodes a place l = ends place (over_next (looped (fr a)) l.body) (stmt_nodes (looped (fr a)) l.step [] no_nodes)

  -- what is behind the loop, once its objects have ended
  abbrev pub loop_behind : Around → (place : ℕ) → Loop → Nodes → Nodes
  loop_behind a place l r = ends place (over_break (looped (fr a)) l.body) r

  -- the statements of a switch from the one of index i on
  abbrev pub cases : Around → (number place : ℕ) → List tree.Label → ℕ → tree.Stmts → List ℕ → Nodes → Nodes
  cases a number place labels i rest left r = switch_nodes (fr (in_a_switch a number)) place a.first labels i rest left r

  -- where a statement stands, what is left to do, the stack objects that end where the loop around is left, the nodes that do it, and
  -- what is behind these
  pub data AtS : Around → Jumps → Todo → List ℕ → Nodes → Position → Type 0 where
    at_leaves : AtS (outermost t.structs f) in_function source.leaves [] (last_nodes (n == t.main) (registers_of f)) position.done
    at_row : {a : Around} {io : Jumps} {k : Todo} {left : List ℕ} {r : Nodes} {q : Position} (rest : tree.Stmts) → AreWell inside io rest → RoomRow a rest → Free t (greatest_row rest)
        → AtS a io k left r q → AtS a io (source.then_row rest k) left (row_nodes (fr a) rest left r) q
    at_end : {a : Around} {io : Jumps} {k : Todo} {left : List ℕ} {r : Nodes} {q : Position} (place : ℕ) (is : List ℕ)
        → ((k : ℕ) → among (homes_of (homes_from 0 f.locals) is) k ≡ true → among a.outer k ≡ false → a.over k ≡ true)
        → AtS a io k left r q → AtS (in_a_block a (homes_of (homes_from 0 f.locals) is)) io (source.then_end is k) (again a.outer (homes_of (homes_from 0 f.locals) is) ++ left) (ends place (homes_of (homes_from 0 f.locals) is) r) q
    at_loop : {a : Around} {io : Jumps} {k : Todo} {left : List ℕ} {r : Nodes} {q : Position} (place : ℕ) (around : List ℕ) (l : Loop) → LoopIs l
        → AtS a io k left r q → AtS a in_function (source.then_loop l k) around (more_nodes (ir.loop place (body_nodes a l) (latch_nodes a place l)) (loop_behind a place l r)) q
    at_body : {a : Around} {io : Jumps} {k : Todo} {left : List ℕ} {r : Nodes} {q : Position} (place : ℕ) (l : Loop) → LoopIs l
        → AtS a io k left r q → AtS (in_the_body a l) (jumps_of l.body) (source.in_body l k) [] no_nodes (position.in_body (body_nodes a l) (latch_nodes a place l) (then_ (loop_behind a place l r) q))
    at_step : {a : Around} {io : Jumps} {k : Todo} {left : List ℕ} {r : Nodes} {q : Position} (place : ℕ) (l : Loop) → LoopIs l
        → AtS a io k left r q → AtS (in_the_step a) in_step (source.in_step l k) [] no_nodes (position.in_latch (body_nodes a l) (latch_nodes a place l) (then_ (loop_behind a place l r) q))
    at_switch : {a : Around} {io : Jumps} {k : Todo} {left : List ℕ} {r : Nodes} {q : Position} (number : ℕ) → length f.locals ≤ a.first
        → AtS a io k left r q → AtS (in_a_switch a number) (in_switch io) (source.in_switch k) left r q
    at_cases : {a : Around} {io : Jumps} {k : Todo} {left : List ℕ} {r : Nodes} {q : Position} (number place : ℕ) (labels : List tree.Label) (i : ℕ) (rest : tree.Stmts) → length f.locals ≤ a.first
        → AreWell inside (in_switch io) rest → RoomRow a rest → Free t (greatest_row rest) → IsPast labels number i
        → AtS a io k left r q → AtS (in_a_switch a number) (in_switch io) (source.then_row rest (source.in_switch k)) left (cases a number place labels i rest left r) q
    at_inner : {a : Around} {io : Jumps} {k : Todo} {left : List ℕ} {r : Nodes} {q : Position} → AtS a io k left r q → AtS a io k left no_nodes (then_ r q)
    at_int : {a : Around} {io : Jumps} {k : Todo} {left : List ℕ} {r : Nodes} {q : Position} (place to z : ℕ) → a.first ≤ to → AtS a io k left r q → AtS a io k left (sets_int place to z r) q

  -- what a value of this kind in the register u is used for, how what it points to is reached, the nodes that do it, and what is behind
  -- these, where the registers below u and the stack objects are these
  pub data AtE (ob : ℕ → Option ℕ) (tm : ℕ → Held) : Around → Use → ℕ → Access → Reach → Nodes → Position → Type 0 where
    at_first : {a : Around} {k : Use} {u : ℕ} {how : Access} {rch : Reach} {r : Nodes} {q : Position} (place : ℕ) (op : Binary) (right : tree.Expr) (lh : Access) (lrch : Reach)
        → IsTyped ctx right → IsScalar (tree.type_of right) → BinaryFits op lh (access_of_type (tree.type_of right)) how → Joins op lh lrch rch
        → AtE ob tm a k u how rch r q → AtE ob tm a (source.first_of place op right k) u lh lrch (expr_nodes (fr a) right (suc u) (sets place u (calc_of op lh u (suc u)) r)) q
    at_second : {a : Around} {k : Use} {u : ℕ} {how : Access} {rch : Reach} {r : Nodes} {q : Position} (place : ℕ) (op : Binary) (left : Value) (lh rh : Access) (rrch : Reach)
        → BinaryFits op lh rh how → HasKind lh left → tm u ≡ value left → Joined tm u op left rch
        → AtE ob tm a k u how rch r q → AtE ob tm a (source.second_of place op left k) (suc u) rh rrch (sets place u (calc_of op lh u (suc u)) r) q
    at_convert : {a : Around} {k : Use} {u : ℕ} {rch : Reach} {r : Nodes} {q : Position} (place : ℕ) (from to : tree.Ty) → ConvertFits from to
        → AtE ob tm a k u (access_of_type to) rch r q → AtE ob tm a (source.only_of place (converts to) k) u (access_of_type from) rch (forms.converts place from to u r) q
    at_not : {a : Around} {k : Use} {u : ℕ} {r : Nodes} {q : Position} (place : ℕ) (ty : tree.Ty) (rch : Reach)
        → AtE ob tm a k u (accesses.Number int) found r q → AtE ob tm a (source.only_of place negates k) u (access_of_type ty) rch (negation place ty u r) q
    at_test : {a : Around} {k : Use} {u : ℕ} {r : Nodes} {q : Position} (place : ℕ) (rch : Reach)
        → AtE ob tm a k u (accesses.Number int) found r q → AtE ob tm a (source.only_of place tests k) u accesses.Pointer rch (sets place u (ir.pointer_test u) r) q
    at_member : {a : Around} {k : Use} {u : ℕ} {r : Nodes} {q : Position} (place offset : ℕ) (rch : Reach) → offset < 2 ^ 64
        → AtE ob tm a k u accesses.Pointer (member_reach offset rch) r q
        → AtE ob tm a (source.only_of place (selects offset) k) u accesses.Pointer rch (member_nodes place offset (behind rch u) u r) q
    at_read : {a : Around} {k : Use} {u : ℕ} {r : Nodes} {q : Position} (place : ℕ) (how : Access) (atomic : Bool) (rch : Reach)
        → AtE ob tm a k u how found r q → AtE ob tm a (source.place_read place how atomic k) u accesses.Pointer rch (acts place (ir.load how) (reached rch u ∷ []) (Some u) [] r) q
    at_and : {a : Around} {k : Use} {u : ℕ} {r : Nodes} {q : Position} (place : ℕ) (right : tree.Expr) (lh : Access) (rch : Reach) → IsTyped ctx right → IsScalar (tree.type_of right)
        → AtE ob tm a k u (accesses.Number int) found r q
        → AtE ob tm a (source.first_test place false right k) u lh rch
        (branches place u (expr_nodes (fr a) right u (sets_truth (tree.place_of right) u 1 0 no_nodes)) (sets_int place u 0 no_nodes) r) q
    at_or : {a : Around} {k : Use} {u : ℕ} {r : Nodes} {q : Position} (place : ℕ) (right : tree.Expr) (lh : Access) (rch : Reach) → IsTyped ctx right → IsScalar (tree.type_of right)
        → AtE ob tm a k u (accesses.Number int) found r q
        → AtE ob tm a (source.first_test place true right k) u lh rch
        (branches place u (sets_int place u 1 no_nodes) (expr_nodes (fr a) right u (sets_truth (tree.place_of right) u 1 0 no_nodes)) r) q
    at_second_test : {a : Around} {k : Use} {u : ℕ} {r : Nodes} {q : Position} (place : ℕ) (lh : Access) (rch : Reach)
        → AtE ob tm a k u (accesses.Number int) found r q → AtE ob tm a (source.second_test place k) u lh rch (sets_truth place u 1 0 r) q
    at_choice : {a : Around} {k : Use} {u : ℕ} {how : Access} {r : Nodes} {q : Position} (place : ℕ) (one other : tree.Expr) (lh : Access) (rch : Reach)
        → IsTyped ctx one → IsScalar (tree.type_of one) → access_of_type (tree.type_of one) ≡ how → IsTyped ctx other → IsScalar (tree.type_of other) → access_of_type (tree.type_of other) ≡ how
        → AtE ob tm a k u how found r q
        → AtE ob tm a (source.choice place one other k) u lh rch (branches place u (expr_nodes (fr a) one u no_nodes) (expr_nodes (fr a) other u no_nodes) r) q
    at_wanted : {a : Around} {k : Use} {u : ℕ} {r : Nodes} {q : Position} (place : ℕ) (callee : Callee) (all : tree.Exprs) (e : tree.Expr) (rest : tree.Exprs) (before : List Value) (v : ℕ) (ty : tree.Ty) (rch : Reach)
        → AreTyped ctx rest → AreScalars rest → CallIs ctx callee all ty → AreScalars all → HasValues ty → Taken tm all u (tree.more_exprs e rest) before v → a.first ≤ u
        → AtE ob tm a k u (access_of_type ty) found r q
        → AtE ob tm a (source.argument place callee before rest (wanted place k)) v (access_of_type (tree.type_of e)) rch (args_nodes (fr a) rest (suc v) (after_args place callee all u r)) q
    at_dropped : {a : Around} {io : Jumps} {k : Todo} {left : List ℕ} {u : ℕ} {r : Nodes} {q : Position} (place : ℕ) (callee : Callee) (all : tree.Exprs) (e : tree.Expr) (rest : tree.Exprs) (before : List Value) (v : ℕ) (ty : tree.Ty) (rch : Reach)
        → AreTyped ctx rest → AreScalars rest → CallIs ctx callee all ty → AreScalars all → Taken tm all u (tree.more_exprs e rest) before v → a.first ≤ u
        → AtS a io k left r q
        → AtE ob tm a (source.argument place callee before rest (dropped k)) v (access_of_type (tree.type_of e)) rch (args_nodes (fr a) rest (suc v) (dropped_args place callee all u r)) q
    at_local : {a : Around} {io : Jumps} {k : Todo} {left : List ℕ} {r : Nodes} {q : Position} (place i : ℕ) (l : tree.Local) (rch : Reach) → slice_get f.locals i ≡ Some l → home (fr a) i ≡ None
        → AtS a io k left r q → AtE ob tm a (source.to_local i k) a.first (access_of_type l.ty) rch (sets place i (ir.copy a.first) r) q
    at_left : {a : Around} {io : Jumps} {k : Todo} {left : List ℕ} {r : Nodes} {q : Position} (place : ℕ) (atomic : Bool) (right : tree.Expr) (how : Access) (rch : Reach)
        → IsTyped ctx right → IsScalar (tree.type_of right) → access_of_type (tree.type_of right) ≡ how
        → AtS a io k left r q
        → AtE ob tm a (source.left_place place atomic right k) a.first accesses.Pointer rch
        (expr_nodes (fr a) right (behind rch a.first) (acts place (ir.store how) (reached rch a.first ∷ []) None (behind rch a.first ∷ []) r)) q
    at_place : {a : Around} {io : Jumps} {k : Todo} {left : List ℕ} {r : Nodes} {q : Position} (place : ℕ) (atomic : Bool) (to : Ptr) (how : Access) (via rch : Reach) → Reaches tm via a.first to
        → AtS a io k left r q
        → AtE ob tm a (source.to_place place atomic (values.Pointer to) k) (behind via a.first) how rch (acts place (ir.store how) (reached via a.first ∷ []) None (behind via a.first ∷ []) r) q
    at_block : {a : Around} {io : Jumps} {k : Todo} {left : List ℕ} {r : Nodes} {q : Position} (place : ℕ) (atomic : Bool) (i object b : ℕ) (how : Access) (rch : Reach) → home (fr a) i ≡ Some object → i < a.first → ob object ≡ Some b
        → AtS a io k left r q
        → AtE ob tm a (source.to_place place atomic (values.Pointer (To b 0)) k) a.first how rch (sets place i (ir.object object) (acts place (ir.store how) (at_temp i ∷ []) None (a.first ∷ []) r)) q
    at_struct_left : {a : Around} {io : Jumps} {k : Todo} {left : List ℕ} {r : Nodes} {q : Position} (place : ℕ) (ty : tree.Ty) (right : tree.Expr) (rch : Reach)
        → IsTyped ctx right → IsPlace (fr a) (tree.node_of right) → size_in t.structs ty < 2 ^ 64
        → AtS a io k left r q
        → AtE ob tm a (source.struct_left place ty right k) a.first accesses.Pointer rch
        (place_nodes (fr a) right (behind rch a.first) (sized_copy t.structs place ty (reached rch a.first) (reached (reach (fr a) right) (behind rch a.first)) (behind (reach (fr a) right) (behind rch a.first)) r)) q
    at_struct_right : {a : Around} {io : Jumps} {k : Todo} {left : List ℕ} {r : Nodes} {q : Position} (place : ℕ) (ty : tree.Ty) (to : Ptr) (via rch : Reach) → Reaches tm via a.first to → size_in t.structs ty < 2 ^ 64
        → AtS a io k left r q
        → AtE ob tm a (source.struct_right place ty (values.Pointer to) k) (behind via a.first) accesses.Pointer rch
        (sized_copy t.structs place ty (reached via a.first) (reached rch (behind via a.first)) (behind rch (behind via a.first)) r) q
    at_update_left : {a : Around} {io : Jumps} {k : Todo} {left : List ℕ} {r : Nodes} {q : Position} (place : ℕ) (x right : tree.Expr) (op : Op) (rch : Reach)
        → IsTyped ctx right → IsScalar (tree.type_of right) → CanUpdate t.structs op (tree.type_of x) (tree.type_of right)
        → AtS a io k left r q
        → AtE ob tm a (source.update_left (update_of place x op) right k) a.first accesses.Pointer rch
        (expr_nodes (fr a) right (behind rch a.first) (update_by (fr a) place (behind rch a.first) op (reached rch a.first) x right r)) q
    at_update_right : {a : Around} {io : Jumps} {k : Todo} {left : List ℕ} {r : Nodes} {q : Position} (place : ℕ) (x right : tree.Expr) (op : Op) (to : Ptr) (via rch : Reach) → Reaches tm via a.first to
        → CanUpdate t.structs op (tree.type_of x) (tree.type_of right)
        → AtS a io k left r q
        → AtE ob tm a (source.update_right (update_of place x op) (values.Pointer to) k) (behind via a.first) (access_of_type (tree.type_of right)) rch
        (update_by (fr a) place (behind via a.first) op (reached via a.first) x right r) q
    at_update_read : {a : Around} {io : Jumps} {k : Todo} {left : List ℕ} {r : Nodes} {q : Position} (place : ℕ) (x right : tree.Expr) (op : Op) (to : Ptr) (by : Value) (via rch : Reach) → Reaches tm via a.first to
        → IsScalar (tree.type_of x) → CanUpdate t.structs op (tree.type_of x) (tree.type_of right) → HasKind (access_of_type (tree.type_of right)) by → tm (behind via a.first) ≡ value by
        → AtS a io k left r q
        → AtE ob tm a (source.update_read (update_of place x op) (values.Pointer to) by k) (suc (behind via a.first)) (access_of_type (tree.type_of x)) rch
        (computes t.structs place op (tree.type_of x) (tree.type_of right) (suc (behind via a.first)) (behind via a.first) (behind via a.first)
        (acts (tree.place_of x) (ir.store (access_of_type (tree.type_of x))) (reached via a.first ∷ []) None (behind via a.first ∷ []) r)) q
    at_update_local : {a : Around} {io : Jumps} {k : Todo} {left : List ℕ} {r : Nodes} {q : Position} (place i : ℕ) (l : tree.Local) (x right : tree.Expr) (op : Op) (rch : Reach)
        → slice_get f.locals i ≡ Some l → home (fr a) i ≡ None → tree.type_of x ≡ l.ty → IsScalar (tree.type_of x) → CanUpdate t.structs op (tree.type_of x) (tree.type_of right)
        → AtS a io k left r q
        → AtE ob tm a (source.update_local (update_of place x op) i k) a.first (access_of_type (tree.type_of right)) rch
        (sets (tree.place_of x) (suc a.first) (ir.copy i) (computes t.structs place op (tree.type_of x) (tree.type_of right) (suc a.first) a.first i r)) q
    at_if : {a : Around} {io : Jumps} {k : Todo} {left : List ℕ} {r : Nodes} {q : Position} (place : ℕ) (one other : tree.Stmt) (lh : Access) (rch : Reach)
        → IsWell inside io one → IsWell inside io other → RoomOf a one → RoomOf a other
        → AtS a io k left r q
        → AtE ob tm a (source.if_test place one other k) a.first lh rch (branches place a.first (stmt_nodes (fr a) one left no_nodes) (stmt_nodes (fr a) other left no_nodes) r) q
    at_loop_test : {a : Around} {io : Jumps} {k : Todo} {left : List ℕ} {r : Nodes} {q : Position} (place site : ℕ) (l : Loop) (lh : Access) (rch : Reach) → LoopIs l
        → AtS a io k left r q
        → AtE ob tm (in_the_body a l) (source.loop_test place l k) a.first lh rch (branches place a.first no_nodes (more_nodes (ir.break_ place) no_nodes) (stmt_nodes (looped (fr a)) l.body [] no_nodes))
        (position.in_body (body_nodes a l) (latch_nodes a site l) (then_ (loop_behind a site l r) q))
    at_switch_test : {a : Around} {io : Jumps} {k : Todo} {left : List ℕ} {r : Nodes} {q : Position} (place : ℕ) (labels : List tree.Label) (body : tree.Stmts) (s : IntType) (rch : Reach)
        → AllByRecursion (IsLabel (tree.integer s) (stmts_count body)) labels → length labels ≤ 1024 → AreWell inside (in_switch io) body → RoomRow a body → Free t (greatest_row body)
        → AtS a io k left r q
        → AtE ob tm a (source.switch_test labels body k) (suc (suc a.first)) (accesses.Number s) rch
        (sets_int place a.first (default_from 0 labels) (choose_nodes place a.first 0 labels (sets_int place (suc a.first) 0 (cases a 0 place labels 0 body left r)))) q
    at_caller : {a : Around} {r : Nodes} {q : Position} (place : ℕ) (rch : Reach) → AtE ob tm a source.to_caller a.first (access_of_type f.result) rch (more_nodes (ir.ret place (Some a.first)) r) q
    at_nowhere : {a : Around} {io : Jumps} {k : Todo} {left : List ℕ} {r : Nodes} {q : Position} (how : Access) (rch : Reach) → AtS a io k left r q → AtE ob tm a (source.to_nowhere k) a.first how rch r q
    at_inside : {a : Around} {k : Use} {u : ℕ} {how : Access} {rch : Reach} {r : Nodes} {q : Position} → AtE ob tm a k u how rch r q → AtE ob tm a k u how rch no_nodes (then_ r q)
    at_found : {a : Around} {k : Use} {u : ℕ} {how : Access} {r : Nodes} {q : Position} (rch : Reach) → AtE ob tm a k u how found r q → AtE ob tm a k u how rch r q
    at_again : {a : Around} {k : Use} {u : ℕ} {how : Access} {r : Nodes} {q : Position} (place : ℕ) (rch : Reach) → AtE ob tm a k u how found r q → AtE ob tm a k u how rch (sets place u (ir.copy u) r) q

-- ---- threads

module _ (t : tree.Typed) where
  -- what holds in a call of the function f, which has the number n
  pub record InCall (n : ℕ) (f : tree.Func) : Type 0 where
    pub there : slice_get t.funcs n ≡ Some f
    pub free : Free t (registers_of f)

  -- the calls that wait, the nearest first, for one of the function m
  pub data Callers : ℕ → List Caller → List (Point Position Own) → Type 0 where
    no_callers : (m : ℕ) (g : tree.Func) → slice_get t.funcs m ≡ Some g → g.result ≡ tree.integer int → Callers m [] []
    one_wants : {n : ℕ} {f : tree.Func} {vs : List Variable} {tm : ℕ → Held} {ob : ℕ → Option ℕ} {b : Blocks} {a : Around} {k : Use} {u : ℕ} {r : Nodes} {q : Position} {cs : List Caller} {cs' : List (Point Position Own)}
        (m : ℕ) (g : tree.Func) (place : ℕ) (ts : List ℕ) → slice_get t.funcs m ≡ Some g → Calls t → InCall n f → a.first ≤ u → AgreesIn f a vs tm ob
        → AtE t n f ob tm a k u (access_of_type g.result) found r q → Callers n cs cs'
        → Callers m (record { function = n; locals = vs; wait = wanted place k } ∷ cs)
        (record { at = then_ (forms.calls place (Some u) m ts (sets place u (ir.copy u) r)) q; own = record { function = n; temps = tm; objects = ob; blocks = b } } ∷ cs')
    one_drops : {n : ℕ} {f : tree.Func} {vs : List Variable} {tm : ℕ → Held} {ob : ℕ → Option ℕ} {b : Blocks} {a : Around} {io : Jumps} {k : Todo} {left : List ℕ} {r : Nodes} {q : Position} {cs : List Caller} {cs' : List (Point Position Own)}
        (m : ℕ) (place : ℕ) (ts : List ℕ) → Calls t → InCall n f → AgreesIn f a vs tm ob
        → AtS t n f a io k left r q → Callers n cs cs'
        → Callers m (record { function = n; locals = vs; wait = dropped k } ∷ cs)
        (record { at = then_ (forms.calls place None m ts r) q; own = record { function = n; temps = tm; objects = ob; blocks = b } } ∷ cs')

  -- where a turn begins
  pub data PointIs (n : ℕ) (f : tree.Func) (ob : ℕ → Option ℕ) (tm : ℕ → Held) : Around → source.TurnStart → Position → Type 0 where
    at_gives : {a : Around} {k : Use} {u : ℕ} {how : Access} {r : Nodes} {q : Position} (v : Value) → HasKind how v → tm u ≡ value v → a.first ≤ u → Calls t
        → AtE t n f ob tm a k u how found r q → PointIs n f ob tm a (source.gives v k) (then_ r q)
    at_zero : {a : Around} {k : Use} {u : ℕ} {r : Nodes} {q : Position} (place : ℕ) → a.first ≤ u → Calls t
        → AtE t n f ob tm a k u (accesses.Number int) found r q → PointIs n f ob tm a (source.gives (values.Num (num int (pos 0))) k) (then_ (sets_int place u 0 r) q)
    at_lacks : {a : Around} {u : ℕ} {r : Nodes} {q : Position} (place : ℕ) → tm u ≡ code.missing → PointIs n f ob tm a (source.lacks place) (then_ (sets place u (ir.copy u) r) q)
    at_begins : {a : Around} {io : Jumps} {k : Todo} {left : List ℕ} {r : Nodes} {q : Position} → AtS t n f a io k left r q → PointIs n f ob tm a (source.begins k) (then_ r q)
    at_round : {a : Around} {io : Jumps} {k : Todo} {left : List ℕ} {r : Nodes} {q : Position} (place : ℕ) (l : Loop) → LoopIs t n f l → AtS t n f a io k left r q
        → PointIs n f ob tm a (source.round l k) (then_ (body_nodes t n f a l) (position.in_body (body_nodes t n f a l) (latch_nodes t n f a place l) (then_ (loop_behind t n f a place l r) q)))

  pub data Same : Control → Thread Position Own → Type 0 where
    same : {a : Around} {n : ℕ} {f : tree.Func} {vs : List Variable} {tm : ℕ → Held} {ob : ℕ → Option ℕ} {b : Blocks} {p : source.TurnStart} {q : Position} {cs : List Caller} {cs' : List (Point Position Own)} {touched : List Touch}
        → InCall n f → AgreesIn f a vs tm ob → PointIs n f ob tm a p q → Callers n cs cs'
        → Same (record { function = n; locals = vs; point = p; callers = cs; touched = touched }) (record { top = record { at = q; own = record { function = n; temps = tm; objects = ob; blocks = b } }; callers = cs' })

  -- a thread may begin with main, and with a function that may be started
  abbrev pub CanBegin : ℕ → Type 0
  CanBegin m = (m ≡ t.main) ⊎ (Calls t × IsNth t.funcs m (λ f. CanStart (signature_of f)))

  abbrev pub AllBegin : World → Type 0
  AllBegin w = AllByRecursion (λ (h : actions.ThreadRecord). CanBegin h.function) w.threads

  -- two turns come out alike
  pub data Together : Turn Control → Turn (Thread Position Own) → Type 0 where
    both_went : {a : Control} {b : Thread Position Own} (w : World) → AllBegin w → Same a b → Together (runs.went a w) (runs.went b w)
    both_ended : (w : World) → AllBegin w → Together (runs.ended w) (runs.ended w)
    both_blocked : Together runs.blocked runs.blocked
    both_unfit : Together runs.unfit runs.unfit
    both_broke : (rule : Rule) (place : ℕ) → Together (runs.broke rule place) (runs.broke rule place)
