-- What each form of a typed tree is lowered to (C11 6.5 to 6.8; the order of evaluation is this project's profile: from left to right).
--
-- A local without a block is kept in the register of its own number. Behind these each switch has two registers for its statements: the
-- number of the label that is chosen, and a flag, which is 1 while they are executed, and 0 before and from a break on. The value of an
-- expression comes to the register t, the first one that is free: no register below t changes, but for those that a statement sets. Each
-- form is given the nodes that follow it.
use Rattle.std.specs.Prelude.{ℕ, zero, suc, ◌==◌, ◌++◌, Bool, true, false, not, if◌then◌else◌, List, [], ◌∷◌, slice_get, Option, Some, None, ℤ, pos}
use Rattle.ak_words.specs.declared.int_type.IntType.{IntType}
use Rattle.ak_words.specs.declared.operation.Op.{Op}
use Rattle.ak_words.specs.declared.operation.Op.TheVariants as ops
use Rattle.ak_words.specs.IntType.{int, unsigned_long, promoted_type}
use Rattle.block_store.specs.declared.values.Access.TheVariants as accesses
use Rattle.block_store.specs.declared.values.Change.TheVariants.{Add, Swap}
use Rattle.c_tree.specs.Typed as tree
use Rattle.c_tree.specs.TypedLayout.{size_in, align_in}
use Rattle.c_meaning.specs.Values.{access_of_type, is_scalar, is_atomic, element_size, member_offset, operand_types, is_minus}
use Rattle.c_meaning.specs.Switches.{default_from, stands_at}
use Rattle.c_meaning.specs.Turns.{is_struct}
use Rattle.struct_ir.specs.Nodes.{Calc, Place, Action, Nodes, no_nodes, more_nodes, plain, if_, loop, break_, next_, ret, set, call, step, begin_object, end_object}
use Rattle.struct_ir.specs.Nodes as ir
use Rattle.struct_ir.specs.meaning.Blocks.{same_type}

-- what stays the same in a function: the structs of the program, and for each local the number of its stack object, or none where it's
-- kept in the register of its own number; and where a statement stands: the first register that is free, the flag of the switch that
-- a break leaves, or none where it leaves a loop, the stack objects of the blocks around, up to the function's body, and those of them
-- that the loop around stands in
pub record Frame : Type 0 where
  pub structs : List tree.Layout
  pub homes : List (Option ℕ)
  pub first : ℕ
  pub flag : Option ℕ
  pub around : List ℕ
  pub outer : List ℕ

-- the same in a loop
abbrev pub looped : Frame → Frame
looped f = record { structs = f.structs; homes = f.homes; first = f.first; flag = None; around = f.around; outer = f.around }

-- between the braces of a switch, which takes two registers
abbrev pub switched : Frame → Frame
switched f = record { structs = f.structs; homes = f.homes; first = suc (suc f.first); flag = Some (suc f.first); around = f.around; outer = f.outer }

-- in a block that declares locals with these stack objects
abbrev pub opened : Frame → List ℕ → Frame
opened f objects = record { structs = f.structs; homes = f.homes; first = f.first; flag = f.flag; around = objects ++ f.around; outer = f.outer }

-- the stack object, if there is such a local and it has one
abbrev pub home_or_none : Option (Option ℕ) → Option ℕ
home_or_none None = None
home_or_none (Some home) = home

-- the stack object of the local of this number
abbrev pub home : Frame → (number : ℕ) → Option ℕ
home f number = home_or_none (slice_get f.homes number)

-- the first register that holds no local, and nothing of a switch around
abbrev pub first_temp : Frame → ℕ
first_temp f = f.first

-- ---- nodes

-- a register is set
abbrev pub sets : (place to : ℕ) → Calc → Nodes → Nodes
sets place to calc rest = more_nodes (plain place (set to calc)) rest

-- an action is done
abbrev pub acts : (place : ℕ) → Action → List Place → (to : Option ℕ) → List ℕ → Nodes → Nodes
acts place action places to temps rest =
    more_nodes (plain place (step (record { action = action; places = places; to = to; temps = temps; slots = [] }))) rest

-- a function is called
abbrev pub calls : (place : ℕ) → (to : Option ℕ) → (function : ℕ) → List ℕ → Nodes → Nodes
calls place to function temps rest = more_nodes (plain place (call (record { to = to; function = function; temps = temps; slots = [] }))) rest

-- the one nodes, or the others, by what a register holds
abbrev pub branches : (place temp : ℕ) → (one other rest : Nodes) → Nodes
branches place temp one other rest = more_nodes (if_ place temp one other) rest

-- the constant 0 or 1 of type int, or another (C11 6.5.3.3 p5)
abbrev pub sets_int : (place to value : ℕ) → Nodes → Nodes
sets_int place to value rest = sets place to (ir.constant int (pos value)) rest

-- a number of type unsigned long, as size_t is (C11 7.19)
abbrev pub sets_long : (place to value : ℕ) → Nodes → Nodes
sets_long place to value rest = sets place to (ir.constant unsigned_long (pos value)) rest

-- the one number or the other, as what the register t holds counts as true or doesn't
abbrev pub sets_truth : (place t one other : ℕ) → Nodes → Nodes
sets_truth place t one other rest = branches place t (sets_int place t one no_nodes) (sets_int place t other no_nodes) rest

-- ---- where an access goes

-- how an object is reached once the pointer to it is in a register: by that pointer, or by the pointer in a local's own register plus
-- an offset, or plus an index times a scale and an offset; the index stands in the register behind the pointer
pub data Reach : Type 0 where
  found : Reach
  direct : (base offset : ℕ) → Reach
  indexed : (base scale offset : ℕ) → Reach

-- the place of an access to what the pointer in this register points to
abbrev pub at_temp : ℕ → Place
at_temp t = record { base = t; index = None; scale = 0; offset = 0; slot = None }

-- the place of an access to an object, to which the pointer is in the register t
abbrev pub reached : Reach → (t : ℕ) → Place
reached found t = at_temp t
reached (direct base offset) t = record { base = base; index = None; scale = 0; offset = offset; slot = None }
reached (indexed base scale offset) t = record { base = base; index = Some (suc t); scale = scale; offset = offset; slot = None }

-- the first register that is free then
abbrev pub behind : Reach → (t : ℕ) → ℕ
behind found t = suc t
behind (direct base offset) t = suc t
behind (indexed base scale offset) t = suc (suc t)

-- a member of an object that is reached so
abbrev pub member_reach : (offset : ℕ) → Reach → Reach
member_reach offset (direct base zero) = direct base offset
member_reach offset (indexed base scale zero) = indexed base scale offset
member_reach offset r = found

-- the register of a local, if it's kept in one
abbrev pub register_if : (number : ℕ) → (home : Option ℕ) → Option ℕ
register_if number None = Some number
register_if number (Some object) = None

-- a pointer type
abbrev pub is_pointer : tree.Ty → Bool
is_pointer (tree.pointer t) = true
is_pointer ty = false

-- the type void
abbrev pub is_void : tree.Ty → Bool
is_void tree.void = true
is_void ty = false

abbrev mutual
  -- the register of the local that this expression is, if it's kept in one; a conversion of a pointer changes nothing
  pub register_of : Frame → tree.Expr → Option ℕ
  register_of f (tree.at place ty node) = register_in f ty node

  -- by its form and type
  pub register_in : Frame → tree.Ty → tree.ExprNode → Option ℕ
  register_in f ty (tree.local number) = register_if number (home f number)
  register_in f ty (tree.convert e) = if is_pointer ty then register_of f e else None
  register_in f ty node = None

-- what that pointer points to
abbrev pub direct_if : Option ℕ → Reach
direct_if None = found
direct_if (Some base) = direct base 0

-- an element of what that pointer points to
abbrev pub indexed_if : (scale : ℕ) → Option ℕ → Reach
indexed_if scale None = found
indexed_if scale (Some base) = indexed base scale 0

-- the register of a pointer that stands first in a sum; a number has none there
abbrev pub pointer_register : Frame → tree.Expr → Option ℕ
pointer_register f e = if is_pointer (tree.type_of e) then register_of f e else None

-- what this pointer points to: p[i] goes by the register of p and an index, and i[p] by the sum
abbrev pub pointed_in : Frame → tree.Ty → tree.ExprNode → Reach
pointed_in f ty (tree.pointer_add a b) = indexed_if (element_size f.structs ty) (pointer_register f a)
pointed_in f ty node = direct_if (register_in f ty node)

-- by its form
abbrev pub pointed : Frame → tree.Expr → Reach
pointed f (tree.at place ty node) = pointed_in f ty node

abbrev mutual
  -- how this lvalue is reached
  pub reach : Frame → tree.Expr → Reach
  reach f (tree.at place ty node) = reach_in f node

  -- by its form
  pub reach_in : Frame → tree.ExprNode → Reach
  reach_in f (tree.deref e) = pointed f e
  reach_in f (tree.member e number) = member_reach (member_offset f.structs (tree.type_of e) number) (reach f e)
  reach_in f node = found

-- ---- parts of expressions

-- a number or a pointer is read
abbrev pub loads : (place : ℕ) → tree.Ty → Reach → (t : ℕ) → Nodes → Nodes
loads place ty r t rest = acts place (ir.load (access_of_type ty)) (reached r t ∷ []) (Some t) [] rest

-- the pointer to a stack object; C4 before the object has begun (C11 6.3.2.1 p2)
abbrev pub object_nodes : (place object t : ℕ) → Nodes → Nodes
object_nodes place object t rest = sets place t (ir.object object) (sets place t (ir.copy t) rest)

-- the value of a local, by its home
abbrev pub local_value : (place : ℕ) → tree.Ty → (number t : ℕ) → (home : Option ℕ) → Nodes → Nodes
local_value place ty number t None rest = sets place t (ir.copy number) rest
local_value place ty number t (Some object) rest = object_nodes place object t (loads place ty found t rest)

-- the pointer to a local, by its home; a well formed tree has none of a local that is kept in a register
abbrev pub local_place : (place number t : ℕ) → (home : Option ℕ) → Nodes → Nodes
local_place place number t None rest = sets place t (ir.copy number) rest
local_place place number t (Some object) rest = object_nodes place object t rest

-- the pointer in t moves to a member; the register w takes the offset (C11 6.5.2.3)
abbrev pub member_nodes : (place offset w t : ℕ) → Nodes → Nodes
member_nodes place offset w t rest = sets_long place w offset (sets place t (ir.pointer_add t w 1) rest)

-- the type of the numbers of an operand or of an object, also of an atomic one; where it's asked, a well formed tree has no other
abbrev pub number_type : tree.Ty → IntType
number_type (tree.integer t) = t
number_type (tree.atomic t) = t
number_type ty = int

-- the number in the register t becomes one of another type; nothing is done where that is its own (C11 6.3.1.3)
abbrev pub converts_number : (place : ℕ) → (from to : IntType) → (t : ℕ) → Nodes → Nodes
converts_number place from to t rest = if same_type from to then rest else sets place t (ir.convert to t) rest

-- whether the number in t, which is of this type, is 0, or whether it isn't, as the comparison says, as an int: it is promoted first, and
-- the register behind t takes the 0 (C11 6.5.9 p3, p4)
abbrev pub compares_to_zero : (place : ℕ) → Op → IntType → (t : ℕ) → Nodes → Nodes
compares_to_zero place op s t rest =
    converts_number place s (promoted_type s) t (sets place (suc t) (ir.constant (promoted_type s) (pos 0))
    (sets place t (ir.apply op (promoted_type s) t (suc t)) rest))

-- 1 or 0, as an int, as what t holds, which is of this type, counts as false or as true: a number is compared to 0 (C11 6.5.3.3 p5)
abbrev pub negation : (place : ℕ) → tree.Ty → (t : ℕ) → Nodes → Nodes
negation place (tree.integer s) t rest = compares_to_zero place ops.Eq s t rest
negation place ty t rest = sets_truth place t 0 1 rest

-- a conversion from one type to another: of a pointer it is nothing (C11 6.3)
abbrev pub converts : (place : ℕ) → (from to : tree.Ty) → (t : ℕ) → Nodes → Nodes
converts place from (tree.integer s) t rest = converts_number place (number_type from) s t rest
converts place from to t rest = rest

-- the sum of a pointer and a number of elements, of which the first stands in t and the other in u
abbrev pub sum_calc : (pointer_first : Bool) → (t u size : ℕ) → Calc
sum_calc true t u size = ir.pointer_add t u size
sum_calc false t u size = ir.pointer_add u t size

-- the type of the numbers to which a pointer of this type leads
abbrev pub pointed_number : tree.Ty → IntType
pointed_number (tree.pointer to) = number_type to
pointed_number ty = int

-- and the first argument of a call
abbrev pub changed_number : tree.Exprs → IntType
changed_number tree.no_exprs = int
changed_number (tree.more_exprs e rest) = pointed_number (tree.type_of e)

-- the unsigned type of the same width (C11 6.2.5 p6)
abbrev pub unsigned_of : IntType → IntType
unsigned_of t = record { signed = false; bits = t.bits; known_width = t.known_width }

-- 0 minus the number in u, which is of this type: it is taken in the unsigned one, so that the least number breaks nothing, and the
-- register behind u takes the 0
abbrev pub opposite_nodes : (place : ℕ) → IntType → (u : ℕ) → Nodes → Nodes
opposite_nodes place t u rest =
    sets place u (ir.convert (unsigned_of t) u) (sets place (suc u) (ir.constant (unsigned_of t) (pos 0))
    (sets place u (ir.apply ops.Sub (unsigned_of t) (suc u) u) (sets place u (ir.convert t u) rest)))

-- the number in u is added to the one at a place, or taken away from it, in one action (C11 7.17.7.5)
abbrev pub change_nodes : (place : ℕ) → (away : Bool) → IntType → Place → (u : ℕ) → (to : Option ℕ) → Nodes → Nodes
change_nodes place false t at u to rest = acts place (ir.change Add t) (at ∷ []) to (u ∷ []) rest
change_nodes place true t at u to rest = opposite_nodes place t u (acts place (ir.change Add t) (at ∷ []) to (u ∷ []) rest)

-- the registers of arguments, the first of them in t
abbrev pub temps_of : tree.Exprs → (t : ℕ) → List ℕ
temps_of tree.no_exprs t = []
temps_of (tree.more_exprs e rest) t = t ∷ temps_of rest (suc t)

-- a type of numbers
abbrev pub is_number : tree.Ty → Bool
is_number (tree.integer t) = true
is_number ty = false

-- with this one before the others, where that holds
abbrev pub with_if : {A : Type 0} → Bool → A → List A → List A
with_if true x xs = x ∷ xs
with_if false x xs = xs

-- the registers of those arguments that are numbers
abbrev pub number_temps : tree.Exprs → (t : ℕ) → List ℕ
number_temps tree.no_exprs t = []
number_temps (tree.more_exprs e rest) t = with_if (is_number (tree.type_of e)) t (number_temps rest (suc t))

-- what those arguments point to that are pointers
abbrev pub text_places : tree.Exprs → (t : ℕ) → List Place
text_places tree.no_exprs t = []
text_places (tree.more_exprs e rest) t = with_if (not (is_number (tree.type_of e))) (at_temp t) (text_places rest (suc t))

-- a call of the library, whose arguments stand in the registers from t on; its value comes to t (C11 7.17, 7.21, 7.22, 7.24, 7.26)
abbrev pub lib_nodes : (place : ℕ) → tree.Lib → tree.Exprs → (t : ℕ) → Nodes → Nodes
lib_nodes place (tree.print pieces) args t rest = acts place (ir.print pieces) (text_places args t) (Some t) (number_temps args t) rest
lib_nodes place tree.malloc args t rest = acts place ir.malloc [] (Some t) (t ∷ []) rest
lib_nodes place tree.calloc args t rest = acts place ir.calloc [] (Some t) (t ∷ suc t ∷ []) rest
lib_nodes place tree.realloc args t rest = acts place ir.realloc [] (Some t) (t ∷ suc t ∷ []) rest
lib_nodes place tree.free args t rest = acts place ir.free [] None (t ∷ []) rest
lib_nodes place tree.copy args t rest = acts place (ir.copy_bytes 1 false) (at_temp t ∷ at_temp (suc t) ∷ []) None (suc (suc t) ∷ []) rest
lib_nodes place (tree.start function) args t rest = acts place (ir.start function) (at_temp t ∷ []) (Some t) (suc t ∷ []) rest
lib_nodes place tree.join args t rest = acts place ir.join (at_temp (suc t) ∷ []) (Some t) (t ∷ []) rest
lib_nodes place tree.mutex_init args t rest =
    sets_long place (suc t) 0 (acts place (ir.store (accesses.Number unsigned_long)) (at_temp t ∷ []) None (suc t ∷ []) (sets_int place t 0 rest))
lib_nodes place tree.mutex_lock args t rest = acts place ir.lock (at_temp t ∷ []) None [] (sets_int place t 0 rest)
lib_nodes place tree.mutex_unlock args t rest = acts place ir.unlock (at_temp t ∷ []) None [] (sets_int place t 0 rest)
lib_nodes place tree.mutex_destroy args t rest = acts place ir.destroy (at_temp t ∷ []) None [] rest
lib_nodes place tree.atomic_add args t rest = change_nodes place false (changed_number args) (at_temp t) (suc t) (Some t) rest
lib_nodes place tree.atomic_sub args t rest = change_nodes place true (changed_number args) (at_temp t) (suc t) (Some t) rest
lib_nodes place tree.atomic_swap args t rest = acts place (ir.change Swap (changed_number args)) (at_temp t ∷ []) (Some t) (suc t ∷ []) rest
lib_nodes place tree.atomic_compare args t rest = acts place (ir.compare (changed_number args)) (at_temp t ∷ at_temp (suc t) ∷ []) (Some t) (suc (suc t) ∷ []) rest
lib_nodes place tree.atomic_store args t rest = acts place (ir.store (accesses.Number (changed_number args))) (at_temp t ∷ []) None (suc t ∷ []) rest

-- ---- expressions

abbrev mutual
  -- the value of an expression comes to t
  pub expr_nodes : Frame → tree.Expr → (t : ℕ) → Nodes → Nodes
  expr_nodes f (tree.at place ty node) t rest = value_nodes f place ty node t rest

  -- by its form, place and type (C11 6.5); the value of a call that ended without one is missed at once (C11 6.9.1 p12)
  pub value_nodes : Frame → (place : ℕ) → tree.Ty → tree.ExprNode → (t : ℕ) → Nodes → Nodes
  value_nodes f place ty (tree.num s z) t rest = sets place t (ir.constant s z) rest
  value_nodes f place ty tree.null t rest = sets place t ir.null rest
  value_nodes f place ty (tree.literal number) t rest = sets place t (ir.literal number) (loads place ty found t rest)
  value_nodes f place ty (tree.global number) t rest = sets place t (ir.global number) (loads place ty found t rest)
  value_nodes f place ty (tree.local number) t rest = local_value place ty number t (home f number) rest
  value_nodes f place ty (tree.deref e) t rest = expr_nodes f e t (loads place ty (pointed f e) t rest)
  value_nodes f place ty (tree.member e number) t rest =
      place_nodes f e t (member_nodes place (member_offset f.structs (tree.type_of e) number) (behind (reach f e) t) t
      (loads place ty (member_reach (member_offset f.structs (tree.type_of e) number) (reach f e)) t rest))
  value_nodes f place ty (tree.address_of e) t rest = place_nodes f e t rest
  value_nodes f place ty (tree.decay e) t rest = place_nodes f e t rest
  value_nodes f place ty (tree.convert e) t rest = expr_nodes f e t (converts place (tree.type_of e) ty t rest)
  value_nodes f place ty (tree.not_ e) t rest = expr_nodes f e t (negation place (tree.type_of e) t rest)
  value_nodes f place ty (tree.binary op a b) t rest =
      expr_nodes f a t (expr_nodes f b (suc t) (sets place t (ir.apply op (number_type (tree.type_of a)) t (suc t)) rest))
  value_nodes f place ty (tree.and_also a b) t rest =
      expr_nodes f a t (branches (tree.place_of a) t (expr_nodes f b t (sets_truth (tree.place_of b) t 1 0 no_nodes)) (sets_int (tree.place_of a) t 0 no_nodes) rest)
  value_nodes f place ty (tree.or_else a b) t rest =
      expr_nodes f a t (branches (tree.place_of a) t (sets_int (tree.place_of a) t 1 no_nodes) (expr_nodes f b t (sets_truth (tree.place_of b) t 1 0 no_nodes)) rest)
  value_nodes f place ty (tree.choose c a b) t rest =
      expr_nodes f c t (branches (tree.place_of c) t (expr_nodes f a t no_nodes) (expr_nodes f b t no_nodes) rest)
  value_nodes f place ty (tree.pointer_add a b) t rest =
      expr_nodes f a t (expr_nodes f b (suc t) (sets place t (sum_calc (is_pointer (tree.type_of a)) t (suc t) (element_size f.structs ty)) rest))
  value_nodes f place ty (tree.pointer_sub p n) t rest =
      expr_nodes f p t (expr_nodes f n (suc t) (sets place t (ir.pointer_sub t (suc t) (element_size f.structs (tree.type_of p))) rest))
  value_nodes f place ty (tree.pointer_diff p q) t rest =
      expr_nodes f p t (expr_nodes f q (suc t) (sets place t (ir.pointer_diff t (suc t) (element_size f.structs (tree.type_of p))) rest))
  value_nodes f place ty (tree.pointer_compare op p q) t rest =
      expr_nodes f p t (expr_nodes f q (suc t) (sets place t (ir.pointer_compare op t (suc t)) rest))
  value_nodes f place ty (tree.pointer_test p) t rest = expr_nodes f p t (sets place t (ir.pointer_test t) rest)
  value_nodes f place ty (tree.call function args) t rest =
      args_nodes f args t (calls place (Some t) function (temps_of args t) (sets place t (ir.copy t) rest))
  value_nodes f place ty (tree.lib which args) t rest = args_nodes f args t (lib_nodes place which args t rest)

  -- the pointer to the object that an lvalue is comes to t
  pub place_nodes : Frame → tree.Expr → (t : ℕ) → Nodes → Nodes
  place_nodes f (tree.at place ty node) t rest = object_place f place node t rest

  -- by its form (C11 6.3.2.1, 6.5.2.3, 6.5.3.2); a well formed tree has no other
  pub object_place : Frame → (place : ℕ) → tree.ExprNode → (t : ℕ) → Nodes → Nodes
  object_place f place (tree.literal number) t rest = sets place t (ir.literal number) rest
  object_place f place (tree.global number) t rest = sets place t (ir.global number) rest
  object_place f place (tree.local number) t rest = local_place place number t (home f number) rest
  object_place f place (tree.deref e) t rest = expr_nodes f e t rest
  object_place f place (tree.member e number) t rest =
      place_nodes f e t (member_nodes place (member_offset f.structs (tree.type_of e) number) (behind (reach f e) t) t rest)
  object_place f place node t rest = rest

  -- the values of arguments come to the registers from t on (C11 6.5.2.2 p10)
  pub args_nodes : Frame → tree.Exprs → (t : ℕ) → Nodes → Nodes
  args_nodes f tree.no_exprs t rest = rest
  args_nodes f (tree.more_exprs e es) t rest = expr_nodes f e t (args_nodes f es (suc t) rest)

-- an object whose value is dropped: a number or a pointer is read all the same, and any other object is only found
abbrev pub dropped_object : Frame → (place : ℕ) → tree.Ty → tree.ExprNode → (t : ℕ) → Nodes → Nodes
dropped_object f place ty node t rest = if is_scalar ty then value_nodes f place ty node t rest else object_place f place node t rest

abbrev mutual
  -- an expression is evaluated and its value dropped (C11 6.8.3 p2)
  pub dropped_nodes : Frame → tree.Expr → (t : ℕ) → Nodes → Nodes
  dropped_nodes f (tree.at place ty node) t rest = dropped_value f place ty node t rest

  -- by its form: a call's value isn't missed, and a cast to void drops its operand's (C11 6.3.2.2)
  pub dropped_value : Frame → (place : ℕ) → tree.Ty → tree.ExprNode → (t : ℕ) → Nodes → Nodes
  dropped_value f place ty (tree.call function args) t rest = args_nodes f args t (calls place None function (temps_of args t) rest)
  dropped_value f place ty (tree.convert e) t rest = if is_void ty then dropped_nodes f e t rest else value_nodes f place ty (tree.convert e) t rest
  dropped_value f place ty (tree.literal number) t rest = dropped_object f place ty (tree.literal number) t rest
  dropped_value f place ty (tree.global number) t rest = dropped_object f place ty (tree.global number) t rest
  dropped_value f place ty (tree.local number) t rest = dropped_object f place ty (tree.local number) t rest
  dropped_value f place ty (tree.deref e) t rest = dropped_object f place ty (tree.deref e) t rest
  dropped_value f place ty (tree.member e number) t rest = dropped_object f place ty (tree.member e number) t rest
  dropped_value f place ty node t rest = value_nodes f place ty node t rest

-- ---- stack objects

-- a local begins, unset, where its declaration is reached: its stack object is made anew, or its register holds nothing (C11 6.2.4 p6)
abbrev pub begins : (place number : ℕ) → (home : Option ℕ) → Nodes → Nodes
begins place number None rest = sets place number ir.unset rest
begins place number (Some object) rest = more_nodes (plain place (begin_object object)) rest

-- these stack objects end
abbrev pub ends : (place : ℕ) → List ℕ → Nodes → Nodes
ends place [] rest = rest
ends place (object ∷ objects) rest = more_nodes (plain place (end_object object)) (ends place objects rest)

-- with the stack object, if the local has one
abbrev pub with_home : (home : Option ℕ) → List ℕ → List ℕ
with_home None objects = objects
with_home (Some object) objects = object ∷ objects

-- the stack object of the local that a statement declares, if it declares one that has one
abbrev pub home_in : Frame → tree.StmtNode → Option ℕ
home_in f (tree.declare number init) = home f number
home_in f node = None

-- the same for a statement with its place
abbrev pub declared_home : Frame → tree.Stmt → Option ℕ
declared_home f (tree.at_stmt place node) = home_in f node

-- with that one before the others
abbrev pub objects_by : Frame → tree.Stmt → List ℕ → List ℕ
objects_by f s objects = with_home (declared_home f s) objects

-- the stack objects of the locals that the statements of a block declare, and not those of blocks in it
abbrev pub objects_in : Frame → tree.Stmts → List ℕ
objects_in f tree.no_stmts = []
objects_in f (tree.more_stmts s rest) = objects_by f s (objects_in f rest)

-- ---- what ends where a loop is left, or a round of it (C11 6.8.6.2, 6.8.6.3)

-- a break that leaves the loop around, or a continue, stands in a statement; one in a loop of it is that loop's, and a break in a switch
-- of it that switch's
abbrev mutual
  -- a break
  pub breaks_in : tree.Stmt → Bool
  breaks_in (tree.at_stmt place node) = breaks_by node

  -- by the statement's form
  pub breaks_by : tree.StmtNode → Bool
  breaks_by (tree.block body) = breaks_among body
  breaks_by (tree.if_ e one) = breaks_in one
  breaks_by (tree.if_else e one other) = if breaks_in one then true else breaks_in other
  breaks_by tree.break_ = true
  breaks_by node = false

  -- in a row
  pub breaks_among : tree.Stmts → Bool
  breaks_among tree.no_stmts = false
  breaks_among (tree.more_stmts s rest) = if breaks_in s then true else breaks_among rest

abbrev mutual
  -- a continue
  pub nexts_in : tree.Stmt → Bool
  nexts_in (tree.at_stmt place node) = nexts_by node

  -- by the statement's form
  pub nexts_by : tree.StmtNode → Bool
  nexts_by (tree.block body) = nexts_among body
  nexts_by (tree.if_ e one) = nexts_in one
  nexts_by (tree.if_else e one other) = if nexts_in one then true else nexts_in other
  nexts_by (tree.switch e labels body) = nexts_among body
  nexts_by tree.continue_ = true
  nexts_by node = false

  -- in a row
  pub nexts_among : tree.Stmts → Bool
  nexts_among tree.no_stmts = false
  nexts_among (tree.more_stmts s rest) = if nexts_in s then true else nexts_among rest

-- the stack objects of a statement's blocks, the inner ones first, but not of blocks in its loops: these end there
abbrev mutual
  -- of a statement
  pub held : Frame → tree.Stmt → List ℕ
  held f (tree.at_stmt place node) = held_by f node

  -- by its form
  pub held_by : Frame → tree.StmtNode → List ℕ
  held_by f (tree.block body) = held_in f body ++ objects_in f body
  held_by f (tree.if_ e one) = held f one
  held_by f (tree.if_else e one other) = held f one ++ held f other
  held_by f (tree.for_ first e last body) = objects_by f first []
  held_by f (tree.switch e labels body) = held_in f body
  held_by f node = []

  -- of a row
  pub held_in : Frame → tree.Stmts → List ℕ
  held_in f tree.no_stmts = []
  held_in f (tree.more_stmts s rest) = held f s ++ held_in f rest

-- an object is among these
abbrev pub among : List ℕ → (object : ℕ) → Bool
among [] object = false
among (k ∷ objects) object = if k == object then true else among objects object

-- those of them that aren't declared around the loop around, too
abbrev pub fresh : (outer : List ℕ) → List ℕ → List ℕ
fresh outer [] = []
fresh outer (object ∷ objects) = if among outer object then fresh outer objects else object ∷ fresh outer objects

-- those that are: none in a program of C, where each local is declared once
abbrev pub again : (outer : List ℕ) → List ℕ → List ℕ
again outer [] = []
again outer (object ∷ objects) = if among outer object then object ∷ again outer objects else again outer objects

-- what ends behind the loop whose body this is, where a break may have left the blocks of any of these; the others have ended before, or
-- never began, and then that does nothing
abbrev pub over_break : Frame → (body : tree.Stmt) → List ℕ
over_break f body = if breaks_in body then fresh f.outer (held f body) else []

-- what ends before its step, once a continue may have left them
abbrev pub over_next : Frame → (body : tree.Stmt) → List ℕ
over_next f body = if nexts_in body then fresh f.outer (held f body) else []

-- ---- assignments

-- the value in t is a local's first one (C11 6.7.9); the pointer to its block comes to its own register, which nothing else uses
abbrev pub initialises : (place : ℕ) → (home : Option ℕ) → (number t : ℕ) → tree.Ty → Nodes → Nodes
initialises place None number t ty rest = sets place number (ir.copy t) rest
initialises place (Some object) number t ty rest =
    sets place number (ir.object object) (acts place (ir.store (access_of_type ty)) (at_temp number ∷ []) None (t ∷ []) rest)

-- a number or a pointer is stored: the place of the left side is found, then the right side is evaluated (C11 6.5.16.1)
abbrev pub store_nodes : Frame → (left right : tree.Expr) → (t : ℕ) → Nodes → Nodes
store_nodes f left right t rest =
    place_nodes f left t (expr_nodes f right (behind (reach f left) t)
    (acts (tree.place_of left) (ir.store (access_of_type (tree.type_of left))) (reached (reach f left) t ∷ []) None (behind (reach f left) t ∷ []) rest))

-- a struct of this type is copied between two places; the register w takes its size
abbrev pub sized_copy : List tree.Layout → (place : ℕ) → tree.Ty → (to from : Place) → (w : ℕ) → Nodes → Nodes
sized_copy structs place ty to from w rest =
    sets_long place w (size_in structs ty) (acts place (ir.copy_bytes (align_in structs ty) true) (to ∷ from ∷ []) None (w ∷ []) rest)

-- a struct is assigned, also to itself: the left side is found first
abbrev pub copy_nodes : Frame → (left right : tree.Expr) → (t : ℕ) → Nodes → Nodes
copy_nodes f left right t rest =
    place_nodes f left t (place_nodes f right (behind (reach f left) t)
    (sized_copy f.structs (tree.place_of left) (tree.type_of left) (reached (reach f left) t) (reached (reach f right) (behind (reach f left) t))
    (behind (reach f right) (behind (reach f left) t)) rest))

-- an assignment to an object, by its type
abbrev pub object_assign : Frame → (left right : tree.Expr) → (t : ℕ) → Nodes → Nodes
object_assign f left right t rest = if is_struct (tree.type_of left) then copy_nodes f left right t rest else store_nodes f left right t rest

-- the register of a local that is the left side, if it's kept in one
abbrev pub own_register : Frame → tree.ExprNode → Option ℕ
own_register f (tree.local number) = register_if number (home f number)
own_register f node = None

-- an assignment, by the register that it sets, if it sets one
abbrev pub assign_nodes : Frame → (place : ℕ) → Option ℕ → (left right : tree.Expr) → (t : ℕ) → Nodes → Nodes
assign_nodes f place None left right t rest = object_assign f left right t rest
assign_nodes f place (Some number) left right t rest = expr_nodes f right t (sets place number (ir.copy t) rest)

-- a pointer is moved by a number of elements, backwards for a subtraction
abbrev pub moves : Op → (p n scale : ℕ) → Calc
moves ops.Sub p n scale = ir.pointer_sub p n scale
moves op p n scale = ir.pointer_add p n scale

-- a op b, of which x and y hold the numbers, of the types a and b, comes to `to` as a number of type a; x and y take what they become
-- (C11 6.5.16.2)
abbrev pub number_update : (place : ℕ) → Op → (a b : IntType) → IntType × IntType → (x y to : ℕ) → Nodes → Nodes
number_update place op a b types x y to rest =
    converts_number place a types.0 x (converts_number place b types.1 y (sets place to (ir.apply op types.0 x y) (converts_number place types.0 a to rest)))

-- by the type of a, which is a number or a pointer
abbrev pub computes : List tree.Layout → (place : ℕ) → Op → (a b : tree.Ty) → (x y to : ℕ) → Nodes → Nodes
computes structs place op (tree.integer a) b x y to rest = number_update place op a (number_type b) (operand_types op a (number_type b)) x y to rest
computes structs place op a b x y to rest = sets place to (moves op x y (element_size structs a)) rest

-- a op= b where a is a local in a register: b is evaluated first
abbrev pub update_register : Frame → (place number : ℕ) → Op → (left right : tree.Expr) → (t : ℕ) → Nodes → Nodes
update_register f place number op left right t rest =
    expr_nodes f right t (sets (tree.place_of left) (suc t) (ir.copy number)
    (computes f.structs place op (tree.type_of left) (tree.type_of right) (suc t) t number rest))

-- a op= b where a is an object that is read and stored, whose place is found first; u holds b, and the register behind it a
abbrev pub update_at : Frame → (place u : ℕ) → Op → Place → (left right : tree.Expr) → Nodes → Nodes
update_at f place u op at left right rest =
    acts (tree.place_of left) (ir.load (access_of_type (tree.type_of left))) (at ∷ []) (Some (suc u)) []
    (computes f.structs place op (tree.type_of left) (tree.type_of right) (suc u) u u
    (acts (tree.place_of left) (ir.store (access_of_type (tree.type_of left))) (at ∷ []) None (u ∷ []) rest))

-- the same, but an object that is atomic is changed in one action
abbrev pub update_by : Frame → (place u : ℕ) → Op → Place → (left right : tree.Expr) → Nodes → Nodes
update_by f place u op at left right rest =
    if is_atomic (tree.type_of left) then change_nodes (tree.place_of left) (is_minus op) (number_type (tree.type_of left)) at u None rest
    else update_at f place u op at left right rest

-- the place is found, then b is evaluated
abbrev pub update_object : Frame → (place : ℕ) → Op → (left right : tree.Expr) → (t : ℕ) → Nodes → Nodes
update_object f place op left right t rest =
    place_nodes f left t (expr_nodes f right (behind (reach f left) t) (update_by f place (behind (reach f left) t) op (reached (reach f left) t) left right rest))

-- a compound assignment, by the register that it sets, if it sets one
abbrev pub update_nodes : Frame → (place : ℕ) → Op → Option ℕ → (left right : tree.Expr) → (t : ℕ) → Nodes → Nodes
update_nodes f place op None left right t rest = update_object f place op left right t rest
update_nodes f place op (Some number) left right t rest = update_register f place number op left right t rest

-- ---- switches (C11 6.8.4.2): the label's number is in the register r, the flag in the next one, and the one behind that is free

-- the label of this number is chosen where its value is in the free register, to which the other one is compared in the flag's
abbrev pub equal_nodes : (place r number : ℕ) → IntType → ℤ → Nodes → Nodes
equal_nodes place r number t value rest =
    sets place (suc r) (ir.constant t value) (sets place (suc r) (ir.apply ops.Eq t (suc (suc r)) (suc r)) (branches place (suc r) (sets_int place r number no_nodes) no_nodes rest))

-- the label of equal value is chosen, among labels of which the first has this number: the last ones are compared first
abbrev pub choose_nodes : (place r number : ℕ) → List tree.Label → Nodes → Nodes
choose_nodes place r number [] rest = rest
choose_nodes place r number (tree.case_at t value at ∷ labels) rest = choose_nodes place r (suc number) labels (equal_nodes place r number t value rest)
choose_nodes place r number (tree.default_at at ∷ labels) rest = choose_nodes place r (suc number) labels rest

-- the statements begin here, where the label of this number is the chosen one
abbrev pub begin_nodes : (place r number : ℕ) → Nodes → Nodes
begin_nodes place r number rest =
    sets_int place (suc (suc r)) number (sets place (suc (suc r)) (ir.apply ops.Eq int r (suc (suc r))) (branches place (suc (suc r)) (sets_int place (suc r) 1 no_nodes) no_nodes rest))

-- the same, if the label stands here
abbrev pub begin_if : (here : Bool) → (place r number : ℕ) → Nodes → Nodes
begin_if true place r number rest = begin_nodes place r number rest
begin_if false place r number rest = rest

-- the statements begin at the one of index i, where the chosen label stands there, among labels of which the first has this number
abbrev pub label_nodes : (place r i number : ℕ) → List tree.Label → Nodes → Nodes
label_nodes place r i number [] rest = rest
label_nodes place r i number (label ∷ labels) rest = begin_if (stands_at label == i) place r number (label_nodes place r i (suc number) labels rest)

-- ---- statements

-- the place of a statement
abbrev pub stmt_place : tree.Stmt → ℕ
stmt_place (tree.at_stmt place node) = place

-- a statement of a row, which is executed in a switch only while its flag is 1
abbrev pub guarded : (flag : Option ℕ) → (place : ℕ) → (Nodes → Nodes) → Nodes → Nodes
guarded None place nodes rest = nodes rest
guarded (Some flag) place nodes rest = branches place flag (nodes no_nodes) no_nodes rest

-- a break: it clears the flag of the switch around, or leaves the loop around, whose blocks' stack objects end (C11 6.8.6.3)
abbrev pub break_nodes : (flag : Option ℕ) → (place : ℕ) → (left : List ℕ) → Nodes → Nodes
break_nodes None place left rest = ends place left (more_nodes (break_ place) rest)
break_nodes (Some flag) place left rest = sets_int place flag 0 rest

-- the condition of a loop, before its body or behind it, which is left where it doesn't hold (C11 6.8.5 p4)
abbrev pub test_nodes : Frame → Option tree.Expr → Nodes → Nodes
test_nodes f None rest = rest
test_nodes f (Some e) rest =
    expr_nodes f e (first_temp f) (branches (tree.place_of e) (first_temp f) no_nodes (more_nodes (break_ (tree.place_of e)) no_nodes) rest)

-- a loop of this body, whose round and latch are these: what a continue left ends before the step, what a break left behind the
-- loop
abbrev pub loop_nodes : Frame → (place : ℕ) → (body : tree.Stmt) → (round latch rest : Nodes) → Nodes
loop_nodes f place body round latch rest = more_nodes (loop place round (ends place (over_next f body) latch)) (ends place (over_break f body) rest)

-- a declaration, without a first value or with one
abbrev pub declare_nodes : Frame → (place number : ℕ) → Option tree.Expr → Nodes → Nodes
declare_nodes f place number None rest = begins place number (home f number) rest
declare_nodes f place number (Some e) rest =
    begins place number (home f number) (expr_nodes f e (first_temp f) (initialises place (home f number) number (first_temp f) (tree.type_of e) rest))

-- a return; the call's objects end with it
abbrev pub return_nodes : Frame → (place : ℕ) → Option tree.Expr → Nodes → Nodes
return_nodes f place None rest = more_nodes (ret place None) rest
return_nodes f place (Some e) rest = expr_nodes f e (first_temp f) (more_nodes (ret place (Some (first_temp f))) rest)

-- `left` are the stack objects that a continue, or a break that leaves a loop, ends itself: those of the blocks from here up to the loop
-- around that are declared around the loop, too. All others of these blocks end behind the loop, and before its step
abbrev mutual
  -- a statement is executed
  pub stmt_nodes : Frame → tree.Stmt → (left : List ℕ) → Nodes → Nodes
  stmt_nodes f (tree.at_stmt place node) left rest = form_nodes f place node left rest

  -- by its form (C11 6.8)
  pub form_nodes : Frame → (place : ℕ) → tree.StmtNode → (left : List ℕ) → Nodes → Nodes
  form_nodes f place (tree.block body) left rest =
      row_nodes (opened f (objects_in f body)) body (again f.outer (objects_in f body) ++ left) (ends place (objects_in f body) rest)
  form_nodes f place (tree.declare number init) left rest = declare_nodes f place number init rest
  form_nodes f place (tree.if_ e one) left rest =
      expr_nodes f e (first_temp f) (branches (tree.place_of e) (first_temp f) (stmt_nodes f one left no_nodes) no_nodes rest)
  form_nodes f place (tree.if_else e one other) left rest =
      expr_nodes f e (first_temp f) (branches (tree.place_of e) (first_temp f) (stmt_nodes f one left no_nodes) (stmt_nodes f other left no_nodes) rest)
  form_nodes f place (tree.while_ e body) left rest =
      loop_nodes (looped f) place body (test_nodes (looped f) (Some e) (stmt_nodes (looped f) body [] no_nodes)) no_nodes rest
  form_nodes f place (tree.for_ first e last body) left rest =
      stmt_nodes (opened f (objects_by f first [])) first left
      (loop_nodes (looped (opened f (objects_by f first []))) place body
      (test_nodes (looped (opened f (objects_by f first []))) e (stmt_nodes (looped (opened f (objects_by f first []))) body [] no_nodes))
      (stmt_nodes (looped (opened f (objects_by f first []))) last [] no_nodes)
      (ends place (objects_by f first []) rest))
  form_nodes f place (tree.do_while body e) left rest =
      loop_nodes (looped f) place body (stmt_nodes (looped f) body [] no_nodes) (test_nodes (looped f) (Some e) no_nodes) rest
  form_nodes f place (tree.switch e labels body) left rest =
      expr_nodes f e (suc (suc (first_temp f))) (sets_int place (first_temp f) (default_from 0 labels) (choose_nodes place (first_temp f) 0 labels
      (sets_int place (suc (first_temp f)) 0 (switch_nodes (switched f) place (first_temp f) labels 0 body left rest))))
  form_nodes f place tree.break_ left rest = break_nodes f.flag place left rest
  form_nodes f place tree.continue_ left rest = ends place left (more_nodes (next_ place) rest)
  form_nodes f place (tree.return_ value) left rest = return_nodes f place value rest
  form_nodes f place (tree.assign a b) left rest = assign_nodes f place (own_register f (tree.node_of a)) a b (first_temp f) rest
  form_nodes f place (tree.update a op b) left rest = update_nodes f place op (own_register f (tree.node_of a)) a b (first_temp f) rest
  form_nodes f place (tree.evaluate e) left rest = dropped_nodes f e (first_temp f) rest
  form_nodes f place tree.empty left rest = rest

  -- the statements of a block, in order (C11 6.8.2)
  pub row_nodes : Frame → tree.Stmts → (left : List ℕ) → Nodes → Nodes
  row_nodes f tree.no_stmts left rest = rest
  row_nodes f (tree.more_stmts s all) left rest = guarded f.flag (stmt_place s) (stmt_nodes f s left) (row_nodes f all left rest)

  -- those of a switch, of which the first has index i: each is executed while the flag is 1
  pub switch_nodes : Frame → (place r : ℕ) → List tree.Label → (i : ℕ) → tree.Stmts → (left : List ℕ) → Nodes → Nodes
  switch_nodes f place r labels i tree.no_stmts left rest = rest
  switch_nodes f place r labels i (tree.more_stmts s all) left rest =
      label_nodes place r i 0 labels (branches (stmt_place s) (suc r) (stmt_nodes f s left no_nodes) no_nodes (switch_nodes f place r labels (suc i) all left rest))
