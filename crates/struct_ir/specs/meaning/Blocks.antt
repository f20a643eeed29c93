-- Structured code over named blocks: no address, no slot, no handle. What a thread does alone, up to where a turn stops.
use Rattle.std.specs.Prelude.{ℕ, zero, suc, ◌+◌, ◌==◌, ◌&&◌, ◌||◌, not, Bool, true, false, if◌then◌else◌, List, [], length, slice_get, Option, Some, None, Result, Ok, Err, pos, neg_ℤ}
use Rattle.std.specs.Ordering.{int_eq}
use Rattle.ak_words.specs.declared.int_type.IntType.{IntType}
use Rattle.ak_words.specs.declared.number.Num.{Num}
use Rattle.ak_words.specs.declared.operation.Op.{Op}
use Rattle.ak_words.specs.declared.operation.Op.TheVariants as ops
use Rattle.ak_words.specs.declared.rule.Rule.{Rule}
use Rattle.ak_words.specs.declared.rule.Rule.TheVariants.{C4, C15}
use Rattle.ak_words.specs.IntType.{int, long}
use Rattle.ak_words.specs.Num.{num}
use Rattle.ak_words.specs.Op.{result_of}
use Rattle.block_store.specs.declared.values.BlockKind.TheVariants as block_kinds
use Rattle.block_store.specs.declared.values.Cell.TheVariants.{Unknown}
use Rattle.block_store.specs.declared.values.Ptr.{Ptr}
use Rattle.block_store.specs.declared.values.Ptr.TheVariants.{Null, To}
use Rattle.block_store.specs.declared.values.Value.{Value}
use Rattle.block_store.specs.declared.values.Value.TheVariants as values
use Rattle.block_store.specs.Blocks.{Blocks, made, ended}
use Rattle.block_store.specs.Pointers.{indexed, tested, compared, difference}
use Rattle.struct_ir.specs.Nodes.{Calc, constant, null, global, literal, object, copy, convert, apply, pointer_add, pointer_sub, pointer_diff, pointer_compare, pointer_test}
use Rattle.struct_ir.specs.Nodes as calcs
use Rattle.struct_ir.specs.Nodes.{Act, set, call, step, look, safepoint, begin_object, end_object, StackObject, Func, Ir}
use Rattle.struct_ir.specs.Machine.{Machine}

-- what a register holds: a value; nothing yet; or the value of a call that ended without one
pub data Held : Type 0 where
  value : (v : Value) → Held
  unset : Held
  missing : Held

-- a broken rule of C at a place in the text, or an operation on a value of a kind that it doesn't take, which lowered code never meets
pub data Fault : Type 0 where
  broken : (rule : Rule) (place : ℕ) → Fault
  wrong_kind : Fault

-- what a call has of its own: its function, its registers, the block of each stack object that has begun, and the blocks that it sees
pub record Own : Type 0 where
  pub function : ℕ
  pub temps : ℕ → Held
  pub objects : ℕ → Option ℕ
  pub blocks : Blocks

-- v at k, and f elsewhere
abbrev pub set_at : {A : Type 0} → (ℕ → A) → ℕ → A → ℕ → A
set_at f k v x = if x == k then v else f x

-- with other registers
abbrev pub with_temps : Own → (ℕ → Held) → Own
with_temps l temps = record { function = l.function; temps = temps; objects = l.objects; blocks = l.blocks }

-- with other blocks
abbrev pub with_blocks : Own → Blocks → Own
with_blocks l blocks = record { function = l.function; temps = l.temps; objects = l.objects; blocks = blocks }

-- ---- values

-- what a register holds, where it is read: C4 of an unset one, C15 of a missing value
abbrev pub known : (place : ℕ) → Held → Result Value Fault
known place (value v) = Ok v
known place unset = Err (broken C4 place)
known place missing = Err (broken C15 place)

-- with a value, or the fault
abbrev pub on_value : {A : Type 0} → Result Value Fault → (Value → Result A Fault) → Result A Fault
on_value (Ok v) go = go v
on_value (Err f) go = Err f

-- with a number
abbrev pub on_number : {A : Type 0} → (Num → Result A Fault) → Value → Result A Fault
on_number go (values.Num n) = go n
on_number go (values.Pointer p) = Err wrong_kind

-- with a pointer
abbrev pub on_pointer : {A : Type 0} → (Ptr → Result A Fault) → Value → Result A Fault
on_pointer go (values.Num n) = Err wrong_kind
on_pointer go (values.Pointer p) = go p

-- two registers are read, the left one first
abbrev pub on_numbers : {A : Type 0} → (place : ℕ) → Own → (a b : ℕ) → (Num → Num → Result A Fault) → Result A Fault
on_numbers place l a b go = on_value (known place (l.temps a)) (on_number (λ m. on_value (known place (l.temps b)) (on_number (go m))))

-- two pointers
abbrev pub on_pointers : {A : Type 0} → (place : ℕ) → Own → (p q : ℕ) → (Ptr → Ptr → Result A Fault) → Result A Fault
on_pointers place l p q go = on_value (known place (l.temps p)) (on_pointer (λ a. on_value (known place (l.temps q)) (on_pointer (go a))))

-- a pointer and a number
abbrev pub on_pointer_and_number : {A : Type 0} → (place : ℕ) → Own → (p n : ℕ) → (Ptr → Num → Result A Fault) → Result A Fault
on_pointer_and_number place l p n go = on_value (known place (l.temps p)) (on_pointer (λ a. on_value (known place (l.temps n)) (on_number (go a))))

-- what comes of it, or the broken rule at its place
abbrev pub or_broken : {A B : Type 0} → (place : ℕ) → (A → B) → Result A Rule → Result B Fault
or_broken place f (Ok x) = Ok (f x)
or_broken place f (Err rule) = Err (broken rule place)

-- a number, held
abbrev pub number : Num → Held
number n = value (values.Num n)

-- a pointer, held
abbrev pub pointer : Ptr → Held
pointer p = value (values.Pointer p)

-- two types of numbers are the same
abbrev pub same_type : IntType → IntType → Bool
same_type s t = (s.bits == t.bits) && (if s.signed then t.signed else not t.signed)

-- a shift, whose operands may have two types (C11 6.5.7 p2)
abbrev pub is_shift : Op → Bool
is_shift ops.Shl = true
is_shift ops.Shr = true
is_shift op = false

-- an operation on numbers of type t takes numbers of these two types
abbrev pub takes : Op → (t left right : IntType) → Bool
takes op t left right = same_type t left && (is_shift op || same_type t right)

-- what comes of numbers of the types that the operation takes
abbrev pub if_taken : {A : Type 0} → Bool → Result A Fault → Result A Fault
if_taken true x = x
if_taken false x = Err wrong_kind

-- 1 or 0, as an int
abbrev pub truth : Bool → Held
truth b = number (num int (if b then pos 1 else pos 0))

-- ---- what a register is set to

-- the block of a stack object, and unset before it has begun
abbrev pub start_of : Option ℕ → Held
start_of (Some name) = pointer (To name 0)
start_of None = unset

-- the blocks at the start are the globals in order, then the literals
abbrev pub calculated : Ir → (place : ℕ) → Own → Calc → Result Held Fault
calculated p place l (constant t z) = Ok (number (num t z))
calculated p place l calcs.unset = Ok unset
calculated p place l null = Ok (pointer Null)
calculated p place l (global n) = Ok (pointer (To n 0))
calculated p place l (literal n) = Ok (pointer (To (length p.globals + n) 0))
calculated p place l (object i) = Ok (start_of (l.objects i))
calculated p place l (copy t) = on_value (known place (l.temps t)) (λ v. Ok (value v))
calculated p place l (convert to t) = on_value (known place (l.temps t)) (on_number (λ n. Ok (number (num to n.value))))
calculated p place l (apply op t a b) = on_numbers place l a b (λ m n. if_taken (takes op t m.ty n.ty) (or_broken place number (result_of op m n)))
calculated p place l (pointer_add q n scale) = on_pointer_and_number place l q n (λ a i. or_broken place pointer (indexed l.blocks a i.value scale))
calculated p place l (pointer_sub q n scale) = on_pointer_and_number place l q n (λ a i. or_broken place pointer (indexed l.blocks a (neg_ℤ i.value) scale))
calculated p place l (pointer_diff a b scale) = on_pointers place l a b (λ x y. or_broken place (λ z. number (num long z)) (difference l.blocks x y scale))
calculated p place l (pointer_compare op a b) = on_pointers place l a b (λ x y. or_broken place truth (compared l.blocks op x y))
calculated p place l (pointer_test a) = on_value (known place (l.temps a)) (on_pointer (λ x. or_broken place truth (tested l.blocks x)))

-- a register is set
abbrev pub assigned : Own → (to : ℕ) → Result Held Fault → Result Own Fault
assigned l to (Ok h) = Ok (with_temps l (set_at l.temps to h))
assigned l to (Err f) = Err f

-- ---- stack objects

-- the size of an object, if there is one
abbrev pub size_of : Option StackObject → ℕ
size_of (Some o) = o.size
size_of None = 0

-- the stack objects of a function
abbrev pub objects_of : Option Func → List StackObject
objects_of (Some f) = f.objects
objects_of None = []

-- the blocks once the block of an object, if it has begun, has ended
abbrev pub without : Blocks → Option ℕ → Blocks
without blocks None = blocks
without blocks (Some name) = ended blocks name

-- a new block for an object, whose earlier one ends first
abbrev pub begun_after : Own → (i size : ℕ) → Blocks → Own
begun_after l i size blocks = record { function = l.function; temps = l.temps; objects = set_at l.objects i (Some (length blocks)); blocks = made blocks size block_kinds.Local Unknown }

-- an object begins
abbrev pub begun : Ir → Own → ℕ → Own
begun p l i = begun_after l i (size_of (slice_get (objects_of (slice_get p.funcs l.function)) i)) (without l.blocks (l.objects i))

-- an object ends, if it has begun
abbrev pub object_ended : Own → ℕ → Own
object_ended l i = record { function = l.function; temps = l.temps; objects = set_at l.objects i None; blocks = without l.blocks (l.objects i) }

-- the first n objects of a call have ended
abbrev pub all_ended : Own → (n : ℕ) → Own
all_ended l zero = l
all_ended l (suc n) = object_ended (all_ended l n) n

-- ---- the machine

-- what an act does to what a call has of its own
abbrev pub own_act : Ir → (place : ℕ) → Act → Own → Result Own Fault
own_act p place (set to calc) l = assigned l to (calculated p place l calc)
own_act p place (begin_object i) l = Ok (begun p l i)
own_act p place (end_object i) l = Ok (object_ended l i)
own_act p place (look slot base) l = Ok l
own_act p place (safepoint slots) l = Ok l
own_act p place (call c) l = Ok l
own_act p place (step s) l = Ok l

-- which way an If goes: a number is other than 0, or a pointer other than null
abbrev pub way_of : (place : ℕ) → Own → Value → Result Bool Fault
way_of place l (values.Num n) = Ok (not (int_eq n.value (pos 0)))
way_of place l (values.Pointer q) = or_broken place (λ b. b) (tested l.blocks q)

-- a turn stops before a call and before an action, and goes on through Looks and safepoints
abbrev pub ends_turn : Act → Bool
ends_turn (set to calc) = false
ends_turn (call c) = true
ends_turn (step s) = true
ends_turn (look slot base) = false
ends_turn (safepoint slots) = false
ends_turn (begin_object i) = false
ends_turn (end_object i) = false

-- a thread of structured code over named blocks
abbrev pub blocks_machine : Ir → Machine Own Fault
blocks_machine p = record { stops = ends_turn; does = own_act p; test = λ place t l. on_value (known place (l.temps t)) (way_of place l) }
