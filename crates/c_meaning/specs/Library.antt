-- The library's calls (C11 7.17, 7.21, 7.22, 7.24, 7.26), as a table: the action that each is, of its arguments, and its value.
use Rattle.std.specs.Prelude.{◌*◌, List, [], ◌∷◌, Bool, true, false, Option, Some, None, ℤ, pos, unsigned_abs}
use Rattle.ak_words.specs.IntType.{int, unsigned_long}
use Rattle.ak_words.specs.Num.{num}
use Rattle.ak_words.specs.declared.number.Num.{Num}
use Rattle.block_store.specs.declared.values.Cell.TheVariants.{Unknown, Byte}
use Rattle.block_store.specs.declared.values.Change.TheVariants.{Add, Swap}
use Rattle.block_store.specs.declared.values.Ptr.{Ptr}
use Rattle.block_store.specs.declared.values.Value.{Value}
use Rattle.block_store.specs.declared.values.Value.TheVariants as values
use Rattle.block_store.specs.Actions.{bytes, text, SharedAction, store, copy, allocate, reallocate, free, change, compare, print, lock, unlock, destroy, start, join}
use Rattle.c_tree.specs.Typed as tree
use Rattle.c_tree.specs.TypedPrinting.{parts}
use Rattle.c_meaning.specs.Values.{opposite_of}

-- the numbers among the arguments, and the pointers, each in order
abbrev pub numbers_of : List Value → List ℤ
numbers_of [] = []
numbers_of (values.Num n ∷ vs) = n.value ∷ numbers_of vs
numbers_of (values.Pointer p ∷ vs) = numbers_of vs

-- the pointers among the arguments, in order
abbrev pub pointers_of : List Value → List Ptr
pointers_of [] = []
pointers_of (values.Num n ∷ vs) = pointers_of vs
pointers_of (values.Pointer p ∷ vs) = p ∷ pointers_of vs

-- the zero bytes of a free mutex
abbrev pub free_mutex : Value
free_mutex = values.Num (num unsigned_long (pos 0))

-- what is added where a number is added, or where it is taken away
abbrev pub addend : (away : Bool) → Num → Num
addend false n = n
addend true n = opposite_of n

-- a number is added to the atomic one of its type at this place
abbrev pub adds : Ptr → Num → SharedAction
adds at n = change at n.ty Add n.value

-- a value is added to the atomic number at this place, or taken away; no well typed program has a pointer there
abbrev pub changed_by : (away : Bool) → Ptr → Value → Option SharedAction
changed_by away at (values.Num n) = Some (adds at (addend away n))
changed_by away at (values.Pointer p) = None

-- what a call does; a well typed one has the arguments that it takes, and so does something
abbrev pub action_of : tree.Lib → List Value → Option SharedAction
action_of (tree.print pieces) args = Some (print (parts bytes text pieces (numbers_of args) (pointers_of args)))
action_of tree.malloc (values.Num n ∷ []) = Some (allocate (unsigned_abs n.value) Unknown)
action_of tree.calloc (values.Num n ∷ values.Num size ∷ []) = Some (allocate (unsigned_abs n.value * unsigned_abs size.value) (Byte 0))
action_of tree.realloc (values.Pointer p ∷ values.Num n ∷ []) = Some (reallocate p (unsigned_abs n.value))
action_of tree.free (values.Pointer p ∷ []) = Some (free p)
action_of tree.copy (values.Pointer to ∷ values.Pointer from ∷ values.Num n ∷ []) = Some (copy to from (unsigned_abs n.value) 1 false)
action_of (tree.start function) (values.Pointer to ∷ values.Pointer argument ∷ []) = Some (start to function argument)
action_of tree.join (values.Num thread ∷ values.Pointer to ∷ []) = Some (join (unsigned_abs thread.value) to)
action_of tree.mutex_init (values.Pointer p ∷ []) = Some (store p free_mutex)
action_of tree.mutex_lock (values.Pointer p ∷ []) = Some (lock p)
action_of tree.mutex_unlock (values.Pointer p ∷ []) = Some (unlock p)
action_of tree.mutex_destroy (values.Pointer p ∷ []) = Some (destroy p)
action_of tree.atomic_add (values.Pointer p ∷ v ∷ []) = changed_by false p v
action_of tree.atomic_sub (values.Pointer p ∷ v ∷ []) = changed_by true p v
action_of tree.atomic_swap (values.Pointer p ∷ values.Num n ∷ []) = Some (change p n.ty Swap n.value)
action_of tree.atomic_compare (values.Pointer p ∷ values.Pointer want ∷ values.Num n ∷ []) = Some (compare p want n.ty n.value)
action_of tree.atomic_store (values.Pointer p ∷ values.Num n ∷ []) = Some (store p (values.Num n))
action_of which args = None

-- the first of the arguments, if there are any
abbrev pub first_of_all : List Value → Option Value
first_of_all [] = None
first_of_all (v ∷ vs) = Some v

-- the value of a call: that of its action; memcpy gives its first argument, and a call on a mutex 0, which is thrd_success
abbrev pub value_of_call : tree.Lib → List Value → Option Value → Option Value
value_of_call tree.copy args v = first_of_all args
value_of_call tree.mutex_init args v = Some (values.Num (num int (pos 0)))
value_of_call tree.mutex_lock args v = Some (values.Num (num int (pos 0)))
value_of_call tree.mutex_unlock args v = Some (values.Num (num int (pos 0)))
value_of_call which args v = v

-- the call names an object that is atomic (C11 7.17.7)
abbrev pub names_atomic : tree.Lib → Bool
names_atomic tree.atomic_add = true
names_atomic tree.atomic_sub = true
names_atomic tree.atomic_swap = true
names_atomic tree.atomic_compare = true
names_atomic tree.atomic_store = true
names_atomic which = false
