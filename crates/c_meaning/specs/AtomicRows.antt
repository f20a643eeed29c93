-- Small programs with atomic numbers, worked out by hand.
use Rattle.std.specs.Prelude.{◌≡◌, ℕ, ℤ, List, [], ◌∷◌, ◌++◌, codes, Some, None, pos, negsuc}
use Rattle.ak_words.specs.declared.operation.Op.TheVariants as ops
use Rattle.ak_words.specs.declared.rule.Rule.TheVariants as rules
use Rattle.ak_words.specs.IntType.{int}
use Rattle.block_store.specs.Actions.{returned, joined}
use Rattle.block_store.specs.Runs.{Pick}
use Rattle.c_tree.specs.Typed
use Rattle.c_tree.specs.Typed.{Ty, integer, atomic, pointer, void, Lib, print, signed, bytes, atomic_add, atomic_sub, atomic_swap, atomic_compare, atomic_store, Expr, num, global, local, address_of, convert, StmtNode, declare, assign, update, evaluate, number, Local}
use Rattle.c_meaning.specs.Rows.{int_ty, int_star, thread_ty, k, v, of_type, lib_call, printf_int, in_register, in_memory, func, whole, main_only, starts_f, joins_f, returns, Told, broken, reached, told, turns, got}
use Rattle.c_meaning.specs.Meaning.{run}

-- a global of this type that begins as this number; and this is main
abbrev pub with_a : Ty → ℤ → List Local → List StmtNode → Typed.Typed
with_a ty first locals body = whole (record { ty = ty; init = number int first } ∷ []) [] (func 0 locals body ∷ [])

-- a, an _Atomic int; its value; and its address
abbrev pub a0 : Expr
a0 = of_type (atomic int) (global 0)

-- the value of a
abbrev pub value_of_a : Expr
value_of_a = of_type int_ty (convert a0)

-- the address of a
abbrev pub a_star : Expr
a_star = of_type (pointer (atomic int)) (address_of a0)

-- a call of this function, of a and an int
abbrev pub changes : Lib → Expr → Expr
changes which by = lib_call int_ty which (a_star ∷ by ∷ [])

-- the least int
abbrev pub least_int : Expr
least_int = of_type int_ty (num int (negsuc 2147483647))

-- printf("%d %d %d\n",r,e,a);, where e and r are the locals
abbrev pub prints_all : StmtNode
prints_all = evaluate (lib_call int_ty (print (signed 32 ∷ bytes (codes " ") ∷ signed 32 ∷ bytes (codes " ") ∷ signed 32 ∷ bytes (codes "\n") ∷ [])) (v 1 ∷ v 0 ∷ value_of_a ∷ []))

-- r=atomic_compare_exchange_strong(&a,&e,9);
abbrev pub compares : StmtNode
compares = assign (v 1) (lib_call int_ty atomic_compare (a_star ∷ of_type int_star (address_of (v 0)) ∷ k 9 ∷ []))

-- _Atomic int a=5;int main(void){int e=4;int r; .. twice}
abbrev pub compared_twice : Typed.Typed
compared_twice = with_a (atomic int) (pos 5) (in_memory int_ty ∷ in_register int_ty ∷ [])
    (declare 0 (Some (k 4)) ∷ declare 1 None ∷ compares ∷ prints_all ∷ compares ∷ prints_all ∷ returns (k 0) ∷ [])

-- _Atomic int a=first;int main(void){int r=..;printf("%d\n",r);printf("%d\n",a);return 0;}
abbrev pub changed_once : (first : ℤ) → Expr → Typed.Typed
changed_once first e = with_a (atomic int) first (in_register int_ty ∷ []) (declare 0 (Some e) ∷ printf_int (v 0) ∷ printf_int value_of_a ∷ returns (k 0) ∷ [])

-- _Atomic int a=5;int main(void){..}, where a is printed at the end
abbrev pub printed_after : List StmtNode → Typed.Typed
printed_after body = with_a (atomic int) (pos 5) [] (body ++ printf_int value_of_a ∷ returns (k 0) ∷ [])

-- _Atomic int a;a+=1; in main: a has no value yet
abbrev pub unset_atomic : Typed.Typed
unset_atomic = main_only (in_memory (atomic int) ∷ []) (declare 0 None ∷ update (of_type (atomic int) (local 0)) ops.Add (k 1) ∷ returns (k 0) ∷ [])

-- T n;int f(void *v){n+=1;return 0;}
-- int main(void){thrd_t x;thrd_t y;thrd_create(&x,f,NULL);thrd_create(&y,f,NULL);thrd_join(x,NULL);thrd_join(y,NULL);return n;}
abbrev pub counted_by_two : Ty → Typed.Typed
counted_by_two ty = whole (record { ty = ty; init = number int (pos 0) } ∷ []) []
    (func 0 (in_memory thread_ty ∷ in_memory thread_ty ∷ [])
    (declare 0 None ∷ declare 1 None ∷ starts_f 0 ∷ starts_f 1 ∷ joins_f 0 ∷ joins_f 1 ∷ returns (of_type int_ty (convert (of_type ty (global 0)))) ∷ [])
    ∷ func 1 (in_register (pointer void) ∷ []) (update (of_type ty (global 0)) ops.Add (k 1) ∷ returns (k 0) ∷ [])
    ∷ [])

-- what is told of it, where main goes on once both threads have ended
abbrev pub of_two : Ty → List Pick → Told
of_two ty order = told (run (counted_by_two ty) (got 0 ++ got 0 ++ order ++ turns 0 6))

-- what changes of an atomic number give and leave, and that each is one turn
pub record AtomicsStand : Type 0 where
  -- e is stored; the compare misses, and e becomes 5; e and a are read, and printed; the next compare finds 5, and a becomes 9
  pub compared_is : told (run compared_twice (turns 0 10)) ≡ reached (codes "0 5 5\n1 5 9\n") (returned (pos 0) ∷ [])
  -- a change, a print, a load, a print, the end: the old number is given, the new one is left, and both wrap
  pub added_is : told (run (changed_once (pos 2147483647) (changes atomic_add (k 1))) (turns 0 5)) ≡ reached (codes "2147483647\n-2147483648\n") (returned (pos 0) ∷ [])
  pub taken_is : told (run (changed_once (negsuc 4) (changes atomic_sub (k 1))) (turns 0 5)) ≡ reached (codes "-5\n-6\n") (returned (pos 0) ∷ [])
  pub least_taken_is : told (run (changed_once (pos 5) (changes atomic_sub least_int)) (turns 0 5)) ≡ reached (codes "5\n-2147483643\n") (returned (pos 0) ∷ [])
  pub swapped_is : told (run (changed_once (pos 5) (changes atomic_swap (k 8))) (turns 0 5)) ≡ reached (codes "5\n8\n") (returned (pos 0) ∷ [])
  -- atomic_store(&a,7); a=7; and a; are one turn each, as are a+=3; and a-=3;
  pub stored_is : told (run (printed_after (evaluate (lib_call void atomic_store (a_star ∷ k 7 ∷ [])) ∷ [])) (turns 0 4)) ≡ reached (codes "7\n") (returned (pos 0) ∷ [])
  pub assigned_is : told (run (printed_after (assign a0 (k 7) ∷ [])) (turns 0 4)) ≡ reached (codes "7\n") (returned (pos 0) ∷ [])
  pub dropped_is : told (run (printed_after (evaluate a0 ∷ [])) (turns 0 4)) ≡ reached (codes "5\n") (returned (pos 0) ∷ [])
  pub plus_is : told (run (printed_after (update a0 ops.Add (k 3) ∷ [])) (turns 0 4)) ≡ reached (codes "8\n") (returned (pos 0) ∷ [])
  pub minus_is : told (run (printed_after (update a0 ops.Sub (k 3) ∷ [])) (turns 0 4)) ≡ reached (codes "2\n") (returned (pos 0) ∷ [])
  pub unset_is : told (run unset_atomic (turns 0 1)) ≡ broken rules.C4 0
  -- whichever thread is first, both are counted; of a plain int the second may store what it read before the first one stored
  pub both_counted : of_two (atomic int) (turns 1 1 ++ turns 2 2 ++ turns 1 1) ≡ reached [] (returned (pos 2) ∷ joined (pos 0) ∷ joined (pos 0) ∷ [])
  pub both_counted_back : of_two (atomic int) (turns 2 1 ++ turns 1 2 ++ turns 2 1) ≡ reached [] (returned (pos 2) ∷ joined (pos 0) ∷ joined (pos 0) ∷ [])
  pub one_lost : of_two (integer int) (turns 1 1 ++ turns 2 2 ++ turns 1 2 ++ turns 2 1) ≡ reached [] (returned (pos 1) ∷ joined (pos 0) ∷ joined (pos 0) ∷ [])
