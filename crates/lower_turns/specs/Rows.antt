-- Small programs, and the code that they are lowered to: what both show, turn by turn. They are those by which the meaning of the source is
-- put to the test, and a few more, where the code could have kept what the source has no longer.
use Rattle.std.specs.Prelude.{◌≡◌, ◌^◌, ℕ, List, [], ◌∷◌, ◌++◌, codes, None, Some, pos, negsuc}
use Rattle.ak_words.specs.declared.operation.Op.TheVariants as ops
use Rattle.ak_words.specs.IntType.{char, int, unsigned_int, long}
use Rattle.block_store.specs.Runs.{Pick}
use Rattle.block_store.specs.Runs as runs
use Rattle.c_tree.specs.Typed
use Rattle.c_tree.specs.Typed.{void, integer, atomic, atomic_add, atomic_sub, atomic_swap, atomic_store, mutex, pointer, array, structure, bytes, signed, unsigned, print, copy, mutex_init, mutex_lock}
use Rattle.c_tree.specs.Typed.{null, literal, global, local, deref, member, address_of, convert, not_, binary, and_also, or_else, choose, pointer_add, pointer_sub, pointer_diff, pointer_compare}
use Rattle.c_tree.specs.Typed.{block, declare, if_, if_else, for_, while_, break_, continue_, return_, assign, update, evaluate, StmtNode, Expr, zero_bytes, number}
use Rattle.c_meaning.specs.Meaning.{start, shown}
use Rattle.c_meaning.specs.Rows.{int_ty, int_star, k, v, of_type, row, one, lib_call, printf_int, op_of, at_star, in_register, in_memory, func, whole, main_only, turns, got, none, p0, malloc_of, free_of, call_of, recursion, shared_block, first_turns, ints, returns, char_star, decayed, at_index, as_void_star, size, mutex_call, joined_twice, prints_and_gives, x0, pair, struct_local, unsigned_char, u, minus, counted, one_waits, g0, thread_ty}
use Rattle.c_meaning.specs.AllocationRows.{grows, renews, of_the_dead, zeroed}
use Rattle.c_meaning.specs.AtomicRows.{compared_twice, changed_once, changes, least_int, printed_after, a0, a_star, unset_atomic, counted_by_two}
use Rattle.struct_ir.specs.meaning.Threads.{program_of}
use Rattle.lower_forms.specs.Programs.{lowered}

-- the code of a program shows under an order what the source shows
abbrev pub Keeps : Typed.Typed → List Pick → Type 0
Keeps t order = runs.shown (program_of (lowered t)) (start t) order ≡ shown t order

-- ---- programs

-- int a=6;int b=7;printf("%d\n",a*b);return a;
abbrev pub product : Typed.Typed
product = main_only (ints 2) (declare 0 (Some (k 6)) ∷ declare 1 (Some (k 7)) ∷ printf_int (op_of ops.Mul (v 0) (v 1)) ∷ return_ (Some (v 0)) ∷ [])

-- int s=0;for(int i=0;i<4;i++){if(i==1)continue;if(i==3)break;s=s+i;}return s;
abbrev pub loop : Typed.Typed
loop = main_only (ints 2)
    (declare 0 (Some (k 0))
    ∷ for_ (one (declare 1 (Some (k 0)))) (Some (op_of ops.Lt (v 1) (k 4))) (one (update (v 1) ops.Add (k 1)))
    (one (block (row (if_ (op_of ops.Eq (v 1) (k 1)) (one continue_) ∷ if_ (op_of ops.Eq (v 1) (k 3)) (one break_) ∷ assign (v 0) (op_of ops.Add (v 0) (v 1)) ∷ []))))
    ∷ return_ (Some (v 0)) ∷ [])

-- int *p=malloc(4);*p=41;*p+=1;printf("%d\n",*p);free(p);return 0;
abbrev pub heap : Typed.Typed
heap = main_only (in_register int_star ∷ [])
    (declare 0 (Some (malloc_of 4)) ∷ assign (at_star p0) (k 41) ∷ update (at_star p0) ops.Add (k 1) ∷ printf_int (at_star p0) ∷ free_of p0 ∷ return_ (Some (k 0)) ∷ [])

-- int *p=malloc(4);free(p);int *q=p;if(q==p)printf(..);return 0;
abbrev pub dead_pointers : Typed.Typed
dead_pointers = main_only (in_register int_star ∷ in_register int_star ∷ [])
    (declare 0 (Some (malloc_of 4)) ∷ free_of p0 ∷ declare 1 (Some p0)
    ∷ if_ (of_type int_ty (pointer_compare ops.Eq (of_type int_star (local 1)) p0)) (one (printf_int (k 1)))
    ∷ returns (k 0) ∷ [])

-- int f(void){}int main(void){return f();}, and f(); in main
abbrev pub no_value : StmtNode → Typed.Typed
no_value s = whole [] [] (func 0 [] (s ∷ returns (k 0) ∷ []) ∷ func 0 [] [] ∷ [])

-- char *s="x";s[0]='y';
abbrev pub write_to_literal : Typed.Typed
write_to_literal = whole [] ((codes "x" ++ 0 ∷ []) ∷ []) (func 0 (in_register char_star ∷ [])
    (declare 0 (Some (decayed (integer char) 2 (literal 0)))
    ∷ assign (at_index (integer char) (of_type char_star (local 0)) (k 0)) (of_type (integer char) (Typed.num char (pos 121))) ∷ []) ∷ [])

-- int f(void){printf("%d\n",1);return 1;}int g(void){printf("%d\n",2);return 2;}int main(void){printf("%d\n",f()-g());return 0;}
abbrev pub left_to_right : Typed.Typed
left_to_right = whole [] []
    (func 0 [] (printf_int (op_of ops.Sub (call_of 1 []) (call_of 2 [])) ∷ returns (k 0) ∷ []) ∷ prints_and_gives 1 ∷ prints_and_gives 2 ∷ [])

-- int x=1;int f(void){x=10;return 1;}int main(void){x+=f();return x;}
abbrev pub update_last : Typed.Typed
update_last = whole (record { ty = int_ty; init = number int (pos 1) } ∷ []) []
    (func 0 [] (update x0 ops.Add (call_of 1 []) ∷ returns x0 ∷ []) ∷ func 0 [] (assign x0 (k 10) ∷ returns (k 1) ∷ []) ∷ [])

-- int *p;{int b=1;p=&b;}return *p;
abbrev pub left_block : Typed.Typed
left_block = main_only (in_register int_star ∷ in_memory int_ty ∷ [])
    (declare 0 None ∷ block (row (declare 1 (Some (k 1)) ∷ assign p0 (of_type int_star (address_of (v 1))) ∷ [])) ∷ returns (at_star p0) ∷ [])

-- struct s{char a;int b;};struct s x;struct s y;x.a=1;x.b=2;y=x;y=y;return y.b;
abbrev pub structs : Typed.Typed
structs = record {
  structs = pair ∷ [];
  globals = [];
  literals = [];
  main = 0;
  funcs = func 0 (in_memory (structure 0) ∷ in_memory (structure 0) ∷ [])
      (declare 0 None ∷ declare 1 None ∷ assign (of_type (integer char) (member (struct_local 0) 0)) (of_type (integer char) (Typed.num char (pos 1)))
      ∷ assign (of_type int_ty (member (struct_local 0) 1)) (k 2) ∷ assign (struct_local 1) (struct_local 0) ∷ assign (struct_local 1) (struct_local 1) ∷ returns (of_type int_ty (member (struct_local 1) 1)) ∷ []) ∷ [];
}

-- int x=0;if(x&&1/x)x=1;if(!x||1/x)x=x?3:4;return x;
abbrev pub short_cuts : Typed.Typed
short_cuts = main_only (ints 1)
    (declare 0 (Some (k 0))
    ∷ if_ (of_type int_ty (and_also (v 0) (op_of ops.Div (k 1) (v 0)))) (one (assign (v 0) (k 1)))
    ∷ if_ (of_type int_ty (or_else (of_type int_ty (not_ (v 0))) (op_of ops.Div (k 1) (v 0)))) (one (assign (v 0) (of_type int_ty (choose (v 0) (k 3) (k 4)))))
    ∷ returns (v 0) ∷ [])

-- int a[2];int b[2];int main(void){printf("%d\n",a+2==b);return 0;}
abbrev pub end_and_start : Typed.Typed
end_and_start = whole (record { ty = array int_ty 2; init = zero_bytes } ∷ record { ty = array int_ty 2; init = zero_bytes } ∷ []) []
    (func 0 [] (printf_int (of_type int_ty (pointer_compare ops.Eq (of_type int_star (pointer_add (decayed int_ty 2 (global 0)) (k 2))) (decayed int_ty 2 (global 1)))) ∷ returns (k 0) ∷ []) ∷ [])

-- unsigned char c=300;printf("%d %u %d %d %d\n",c,0u-1u,-7/2,-7%2,-8>>1);return 0;
abbrev pub number_formats : Typed.Typed
number_formats = main_only (in_register unsigned_char ∷ [])
    (declare 0 (Some (of_type unsigned_char (convert (k 300))))
    ∷ evaluate (lib_call int_ty (print (signed 32 ∷ bytes (codes " ") ∷ unsigned 32 ∷ bytes (codes " ") ∷ signed 32 ∷ bytes (codes " ") ∷ signed 32 ∷ bytes (codes " ") ∷ signed 32 ∷ bytes (codes "\n") ∷ []))
    (of_type int_ty (convert (of_type unsigned_char (local 0))) ∷ of_type (integer unsigned_int) (binary ops.Sub (u 0) (u 1))
    ∷ op_of ops.Div (minus 7) (k 2) ∷ op_of ops.Rem (minus 7) (k 2) ∷ op_of ops.Shr (minus 8) (k 1) ∷ []))
    ∷ returns (k 0) ∷ [])

-- int *p=malloc(40);for(int i=0;i<3;i++)p[i]=i*i;int s=0;while(1){int a[2];a[1]=p[2];s=a[1];break;}free(p);return s;
abbrev pub elements : Typed.Typed
elements = main_only (in_register int_star ∷ in_register int_ty ∷ in_register int_ty ∷ in_memory (array int_ty 2) ∷ [])
    (declare 0 (Some (malloc_of 40))
    ∷ for_ (one (declare 1 (Some (k 0)))) (Some (op_of ops.Lt (v 1) (k 3))) (one (update (v 1) ops.Add (k 1))) (one (assign (at_index int_ty p0 (v 1)) (op_of ops.Mul (v 1) (v 1))))
    ∷ declare 2 (Some (k 0))
    ∷ while_ (k 1) (one (block (row (declare 3 None ∷ assign (at_index int_ty (decayed int_ty 2 (local 3)) (k 1)) (at_index int_ty p0 (k 2))
    ∷ assign (v 2) (at_index int_ty (decayed int_ty 2 (local 3)) (k 1)) ∷ break_ ∷ []))))
    ∷ free_of p0 ∷ returns (v 2) ∷ [])

-- a struct pair *
abbrev pub pair_star : Typed.Ty
pair_star = pointer (structure 0)

-- p->b, where p is a local of that type, and b the second member
abbrev pub second_of : (n : ℕ) → Expr
second_of n = of_type int_ty (member (of_type (structure 0) (deref (of_type pair_star (local n)))) 1)

-- struct pair{char a;int b;};
-- int main(void){struct pair *p=malloc(16);struct pair *q=p;p->b=5;p+=1;p->b=7;p-=1;q[1].b+=p->b;q=q+1;p=!q?p:q;return p->b-(q-p);}
abbrev pub members : Typed.Typed
members = record {
  structs = pair ∷ [];
  globals = [];
  literals = [];
  main = 0;
  funcs = func 0 (in_register pair_star ∷ in_register pair_star ∷ [])
      (declare 0 (Some (of_type pair_star (convert (malloc_of 16)))) ∷ declare 1 (Some (of_type pair_star (local 0)))
      ∷ assign (second_of 0) (k 5) ∷ update (of_type pair_star (local 0)) ops.Add (k 1) ∷ assign (second_of 0) (k 7) ∷ update (of_type pair_star (local 0)) ops.Sub (k 1)
      ∷ update (of_type int_ty (member (at_index (structure 0) (of_type pair_star (local 1)) (k 1)) 1)) ops.Add (second_of 0)
      ∷ assign (of_type pair_star (local 1)) (of_type pair_star (pointer_add (of_type pair_star (local 1)) (k 1)))
      ∷ if_else (of_type int_ty (not_ (of_type pair_star (local 1)))) (one (assign (of_type pair_star (local 0)) (of_type pair_star (local 0)))) (one (assign (of_type pair_star (local 0)) (of_type pair_star (local 1))))
      ∷ returns (op_of ops.Sub (second_of 0) (of_type int_ty (convert (of_type (integer long) (pointer_diff (of_type pair_star (local 1)) (of_type pair_star (local 0))))))) ∷ []) ∷ [];
}

-- int s=0;for(int i=0;i<3;i++){int a=i;{int b=1;if(a==1)continue;s=s+b;}}return s;, where a and b are in memory
abbrev pub left_by_continue : Typed.Typed
left_by_continue = main_only (in_register int_ty ∷ in_register int_ty ∷ in_memory int_ty ∷ in_memory int_ty ∷ [])
    (declare 0 (Some (k 0))
    ∷ for_ (one (declare 1 (Some (k 0)))) (Some (op_of ops.Lt (v 1) (k 3))) (one (update (v 1) ops.Add (k 1)))
    (one (block (row (declare 2 (Some (v 1)) ∷ block (row (declare 3 (Some (k 1)) ∷ if_ (op_of ops.Eq (v 2) (k 1)) (one continue_) ∷ assign (v 0) (op_of ops.Add (v 0) (v 3)) ∷ [])) ∷ []))))
    ∷ returns (v 0) ∷ [])

-- for(int i=0;i<2;i++){int a;if(i==0)a=1;else return a;}: a has no value in the second round
abbrev pub unset_anew : Typed.Typed
unset_anew = main_only (ints 2)
    (for_ (one (declare 0 (Some (k 0)))) (Some (op_of ops.Lt (v 0) (k 2))) (one (update (v 0) ops.Add (k 1)))
    (one (block (row (declare 1 None ∷ if_else (op_of ops.Eq (v 0) (k 0)) (one (assign (v 1) (k 1))) (one (returns (v 1))) ∷ [])))) ∷ [])

-- for(int i=0;i<2;i++){int a=i?a:1;}: nor while its first value is computed
abbrev pub unset_at_first : Typed.Typed
unset_at_first = main_only (ints 2)
    (for_ (one (declare 0 (Some (k 0)))) (Some (op_of ops.Lt (v 0) (k 2))) (one (update (v 0) ops.Add (k 1)))
    (one (block (row (declare 1 (Some (of_type int_ty (choose (v 0) (v 1) (k 1)))) ∷ [])))) ∷ [])

-- p[1]=f();, where another thread frees the block of p while f runs
abbrev pub freed_meanwhile : Typed.Typed
freed_meanwhile = whole (record { ty = int_star; init = zero_bytes } ∷ []) []
    (func 0 (in_register int_star ∷ in_memory thread_ty ∷ [])
    (assign g0 (malloc_of 8) ∷ declare 0 (Some g0) ∷ declare 1 None
    ∷ evaluate (lib_call int_ty (Typed.start 2) (of_type (pointer thread_ty) (address_of (of_type thread_ty (local 1))) ∷ of_type (pointer void) null ∷ []))
    ∷ assign (at_index int_ty p0 (k 1)) (call_of 1 []) ∷ returns (k 0) ∷ [])
    ∷ func 0 [] (returns (k 7) ∷ [])
    ∷ func 1 (in_register (pointer void) ∷ []) (free_of g0 ∷ returns (k 0) ∷ [])
    ∷ [])

-- a body of main alone, in which main's locals are these
abbrev pub at_once : List Typed.Local → List StmtNode → Type 0
at_once locals body = Keeps (main_only locals body) (turns 0 1)

-- ---- what they show

-- a product, a loop, a block of malloc, blocks of calloc and realloc, a recursion, elements of arrays, and a block of two threads
pub record RowsStand : Type 0 where
  pub product_is : Keeps product (turns 0 3)
  pub product_unfit : Keeps product (got 0)
  pub loop_is : Keeps loop (turns 0 4)
  pub heap_is : Keeps heap (got 0 ++ turns 0 7)
  pub heap_refused : Keeps heap (none 0 ++ turns 0 1)
  pub heap_wants_answer : Keeps heap (turns 0 1)
  pub grows_is : Keeps grows (got 0 ++ turns 0 3 ++ got 0 ++ turns 0 6)
  pub renewal_refused : Keeps (renews 8 p0) (got 0 ++ turns 0 1 ++ none 0 ++ turns 0 3)
  pub renewal_wants_answer : Keeps (renews 8 p0) (got 0 ++ turns 0 2)
  pub dead_renewed : Keeps of_the_dead (got 0 ++ turns 0 1 ++ none 0)
  pub product_too_large : Keeps (zeroed (2 ^ 32) (2 ^ 32)) (got 0)
  pub recursion_is : Keeps recursion (turns 0 7)
  pub elements_are : Keeps elements (got 0 ++ turns 0 14)
  pub members_are : Keeps members (got 0 ++ turns 0 7)
  pub left_by_continue_is : Keeps left_by_continue (turns 0 20)
  pub freed_between : Keeps shared_block (first_turns 1 ++ turns 1 2 ++ turns 0 1)
  pub freed_later : Keeps shared_block (first_turns 3 ++ turns 1 3 ++ turns 0 3)
  pub join_waits : Keeps shared_block (first_turns 4 ++ turns 0 1 ++ got 1 ++ turns 2 1)

-- each rule, broken once
pub record RulesStand : Type 0 where
  pub c1 : at_once [] (returns (op_of ops.Add (k 2147483647) (k 1)) ∷ [])
  pub c2 : at_once [] (returns (op_of ops.Div (k 1) (k 0)) ∷ [])
  pub c3 : at_once [] (returns (op_of ops.Shl (k 1) (k 32)) ∷ [])
  pub c4 : at_once (ints 1) (declare 0 None ∷ returns (v 0) ∷ [])
  pub c4_cells : at_once (in_memory (array int_ty 1) ∷ []) (declare 0 None ∷ returns (at_index int_ty (decayed int_ty 1 (local 0)) (k 0)) ∷ [])
  pub c4_anew : Keeps unset_anew (turns 0 2)
  pub c4_at_first : Keeps unset_at_first (turns 0 2)
  pub c5 : at_once (in_register int_star ∷ []) (declare 0 (Some (of_type int_star null)) ∷ assign (at_star p0) (k 1) ∷ [])
  pub c5_meanwhile : Keeps freed_meanwhile (got 0 ++ turns 0 2 ++ got 0 ++ turns 0 1 ++ turns 1 2 ++ turns 0 2)
  pub c6 : at_once (in_memory (array (integer char) 8) ∷ [])
      (declare 0 None ∷ assign (at_star (of_type int_star (convert (of_type char_star (pointer_add (decayed (integer char) 8 (local 0)) (k 1)))))) (k 1) ∷ [])
  pub c7 : at_once (in_memory (array int_ty 2) ∷ []) (declare 0 None ∷ evaluate (of_type int_star (pointer_sub (decayed int_ty 2 (local 0)) (k 1))) ∷ [])
  pub c8 : at_once (in_memory (array int_ty 1) ∷ in_memory (array int_ty 1) ∷ [])
      (declare 0 None ∷ declare 1 None ∷ evaluate (of_type int_ty (pointer_compare ops.Lt (decayed int_ty 1 (local 0)) (decayed int_ty 1 (local 1)))) ∷ [])
  pub c9 : Keeps dead_pointers (got 0 ++ turns 0 2)
  pub c10 : at_once (in_memory (array int_ty 1) ∷ []) (declare 0 None ∷ free_of (decayed int_ty 1 (local 0)) ∷ [])
  pub c11 : at_once (in_memory (array int_ty 2) ∷ [])
      (declare 0 None ∷ evaluate (lib_call (pointer void) copy (as_void_star (decayed int_ty 2 (local 0)) ∷ as_void_star (decayed int_ty 2 (local 0)) ∷ size 4 ∷ [])) ∷ [])
  pub c12 : Keeps write_to_literal (turns 0 1)
  pub c13 : Keeps (main_only (in_memory mutex ∷ []) (declare 0 None ∷ mutex_call mutex_init ∷ mutex_call mutex_lock ∷ mutex_call mutex_lock ∷ [])) (turns 0 3)
  pub c14 : Keeps joined_twice (got 0 ++ turns 1 1 ++ turns 0 4)
  pub c15 : Keeps (no_value (returns (call_of 1 []))) (turns 0 3)
  pub c15_dropped : Keeps (no_value (evaluate (call_of 1 []))) (turns 0 3)

-- what comes first where several things are to be done, and what small programs come to
pub record OrdersStand : Type 0 where
  pub left_to_right_is : Keeps left_to_right (turns 0 8)
  pub update_last_is : Keeps update_last (turns 0 7)
  pub left_block_is : Keeps left_block (turns 0 2)
  pub structs_is : Keeps structs (turns 0 6)
  pub short_cuts_is : Keeps short_cuts (turns 0 1)
  pub nothing_is : at_once [] []
  pub end_and_start_is : Keeps end_and_start (turns 0 2)
  pub number_formats_is : Keeps number_formats (turns 0 2)
  pub one_waits_is : Keeps counted one_waits
  pub counted_is : Keeps counted (got 0 ++ got 0 ++ turns 1 5 ++ turns 2 5 ++ turns 0 6)

-- changes of atomic numbers are one turn each in the code, too
pub record AtomicsStand : Type 0 where
  pub compared_is : Keeps compared_twice (turns 0 10)
  pub added_is : Keeps (changed_once (pos 2147483647) (changes atomic_add (k 1))) (turns 0 5)
  pub taken_is : Keeps (changed_once (negsuc 4) (changes atomic_sub (k 1))) (turns 0 5)
  pub least_taken_is : Keeps (changed_once (pos 5) (changes atomic_sub least_int)) (turns 0 5)
  pub swapped_is : Keeps (changed_once (pos 5) (changes atomic_swap (k 8))) (turns 0 5)
  pub stored_is : Keeps (printed_after (evaluate (lib_call void atomic_store (a_star ∷ k 7 ∷ [])) ∷ [])) (turns 0 4)
  pub assigned_is : Keeps (printed_after (assign a0 (k 7) ∷ [])) (turns 0 4)
  pub dropped_is : Keeps (printed_after (evaluate a0 ∷ [])) (turns 0 4)
  pub minus_is : Keeps (printed_after (update a0 ops.Sub (k 3) ∷ [])) (turns 0 4)
  pub unset_is : Keeps unset_atomic (turns 0 1)
  pub both_counted : Keeps (counted_by_two (atomic int)) (got 0 ++ got 0 ++ turns 1 1 ++ turns 2 2 ++ turns 1 1 ++ turns 0 6)
  pub one_lost : Keeps (counted_by_two (integer int)) (got 0 ++ got 0 ++ turns 1 1 ++ turns 2 2 ++ turns 1 2 ++ turns 2 1 ++ turns 0 6)
