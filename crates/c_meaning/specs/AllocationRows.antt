-- Small programs with calloc and realloc, worked out by hand.
use Rattle.std.specs.Prelude.{◌≡◌, ℕ, ◌^◌, List, [], ◌∷◌, ◌++◌, codes, Some, pos}
use Rattle.ak_words.specs.declared.operation.Op.TheVariants as ops
use Rattle.ak_words.specs.declared.rule.Rule.TheVariants as rules
use Rattle.block_store.specs.Actions.{running, returned}
use Rattle.block_store.specs.Runs.{Pick}
use Rattle.c_tree.specs.Typed
use Rattle.c_tree.specs.Typed.{Expr, null, local, convert, pointer, void, calloc, realloc, declare, assign}
use Rattle.c_meaning.specs.Rows.{int_ty, int_star, k, of_type, lib_call, printf_int, op_of, at_star, in_register, p0, malloc_of, free_of, at_index, as_void_star, size, returns, Told, reached, broken, no_turn, told, turns, got, none, main_only}
use Rattle.c_meaning.specs.Meaning.{run}

-- calloc(n, m), as an int *
abbrev pub calloc_of : (n m : ℕ) → Expr
calloc_of n m = of_type int_star (convert (lib_call (pointer void) calloc (size n ∷ size m ∷ [])))

-- realloc(p, n), as an int *
abbrev pub realloc_of : Expr → ℕ → Expr
realloc_of p n = of_type int_star (convert (lib_call (pointer void) realloc (as_void_star p ∷ size n ∷ [])))

-- p[i], an int
abbrev pub element : ℕ → Expr
element i = at_index int_ty p0 (k i)

-- int *p=calloc(4,4);printf("%d\n",p[0]+p[3]);p=realloc(p,32);p[4]=2;printf("%d\n",p[0]+p[4]);free(p);return 0;
abbrev pub grows : Typed.Typed
grows = main_only (in_register int_star ∷ [])
    (declare 0 (Some (calloc_of 4 4)) ∷ printf_int (op_of ops.Add (element 0) (element 3))
    ∷ assign p0 (realloc_of p0 32) ∷ assign (element 4) (k 2) ∷ printf_int (op_of ops.Add (element 0) (element 4)) ∷ free_of p0 ∷ returns (k 0) ∷ [])

-- int *p=malloc(4);*p=41;int *q=realloc(p,n);printf("%d\n",*e);return 0;
abbrev pub renews : (n : ℕ) → (e : Expr) → Typed.Typed
renews n e = main_only (in_register int_star ∷ in_register int_star ∷ [])
    (declare 0 (Some (malloc_of 4)) ∷ assign (at_star p0) (k 41) ∷ declare 1 (Some (realloc_of p0 n)) ∷ printf_int (at_star e) ∷ returns (k 0) ∷ [])

-- q
abbrev pub q1 : Expr
q1 = of_type int_star (local 1)

-- int *p=malloc(4);free(p);p=realloc(p,8);return 0;
abbrev pub of_the_dead : Typed.Typed
of_the_dead = main_only (in_register int_star ∷ []) (declare 0 (Some (malloc_of 4)) ∷ free_of p0 ∷ assign p0 (realloc_of p0 8) ∷ returns (k 0) ∷ [])

-- int *p=realloc(NULL,4);*p=7;printf("%d\n",*p);return 0;
abbrev pub of_null : Typed.Typed
of_null = main_only (in_register int_star ∷ []) (declare 0 (Some (realloc_of (of_type int_star null) 4)) ∷ assign (at_star p0) (k 7) ∷ printf_int (at_star p0) ∷ returns (k 0) ∷ [])

-- int *p=calloc(n,m);printf("%d\n",*p);return 0;
abbrev pub zeroed : (n m : ℕ) → Typed.Typed
zeroed n m = main_only (in_register int_star ∷ []) (declare 0 (Some (calloc_of n m)) ∷ printf_int (at_star p0) ∷ returns (k 0) ∷ [])

-- what is told of a program, after an order
abbrev pub after : Typed.Typed → List Pick → Told
after t order = told (run t order)

-- what a calloc's block holds, what a realloc keeps, and which answers both take
pub record AllocationsStand : Type 0 where
  -- calloc, two loads, print, realloc, store, two loads, print, free, end
  pub grows_is : after grows (got 0 ++ turns 0 3 ++ got 0 ++ turns 0 6) ≡ reached (codes "0\n2\n") (returned (pos 0) ∷ [])
  -- the new block holds what the old one held, and the old one is gone; where there is none the old one is there, and null is given
  pub new_holds : after (renews 8 q1) (got 0 ++ turns 0 1 ++ got 0 ++ turns 0 3) ≡ reached (codes "41\n") (returned (pos 0) ∷ [])
  pub old_is_gone : after (renews 8 p0) (got 0 ++ turns 0 1 ++ got 0 ++ turns 0 1) ≡ broken rules.C5 3
  pub old_is_kept : after (renews 8 p0) (got 0 ++ turns 0 1 ++ none 0 ++ turns 0 3) ≡ reached (codes "41\n") (returned (pos 0) ∷ [])
  pub null_is_given : after (renews 8 q1) (got 0 ++ turns 0 1 ++ none 0 ++ turns 0 1) ≡ broken rules.C5 3
  -- a block of 0 bytes, too: the old one is gone, and the new one has no byte
  pub of_no_byte : after (renews 0 p0) (got 0 ++ turns 0 1 ++ got 0 ++ turns 0 1) ≡ broken rules.C5 3
  pub of_no_byte_kept : after (renews 0 p0) (got 0 ++ turns 0 1 ++ none 0 ++ turns 0 3) ≡ reached (codes "41\n") (returned (pos 0) ∷ [])
  pub no_byte_there : after (renews 0 q1) (got 0 ++ turns 0 1 ++ got 0 ++ turns 0 1) ≡ broken rules.C5 3
  -- what free wouldn't take breaks C10, whatever it is told
  pub dead_plain : after of_the_dead (got 0 ++ turns 0 2) ≡ broken rules.C10 2
  pub dead_got : after of_the_dead (got 0 ++ turns 0 1 ++ got 0) ≡ broken rules.C10 2
  pub dead_none : after of_the_dead (got 0 ++ turns 0 1 ++ none 0) ≡ broken rules.C10 2
  -- of null it is malloc
  pub null_is_malloc : after of_null (got 0 ++ turns 0 4) ≡ reached (codes "7\n") (returned (pos 0) ∷ [])
  -- an answer has to be chosen; none gives null; no block has 2^32 bytes or more, and the product is not taken modulo anything
  pub calloc_wants_answer : after (zeroed 2 2) (turns 0 1) ≡ no_turn 0
  pub realloc_wants_answer : after (renews 8 q1) (got 0 ++ turns 0 2) ≡ no_turn 2
  pub calloc_refused : after (zeroed 2 2) (none 0 ++ turns 0 1) ≡ broken rules.C5 1
  pub calloc_zeroes : after (zeroed 2 2) (got 0 ++ turns 0 3) ≡ reached (codes "0\n") (returned (pos 0) ∷ [])
  pub too_many : after (zeroed (2 ^ 16) (2 ^ 16)) (got 0) ≡ no_turn 0
  pub far_too_many : after (zeroed (2 ^ 32) (2 ^ 32)) (got 0) ≡ no_turn 0
  pub far_too_many_none : after (zeroed (2 ^ 32) (2 ^ 32)) (none 0) ≡ reached [] (running ∷ [])
