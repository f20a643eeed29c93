-- Small programs, worked out by hand: the definitions, put to the test.
use Rattle.std.specs.Prelude.{◌≡◌, refl, ℕ, List, [], ◌∷◌, ◌++◌, map, replicate, codes, Some, None, pos, true, false}
use Rattle.ak_words.specs.declared.operation.Op.{Op}
use Rattle.ak_words.specs.declared.operation.Op.TheVariants as ops
use Rattle.ak_words.specs.declared.rule.Rule.{Rule}
use Rattle.ak_words.specs.declared.rule.Rule.TheVariants as rules
use Rattle.ak_words.specs.IntType.{char, int, unsigned_int, long, unsigned_long}
use Rattle.block_store.specs.declared.values.Answer.TheVariants as answers
use Rattle.block_store.specs.Actions.{ThreadRecord, Stage, running, returned, joined}
use Rattle.block_store.specs.Runs.{Pick, Run, reaches, breaks, no_run, Shown, it_begins, it_went, it_ended, it_blocked, it_was_unfit, it_broke, no_such_turn}
use Rattle.c_tree.specs.Typed
use Rattle.c_tree.specs.Typed.{Ty, void, integer, mutex, pointer, array, structure, Layout, bytes, signed, unsigned, Lib, print, malloc, free, copy, start, join, mutex_init, mutex_lock, mutex_unlock}
use Rattle.c_tree.specs.Typed.{Expr, at, ExprNode, num, null, literal, global, local, deref, member, address_of, decay, convert, not_, binary, and_also, or_else, choose, pointer_add, pointer_sub, pointer_compare, call, lib, Exprs, no_exprs, more_exprs}
use Rattle.c_tree.specs.Typed.{Stmt, at_stmt, StmtNode, block, declare, if_, if_else, for_, break_, continue_, return_, assign, update, evaluate, Stmts, no_stmts, more_stmts, zero_bytes, number, GlobalVar, Local, Func}
use Rattle.c_meaning.specs.Control.{Control}
use Rattle.c_meaning.specs.Meaning.{run, shown}

-- ---- programs, in few words: a place is the number of a node where a row speaks of it, and else 0

-- the type int
abbrev pub int_ty : Ty
int_ty = integer int

-- the type int *
abbrev pub int_star : Ty
int_star = pointer int_ty

-- a constant; an int local; a local of another type
abbrev pub k : ℕ → Expr
k n = at 0 int_ty (num int (pos n))

-- the int local of number n
abbrev pub v : ℕ → Expr
v n = at 0 int_ty (local n)

-- an expression of this type and form
abbrev pub of_type : Ty → ExprNode → Expr
of_type t node = at 0 t node

-- these arguments of a call
abbrev pub arguments : List Expr → Exprs
arguments [] = no_exprs
arguments (e ∷ es) = more_exprs e (arguments es)

-- these statements, one after another
abbrev pub row : List StmtNode → Stmts
row [] = no_stmts
row (s ∷ ss) = more_stmts (at_stmt 0 s) (row ss)

-- this statement alone
abbrev pub one : StmtNode → Stmt
one s = at_stmt 0 s

-- a call of a library function, whose value is of this type
abbrev pub lib_call : Ty → Lib → List Expr → Expr
lib_call t which args = of_type t (lib which (arguments args))

-- printf("%d\n",e);
abbrev pub printf_int : Expr → StmtNode
printf_int e = evaluate (lib_call int_ty (print (signed 32 ∷ bytes (10 ∷ []) ∷ [])) (e ∷ []))

-- a op b, an int
abbrev pub op_of : Op → Expr → Expr → Expr
op_of op a b = of_type int_ty (binary op a b)

-- *p, an int
abbrev pub at_star : Expr → Expr
at_star p = of_type int_ty (deref p)

-- a local that has a value, and one that is a block
abbrev pub in_register : Ty → Local
in_register t = record { ty = t; in_memory = false }

-- a local that is a block
abbrev pub in_memory : Ty → Local
in_memory t = record { ty = t; in_memory = true }

-- a function that returns an int: the first of its locals are its parameters
abbrev pub func : (params : ℕ) → List Local → List StmtNode → Func
func params locals body = record { params = params; locals = locals; result = int_ty; body = row body }

-- a program without structs, whose first function is main
abbrev pub whole : List GlobalVar → List (List ℕ) → List Func → Typed.Typed
whole globals literals funcs = record { structs = []; globals = globals; literals = literals; funcs = funcs; main = 0 }

-- a program that is main alone
abbrev pub main_only : List Local → List StmtNode → Typed.Typed
main_only locals body = whole [] [] (func 0 locals body ∷ [])

-- ---- what is told of a run

-- what is told of a run: what it reaches; or after how many turns it breaks a rule, or there is no run
pub data Told : Type 0 where
  -- the output, and how far the threads are
  reached : (output : List ℕ) (stages : List Stage) → Told
  broken : (rule : Rule) (after : ℕ) → Told
  no_turn : (after : ℕ) → Told

-- what is told of this run
abbrev pub told : Run Control → Told
told (reaches s) = reached s.world.output (map (λ (t : ThreadRecord). t.stage) s.world.threads)
told (breaks rule n) = broken rule n
told (no_run n) = no_turn n

-- n turns of a thread
abbrev pub turns : (thread n : ℕ) → List Pick
turns thread n = replicate n (record { thread = thread; answer = answers.Plain })

-- one turn of a thread, which gets what it asks for
abbrev pub got : (thread : ℕ) → List Pick
got thread = record { thread = thread; answer = answers.Got } ∷ []

-- one turn of a thread, which doesn't get what it asks for
abbrev pub none : (thread : ℕ) → List Pick
none thread = record { thread = thread; answer = answers.None } ∷ []

-- what is told of main alone, after an order
abbrev pub of_main : List Local → List StmtNode → List Pick → Told
of_main locals body order = told (run (main_only locals body) order)

-- int a=6;int b=7;printf("%d\n",a*b);return a;
abbrev pub product : List Pick → Told
product = of_main (in_register int_ty ∷ in_register int_ty ∷ [])
    (declare 0 (Some (k 6)) ∷ declare 1 (Some (k 7)) ∷ printf_int (op_of ops.Mul (v 0) (v 1)) ∷ return_ (Some (v 0)) ∷ [])

-- int s=0;for(int i=0;i<4;i++){if(i==1)continue;if(i==3)break;s=s+i;}return s;
abbrev pub loop : List Pick → Told
loop = of_main (in_register int_ty ∷ in_register int_ty ∷ [])
    (declare 0 (Some (k 0))
    ∷ for_ (one (declare 1 (Some (k 0)))) (Some (op_of ops.Lt (v 1) (k 4))) (one (update (v 1) ops.Add (k 1)))
    (one (block (row (if_ (op_of ops.Eq (v 1) (k 1)) (one continue_) ∷ if_ (op_of ops.Eq (v 1) (k 3)) (one break_) ∷ assign (v 0) (op_of ops.Add (v 0) (v 1)) ∷ []))))
    ∷ return_ (Some (v 0)) ∷ [])

-- int *p=malloc(4);*p=41;*p+=1;printf("%d\n",*p);free(p);return 0;
abbrev pub p0 : Expr
p0 = of_type int_star (local 0)

-- malloc(n), as an int *
abbrev pub malloc_of : ℕ → Expr
malloc_of n = of_type int_star (convert (lib_call (pointer void) malloc (of_type (integer unsigned_long) (num unsigned_long (pos n)) ∷ [])))

-- free(p);
abbrev pub free_of : Expr → StmtNode
free_of p = evaluate (lib_call void free (of_type (pointer void) (convert p) ∷ []))

-- what is told of that program, which takes a block, writes and prints an int in it, and frees it
abbrev pub heap : List Pick → Told
heap = of_main (in_register int_star ∷ [])
    (declare 0 (Some (malloc_of 4)) ∷ assign (at_star p0) (k 41) ∷ update (at_star p0) ops.Add (k 1) ∷ printf_int (at_star p0) ∷ free_of p0 ∷ return_ (Some (k 0)) ∷ [])

-- int f(int n){if(n)return f(n-1)+1;return 0;}int main(void){return f(2);}
abbrev pub call_of : ℕ → List Expr → Expr
call_of f args = of_type int_ty (call f (arguments args))

-- that program, in which f calls itself
abbrev pub recursion : Typed.Typed
recursion = whole [] []
    (func 0 [] (return_ (Some (call_of 1 (k 2 ∷ []))) ∷ [])
    ∷ func 1 (in_register int_ty ∷ []) (if_ (v 0) (one (return_ (Some (op_of ops.Add (call_of 1 (op_of ops.Sub (v 0) (k 1) ∷ [])) (k 1))))) ∷ return_ (Some (k 0)) ∷ [])
    ∷ [])

-- int *p;int f(void *v){free(p);return 0;}
-- int main(void){p=malloc(4);*p=1;thrd_t t;thrd_create(&t,f,NULL);printf("%d\n",*p);thrd_join(t,NULL);return 0;}
abbrev pub g0 : Expr
g0 = of_type int_star (global 0)

-- the type thrd_t, an unsigned long (this project's profile)
abbrev pub thread_ty : Ty
thread_ty = integer unsigned_long

-- that program, in which a thread frees the block that main reads; the read stands at place 77
abbrev pub shared_block : Typed.Typed
shared_block = whole (record { ty = int_star; init = zero_bytes } ∷ []) []
    (func 0 (in_memory thread_ty ∷ [])
    (assign g0 (malloc_of 4) ∷ assign (at_star g0) (k 1) ∷ declare 0 None
    ∷ evaluate (lib_call int_ty (start 1) (of_type (pointer thread_ty) (address_of (of_type thread_ty (local 0))) ∷ of_type (pointer void) null ∷ []))
    ∷ printf_int (at 77 int_ty (deref g0))
    ∷ evaluate (lib_call int_ty join (of_type thread_ty (local 0) ∷ of_type int_star null ∷ []))
    ∷ return_ (Some (k 0)) ∷ [])
    ∷ func 1 (in_register (pointer void) ∷ []) (free_of g0 ∷ return_ (Some (k 0)) ∷ [])
    ∷ [])

-- thread 0's first n turns
abbrev pub first_turns : ℕ → List Pick
first_turns n = got 0 ++ turns 0 3 ++ got 0 ++ turns 0 n

-- ---- each rule of C, broken once

-- a body that breaks a rule in its first turn, or in the turn behind the first n plain ones
abbrev pub breaks_at_once : List Local → List StmtNode → Told
breaks_at_once locals body = of_main locals body (turns 0 1)

-- n int locals without blocks
abbrev pub ints : ℕ → List Local
ints n = replicate n (in_register int_ty)

-- return e;
abbrev pub returns : Expr → StmtNode
returns e = return_ (Some e)

-- the type char *
abbrev pub char_star : Ty
char_star = pointer (integer char)

-- the pointer to the first element of an array that is a local; that of a global
abbrev pub decayed : Ty → ℕ → ExprNode → Expr
decayed t n of = of_type (pointer t) (decay (of_type (array t n) of))

-- p[i]
abbrev pub at_index : Ty → Expr → Expr → Expr
at_index t p i = of_type t (deref (of_type (pointer t) (pointer_add p i)))

-- (void *)p
abbrev pub as_void_star : Expr → Expr
as_void_star p = of_type (pointer void) (convert p)

-- the constant n, a size_t
abbrev pub size : ℕ → Expr
size n = of_type (integer unsigned_long) (num unsigned_long (pos n))

-- the address of a local mutex
abbrev pub the_mutex : Expr
the_mutex = of_type (pointer mutex) (address_of (of_type mutex (local 0)))

-- a call that takes that mutex, like mtx_lock(&m);
abbrev pub mutex_call : Lib → StmtNode
mutex_call which = evaluate (lib_call int_ty which (the_mutex ∷ []))

-- int *p=malloc(4);free(p);int *q=p;if(q==p)printf(..);return 0;
abbrev pub dead_pointers : List Pick → Told
dead_pointers = of_main (in_register int_star ∷ in_register int_star ∷ [])
    (declare 0 (Some (malloc_of 4)) ∷ free_of p0 ∷ declare 1 (Some p0)
    ∷ if_ (of_type int_ty (pointer_compare ops.Eq (of_type int_star (local 1)) p0)) (one (printf_int (k 1)))
    ∷ returns (k 0) ∷ [])

-- int f(void){}int main(void){return f();}, and f(); in main
abbrev pub no_value : StmtNode → List Pick → Told
no_value s order = told (run (whole [] [] (func 0 [] (s ∷ returns (k 0) ∷ []) ∷ func 0 [] [] ∷ [])) order)

-- char *s="x";s[0]='y';
abbrev pub write_to_literal : List Pick → Told
write_to_literal order = told (run (whole [] ((codes "x" ++ 0 ∷ []) ∷ []) (func 0 (in_register char_star ∷ [])
    (declare 0 (Some (decayed (integer char) 2 (literal 0)))
    ∷ assign (at_index (integer char) (of_type char_star (local 0)) (k 0)) (of_type (integer char) (num char (pos 121))) ∷ []) ∷ [])) order)

-- a thread that is joined twice, which main makes and awaits
abbrev pub joined_twice : Typed.Typed
joined_twice = whole [] []
    (func 0 (in_memory thread_ty ∷ [])
    (declare 0 None
    ∷ evaluate (lib_call int_ty (start 1) (of_type (pointer thread_ty) (address_of (of_type thread_ty (local 0))) ∷ of_type (pointer void) null ∷ []))
    ∷ evaluate (lib_call int_ty join (of_type thread_ty (local 0) ∷ of_type int_star null ∷ []))
    ∷ evaluate (lib_call int_ty join (of_type thread_ty (local 0) ∷ of_type int_star null ∷ [])) ∷ [])
    ∷ func 1 (in_register (pointer void) ∷ []) (returns (k 3) ∷ []) ∷ [])

-- ---- what comes first

-- int f(void){printf("%d\n",1);return 1;}int g(void){printf("%d\n",2);return 2;}int main(void){printf("%d\n",f()-g());return 0;}
abbrev pub prints_and_gives : ℕ → Func
prints_and_gives n = func 0 [] (printf_int (k n) ∷ returns (k n) ∷ [])

-- what is told of that program, which prints f()-g()
abbrev pub left_to_right : List Pick → Told
left_to_right order = told (run (whole [] []
    (func 0 [] (printf_int (op_of ops.Sub (call_of 1 []) (call_of 2 [])) ∷ returns (k 0) ∷ []) ∷ prints_and_gives 1 ∷ prints_and_gives 2 ∷ [])) order)

-- int x[2];int *g(void){printf("%d\n",2);return x;}
abbrev pub gives_pointer : Func
gives_pointer = func 0 [] (printf_int (k 2) ∷ returns (decayed int_ty 2 (global 0)) ∷ [])

-- f()+g(), where f is that function, and g this one
abbrev pub number_first : Expr
number_first = of_type int_star (pointer_add (call_of 1 []) (of_type int_star (call 2 no_exprs)))

-- g()+f(), of the same two
abbrev pub pointer_first : Expr
pointer_first = of_type int_star (pointer_add (of_type int_star (call 2 no_exprs)) (call_of 1 []))

-- what is told of main with this statement, which adds what f and g give
abbrev pub sums : StmtNode → List Pick → Told
sums s order = told (run (whole (record { ty = array int_ty 2; init = zero_bytes } ∷ []) []
    (func 0 (in_register int_star ∷ []) (s ∷ returns (k 0) ∷ []) ∷ prints_and_gives 1 ∷ gives_pointer ∷ [])) order)

-- int x=1;int f(void){x=10;return 1;}int main(void){x+=f();return x;}: x is read once f was called
abbrev pub x0 : Expr
x0 = of_type int_ty (global 0)

-- what is told of that program, in which f changes x while x+=f() is under way
abbrev pub update_last : List Pick → Told
update_last order = told (run (whole (record { ty = int_ty; init = number int (pos 1) } ∷ []) []
    (func 0 [] (update x0 ops.Add (call_of 1 []) ∷ returns x0 ∷ []) ∷ func 0 [] (assign x0 (k 10) ∷ returns (k 1) ∷ []) ∷ [])) order)

-- for(int i=0;i<2;i++){int a;if(i==0)a=1;else return a;}: a has no value in the second round
abbrev pub unset_anew : List Pick → Told
unset_anew = of_main (ints 2)
    (for_ (one (declare 0 (Some (k 0)))) (Some (op_of ops.Lt (v 0) (k 2))) (one (update (v 0) ops.Add (k 1)))
    (one (block (row (declare 1 None ∷ if_else (op_of ops.Eq (v 0) (k 0)) (one (assign (v 1) (k 1))) (one (returns (v 1))) ∷ [])))) ∷ [])

-- int *p;{int b=1;p=&b;}return *p;
abbrev pub left_block : List Pick → Told
left_block = of_main (in_register int_star ∷ in_memory int_ty ∷ [])
    (declare 0 None ∷ block (row (declare 1 (Some (k 1)) ∷ assign p0 (of_type int_star (address_of (v 1))) ∷ [])) ∷ returns (at_star p0) ∷ [])

-- struct s{char a;int b;};struct s x;struct s y;x.a=1;x.b=2;y=x;y=y;return y.b;
abbrev pub pair : Layout
pair = record { offsets = 0 ∷ 4 ∷ []; types = integer char ∷ int_ty ∷ []; size = 8; align = 4 }

-- the local of number n, a struct s
abbrev pub struct_local : ℕ → Expr
struct_local n = of_type (structure 0) (local n)

-- what is told of that program, which assigns one struct to another, and a struct to itself
abbrev pub structs : List Pick → Told
structs order = told (run (record {
  structs = pair ∷ [];
  globals = [];
  literals = [];
  main = 0;
  funcs = func 0 (in_memory (structure 0) ∷ in_memory (structure 0) ∷ [])
      (declare 0 None ∷ declare 1 None ∷ assign (of_type (integer char) (member (struct_local 0) 0)) (of_type (integer char) (num char (pos 1)))
      ∷ assign (of_type int_ty (member (struct_local 0) 1)) (k 2) ∷ assign (struct_local 1) (struct_local 0) ∷ assign (struct_local 1) (struct_local 1) ∷ returns (of_type int_ty (member (struct_local 1) 1)) ∷ []) ∷ [];
}) order)

-- int x=0;if(x&&1/x)x=1;if(!x||1/x)x=x?3:4;return x;
abbrev pub short_cuts : List Pick → Told
short_cuts = of_main (ints 1)
    (declare 0 (Some (k 0))
    ∷ if_ (of_type int_ty (and_also (v 0) (op_of ops.Div (k 1) (v 0)))) (one (assign (v 0) (k 1)))
    ∷ if_ (of_type int_ty (or_else (of_type int_ty (not_ (v 0))) (op_of ops.Div (k 1) (v 0)))) (one (assign (v 0) (of_type int_ty (choose (v 0) (k 3) (k 4)))))
    ∷ returns (v 0) ∷ [])

-- int a[2];int b[2];int main(void){printf("%d\n",a+2==b);return 0;}
abbrev pub end_and_start : List Pick → Told
end_and_start order = told (run (whole (record { ty = array int_ty 2; init = zero_bytes } ∷ record { ty = array int_ty 2; init = zero_bytes } ∷ []) []
    (func 0 [] (printf_int (of_type int_ty (pointer_compare ops.Eq (of_type int_star (pointer_add (decayed int_ty 2 (global 0)) (k 2))) (decayed int_ty 2 (global 1)))) ∷ returns (k 0) ∷ []) ∷ [])) order)

-- unsigned char c=300;printf("%d %u %d %d %d\n",c,0u-1u,-7/2,-7%2,-8>>1);return 0;
abbrev pub unsigned_char : Ty
unsigned_char = integer (record { signed = false; bits = 8; known_width = refl })

-- the constant n, an unsigned int
abbrev pub u : ℕ → Expr
u n = of_type (integer unsigned_int) (num unsigned_int (pos n))

-- the int -n, as 0-n
abbrev pub minus : ℕ → Expr
minus n = op_of ops.Sub (k 0) (k n)

-- what is told of that program, which prints numbers of several types
abbrev pub number_formats : List Pick → Told
number_formats = of_main (in_register unsigned_char ∷ [])
    (declare 0 (Some (of_type unsigned_char (convert (k 300))))
    ∷ evaluate (lib_call int_ty (print (signed 32 ∷ bytes (codes " ") ∷ unsigned 32 ∷ bytes (codes " ") ∷ signed 32 ∷ bytes (codes " ") ∷ signed 32 ∷ bytes (codes " ") ∷ signed 32 ∷ bytes (codes "\n") ∷ []))
    (of_type int_ty (convert (of_type unsigned_char (local 0))) ∷ of_type (integer unsigned_int) (binary ops.Sub (u 0) (u 1))
    ∷ op_of ops.Div (minus 7) (k 2) ∷ op_of ops.Rem (minus 7) (k 2) ∷ op_of ops.Shr (minus 8) (k 1) ∷ []))
    ∷ returns (k 0) ∷ [])

-- mtx_t m;int n;int f(void *v){mtx_lock(&m);n=n+1;mtx_unlock(&m);return 0;}
-- int main(void){thrd_t x;thrd_t y;thrd_create(&x,f,NULL);thrd_create(&y,f,NULL);thrd_join(x,NULL);thrd_join(y,NULL);return n;}
abbrev pub thread_of : ℕ → Expr
thread_of n = of_type thread_ty (local n)

-- thrd_create(&x,f,NULL); where x is the local of number n
abbrev pub starts_f : ℕ → StmtNode
starts_f n = evaluate (lib_call int_ty (start 1) (of_type (pointer thread_ty) (address_of (thread_of n)) ∷ of_type (pointer void) null ∷ []))

-- thrd_join(x,NULL); where x is the local of number n
abbrev pub joins_f : ℕ → StmtNode
joins_f n = evaluate (lib_call int_ty join (thread_of n ∷ of_type int_star null ∷ []))

-- a call that takes the mutex m, like mtx_lock(&m);
abbrev pub global_mutex_call : Lib → StmtNode
global_mutex_call which = evaluate (lib_call int_ty which (of_type (pointer mutex) (address_of (of_type mutex (global 0))) ∷ []))

-- n, the second of the globals
abbrev pub n1 : Expr
n1 = of_type int_ty (global 1)

-- that program, in which two threads count under a mutex
abbrev pub counted : Typed.Typed
counted = whole (record { ty = mutex; init = zero_bytes } ∷ record { ty = int_ty; init = zero_bytes } ∷ []) []
    (func 0 (in_memory thread_ty ∷ in_memory thread_ty ∷ []) (declare 0 None ∷ declare 1 None ∷ starts_f 0 ∷ starts_f 1 ∷ joins_f 0 ∷ joins_f 1 ∷ returns n1 ∷ [])
    ∷ func 1 (in_register (pointer void) ∷ []) (global_mutex_call mutex_lock ∷ assign n1 (op_of ops.Add n1 (k 1)) ∷ global_mutex_call mutex_unlock ∷ returns (k 0) ∷ [])
    ∷ [])

-- thread 1 has the mutex, thread 2 would wait, and each goes on to its end
abbrev pub one_waits : List Pick
one_waits = got 0 ++ got 0 ++ turns 1 1 ++ turns 2 1 ++ turns 1 4 ++ turns 2 5 ++ turns 0 6

-- int main(void){}
abbrev pub nothing_at_all : List Pick → Told
nothing_at_all = of_main [] []

-- whether each turn went, and how many calls of its thread wait then, and which broke a rule, and where
pub data Went : Type 0 where
  begins : Went
  goes : (calls : ℕ) → Went
  ends : Went
  waits : Went
  misfits : Went
  breaks_at : (rule : Rule) (place : ℕ) → Went
  is_none : Went

-- how a turn went, without the world before or after it
abbrev pub went_of : Shown → Went
went_of (it_begins w) = begins
went_of (it_went calls w) = goes calls
went_of (it_ended w) = ends
went_of it_blocked = waits
went_of it_was_unfit = misfits
went_of (it_broke rule place) = breaks_at rule place
went_of no_such_turn = is_none

-- how each turn of an order went
abbrev pub seen : Typed.Typed → List Pick → List Went
seen t order = map went_of (shown t order)

-- what a product, a loop, a block of malloc, a recursion and a block of two threads come to, order by order
pub record RowsStand : Type 0 where
  -- a print and the end; a turn more there is none; and it takes no other answer
  pub product_is : product (turns 0 2) ≡ reached (codes "42\n") (returned (pos 6) ∷ [])
  pub product_printed : product (turns 0 1) ≡ reached (codes "42\n") (running ∷ [])
  pub product_over : product (turns 0 3) ≡ no_turn 2
  pub product_unfit : product (got 0) ≡ no_turn 0
  -- three rounds are over, and the fourth is left by the break
  pub loop_is : loop (turns 0 4) ≡ reached [] (returned (pos 2) ∷ [])
  pub loop_goes_on : loop (turns 0 3) ≡ reached [] (running ∷ [])
  -- malloc, store, load, store, load, print, free, end
  pub heap_is : heap (got 0 ++ turns 0 7) ≡ reached (codes "42\n") (returned (pos 0) ∷ [])
  pub heap_refused : heap (none 0 ++ turns 0 1) ≡ broken rules.C5 1
  pub heap_wants_answer : heap (turns 0 1) ≡ no_turn 0
  -- three calls are entered, two are left, and then main ends
  pub recursion_is : told (run recursion (turns 0 7)) ≡ reached [] (returned (pos 2) ∷ [])
  pub recursion_shows : seen recursion (turns 0 7) ≡ begins ∷ goes 1 ∷ goes 2 ∷ goes 3 ∷ goes 2 ∷ goes 1 ∷ goes 0 ∷ ends ∷ []
  -- a thread frees a block between a load of the pointer and that of the int
  pub freed_between : seen shared_block (first_turns 1 ++ turns 1 2 ++ turns 0 1) ≡ begins ∷ replicate 8 (goes 0) ++ breaks_at rules.C5 77 ∷ []
  pub freed_later : told (run shared_block (first_turns 3 ++ turns 1 3 ++ turns 0 3)) ≡ reached (codes "1\n") (returned (pos 0) ∷ joined (pos 0) ∷ [])
  pub join_waits : seen shared_block (first_turns 4 ++ turns 0 1 ++ got 1 ++ turns 2 1) ≡ begins ∷ replicate 9 (goes 0) ++ waits ∷ misfits ∷ is_none ∷ []

-- each rule, broken once
pub record RulesStand : Type 0 where
  pub c1 : breaks_at_once [] (returns (op_of ops.Add (k 2147483647) (k 1)) ∷ []) ≡ broken rules.C1 0
  pub c2 : breaks_at_once [] (returns (op_of ops.Div (k 1) (k 0)) ∷ []) ≡ broken rules.C2 0
  pub c3 : breaks_at_once [] (returns (op_of ops.Shl (k 1) (k 32)) ∷ []) ≡ broken rules.C3 0
  -- int a;return a;
  pub c4 : breaks_at_once (ints 1) (declare 0 None ∷ returns (v 0) ∷ []) ≡ broken rules.C4 0
  -- int a[1];return a[0];
  pub c4_cells : breaks_at_once (in_memory (array int_ty 1) ∷ []) (declare 0 None ∷ returns (at_index int_ty (decayed int_ty 1 (local 0)) (k 0)) ∷ []) ≡ broken rules.C4 0
  -- int *p=NULL;*p=1;
  pub c5 : breaks_at_once (in_register int_star ∷ []) (declare 0 (Some (of_type int_star null)) ∷ assign (at_star p0) (k 1) ∷ []) ≡ broken rules.C5 0
  -- char a[8];*(int*)(a+1)=1;
  pub c6 : breaks_at_once (in_memory (array (integer char) 8) ∷ [])
      (declare 0 None ∷ assign (at_star (of_type int_star (convert (of_type char_star (pointer_add (decayed (integer char) 8 (local 0)) (k 1)))))) (k 1) ∷ []) ≡ broken rules.C6 0
  -- int a[2];a-1;
  pub c7 : breaks_at_once (in_memory (array int_ty 2) ∷ []) (declare 0 None ∷ evaluate (of_type int_star (pointer_sub (decayed int_ty 2 (local 0)) (k 1))) ∷ []) ≡ broken rules.C7 0
  -- int a[1];int b[1];a<b;
  pub c8 : breaks_at_once (in_memory (array int_ty 1) ∷ in_memory (array int_ty 1) ∷ [])
      (declare 0 None ∷ declare 1 None ∷ evaluate (of_type int_ty (pointer_compare ops.Lt (decayed int_ty 1 (local 0)) (decayed int_ty 1 (local 1)))) ∷ []) ≡ broken rules.C8 0
  pub c9 : dead_pointers (got 0 ++ turns 0 2) ≡ broken rules.C9 2
  -- int a[1];free(a);
  pub c10 : breaks_at_once (in_memory (array int_ty 1) ∷ []) (declare 0 None ∷ free_of (decayed int_ty 1 (local 0)) ∷ []) ≡ broken rules.C10 0
  -- int a[2];memcpy(a,a,4);
  pub c11 : breaks_at_once (in_memory (array int_ty 2) ∷ [])
      (declare 0 None ∷ evaluate (lib_call (pointer void) copy (as_void_star (decayed int_ty 2 (local 0)) ∷ as_void_star (decayed int_ty 2 (local 0)) ∷ size 4 ∷ [])) ∷ []) ≡ broken rules.C11 0
  pub c12 : write_to_literal (turns 0 1) ≡ broken rules.C12 0
  -- mtx_t m;mtx_init(&m,mtx_plain);mtx_lock(&m);mtx_lock(&m);
  pub c13 : of_main (in_memory mutex ∷ []) (declare 0 None ∷ mutex_call mutex_init ∷ mutex_call mutex_lock ∷ mutex_call mutex_lock ∷ []) (turns 0 3) ≡ broken rules.C13 2
  pub c14 : told (run joined_twice (got 0 ++ turns 1 1 ++ turns 0 4)) ≡ broken rules.C14 5
  pub c15 : no_value (returns (call_of 1 [])) (turns 0 3) ≡ broken rules.C15 2
  pub c15_dropped : no_value (evaluate (call_of 1 [])) (turns 0 3) ≡ reached [] (returned (pos 0) ∷ [])
  -- int *p=(int*)&p;return *(long*)&p;
  pub c16 : of_main (in_memory int_star ∷ [])
      (declare 0 (Some (of_type int_star (convert (of_type (pointer int_star) (address_of p0))))) ∷ returns (of_type (integer long) (deref (of_type (pointer (integer long)) (convert (of_type (pointer int_star) (address_of p0)))))) ∷ []) (turns 0 2) ≡ broken rules.C16 1

-- what comes first where several things are to be done, and what small programs come to
pub record OrdersStand : Type 0 where
  -- f is entered, prints and is left, then g, then main prints and ends
  pub left_to_right_is : left_to_right (turns 0 8) ≡ reached (codes "1\n2\n-1\n") (returned (pos 0) ∷ [])
  -- the same of a number and a pointer: int *p=f()+g(); int *p=g()+f(); f()[g()]; g()[f()], where the sum is read through
  pub number_first_is : sums (declare 0 (Some number_first)) (turns 0 7) ≡ reached (codes "1\n2\n") (returned (pos 0) ∷ [])
  pub pointer_first_is : sums (declare 0 (Some pointer_first)) (turns 0 7) ≡ reached (codes "2\n1\n") (returned (pos 0) ∷ [])
  pub number_indexed_is : sums (evaluate (at_star number_first)) (turns 0 8) ≡ reached (codes "1\n2\n") (returned (pos 0) ∷ [])
  pub pointer_indexed_is : sums (evaluate (at_star pointer_first)) (turns 0 8) ≡ reached (codes "2\n1\n") (returned (pos 0) ∷ [])
  -- f is entered, stores and is left; x is read, and stored; it's read; and main ends
  pub update_last_is : update_last (turns 0 7) ≡ reached [] (returned (pos 11) ∷ [])
  pub unset_anew_is : unset_anew (turns 0 2) ≡ broken rules.C4 1
  -- the store into b, and then the load through the pointer to it
  pub left_block_is : left_block (turns 0 2) ≡ broken rules.C5 1
  -- two stores, two copies, a load and the end
  pub structs_is : structs (turns 0 6) ≡ reached [] (returned (pos 2) ∷ [])
  pub short_cuts_is : short_cuts (turns 0 1) ≡ reached [] (returned (pos 4) ∷ [])
  pub nothing_is : nothing_at_all (turns 0 1) ≡ reached [] (returned (pos 0) ∷ [])
  pub end_and_start_is : end_and_start (turns 0 2) ≡ reached (codes "0\n") (returned (pos 0) ∷ [])
  pub number_formats_is : number_formats (turns 0 2) ≡ reached (codes "44 4294967295 -3 -1 -4\n") (returned (pos 0) ∷ [])
  pub one_waits_is : seen counted one_waits ≡ begins ∷ replicate 3 (goes 0) ++ waits ∷ replicate 3 (goes 0) ++ ends ∷ replicate 4 (goes 0) ++ ends ∷ replicate 5 (goes 0) ++ ends ∷ []
  pub counted_is : told (run counted (got 0 ++ got 0 ++ turns 1 5 ++ turns 2 5 ++ turns 0 6)) ≡ reached [] (returned (pos 2) ∷ joined (pos 0) ∷ joined (pos 0) ∷ [])
