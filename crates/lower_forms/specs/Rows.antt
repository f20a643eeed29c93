-- Worked rows: small pieces of C and the code that they are lowered to, written by hand.
use Rattle.std.specs.Prelude.{◌≡◌, ℕ, pos, true, false, List, [], ◌∷◌, Option, Some, None}
use Rattle.ak_words.specs.declared.operation.Op.TheVariants.{Add, Sub, Mul, Shl, Eq}
use Rattle.ak_words.specs.IntType.{char, int, unsigned_int, long, unsigned_long}
use Rattle.block_store.specs.declared.values.Access.TheVariants as accesses
use Rattle.block_store.specs.declared.values.Change.TheVariants as changes
use Rattle.c_tree.specs.Typed as tree
use Rattle.struct_ir.specs.Nodes as ir
use Rattle.lower_forms.specs.Programs.{lowered}

-- a row of these nodes
abbrev pub row : List ir.Node → ir.Nodes
row [] = ir.no_nodes
row (n ∷ rest) = ir.more_nodes n (row rest)

-- these statements in a row
abbrev pub stmts : List tree.Stmt → tree.Stmts
stmts [] = tree.no_stmts
stmts (s ∷ rest) = tree.more_stmts s (stmts rest)

-- a function's result, locals and statements
abbrev pub func : tree.Ty → List tree.Local → List tree.Stmt → tree.Func
func result locals body = record { params = 0; locals = locals; result = result; body = stmts body }

-- a program of this main and one function more
abbrev pub program : (main other : tree.Func) → tree.Typed
program main other = record { structs = []; globals = []; literals = []; funcs = other ∷ main ∷ []; main = 1 }

-- a local that is kept in a register, and one in memory
abbrev pub kept : tree.Ty → tree.Local
kept ty = record { ty = ty; in_memory = false }

-- one in memory
abbrev pub lying : tree.Ty → tree.Local
lying ty = record { ty = ty; in_memory = true }

-- a register is set
abbrev pub sets : (place to : ℕ) → ir.Calc → ir.Node
sets place to calc = ir.plain place (ir.set to calc)

-- an action is done
abbrev pub acts : (place : ℕ) → ir.Action → List ir.Place → (to : Option ℕ) → List ℕ → ir.Node
acts place action places to temps = ir.plain place (ir.step (record { action = action; places = places; to = to; temps = temps; slots = [] }))

-- what a pointer points to, and an element of it
abbrev pub at : (base : ℕ) → ir.Place
at base = record { base = base; index = None; scale = 0; offset = 0; slot = None }

-- an element of it
abbrev pub element : (base index scale : ℕ) → ir.Place
element base index scale = record { base = base; index = Some index; scale = scale; offset = 0; slot = None }

-- void churn(void){char *c=malloc(100);free(c);}
abbrev pub churn : tree.Func
churn = func tree.void (kept (tree.pointer (tree.integer char)) ∷ [])
    (tree.at_stmt 23 (tree.declare 0 (Some (tree.at 25 (tree.pointer (tree.integer char)) (tree.convert (tree.at 25 (tree.pointer tree.void)
    (tree.lib tree.malloc (tree.more_exprs (tree.at 32 (tree.integer unsigned_long) (tree.convert (tree.at 32 (tree.integer int) (tree.num int (pos 100))))) tree.no_exprs)))))))
    ∷ tree.at_stmt 37 (tree.evaluate (tree.at 37 tree.void
    (tree.lib tree.free (tree.more_exprs (tree.at 42 (tree.pointer tree.void) (tree.convert (tree.at 42 (tree.pointer (tree.integer char)) (tree.local 0)))) tree.no_exprs)))) ∷ [])

-- its code: the pointer is kept in register 0
abbrev pub churn_code : ir.Func
churn_code = record {
  params = 0;
  temps = 5;
  slots = 0;
  objects = [];
  nodes = row (sets 23 0 ir.unset ∷ sets 32 1 (ir.constant int (pos 100)) ∷ sets 32 1 (ir.convert unsigned_long 1) ∷ acts 25 ir.malloc [] (Some 1) (1 ∷ []) ∷ sets 23 0 (ir.copy 1)
      ∷ sets 42 1 (ir.copy 0) ∷ acts 37 ir.free [] None (1 ∷ []) ∷ []);
}

-- the number n, an int that is converted to a size_t
abbrev pub size : (place n : ℕ) → tree.Expr
size place n = tree.at place (tree.integer unsigned_long) (tree.convert (tree.at place (tree.integer int) (tree.num int (pos n))))

-- a call of the library at this place, whose void * is converted to a char *
abbrev pub as_text : (place : ℕ) → tree.Lib → tree.Exprs → tree.Expr
as_text place which args = tree.at place (tree.pointer (tree.integer char)) (tree.convert (tree.at place (tree.pointer tree.void) (tree.lib which args)))

-- void grow(void){char *c=calloc(2,4);c=realloc(c,100);}
abbrev pub grow : tree.Func
grow = func tree.void (kept (tree.pointer (tree.integer char)) ∷ [])
    (tree.at_stmt 22 (tree.declare 0 (Some (as_text 24 tree.calloc (tree.more_exprs (size 31 2) (tree.more_exprs (size 33 4) tree.no_exprs)))))
    ∷ tree.at_stmt 37 (tree.assign (tree.at 36 (tree.pointer (tree.integer char)) (tree.local 0))
    (as_text 38 tree.realloc (tree.more_exprs (tree.at 46 (tree.pointer tree.void) (tree.convert (tree.at 46 (tree.pointer (tree.integer char)) (tree.local 0)))) (tree.more_exprs (size 48 100) tree.no_exprs)))) ∷ [])

-- its code: each of the two reads two registers, and none has a place
abbrev pub grow_code : ir.Func
grow_code = record {
  params = 0;
  temps = 9;
  slots = 0;
  objects = [];
  nodes = row (sets 22 0 ir.unset ∷ sets 31 1 (ir.constant int (pos 2)) ∷ sets 31 1 (ir.convert unsigned_long 1) ∷ sets 33 2 (ir.constant int (pos 4)) ∷ sets 33 2 (ir.convert unsigned_long 2)
      ∷ acts 24 ir.calloc [] (Some 1) (1 ∷ 2 ∷ []) ∷ sets 22 0 (ir.copy 1)
      ∷ sets 46 1 (ir.copy 0) ∷ sets 48 2 (ir.constant int (pos 100)) ∷ sets 48 2 (ir.convert unsigned_long 2) ∷ acts 38 ir.realloc [] (Some 1) (1 ∷ 2 ∷ []) ∷ sets 37 0 (ir.copy 1) ∷ []);
}

-- a pointer to an _Atomic int, local 0, at this place
abbrev pub atomic_star : (place : ℕ) → tree.Expr
atomic_star place = tree.at place (tree.pointer (tree.atomic int)) (tree.local 0)

-- an int, at this place
abbrev pub an_int : (place n : ℕ) → tree.Expr
an_int place n = tree.at place (tree.integer int) (tree.num int (pos n))

-- void change(void){_Atomic int *a;int *e; .. *a-=2;atomic_compare_exchange_strong(a,e,3);atomic_store(a,4);}
abbrev pub change : tree.Func
change = func tree.void (kept (tree.pointer (tree.atomic int)) ∷ kept (tree.pointer (tree.integer int)) ∷ [])
    (tree.at_stmt 30 (tree.update (tree.at 28 (tree.atomic int) (tree.deref (atomic_star 29))) Sub (an_int 32 2))
    ∷ tree.at_stmt 40 (tree.evaluate (tree.at 40 (tree.integer int) (tree.lib tree.atomic_compare
    (tree.more_exprs (atomic_star 41) (tree.more_exprs (tree.at 42 (tree.pointer (tree.integer int)) (tree.local 1)) (tree.more_exprs (an_int 43 3) tree.no_exprs))))))
    ∷ tree.at_stmt 50 (tree.evaluate (tree.at 50 tree.void (tree.lib tree.atomic_store (tree.more_exprs (atomic_star 51) (tree.more_exprs (an_int 52 4) tree.no_exprs))))) ∷ [])

-- its code: one step each; what is taken away is 0 minus it, in the unsigned type
abbrev pub change_code : ir.Func
change_code = record {
  params = 0;
  temps = 6;
  slots = 0;
  objects = [];
  nodes = row (sets 29 2 (ir.copy 0) ∷ sets 32 3 (ir.constant int (pos 2)) ∷ sets 28 3 (ir.convert unsigned_int 3) ∷ sets 28 4 (ir.constant unsigned_int (pos 0)) ∷ sets 28 3 (ir.apply Sub unsigned_int 4 3)
      ∷ sets 28 3 (ir.convert int 3) ∷ acts 28 (ir.change changes.Add int) (at 0 ∷ []) None (3 ∷ [])
      ∷ sets 41 2 (ir.copy 0) ∷ sets 42 3 (ir.copy 1) ∷ sets 43 4 (ir.constant int (pos 3)) ∷ acts 40 (ir.compare int) (at 2 ∷ at 3 ∷ []) (Some 2) (4 ∷ [])
      ∷ sets 51 2 (ir.copy 0) ∷ sets 52 3 (ir.constant int (pos 4)) ∷ acts 50 (ir.store (accesses.Number int)) (at 2 ∷ []) None (3 ∷ []) ∷ []);
}

-- the value of a local of type int, by the place and its number
abbrev pub number : (place local : ℕ) → tree.Expr
number place local = tree.at place (tree.integer int) (tree.local local)

-- the value of a local of type char
abbrev pub a_char : (place local : ℕ) → tree.Expr
a_char place local = tree.at place (tree.integer char) (tree.local local)

-- the value of a local of type long
abbrev pub a_long : (place local : ℕ) → tree.Expr
a_long place local = tree.at place (tree.integer long) (tree.local local)

-- void update(void){int i;char c;long l; .. i++;c+=i;i-=l;i<<=l;i=(int)c;i=(int)i;}
abbrev pub update : tree.Func
update = func tree.void (kept (tree.integer int) ∷ kept (tree.integer char) ∷ kept (tree.integer long) ∷ [])
    (tree.at_stmt 41 (tree.update (number 40 0) Add (an_int 42 1))
    ∷ tree.at_stmt 51 (tree.update (a_char 50 1) Add (number 52 0))
    ∷ tree.at_stmt 61 (tree.update (number 60 0) Sub (a_long 62 2))
    ∷ tree.at_stmt 71 (tree.update (number 70 0) Shl (a_long 72 2))
    ∷ tree.at_stmt 81 (tree.assign (number 80 0) (tree.at 82 (tree.integer int) (tree.convert (a_char 83 1))))
    ∷ tree.at_stmt 91 (tree.assign (number 90 0) (tree.at 92 (tree.integer int) (tree.convert (number 93 0)))) ∷ [])

-- its code: an operand is converted only where it's of another type than the one in which the operator works, and so is the result where
-- that isn't the type of the left side; a shift takes each operand in its own, and a cast to a number's own type is nothing
abbrev pub update_code : ir.Func
update_code = record {
  params = 0;
  temps = 7;
  slots = 0;
  objects = [];
  nodes = row (sets 42 3 (ir.constant int (pos 1)) ∷ sets 40 4 (ir.copy 0) ∷ sets 41 0 (ir.apply Add int 4 3)
      ∷ sets 52 3 (ir.copy 0) ∷ sets 50 4 (ir.copy 1) ∷ sets 51 4 (ir.convert int 4) ∷ sets 51 1 (ir.apply Add int 4 3) ∷ sets 51 1 (ir.convert char 1)
      ∷ sets 62 3 (ir.copy 2) ∷ sets 60 4 (ir.copy 0) ∷ sets 61 4 (ir.convert long 4) ∷ sets 61 0 (ir.apply Sub long 4 3) ∷ sets 61 0 (ir.convert int 0)
      ∷ sets 72 3 (ir.copy 2) ∷ sets 70 4 (ir.copy 0) ∷ sets 71 0 (ir.apply Shl int 4 3)
      ∷ sets 83 3 (ir.copy 1) ∷ sets 82 3 (ir.convert int 3) ∷ sets 81 0 (ir.copy 3) ∷ sets 93 3 (ir.copy 0) ∷ sets 91 0 (ir.copy 3) ∷ []);
}

-- p[i], where p is local 0 and i is local 1
abbrev pub element_of : (place : ℕ) → tree.Expr
element_of place = tree.at place (tree.integer int)
    (tree.deref (tree.at place (tree.pointer (tree.integer int)) (tree.pointer_add (tree.at 10 (tree.pointer (tree.integer int)) (tree.local 0)) (number 12 1))))

-- int main(void){int *p;int i;int s; .. p[i]=i*i; s=s+p[i]; while(1){int a[2];break;} .. }
abbrev pub main : tree.Func
main = func (tree.integer int) (kept (tree.pointer (tree.integer int)) ∷ kept (tree.integer int) ∷ kept (tree.integer int) ∷ lying (tree.array (tree.integer int) 2) ∷ [])
    (tree.at_stmt 14 (tree.assign (element_of 11) (tree.at 16 (tree.integer int) (tree.binary Mul (number 15 1) (number 17 1))))
    ∷ tree.at_stmt 20 (tree.assign (number 19 2) (tree.at 22 (tree.integer int) (tree.binary Add (number 21 2) (element_of 24))))
    ∷ tree.at_stmt 30 (tree.while_ (tree.at 36 (tree.integer int) (tree.num int (pos 1)))
    (tree.at_stmt 38 (tree.block (stmts (tree.at_stmt 43 (tree.declare 3 None) ∷ tree.at_stmt 48 tree.break_ ∷ []))))) ∷ [])

-- its code: an element is reached by the register of the pointer and an index; the array ends where its block does, and behind the loop,
-- for the break
abbrev pub main_code : ir.Func
main_code = record {
  params = 0;
  temps = 12;
  slots = 0;
  objects = record { size = 8; align = 4 } ∷ [];
  nodes = row (sets 10 4 (ir.copy 0) ∷ sets 12 5 (ir.copy 1) ∷ sets 11 4 (ir.pointer_add 4 5 4)
      ∷ sets 15 6 (ir.copy 1) ∷ sets 17 7 (ir.copy 1) ∷ sets 16 6 (ir.apply Mul int 6 7) ∷ acts 11 (ir.store (accesses.Number int)) (element 0 5 4 ∷ []) None (6 ∷ [])
      ∷ sets 21 4 (ir.copy 2) ∷ sets 10 5 (ir.copy 0) ∷ sets 12 6 (ir.copy 1) ∷ sets 24 5 (ir.pointer_add 5 6 4) ∷ acts 24 (ir.load (accesses.Number int)) (element 0 6 4 ∷ []) (Some 5) []
      ∷ sets 22 4 (ir.apply Add int 4 5) ∷ sets 20 2 (ir.copy 4)
      ∷ ir.loop 30 (row (sets 36 4 (ir.constant int (pos 1)) ∷ ir.if_ 36 4 ir.no_nodes (row (ir.break_ 36 ∷ []))
      ∷ ir.plain 43 (ir.begin_object 0) ∷ ir.break_ 48 ∷ ir.plain 38 (ir.end_object 0) ∷ [])) ir.no_nodes ∷ ir.plain 30 (ir.end_object 0)
      ∷ sets 0 0 (ir.constant int (pos 0)) ∷ ir.ret 0 (Some 0) ∷ []);
}

-- an array of n numbers of type int, in memory
abbrev pub numbers : (n : ℕ) → tree.Local
numbers n = lying (tree.array (tree.integer int) n)

-- void leave(void){int s; .. while(s){int a[2];if(s)continue;{int b[1];if(s)break;}}}
abbrev pub leave : tree.Func
leave = func tree.void (kept (tree.integer int) ∷ numbers 2 ∷ numbers 1 ∷ [])
    (tree.at_stmt 20 (tree.while_ (number 26 0) (tree.at_stmt 28 (tree.block (stmts (tree.at_stmt 31 (tree.declare 1 None)
    ∷ tree.at_stmt 39 (tree.if_ (number 42 0) (tree.at_stmt 44 tree.continue_))
    ∷ tree.at_stmt 53 (tree.block (stmts (tree.at_stmt 56 (tree.declare 2 None) ∷ tree.at_stmt 64 (tree.if_ (number 67 0) (tree.at_stmt 69 tree.break_)) ∷ []))) ∷ []))))) ∷ [])

-- its code: each array ends where its block does; for the continue both end before the next round, and for the break both behind the loop,
-- the inner one's first
abbrev pub leave_code : ir.Func
leave_code = record {
  params = 0;
  temps = 4;
  slots = 0;
  objects = record { size = 8; align = 4 } ∷ record { size = 4; align = 4 } ∷ [];
  nodes = row (ir.loop 20 (row (sets 26 3 (ir.copy 0) ∷ ir.if_ 26 3 ir.no_nodes (row (ir.break_ 26 ∷ []))
      ∷ ir.plain 31 (ir.begin_object 0) ∷ sets 42 3 (ir.copy 0) ∷ ir.if_ 42 3 (row (ir.next_ 44 ∷ [])) ir.no_nodes
      ∷ ir.plain 56 (ir.begin_object 1) ∷ sets 67 3 (ir.copy 0) ∷ ir.if_ 67 3 (row (ir.break_ 69 ∷ [])) ir.no_nodes ∷ ir.plain 53 (ir.end_object 1)
      ∷ ir.plain 28 (ir.end_object 0) ∷ []))
      (row (ir.plain 20 (ir.end_object 1) ∷ ir.plain 20 (ir.end_object 0) ∷ []))
      ∷ ir.plain 20 (ir.end_object 1) ∷ ir.plain 20 (ir.end_object 0) ∷ []);
}

-- void negate(void){int i;char c;int *p; .. i=!i;i=!c;i=!p;}, where the last ! is of the pointer itself
abbrev pub negate : tree.Func
negate = func tree.void (kept (tree.integer int) ∷ kept (tree.integer char) ∷ kept (tree.pointer (tree.integer int)) ∷ [])
    (tree.at_stmt 41 (tree.assign (number 40 0) (tree.at 42 (tree.integer int) (tree.not_ (number 43 0))))
    ∷ tree.at_stmt 51 (tree.assign (number 50 0) (tree.at 52 (tree.integer int) (tree.not_ (a_char 53 1))))
    ∷ tree.at_stmt 61 (tree.assign (number 60 0) (tree.at 62 (tree.integer int) (tree.not_ (tree.at 63 (tree.pointer (tree.integer int)) (tree.local 2))))) ∷ [])

-- its code: a number is compared to 0, promoted before where it's of a narrower type than int, and a pointer is tested
abbrev pub negate_code : ir.Func
negate_code = record {
  params = 0;
  temps = 7;
  slots = 0;
  objects = [];
  nodes = row (sets 43 3 (ir.copy 0) ∷ sets 42 4 (ir.constant int (pos 0)) ∷ sets 42 3 (ir.apply Eq int 3 4) ∷ sets 41 0 (ir.copy 3)
      ∷ sets 53 3 (ir.copy 1) ∷ sets 52 3 (ir.convert int 3) ∷ sets 52 4 (ir.constant int (pos 0)) ∷ sets 52 3 (ir.apply Eq int 3 4) ∷ sets 51 0 (ir.copy 3)
      ∷ sets 63 3 (ir.copy 2) ∷ ir.if_ 62 3 (row (sets 62 3 (ir.constant int (pos 0)) ∷ [])) (row (sets 62 3 (ir.constant int (pos 1)) ∷ [])) ∷ sets 61 0 (ir.copy 3) ∷ []);
}

-- the rows: what these functions are lowered to
pub record RowsHold : Type 0 where
  pub lowered_program : lowered (program main churn) ≡ record { globals = []; literals = []; funcs = churn_code ∷ main_code ∷ []; main = 1 }
  pub lowered_allocations : lowered (program main grow) ≡ record { globals = []; literals = []; funcs = grow_code ∷ main_code ∷ []; main = 1 }
  pub lowered_changes : lowered (program main change) ≡ record { globals = []; literals = []; funcs = change_code ∷ main_code ∷ []; main = 1 }
  pub lowered_updates : lowered (program main update) ≡ record { globals = []; literals = []; funcs = update_code ∷ main_code ∷ []; main = 1 }
  pub lowered_jumps : lowered (program main leave) ≡ record { globals = []; literals = []; funcs = leave_code ∷ main_code ∷ []; main = 1 }
  pub lowered_negations : lowered (program main negate) ≡ record { globals = []; literals = []; funcs = negate_code ∷ main_code ∷ []; main = 1 }
