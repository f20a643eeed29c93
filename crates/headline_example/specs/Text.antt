-- The text, and its typed tree.
use Rattle.std.specs.Prelude.{ℕ, ◌+◌, List, [], ◌∷◌, codes, Some, pos, false}
use Rattle.ak_words.specs.declared.operation.Op.TheVariants as ops
use Rattle.ak_words.specs.IntType.{int, unsigned_long}
use Rattle.c_tree.specs.Typed.{Ty, void, integer, pointer, bytes, signed, print, malloc, free, Expr, at, num, local, deref, convert, binary, lib, Exprs, no_exprs, more_exprs}
use Rattle.c_tree.specs.Typed.{at_stmt, declare, return_, assign, evaluate, no_stmts, more_stmts, Func, Typed}

-- its bytes
abbrev pub text : List ℕ
text = codes "int main(void){int *p=malloc(4);*p=41;*p=*p+1;printf(\"%d\\n\",*p);free(p);return 0;}"

-- the type int, and the type int *
abbrev pub int_ty : Ty
int_ty = integer int

-- a pointer to an int
abbrev pub int_star : Ty
int_star = pointer int_ty

-- p, as it is read at a place
abbrev pub p_at : (place : ℕ) → Expr
p_at place = at place int_star (local 0)

-- *p, with the place of the star
abbrev pub star_p : (place : ℕ) → Expr
star_p place = at place int_ty (deref (p_at (place + 1)))

-- an argument alone
abbrev pub alone : Expr → Exprs
alone e = more_exprs e no_exprs

-- an int
abbrev pub int_at : (place value : ℕ) → Expr
int_at place value = at place int_ty (num int (pos value))

-- main: it has one local, p, and no parameter
abbrev pub main_func : Func
main_func = record {
  params = 0;
  locals = record { ty = int_star; in_memory = false } ∷ [];
  result = int_ty;
  body =
      more_stmts (at_stmt 20 (declare 0 (Some (at 22 int_star (convert (at 22 (pointer void) (lib malloc (alone (at 29 (integer unsigned_long) (convert (int_at 29 4)))))))))))
      (more_stmts (at_stmt 34 (assign (star_p 32) (int_at 35 41)))
      (more_stmts (at_stmt 40 (assign (star_p 38) (at 43 int_ty (binary ops.Add (star_p 41) (int_at 44 1)))))
      (more_stmts (at_stmt 46 (evaluate (at 46 int_ty (lib (print (signed 32 ∷ bytes (10 ∷ []) ∷ [])) (alone (star_p 60))))))
      (more_stmts (at_stmt 64 (evaluate (at 64 void (lib free (alone (at 69 (pointer void) (convert (p_at 69))))))))
      (more_stmts (at_stmt 72 (return_ (Some (int_at 79 0))))
      no_stmts)))));
}

-- the typed tree: main alone
abbrev pub tree : Typed
tree = record { structs = []; globals = []; literals = []; funcs = main_func ∷ []; main = 0 }
