-- The numbers that locals get, as the code has them.
use Rattle.std.specs.Prelude.{ℕ, ◌+◌, false, true, if◌then◌else◌, ◌||◌, List, [], ◌∷◌, map, Option, Some, None, slice_get}
use Rattle.c_tree.specs.declared.typed.Local.{Local as CodeLocal}
use Rattle.c_tree.specs.declared.typed.Stmt.{Stmt as CodeStmt}
use Rattle.c_tree.specs.Typed.{Ty, Local, Func, Stmt, at_stmt, declare, at, local, Stmts, more_stmts}
use Rattle.c_tree.specs.TypedViews.{local_view, stmt_view}
use Rattle.type_locals.specs.declared.numbering.Numbers.{Numbers}
use Rattle.type_locals.specs.declared.locals.Further.{Further as CodeFurther}
use Rattle.c_typing.specs.Numbering.{Param, passed_type, is_block, is_in}
use Rattle.type_locals.specs.LocalViews.{param_view}

-- what a table says, or else so many more
abbrev pub or_more : (further n : ℕ) → Option ℕ → ℕ
or_more further n (Some m) = m
or_more further n None = n + further

-- the number that a local has in the end
abbrev pub new_number : Numbers → ℕ → ℕ
new_number numbers n = or_more numbers.further n (slice_get numbers.params.items n)

-- ---- parameters

-- the further local of a parameter that is in memory, with the parameter's number
abbrev pub further_view : CodeFurther → ℕ × Param
further_view x = (x.number, param_view x.param.now)

-- each of them
abbrev pub furthers_view : List CodeFurther → List (ℕ × Param)
furthers_view xs = map further_view xs

-- the numbers of parameters from k on, where the next further local has a number
abbrev pub table_from : (k next : ℕ) → List Param → (addressed : List ℕ) → List ℕ
table_from k next [] addressed = []
table_from k next (p ∷ ps) addressed =
    if is_block p.ty || is_in k addressed then next ∷ table_from (1 + k) (1 + next) ps addressed else k ∷ table_from (1 + k) next ps addressed

-- ---- locals

-- the locals of the typed tree
abbrev pub locals_view : List CodeLocal → List Local
locals_view ls = map local_view ls

-- a parameter's own local, which is not in memory
abbrev pub param_local : Param → Local
param_local p = record { ty = passed_type p; in_memory = false }

-- the local in memory to which a parameter is copied
abbrev pub further_local : ℕ × Param → Local
further_local x = record { ty = x.1.ty; in_memory = true }

-- the declaration of a further local
abbrev pub copy_of : ℕ → ℕ × Param → Stmt
copy_of number x = at_stmt x.1.place (declare number (Some (at x.1.place (passed_type x.1) (local x.0))))

-- statements before others
abbrev pub followed : List CodeStmt → Stmts → Stmts
followed [] rest = rest
followed (s ∷ ss) rest = more_stmts (stmt_view s) (followed ss rest)

-- ---- the function

-- a function of so many parameters, with these locals, this type of result and this body
abbrev pub func : ℕ → List Local → Ty → Stmts → Func
func params locals t body = record { params = params; locals = locals; result = t; body = body }
