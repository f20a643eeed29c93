-- What a call on parts that are judged answers, and what the code has of several of them.
use Rattle.std.specs.Prelude.{◌≡◌, ℕ, Bool, true, false, List, Option, Some, Result, Ok, Err, Vec}
use Rattle.std.specs.declared.alloc.Global.{Global}
use Rattle.c_lex.specs.declared.refusal.CompileFault.{CompileFault}
use Rattle.c_tree.specs.declared.typed.Expr.{Expr as CodeExpr}
use Rattle.c_tree.specs.Typed.{Ty, Expr}
use Rattle.c_typing.specs.Faults.{Judged, Gives}
use Rattle.c_typing.specs.Scope.{Binding, library_name, printf, thrd_create}
use Rattle.type_context.specs.declared.context.MemberType.{MemberType}
use Rattle.type_context.specs.ContextViews.{members_view}
use Rattle.type_rules.specs.ListViews.{exprs_view}

-- the members of a struct, each with its type
abbrev pub types_of_members : Vec MemberType Global → List (List ℕ × Ty)
types_of_members v = members_view v.items

-- the function that a thread begins with, and the arguments behind it
abbrev pub started_view : Option ℕ × Vec CodeExpr Global → Option ℕ × List Expr
started_view p = (p.0, exprs_view p.1)

-- a rule on a part that the code has judged: the part's own fault, or what the rule gives of the part that is typed
abbrev pub Finishes : {A B D : Type 0} → (view : B → D) → Result A CompileFault → (A → Judged D) → Result B CompileFault → Type 0
Finishes view (Ok x) rule r = Gives view r (rule x)
Finishes view (Err e) rule r = r ≡ Err e

-- a name means printf
abbrev pub is_printf : Option Binding → Bool
is_printf (Some (library_name printf)) = true
is_printf m = false

-- a name means thrd_create
abbrev pub is_thrd_create : Option Binding → Bool
is_thrd_create (Some (library_name thrd_create)) = true
is_thrd_create m = false
