-- The laws of the judgement.
use Rattle.std.specs.Prelude.{◌≡◌, ◌≢◌, ◌⊎◌, ℕ, false, List, [], Contains, Some}
use Rattle.std.specs.List.{AllByRecursion}
use Rattle.c_lex.specs.declared.refusal.Refusal.{Refusal}
use Rattle.c_tree.specs.Syntax as source
use Rattle.c_tree.specs.Typed.{Typed}
use Rattle.c_tree.specs.TypedForm.{IsWellFormed}
use Rattle.c_typing.specs.Faults.{typed, faults, first, comes_before}
use Rattle.c_typing.specs.Programs.{judged_file}

-- one of the faults, before which none of them comes
pub record IsLeast (r : Refusal) (rs : List Refusal) : Type 0 where
  pub here : Contains rs r
  pub least : AllByRecursion (λ s. comes_before s r ≡ false) rs

-- the refusal of a program is the least of its faults
abbrev pub RefusesLeast : Type 0
RefusesLeast = (text : List ℕ) (f : source.File) (r : Refusal) → first (judged_file text f) ≡ Some r → IsLeast r (faults (judged_file text f))

-- a program has one typed tree and no fault, or one refusal and a fault
abbrev pub TypedOrRefused : Type 0
TypedOrRefused = (text : List ℕ) (f : source.File) →
    ((t : Typed) × (judged_file text f ≡ typed t) × (faults (judged_file text f) ≡ [])) ⊎
    ((r : Refusal) × (first (judged_file text f) ≡ Some r) × (faults (judged_file text f) ≢ []))

-- ---- as the grammar has it: no declaration stands under an if or a loop (6.8.4, 6.8.5)

-- a statement that is no declaration
abbrev pub IsAlone : source.Stmt → Type 0
IsAlone (source.declare d) = ⊥
IsAlone s = Unit {0}

-- statements that are no declarations
abbrev pub AreAlone : source.Stmts → Type 0
AreAlone source.no_stmts = Unit {0}
AreAlone (source.more_stmts s rest) = IsAlone s × AreAlone rest

abbrev mutual
  -- no declaration stands under an if or a loop, or directly between the braces of a switch, anywhere in this statement
  pub IsWritten : source.Stmt → Type 0
  IsWritten (source.block place items) = AreWritten items
  IsWritten (source.if_then place e s) = IsAlone s × IsWritten s
  IsWritten (source.if_else place e s t) = IsAlone s × IsWritten s × IsAlone t × IsWritten t
  IsWritten (source.while place e s) = IsAlone s × IsWritten s
  IsWritten (source.for place first e step s) = IsAlone s × IsWritten s
  IsWritten (source.do_while place s e) = IsAlone s × IsWritten s
  IsWritten (source.switch place e entries) = AreAlone entries × AreWritten entries
  IsWritten s = Unit {0}

  -- no declaration stands under an if or a loop anywhere in these statements
  pub AreWritten : source.Stmts → Type 0
  AreWritten source.no_stmts = Unit {0}
  AreWritten (source.more_stmts s rest) = IsWritten s × AreWritten rest

-- no declaration stands under an if or a loop in the body of a function, where there is one
abbrev pub IsBodyWritten : source.Rest → Type 0
IsBodyWritten (source.function pointers n params (Some body)) = AreWritten (source.stmts_of body.items)
IsBodyWritten rest = Unit {0}

-- the same of an external declaration
abbrev pub IsExternalWritten : source.External → Type 0
IsExternalWritten (source.types_by specs declarators) = Unit {0}
IsExternalWritten (source.external_of storage specs rest) = IsBodyWritten rest

-- no declaration stands under an if or a loop, or directly between the braces of a switch, in any function of a file
abbrev pub IsFileWritten : source.File → Type 0
IsFileWritten f = AllByRecursion IsExternalWritten f.externals

-- the typed tree that a program has is well formed
abbrev pub GivesWellFormed : Type 0
GivesWellFormed = (text : List ℕ) (f : source.File) (t : Typed) → IsFileWritten f → judged_file text f ≡ typed t → IsWellFormed t
