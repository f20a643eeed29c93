-- Files of the grammar, and their typed trees.
use Rattle.std.specs.Prelude.{◌≡◌, ℕ, List}
use Rattle.c_tree.specs.Syntax.{File}
use Rattle.c_tree.specs.Typed.{Typed}
use Rattle.c_tree.specs.TypedForm.{IsWellFormed}
use Rattle.c_grammar.specs.Grammar.{IsFile}
use Rattle.c_typing.specs.Faults.{typed}
use Rattle.c_typing.specs.Programs.{judged_file}

-- the typed tree that a file of the grammar has is well formed
abbrev pub ParsedGivesWellFormed : Type 0
ParsedGivesWellFormed = (text : List ℕ) (f : File) (t : Typed) → IsFile f → judged_file text f ≡ typed t → IsWellFormed t
