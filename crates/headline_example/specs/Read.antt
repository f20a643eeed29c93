-- What reading the text comes to.
use Rattle.std.specs.Prelude.{◌≡◌, List}
use Rattle.c_lex.specs.declared.token.Token.{Token}
use Rattle.c_lex.specs.Tokens.{AreTokens}
use Rattle.c_tree.specs.Syntax.{File}
use Rattle.c_tree.specs.TypedForm.{IsWellFormed}
use Rattle.c_grammar.specs.Language.{Parses}
use Rattle.c_typing.specs.Faults.{typed}
use Rattle.c_typing.specs.Programs.{judged_file}
use Rattle.headline_example.specs.Text.{text, tree}

-- the text has tokens, these are a file of the grammar, and that is typed to the tree, which is well formed
pub record IsTheTree : Type 0 where
  pub tokens : List Token
  pub file : File
  pub lexed : AreTokens text tokens
  pub parsed : Parses text tokens file
  pub judged : judged_file text file ≡ typed tree
  pub well_formed : IsWellFormed tree
