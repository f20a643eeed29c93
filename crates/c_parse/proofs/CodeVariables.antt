-- Variables at file scope, as the code reads them: the first declarator, and then the rest.
use Rattle.std.proofs.Common.{◌≡◌, ℕ, List, true}
use Rattle.c_grammar.specs.declared.terminal.Terminal.{Terminal}
use Rattle.c_lex.specs.declared.token.Mark.TheVariants.{Comma, Semicolon}
use Rattle.c_tree.specs.declared.syntax.Name.{Name}
use Rattle.c_tree.specs.declared.syntax.Pointer.{Pointer}
use Rattle.c_tree.specs.Syntax.{declarator, variables, exprs_of}
use Rattle.c_grammar.specs.Grammar.{stars}
use Rattle.c_grammar.specs.inner.Tokens.{tok, mark_is, is_mark}
use Rattle.c_grammar.specs.inner.Reading.{level_at, dims, init_by, variable_rest}
use Rattle.c_parse.specs.inner.Parts.{initialiser, next_initialised, variable_by}
use Rattle.c_parse.proofs.CodeRows.{rest_behind}

pub variable_is : (ps : List Pointer) (n : Name) (c : ℕ) (ts : List Terminal) → variable_rest ps n c ts ≡ variable_by ps n c ts
unfolding variable_rest
variable_is ps n c ts =
    rest_behind (dims 128 (level_at true 128) (stars 0 ps)) (initialiser true 129) (is_mark Comma) (next_initialised true 129 128) (tok 129 (mark_is Semicolon))
    (λ es v. init_by (declarator ps n (exprs_of es)) v) variables c ts
