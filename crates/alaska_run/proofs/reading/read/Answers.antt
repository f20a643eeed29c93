use Rattle.std.proofs.Common.{List, subst, inr, arith}
use Rattle.std.proofs.lemmas.Result.{err_from_is_err_and}
use Rattle.c_lex.specs.declared.token.Token.{Token}
use Rattle.c_tree.specs.SyntaxViews.{view}
use Rattle.c_tree.specs.TypedViews.{typed_view}
use Rattle.c_typing.specs.Programs.{judged_file}
use Rattle.c_grammar.specs.Language.{Parses}
use Rattle.alaska_run.specs.declared.reading.Reading.{Reading}
use Rattle.alaska_run.specs.Reading.{Refuses}
use Rattle.alaska_run.proofs.FewTokens.{tokens_inside, tokens_few}
use Rattle.alaska_run.proofs.Reasons.{refused_by}
use Rattle.alaska_run.proofs.reading.read.Goals as goal

-- the tokens of a text end once
pub parse-requires-clause-end : goal.parse-requires-clause-end
parse-requires-clause-end c = rw c.deref.ensures.value (c.tokens_end_once.ensures c.args.text.now c.in_ok-tokens.tokens.items c.in_ok-tokens.ensures.found)

-- they lie in it
pub parse-requires-clause-inside : goal.parse-requires-clause-inside
parse-requires-clause-inside c = rw c.deref.ensures.value (tokens_inside c.ordered.ensures c.args.text.now c.in_ok-tokens.tokens.items c.in_ok-tokens.ensures.found)

-- and are few
pub parse-requires-clause-few : goal.parse-requires-clause-few
parse-requires-clause-few c = rw c.deref.ensures.value (omega (arith, c.requires, tokens_few c.ordered.ensures c.args.text.now c.in_ok-tokens.tokens.items c.in_ok-tokens.ensures.found))

-- a file whose names or types break a rule
pub returns-in_err-typed-clause-refused : goal.returns-in_err-typed-clause-refused
returns-in_err-typed-clause-refused c =
    let tree = view c.in_ok-file.file in
    let p = err_from_is_err_and c.from_residual-in_err-typed.result c.from_residual-in_err-typed.ensures.1 in
    rw (p.1, p.2) (refused_by Reading _ (judged_file c.args.text.now tree) (λ r. Refuses c.args.text.now r)
    (λ r refused. inr (inr (record {
      tokens = c.in_ok-tokens.tokens.items;
      file = tree;
      of_text = record { lexed = c.in_ok-tokens.ensures.found; parsed = subst (λ (ts : List Token). Parses c.args.text.now ts tree) c.deref.ensures.value c.in_ok-file.ensures.found };
      refused = refused;
    }))) c.in_err-typed.ensures)

-- it is well formed
pub returns-clause-well_formed : goal.returns-clause-well_formed
returns-clause-well_formed c =
    let tree = view c.in_ok-file.file in
    c.well_formed-2.ensures c.args.text.now tree (typed_view c.in_ok-typed.typed) (c.in_ok-file.ensures.found).fits c.in_ok-typed.ensures
