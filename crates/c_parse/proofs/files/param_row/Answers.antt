use Rattle.std.proofs.Common.{[], ◌∷◌, refl, arith}
use Rattle.std.proofs.lemmas.List.{map-append}
use Rattle.std.proofs.lemmas.Result.{err_from_is_err_and}
use Rattle.c_lex.specs.declared.token.Mark.TheVariants.{Comma}
use Rattle.c_grammar.specs.inner.Readers.{made, pushed}
use Rattle.c_grammar.specs.inner.Tokens.{is_mark}
use Rattle.c_grammar.specs.inner.Reading.{param}
use Rattle.c_parse.specs.inner.Parts.{next_param}
use Rattle.parse_expressions.proofs.CodeLoops.{begins_behind, goes, ends, end_stops, link_stops}
use Rattle.c_parse.proofs.files.param_row.Goals as goal

pub params-preserved : goal.params-preserved
params-preserved c =
    let open_ = rw c.if-branch.true at c.in_ok-is_next.ensures in
    record {
      going = rw (c.in_ok-put.ensures, map-append) (goes _ _ _ _ _ _ _ _ _ _ c.params.invariant.going open_ c.in_ok-next.ensures.reads c.in_ok-next.ensures.takes);
      takes = omega (arith, c.in_ok-next.ensures.takes, c.params.invariant.takes);
    }

pub returns-in_err-is_next-clause-reads : goal.returns-in_err-is_next-clause-reads
returns-in_err-is_next-clause-reads c =
    let p = err_from_is_err_and c.from_residual-in_err-is_next.result c.from_residual-in_err-is_next.ensures.1 in
    rw (p.1, p.2) (end_stops _ _ _ _ _ _ _ _ c.params.invariant.going c.in_err-is_next.ensures)

pub returns-in_err-next-clause-reads : goal.returns-in_err-next-clause-reads
returns-in_err-next-clause-reads c =
    let open_ = rw c.if-branch.true at c.in_ok-is_next.ensures in
    let p = err_from_is_err_and c.from_residual-in_err-next.result c.from_residual-in_err-next.ensures.1 in
    rw (p.1, p.2) (link_stops _ _ _ _ _ _ _ _ c.params.invariant.going open_ c.in_err-next.ensures.reads)

pub returns-clause-reads : goal.returns-clause-reads
returns-clause-reads c =
    let closed = rw c.if-branch.false at c.in_ok-is_next.ensures in
    ends _ _ _ _ _ _ _ c.params.invariant.going closed

pub params-init : goal.params-init
params-init c = record {
  going = rw c.in_ok-all.ensures (begins_behind (made (λ a. a ∷ []) (param 128 127)) (λ _. is_mark Comma) (λ _. next_param) pushed _ _ _ _ _ (rw c.in_ok-first.ensures.reads refl));
  takes = c.in_ok-first.ensures.takes;
}
