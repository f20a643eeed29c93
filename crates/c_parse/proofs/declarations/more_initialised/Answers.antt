use Rattle.std.proofs.Common.{◌-◌, [], ◌∷◌, arith}
use Rattle.std.proofs.lemmas.List.{map-append}
use Rattle.std.proofs.lemmas.Result.{err_from_is_err_and}
use Rattle.c_lex.specs.declared.token.Mark.TheVariants.{Comma}
use Rattle.c_parse.specs.inner.Boxes.{boxed_initialised_view}
use Rattle.c_grammar.specs.inner.Readers.{pushed}
use Rattle.c_grammar.specs.inner.Tokens.{is_mark}
use Rattle.c_parse.specs.inner.Parts.{next_initialised}
use Rattle.parse_expressions.proofs.CodeLoops.{begins, goes, ends, end_stops, link_stops}
use Rattle.c_parse.proofs.declarations.more_initialised.Goals as goal

pub declarators-preserved : goal.declarators-preserved
declarators-preserved c =
    let open_ = rw c.if-branch.true at c.in_ok-is_next.ensures in
    record {
      going = rw (c.in_ok-put_inner-2.ensures, map-append) (goes _ _ _ _ _ _ _ _ _ _ c.declarators.invariant.going open_ c.in_ok-next.ensures.reads c.in_ok-next.ensures.takes);
      keeps = omega (arith, c.in_ok-next.ensures.takes, c.declarators.invariant.keeps);
    }

pub returns-in_err-is_next-clause-reads : goal.returns-in_err-is_next-clause-reads
returns-in_err-is_next-clause-reads c =
    let p = err_from_is_err_and c.from_residual-in_err-is_next.result c.from_residual-in_err-is_next.ensures.1 in
    rw (p.1, p.2) (end_stops _ _ _ _ _ _ _ _ c.declarators.invariant.going c.in_err-is_next.ensures)

pub returns-in_err-next-clause-reads : goal.returns-in_err-next-clause-reads
returns-in_err-next-clause-reads c =
    let open_ = rw c.if-branch.true at c.in_ok-is_next.ensures in
    let p = err_from_is_err_and c.from_residual-in_err-next.result c.from_residual-in_err-next.ensures.1 in
    rw (p.1, p.2) (link_stops _ _ _ _ _ _ _ _ c.declarators.invariant.going open_ c.in_err-next.ensures.reads)

pub returns-clause-reads : goal.returns-clause-reads
returns-clause-reads c =
    let closed = rw c.if-branch.false at c.in_ok-is_next.ensures in
    ends _ _ _ _ _ _ _ c.declarators.invariant.going closed

pub declarators-init : goal.declarators-init
declarators-init c = record {
  going = rw (c.in_ok-put_inner.ensures, c.new-all.ensures.items) (begins (λ _. is_mark Comma) (λ _. next_initialised c.args.braces c.args.room (c.args.room - 1)) pushed (boxed_initialised_view c.args.first ∷ []) c.args.parser.now.count c.args.parser.now.rest.now);
  keeps = omega arith;
}
