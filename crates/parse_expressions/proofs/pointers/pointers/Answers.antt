use Rattle.std.proofs.Common.{◌+◌, [], refl, sym, ◌∙◌, ap, arith}
use Rattle.std.proofs.lemmas.Result.{err_from_is_err_and}
use Rattle.c_grammar.specs.Grammar.{stars}
use Rattle.c_grammar.specs.inner.Readers.{choice, pushed}
use Rattle.c_grammar.specs.inner.Tokens.{is_pointer}
use Rattle.c_grammar.specs.inner.Reading.{pointer_start, pointer_by, pointers}
use Rattle.parse_expressions.proofs.CodeLoops.{begins, goes, ends, end_stops, link_stops}
use Rattle.parse_expressions.proofs.CodeLists.{star_pushed, other_pushed}
use Rattle.parse_expressions.proofs.pointers.pointers.Goals as goal
use Rattle.parse_expressions.proofs.pointers.pointers.Goals.{in-Star, in_default}

pub pointers-preserved : goal.pointers-preserved
pointers-preserved c =
    let open_ = rw c.if-branch.true at c.in_ok-is_pointer_next.ensures in
    let read = rw c.pointers.invariant.before at c.in_ok-pointer.ensures.reads in
    record {
      going = rw c.in_ok-put.ensures (goes _ _ _ _ _ _ _ _ _ _ c.pointers.invariant.going open_ read c.in_ok-pointer.ensures.takes);
      before = rw c.in_ok-put.ensures (elim c.match-pointer.branch [
        | in-Star w ↦ w.before-is ∙ ap (λ n. n + 1) c.pointers.invariant.before ∙ sym (star_pushed c.pointers.all.items c.in_ok-pointer.pointer w.in-Star.is)
        | in_default w ↦ w.before-is ∙ c.pointers.invariant.before ∙ sym (other_pushed c.pointers.all.items c.in_ok-pointer.pointer w.in_default.not-Star)
      ]);
      keeps = omega (arith, c.in_ok-pointer.ensures.takes, c.pointers.invariant.keeps);
    }

pub returns-in_err-is_pointer_next-clause-reads : goal.returns-in_err-is_pointer_next-clause-reads
returns-in_err-is_pointer_next-clause-reads c =
    let p = err_from_is_err_and c.from_residual.result c.from_residual.ensures.1 in
    rw (p.1, p.2) (end_stops _ _ _ _ _ _ _ _ c.pointers.invariant.going c.in_err-is_pointer_next.ensures)

pub returns-in_err-pointer-clause-reads : goal.returns-in_err-pointer-clause-reads
returns-in_err-pointer-clause-reads c =
    let open_ = rw c.if-branch.true at c.in_ok-is_pointer_next.ensures in
    let stopped = rw c.pointers.invariant.before at c.in_err-pointer.ensures.reads in
    let p = err_from_is_err_and c.from_residual-in_err-pointer.result c.from_residual-in_err-pointer.ensures.1 in
    rw (p.1, p.2) (link_stops _ _ _ _ _ _ _ _ c.pointers.invariant.going open_ stopped)

pub returns-clause-reads : goal.returns-clause-reads
returns-clause-reads c =
    let closed = rw c.if-branch.false at c.in_ok-is_pointer_next.ensures in
    ends _ _ _ _ _ _ _ c.pointers.invariant.going closed

pub pointers-init : goal.pointers-init
unfolding pointers
pointers-init c = record {
  going = rw c.new-all.ensures.items (begins (λ _. is_pointer) (λ front. choice pointer_start (pointer_by c.args.room (stars 0 front))) pushed [] c.args.parser.now.count c.args.parser.now.rest.now);
  before = rw c.new-all.ensures.items refl;
  keeps = omega arith;
}
