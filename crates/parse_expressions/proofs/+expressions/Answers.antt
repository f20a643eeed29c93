use Rattle.std.proofs.Common.{◌≡◌, ◌+◌, ◌-◌, ◌<◌, [], ◌∷◌, map, length, true, sym, ◌∙◌, ap, refl, arith}
use Rattle.std.proofs.lemmas.List.{map-append, length-append, length-map}
use Rattle.std.proofs.lemmas.Result.{err_from_is_err_and}
use Rattle.c_lex.specs.declared.token.Mark.TheVariants.{Comma, OpenBracket}
use Rattle.c_tree.specs.SyntaxViews.{expr_view, boxed_expr_view}
use Rattle.c_grammar.specs.Grammar.{as_any, naming_of}
use Rattle.parse_expressions.proofs.CodeSpecs.{typed_more, parted_more}
use Rattle.c_grammar.specs.inner.Readers.{◌&◌, made, links, pushed}
use Rattle.c_grammar.specs.inner.Tokens.{tok, counted_tok, mark_is, is_mark, binary_of, begins_type}
use Rattle.c_grammar.specs.inner.Reading.{level_at, group_rest, post, posted, begins_post, casted, ladder, declared, bare_declared, dim, dims}
use Rattle.parse_expressions.proofs.CodeLoops.{begins, ends, end_stops, link_stops, joined_stops, front_stops, pair_stops, behind_stops, second_stops, goes, goes_joined, behind_reads, pair_reads, begins_behind}
use Rattle.parse_expressions.proofs.CodeReads.{bare_declared_reads, specs_begins, exprs_begin, ladder_begins, declared_reads, group_reads, then_moves, type_name_reads, member_reads, sized_stops, struct_moves, enum_moves}
use Rattle.parse_expressions.proofs.+expressions.Goals as goal

pub expressions::exprs-exprs-preserved : goal.expressions::exprs-exprs-preserved
expressions::exprs-exprs-preserved t c =
    let open_ = rw c.if-branch.true at c.in_ok-is_next.ensures in
    record {
      going = rw (c.in_ok-put_inner-2.ensures, map-append) (goes _ _ _ _ _ _ _ _ _ _ c.exprs.invariant.going open_ (behind_reads (tok (c.args.room - 1) (mark_is Comma)) (λ _. (level_at c.args.braces (c.args.room - 1)).expr) c.exprs.parser.count c.exprs.parser.rest.now _ _ _ _ _ _ c.in_ok-expected.ensures.reads c.in_ok-more.ensures.reads) (omega (arith, c.in_ok-expected.ensures.takes, c.in_ok-more.ensures.takes)));
      takes = omega (arith, c.exprs.invariant.takes, c.in_ok-expected.ensures.takes, c.in_ok-more.ensures.takes);
    }

pub types::specs-specs-preserved : goal.types::specs-specs-preserved
types::specs-specs-preserved t c =
    let open_ = rw (c.specs.invariant.typed, c.if-branch.true) at c.in_ok-is_spec_next.ensures in
    let read = rw c.specs.invariant.typed at c.in_ok-more.ensures.reads in
    record {
      going = rw (c.in_ok-put.ensures, map-append) (goes _ _ _ _ _ _ _ _ _ _ c.specs.invariant.going open_ read c.in_ok-more.ensures.takes);
      typed = rw (c.typed_by-typed-in-specs.ensures, c.in_ok-put.ensures, map-append, typed_more, ← c.specs.invariant.typed) refl;
      takes = omega (arith, c.specs.invariant.takes, c.in_ok-more.ensures.takes);
    }

pub types::member_row-members-preserved : goal.types::member_row-members-preserved
types::member_row-members-preserved t c =
    let open_ = rw c.if-branch.true at c.in_ok-is_type_next.ensures in
    record {
      going = rw (c.in_ok-put.ensures, map-append) (goes _ _ _ _ _ _ _ _ _ _ c.members.invariant.going open_ c.in_ok-more.ensures.reads c.in_ok-more.ensures.takes);
      takes = omega (arith, c.members.invariant.takes, c.in_ok-more.ensures.takes);
    }

pub types::declarators-declarators-preserved : goal.types::declarators-declarators-preserved
types::declarators-declarators-preserved t c =
    let open_ = rw c.if-branch.true at c.in_ok-is_next.ensures in
    record {
      going = rw (c.in_ok-put.ensures, map-append) (goes _ _ _ _ _ _ _ _ _ _ c.declarators.invariant.going open_ (behind_reads (tok c.args.room (mark_is Comma)) (λ _. declared as_any c.args.room (c.args.room - 1) (level_at true (c.args.room - 1))) c.declarators.parser.count c.declarators.parser.rest.now _ _ _ _ _ _ c.in_ok-expected.ensures.reads (declared_reads _ _ _ _ _ _ _ _ _ _ _ _ c.in_ok-pointers-2.ensures.reads c.in_ok-more.ensures.reads)) (omega (arith, c.in_ok-expected.ensures.takes, c.in_ok-pointers-2.ensures.keeps, c.in_ok-more.ensures.takes)));
      takes = omega (arith, c.declarators.invariant.takes, c.in_ok-expected.ensures.takes, c.in_ok-pointers-2.ensures.keeps, c.in_ok-more.ensures.takes);
    }

pub types::member_row-members-init : goal.types::member_row-members-init
types::member_row-members-init t c = record {
  going = rw c.in_ok-all.ensures (begins_behind (made (λ a. a ∷ []) ((level_at true (c.args.room - 1)).member)) (λ _. begins_type) (λ _. (level_at true (c.args.room - 1)).member) pushed _ _ _ _ _ (rw c.in_ok-first.ensures.reads refl));
  takes = c.in_ok-first.ensures.takes;
}

pub expressions::exprs-exprs-init : goal.expressions::exprs-exprs-init
expressions::exprs-exprs-init t c =
    let open_ = rw c.if-not-branch.false at c.in_ok-is_expr_next.ensures in
    record {
      going = rw (c.in_ok-put_inner.ensures, c.new-all.ensures.items) (exprs_begin (c.args.room - 1) (level_at c.args.braces (c.args.room - 1)) _ _ _ _ _ open_ c.in_ok-first.ensures.reads);
      takes = c.in_ok-first.ensures.takes;
    }

pub types::specs-specs-init : goal.types::specs-specs-init
types::specs-specs-init t c = record {
  going = rw c.in_ok-all.ensures (specs_begins _ _ _ _ _ _ _ _ _ c.in_ok-first.ensures.reads);
  typed = rw (c.typed_by-typed.ensures, c.in_ok-all.ensures) refl;
  takes = c.in_ok-first.ensures.takes;
}

pub expressions::posted-posts-preserved : goal.expressions::posted-posts-preserved
expressions::posted-posts-preserved t c =
    let open_ = rw c.if-branch.true at c.in_ok-is_post_next.ensures in
    record {
      going = goes_joined _ _ _ _ _ _ _ _ _ _ c.posts.invariant.going open_ c.in_ok-base.ensures.reads c.in_ok-base.ensures.takes;
      keeps = omega (arith, c.posts.invariant.keeps, c.in_ok-base.ensures.takes);
    }

pub types::dims-dims-preserved : goal.types::dims-dims-preserved
types::dims-dims-preserved t c =
    let open_ = rw c.if-branch.true at c.in_ok-is_next.ensures in
    let before : c.dims.count ≡ c.args.before + length (map expr_view c.dims.all.items) = c.dims.invariant.count ∙ ap (λ n. c.args.before + n) (sym (length-map c.dims.all.items expr_view)) in
    let read = rw before at c.in_ok-dim.ensures.reads in
    record {
      going = rw (c.in_ok-put_inner.ensures, map-append) (goes _ _ _ _ _ _ _ _ _ _ c.dims.invariant.going open_ read c.in_ok-dim.ensures.takes);
      count = omega (arith, simp length-append at (ap length c.in_ok-put_inner.ensures), c.dims.invariant.count);
      keeps = omega (arith, c.dims.invariant.keeps, c.in_ok-dim.ensures.takes);
    }

pub expressions::ladder-operators-preserved : goal.expressions::ladder-operators-preserved
expressions::ladder-operators-preserved t c =
    let open_ = rw c.if-branch.true at c.in_ok-is_binary_next.ensures in
    record {
      going = rw c.in_ok-left.ensures (goes _ _ _ _ _ _ _ _ _ _ c.operators.invariant.going open_ (pair_reads (counted_tok c.args.room (binary_of (c.args.heights - 1))) (ladder c.args.room (casted c.args.room (c.args.room - 1) (level_at c.args.braces (c.args.room - 1))) (c.args.heights - 1)) c.operators.parser.count c.operators.parser.rest.now _ _ _ _ _ _ c.in_ok-place.ensures.reads c.in_ok-right.ensures.reads) (omega (arith, c.in_ok-place.ensures.takes, c.in_ok-right.ensures.takes)));
      takes = omega (arith, c.operators.invariant.takes, c.in_ok-place.ensures.takes, c.in_ok-right.ensures.takes);
    }

pub expressions::ladder-operators-init : goal.expressions::ladder-operators-init
expressions::ladder-operators-init t c =
    let some : 0 < c.args.heights = omega arith in
    record { going = ladder_begins _ _ _ some _ _ _ _ _ c.in_ok-first.ensures.reads; takes = c.in_ok-first.ensures.takes }

pub expressions::group_rest-returns-clause-reads : goal.expressions::group_rest-returns-clause-reads
expressions::group_rest-returns-clause-reads t c = then_moves boxed_expr_view (group_rest c.args.room (c.args.room - 1) (level_at c.args.braces (c.args.room - 1))) (links (λ _. begins_post) (λ _. post c.args.room (c.args.room - 1) (level_at c.args.braces (c.args.room - 1))) posted (boxed_expr_view c.in_ok-first.first)) c.args.parser.now c.expected.new.self c.posted.new.parser c.posted.result (group_reads c.args.room (c.args.room - 1) (level_at c.args.braces (c.args.room - 1)) _ _ _ _ _ _ _ _ c.in_ok-inside.ensures.reads c.in_ok-expected.ensures.reads c.in_ok-first.ensures) c.posted.ensures.reads

pub types::type_name-returns-clause-reads : goal.types::type_name-returns-clause-reads
types::type_name-returns-clause-reads t c =
    let some : 0 < c.args.room = omega arith in
    rw c.type_name_of.ensures (type_name_reads _ _ some _ _ _ _ _ _ _ _ c.in_ok-specs.ensures.reads c.in_ok-pointers.ensures.reads)

pub types::member-returns-clause-reads : goal.types::member-returns-clause-reads
types::member-returns-clause-reads t c =
    let some : 0 < c.args.room = omega arith in
    let declared = rw (c.are_typed-typed.ensures, c.deref.ensures.value) at c.in_ok-declarators.ensures.reads in
    rw c.member_of.ensures (member_reads _ _ some _ _ _ _ _ _ _ _ c.in_ok-specs.ensures.reads declared)

pub expressions::exprs-returns-in_err-is_next-clause-reads : goal.expressions::exprs-returns-in_err-is_next-clause-reads
expressions::exprs-returns-in_err-is_next-clause-reads t c =
    let p = err_from_is_err_and c.from_residual-in_err-is_next.result c.from_residual-in_err-is_next.ensures.1 in
    rw (p.1, p.2) (end_stops _ _ _ _ _ _ _ _ c.exprs.invariant.going c.in_err-is_next.ensures)

pub expressions::exprs-returns-in_err-expected-clause-reads : goal.expressions::exprs-returns-in_err-expected-clause-reads
expressions::exprs-returns-in_err-expected-clause-reads t c =
    let open_ = rw c.if-branch.true at c.in_ok-is_next.ensures in
    let p = err_from_is_err_and c.from_residual-in_err-expected.result c.from_residual-in_err-expected.ensures.1 in
    rw (p.1, p.2) (link_stops _ _ _ _ _ _ _ _ c.exprs.invariant.going open_ (front_stops (tok (c.args.room - 1) (mark_is Comma)) (λ _. (level_at c.args.braces (c.args.room - 1)).expr) c.exprs.parser.count c.exprs.parser.rest.now _ c.in_err-expected.ensures.reads))

pub expressions::exprs-returns-in_err-more-clause-reads : goal.expressions::exprs-returns-in_err-more-clause-reads
expressions::exprs-returns-in_err-more-clause-reads t c =
    let open_ = rw c.if-branch.true at c.in_ok-is_next.ensures in
    let p = err_from_is_err_and c.from_residual-in_err-more.result c.from_residual-in_err-more.ensures.1 in
    rw (p.1, p.2) (link_stops _ _ _ _ _ _ _ _ c.exprs.invariant.going open_ (behind_stops (tok (c.args.room - 1) (mark_is Comma)) (λ _. (level_at c.args.braces (c.args.room - 1)).expr) c.exprs.parser.count c.exprs.parser.rest.now _ _ _ _ c.in_ok-expected.ensures.reads c.in_err-more.ensures.reads))

pub expressions::exprs-returns-clause-reads : goal.expressions::exprs-returns-clause-reads
expressions::exprs-returns-clause-reads t c =
    let closed = rw c.if-branch.false at c.in_ok-is_next.ensures in
    ends _ _ _ _ _ _ _ c.exprs.invariant.going closed

pub types::specs-returns-in_err-is_spec_next-clause-reads : goal.types::specs-returns-in_err-is_spec_next-clause-reads
types::specs-returns-in_err-is_spec_next-clause-reads t c =
    let none = rw c.specs.invariant.typed at c.in_err-is_spec_next.ensures in
    let p = err_from_is_err_and c.from_residual-in_err-is_spec_next.result c.from_residual-in_err-is_spec_next.ensures.1 in
    rw (p.1, p.2) (end_stops _ _ _ _ _ _ _ _ c.specs.invariant.going none)

pub types::specs-returns-in_err-more-clause-reads : goal.types::specs-returns-in_err-more-clause-reads
types::specs-returns-in_err-more-clause-reads t c =
    let open_ = rw (c.specs.invariant.typed, c.if-branch.true) at c.in_ok-is_spec_next.ensures in
    let stopped = rw c.specs.invariant.typed at c.in_err-more.ensures.reads in
    let p = err_from_is_err_and c.from_residual-in_err-more.result c.from_residual-in_err-more.ensures.1 in
    rw (p.1, p.2) (link_stops _ _ _ _ _ _ _ _ c.specs.invariant.going open_ stopped)

pub types::specs-returns-clause-reads : goal.types::specs-returns-clause-reads
types::specs-returns-clause-reads t c =
    let closed = rw (c.specs.invariant.typed, c.if-branch.false) at c.in_ok-is_spec_next.ensures in
    ends _ _ _ _ _ _ _ c.specs.invariant.going closed

pub types::member_row-returns-in_err-is_type_next-clause-reads : goal.types::member_row-returns-in_err-is_type_next-clause-reads
types::member_row-returns-in_err-is_type_next-clause-reads t c =
    let p = err_from_is_err_and c.from_residual-in_err-is_type_next.result c.from_residual-in_err-is_type_next.ensures.1 in
    rw (p.1, p.2) (end_stops _ _ _ _ _ _ _ _ c.members.invariant.going c.in_err-is_type_next.ensures)

pub types::member_row-returns-in_err-more-clause-reads : goal.types::member_row-returns-in_err-more-clause-reads
types::member_row-returns-in_err-more-clause-reads t c =
    let open_ = rw c.if-branch.true at c.in_ok-is_type_next.ensures in
    let p = err_from_is_err_and c.from_residual-in_err-more.result c.from_residual-in_err-more.ensures.1 in
    rw (p.1, p.2) (link_stops _ _ _ _ _ _ _ _ c.members.invariant.going open_ c.in_err-more.ensures.reads)

pub types::member_row-returns-clause-reads : goal.types::member_row-returns-clause-reads
types::member_row-returns-clause-reads t c =
    let closed = rw c.if-branch.false at c.in_ok-is_type_next.ensures in
    ends _ _ _ _ _ _ _ c.members.invariant.going closed

pub types::declarators-returns-in_err-is_next-clause-reads : goal.types::declarators-returns-in_err-is_next-clause-reads
types::declarators-returns-in_err-is_next-clause-reads t c =
    let p = err_from_is_err_and c.from_residual-in_err-is_next.result c.from_residual-in_err-is_next.ensures.1 in
    rw (p.1, p.2) (end_stops _ _ _ _ _ _ _ _ c.declarators.invariant.going c.in_err-is_next.ensures)

pub types::declarators-returns-in_err-expected-clause-reads : goal.types::declarators-returns-in_err-expected-clause-reads
types::declarators-returns-in_err-expected-clause-reads t c =
    let open_ = rw c.if-branch.true at c.in_ok-is_next.ensures in
    let p = err_from_is_err_and c.from_residual-in_err-expected.result c.from_residual-in_err-expected.ensures.1 in
    rw (p.1, p.2) (link_stops _ _ _ _ _ _ _ _ c.declarators.invariant.going open_ (front_stops (tok c.args.room (mark_is Comma)) (λ _. declared as_any c.args.room (c.args.room - 1) (level_at true (c.args.room - 1))) c.declarators.parser.count c.declarators.parser.rest.now _ c.in_err-expected.ensures.reads))

pub types::declarators-returns-clause-reads : goal.types::declarators-returns-clause-reads
types::declarators-returns-clause-reads t c =
    let closed = rw c.if-branch.false at c.in_ok-is_next.ensures in
    ends _ _ _ _ _ _ _ c.declarators.invariant.going closed

pub types::dims-returns-in_err-is_next-clause-reads : goal.types::dims-returns-in_err-is_next-clause-reads
types::dims-returns-in_err-is_next-clause-reads t c =
    let p = err_from_is_err_and c.from_residual.result c.from_residual.ensures.1 in
    rw (p.1, p.2) (end_stops _ _ _ _ _ _ _ _ c.dims.invariant.going c.in_err-is_next.ensures)

pub types::dims-returns-in_err-dim-clause-reads : goal.types::dims-returns-in_err-dim-clause-reads
types::dims-returns-in_err-dim-clause-reads t c =
    let open_ = rw c.if-branch.true at c.in_ok-is_next.ensures in
    let before : c.dims.count ≡ c.args.before + length (map expr_view c.dims.all.items) = c.dims.invariant.count ∙ ap (λ n. c.args.before + n) (sym (length-map c.dims.all.items expr_view)) in
    let stopped = rw before at c.in_err-dim.ensures.reads in
    let p = err_from_is_err_and c.from_residual-in_err-dim.result c.from_residual-in_err-dim.ensures.1 in
    rw (p.1, p.2) (link_stops _ _ _ _ _ _ _ _ c.dims.invariant.going open_ stopped)

pub types::dims-returns-clause-reads : goal.types::dims-returns-clause-reads
types::dims-returns-clause-reads t c =
    let closed = rw c.if-branch.false at c.in_ok-is_next.ensures in
    ends _ _ _ _ _ _ _ c.dims.invariant.going closed

pub expressions::posted-returns-in_err-is_post_next-clause-reads : goal.expressions::posted-returns-in_err-is_post_next-clause-reads
expressions::posted-returns-in_err-is_post_next-clause-reads t c =
    let p = err_from_is_err_and c.from_residual.result c.from_residual.ensures.1 in
    rw (p.1, p.2) (end_stops _ _ _ _ _ _ _ _ c.posts.invariant.going c.in_err-is_post_next.ensures)

pub expressions::posted-returns-in_err-base-clause-reads : goal.expressions::posted-returns-in_err-base-clause-reads
expressions::posted-returns-in_err-base-clause-reads t c =
    let open_ = rw c.if-branch.true at c.in_ok-is_post_next.ensures in
    let p = err_from_is_err_and c.from_residual-in_err-base.result c.from_residual-in_err-base.ensures.1 in
    rw (p.1, p.2) (joined_stops _ _ _ _ _ _ _ _ c.posts.invariant.going open_ c.in_err-base.ensures.reads)

pub expressions::posted-returns-clause-reads : goal.expressions::posted-returns-clause-reads
expressions::posted-returns-clause-reads t c =
    let closed = rw c.if-branch.false at c.in_ok-is_post_next.ensures in
    ends _ _ _ _ _ _ _ c.posts.invariant.going closed

pub expressions::ladder-returns-in_err-is_binary_next-clause-reads : goal.expressions::ladder-returns-in_err-is_binary_next-clause-reads
expressions::ladder-returns-in_err-is_binary_next-clause-reads t c =
    let p = err_from_is_err_and c.from_residual-in_err-is_binary_next.result c.from_residual-in_err-is_binary_next.ensures.1 in
    rw (p.1, p.2) (end_stops _ _ _ _ _ _ _ _ c.operators.invariant.going c.in_err-is_binary_next.ensures)

pub expressions::ladder-returns-in_err-place-clause-reads : goal.expressions::ladder-returns-in_err-place-clause-reads
expressions::ladder-returns-in_err-place-clause-reads t c =
    let open_ = rw c.if-branch.true at c.in_ok-is_binary_next.ensures in
    let p = err_from_is_err_and c.from_residual-in_err-place.result c.from_residual-in_err-place.ensures.1 in
    rw (p.1, p.2) (link_stops _ _ _ _ _ _ _ _ c.operators.invariant.going open_ (pair_stops (counted_tok c.args.room (binary_of (c.args.heights - 1))) (ladder c.args.room (casted c.args.room (c.args.room - 1) (level_at c.args.braces (c.args.room - 1))) (c.args.heights - 1)) c.operators.parser.count c.operators.parser.rest.now _ c.in_err-place.ensures.reads))

pub expressions::ladder-returns-in_err-right-clause-reads : goal.expressions::ladder-returns-in_err-right-clause-reads
expressions::ladder-returns-in_err-right-clause-reads t c =
    let open_ = rw c.if-branch.true at c.in_ok-is_binary_next.ensures in
    let p = err_from_is_err_and c.from_residual-in_err-right.result c.from_residual-in_err-right.ensures.1 in
    rw (p.1, p.2) (link_stops _ _ _ _ _ _ _ _ c.operators.invariant.going open_ (second_stops (counted_tok c.args.room (binary_of (c.args.heights - 1))) (ladder c.args.room (casted c.args.room (c.args.room - 1) (level_at c.args.braces (c.args.room - 1))) (c.args.heights - 1)) c.operators.parser.count c.operators.parser.rest.now _ _ _ _ c.in_ok-place.ensures.reads c.in_err-right.ensures.reads))

pub expressions::ladder-returns-clause-reads : goal.expressions::ladder-returns-clause-reads
expressions::ladder-returns-clause-reads t c =
    let closed = rw c.if-branch.false at c.in_ok-is_binary_next.ensures in
    ends _ _ _ _ _ _ _ c.operators.invariant.going closed

pub types::dims-dims-init : goal.types::dims-dims-init
unfolding dims
types::dims-dims-init t c = record {
  going = rw c.new-all.ensures.items (begins (λ _. is_mark OpenBracket) (λ front. dim (c.args.room - 1) (level_at c.args.braces (c.args.room - 1)) (c.args.before + length front)) pushed [] c.args.parser.now.count c.args.parser.now.rest.now);
  count = omega (arith, ap length c.new-all.ensures.items);
  keeps = omega arith;
}

pub types::declarators-declarators-init : goal.types::declarators-declarators-init
types::declarators-declarators-init t c =
    let first = rw c.naming_of.ensures at c.in_ok-first.ensures.reads in
    record {
      going = rw c.in_ok-all.ensures (begins_behind (made (λ a. a ∷ []) (bare_declared (naming_of c.args.typed) c.args.room (c.args.room - 1) (level_at true (c.args.room - 1)))) (λ _. is_mark Comma) (λ _. made (λ (_, a). a) (tok c.args.room (mark_is Comma) & declared as_any c.args.room (c.args.room - 1) (level_at true (c.args.room - 1)))) pushed _ _ _ _ _ (rw (bare_declared_reads _ _ _ _ _ _ _ _ _ _ _ _ c.in_ok-pointers.ensures.reads first) refl));
      takes = omega (arith, c.in_ok-pointers.ensures.keeps, c.in_ok-first.ensures.takes);
    }

pub expressions::posted-posts-init : goal.expressions::posted-posts-init
expressions::posted-posts-init t c = record {
  going = begins (λ _. begins_post) (λ _. post c.args.room (c.args.room - 1) (level_at c.args.braces (c.args.room - 1))) posted (boxed_expr_view c.args.first) c.args.parser.now.count c.args.parser.now.rest.now;
  keeps = omega arith;
}

pub expressions::sized-returns-in_err-expected-2-clause-reads : goal.expressions::sized-returns-in_err-expected-2-clause-reads
expressions::sized-returns-in_err-expected-2-clause-reads t c =
    let open_ = rw c.if-not-branch.false at c.in_ok-is_next.ensures in
    let typed = rw c.if-not-branch-2.false at c.in_ok-is_type_next.ensures in
    let p = err_from_is_err_and c.from_residual-in_err-expected-2.result c.from_residual-in_err-expected-2.ensures.1 in
    rw (p.1, p.2) (sized_stops c.args.braces c.args.room (omega (arith, c.if-room-eq0.false)) c.args.parser.now.count c.args.parser.now.rest.now _ _ _ _ _ _ open_ c.in_ok-expected.ensures.reads typed c.in_ok-of.ensures.reads c.in_err-expected-2.ensures.reads)

pub types::enumerator_row-enumerators-preserved : goal.types::enumerator_row-enumerators-preserved
types::enumerator_row-enumerators-preserved t c =
    let open_ = rw (c.enumerators.invariant.comma, c.if-branch.true) at c.in_ok-is_enumerator_next.ensures in
    record {
      going = rw (c.in_ok-put.ensures, map-append) (goes _ _ _ _ _ _ _ _ _ _ c.enumerators.invariant.going open_ c.in_ok-more.ensures.reads c.in_ok-more.ensures.takes);
      comma = rw (c.has_comma-comma-in-enumerators.ensures, c.in_ok-put.ensures, map-append, parted_more) refl;
      takes = omega (arith, c.enumerators.invariant.takes, c.in_ok-more.ensures.takes);
    }

pub types::spec-returns-in_ok-place-in-Struct-clause-reads : goal.types::spec-returns-in_ok-place-in-Struct-clause-reads
types::spec-returns-in_ok-place-in-Struct-clause-reads t c =
    let start = rw c.in-Struct.is at c.in_ok-spec_start.ensures in
    struct_moves c.args.braces c.args.room (c.args.room - 1) (level_at c.args.braces (c.args.room - 1)) c.args.parser.now c.place_of_word.new.self c.struct_behind.new.parser _ c.struct_behind.result start c.in_ok-place-in-Struct.ensures.reads c.struct_behind.ensures.reads

pub types::spec-returns-in_ok-place-in-Enum-clause-reads : goal.types::spec-returns-in_ok-place-in-Enum-clause-reads
types::spec-returns-in_ok-place-in-Enum-clause-reads t c =
    let start = rw c.in-Enum.is at c.in_ok-spec_start.ensures in
    enum_moves c.args.braces c.args.room (c.args.room - 1) (level_at c.args.braces (c.args.room - 1)) c.args.parser.now c.place_of_word-in-Enum.new.self c.enum_behind.new.parser _ c.enum_behind.result start c.in_ok-place-in-Enum.ensures.reads c.enum_behind.ensures.reads
