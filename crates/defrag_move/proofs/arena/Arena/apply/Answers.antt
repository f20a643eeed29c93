use Rattle.std.proofs.Common.{◌≤◌, length, sym, ap, ◌∙◌, subst, arith}
use Rattle.std.proofs.lemmas.Option.{slice_get-get_or}
use Rattle.move_plan.specs.Holding.{is_pinned}
use Rattle.arena_meaning.specs.Arena.{IsConsistent, Storage}
use Rattle.arena_meaning.specs.Moves.{KeepsObjects}
use Rattle.defrag_move.proofs.Kept.{IsConsistent-after_plan, heaps_after, keeps_all}
use Rattle.defrag_move.proofs.Turns.{arrived, next_allowed, next_legal, next_same}
use Rattle.defrag_move.proofs.arena.Arena.apply.Goals as goal

pub move_object-requires : goal.move_object-requires
move_object-requires c =
    next_allowed (is_pinned c.args.pins.now) c.args.moves.now c.loop-next.next-index _ (slice_get-get_or c.args.moves.now c.loop-next.next-index _ c.loop-next-test.true) c.loop-next.self c.loop-next.invariant.legal

pub loop-next-preserved : goal.loop-next-preserved
loop-next-preserved c =
    let ms = c.args.moves.now in
    let i = c.loop-next.next-index in
    let there = slice_get-get_or ms i _ c.loop-next-test.true in
    record {
      legal = next_legal (is_pinned c.args.pins.now) ms i _ there c.loop-next.self c.loop-next.invariant.legal c.move_object.new.self c.move_object.ensures.moved;
      same = next_same ms i _ there c.loop-next.self c.move_object.new.self _ c.loop-next.invariant.same c.move_object.ensures.moved;
    }

pub returns-clause-heaps : goal.returns-clause-heaps
returns-clause-heaps c =
    let last : length c.args.moves.now ≤ c.loop-next.next-index = omega (arith, c.loop-next-test.false) in
    ap (λ (s : Storage). s.heaps) (arrived c.args.moves.now c.loop-next.next-index c.loop-next.self _ last c.loop-next.invariant.same)
    ∙ heaps_after (is_pinned c.args.pins.now) c.args.moves.now c.args.self.now (subst IsConsistent c.self.view_is c.self.invariant.0) c.requires

pub returns-clause-kept : goal.returns-clause-kept
returns-clause-kept c =
    let last : length c.args.moves.now ≤ c.loop-next.next-index = omega (arith, c.loop-next-test.false) in
    subst (KeepsObjects (is_pinned c.args.pins.now) c.args.moves.now c.args.self.now)
    (sym (arrived c.args.moves.now c.loop-next.next-index c.loop-next.self _ last c.loop-next.invariant.same))
    (keeps_all (is_pinned c.args.pins.now) c.args.moves.now c.args.self.now (subst IsConsistent c.self.view_is c.self.invariant.0) c.requires)

pub returns-clause-consistent : goal.returns-clause-consistent
returns-clause-consistent c =
    let last : length c.args.moves.now ≤ c.loop-next.next-index = omega (arith, c.loop-next-test.false) in
    subst IsConsistent
    (sym (arrived c.args.moves.now c.loop-next.next-index c.loop-next.self _ last c.loop-next.invariant.same))
    (IsConsistent-after_plan (is_pinned c.args.pins.now) c.args.moves.now c.args.self.now (subst IsConsistent c.self.view_is c.self.invariant.0) c.requires)
