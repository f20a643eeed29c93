use Rattle.std.proofs.Common.{◌↔◌, IsTrue, refl}
use Rattle.std.specs.List.{All}
use Rattle.std.proofs.lemmas.Bool.{false≢true}
use Rattle.move_plan.specs.Holding.{is_pinned}
use Rattle.move_plan.specs.inner.Spans.{IsClearOf, origins_of, targets_of}
use Rattle.move_plan.proofs.Clearing.{legal_keep, keep_legal}
use Rattle.move_plan.proofs.legality.is_legal.Goals as goal

pub returns-then-not-are_within : goal.returns-then-not-are_within
returns-then-not-are_within c =
    let pinned = is_pinned c.args.pins.now in
    let h = c.args.heaps.now in
    let within = rw c.moves.ensures at c.if-not-are_within.ensures.within in
    ((λ is. absurd (false≢true is)), (λ legal. within.1 (legal_keep pinned h c.if-not-are_within.ensures.sound c.args.plan.now.moves legal).within))

pub returns-then-keep_apart : goal.returns-then-keep_apart
returns-then-keep_apart c =
    let pinned = is_pinned c.args.pins.now in
    let h = c.args.heaps.now in
    let moves = c.args.plan.now.moves in
    let sound = c.if-not-are_within.ensures.sound in
    let within = (rw c.moves.ensures at c.if-not-are_within.ensures.within).0 refl in
    let apart = c.if-keep_apart.ensures.0 refl in
    let clear : IsTrue c.are_clear.result ↔ All (λ to. All (IsClearOf (origins_of moves) to) h.objects) (targets_of moves) = rw (c.origins.ensures.origins, c.targets.ensures) at c.are_clear.ensures in (
      (λ is. keep_legal pinned h sound moves (record { within = within; origins = apart.0; targets = apart.1; clear = clear.0 is })),
      (λ legal. clear.1 (legal_keep pinned h sound moves legal).clear),
    )

pub returns-else-keep_apart : goal.returns-else-keep_apart
returns-else-keep_apart c =
    let pinned = is_pinned c.args.pins.now in
    let h = c.args.heaps.now in
    let moves = c.args.plan.now.moves in
    let sound = c.if-not-are_within.ensures.sound in
    rw c.if-keep_apart.false (
      (λ is. absurd (false≢true is)),
      (λ legal. let keep = legal_keep pinned h sound moves legal in c.if-keep_apart.ensures.1 (keep.origins, keep.targets)),
    )
