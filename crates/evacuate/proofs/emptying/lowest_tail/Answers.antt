use Rattle.std.proofs.Common.{◌≡◌, ℕ, ◌+◌, ◌-◌, ◌<◌, ◌≤◌, ◌&&◌, false, get_or, nat_lt, nat_le, ◌∙◌, arith}
use Rattle.std.proofs.lemmas.Bool.Decides.{nat_tests}
use Rattle.evacuate.specs.inner.Tails.{has_room}
use Rattle.evacuate.proofs.Filling.{find_past}
use Rattle.evacuate.proofs.emptying.lowest_tail.Goals.{else-tail-gt0-via-then-tail-gt0+else-tail-size, else-tail-gt0-via-else-tail-gt0}
use Rattle.evacuate.proofs.emptying.lowest_tail.Goals as goal

holds_none : (tail bytes size : ℕ) → tail ≤ 0 → (nat_lt 0 tail && nat_le (tail + bytes) size) ≡ false
holds_none tail bytes size none = grind (arith, nat_tests)

is_full : (tail bytes size : ℕ) → 0 < tail → bytes ≤ size → size - bytes < tail → (nat_lt 0 tail && nat_le (tail + bytes) size) ≡ false
is_full tail bytes size some le full = grind (arith, nat_tests)

pub loop-number-preserved : goal.loop-number-preserved
loop-number-preserved c =
    let tail = get_or c.args.tails.now c.loop-number.number 0 in
    let fails : has_room c.args.size c.args.bytes c.args.tails.now c.loop-number.number ≡ false = elim c.else-tail-gt0.branch [
      | else-tail-gt0-via-then-tail-gt0+else-tail-size w ↦ is_full tail c.args.bytes c.args.size (omega (arith, w.if-tail-gt0.true)) c.requires.bytes (omega (arith, w.if-tail-size.false))
      | else-tail-gt0-via-else-tail-gt0 w ↦ holds_none tail c.args.bytes c.args.size (omega (arith, w.if-tail-gt0.false))
    ] in
    c.loop-number.invariant ∙ find_past (has_room c.args.size c.args.bytes c.args.tails.now) c.loop-number.number c.args.below c.loop-number-test.true fails
