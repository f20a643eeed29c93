use Rattle.std.proofs.Common.{◌<◌, ◌+◌, ◌-◌, ◌∷◌, [], List, ℕ, false, inl, inr, subst, Err, arith}
use Rattle.std.specs.Fmt.{digits}
use Rattle.std.proofs.lemmas.Result.{err_from_is_err_and}
use Rattle.flat_machine.proofs.Digits.{IsHalf, width_is, signed_up, signed_down, low_below}
use Rattle.flat_machine.proofs.Prints.{PutsBytes, puts_both, puts_neither}
use Rattle.flat_machine.proofs.shared.Shared.put_signed.Goals as goal
use Rattle.flat_machine.proofs.shared.Shared.put_signed.Goals.{After-low-number, then-bits-eq32, else-bits-eq32}

half_is : (c : After-low-number) → IsHalf c.args.bits c.if-bits-eq32.half
half_is c =
    elim c.if-bits-eq32.branch [
      | then-bits-eq32 w ↦ inl (w.if-bits-eq32.true, w.half-is)
      | else-bits-eq32 w ↦ inr (width_is c.args.bits c.requires w.if-bits-eq32.false, w.half-is)
    ]

below : (c : After-low-number) → c.low-number.result < c.if-bits-eq32.half + c.if-bits-eq32.half
below c = low_below c.args.bits c.if-bits-eq32.half c.args.word c.low-number.result (half_is c) c.ranges.word.fits c.low-number.ensures

pub returns-then-number-half : goal.returns-then-number-half
returns-then-number-half c =
    subst (λ (all : List ℕ). PutsBytes all c.args.self.now c.put_digits.new.self c.put_digits.result)
    (signed_up c.args.bits c.if-bits-eq32.half c.args.word c.low-number.result (half_is (goal.at.returns-then-number-half c).After-low-number) c.ranges.word.fits c.low-number.ensures c.if-number-half.true)
    c.put_digits.ensures

pub overflow_sub-half : goal.overflow_sub-half
overflow_sub-half c = omega (arith, below (goal.at.overflow_sub-half c).After-low-number)

pub returns-in_err-put_bytes : goal.returns-in_err-put_bytes
returns-in_err-put_bytes c =
    let d = (goal.at.returns-in_err-put_bytes c).After-low-number in
    let p = err_from_is_err_and c.from_residual.result c.from_residual.ensures.1 in
    rw (p.1, p.2)
    (subst (λ (all : List ℕ). PutsBytes all c.args.self.now c.put_bytes.new.self (Err c.in_err-put_bytes.field-0.0))
    (signed_down c.args.bits c.if-bits-eq32.half c.args.word c.low-number.result (half_is d) c.ranges.word.fits c.low-number.ensures c.if-number-half.false (below d))
    (puts_neither (45 ∷ []) (digits 10 false (c.if-bits-eq32.half - (c.low-number.result - c.if-bits-eq32.half))) c.args.self.now c.put_bytes.new.self c.in_err-put_bytes.field-0.0 c.in_err-put_bytes.ensures))

pub returns : goal.returns
returns c =
    let d = (goal.at.returns c).After-low-number in
    subst (λ (all : List ℕ). PutsBytes all c.args.self.now c.put_digits-2.new.self c.put_digits-2.result)
    (signed_down c.args.bits c.if-bits-eq32.half c.args.word c.low-number.result (half_is d) c.ranges.word.fits c.low-number.ensures c.if-number-half.false (below d))
    (puts_both (45 ∷ []) (digits 10 false (c.if-bits-eq32.half - (c.low-number.result - c.if-bits-eq32.half))) c.args.self.now c.put_bytes.new.self c.put_digits-2.new.self c.put_digits-2.result c.in_ok-put_bytes.ensures c.put_digits-2.ensures)
