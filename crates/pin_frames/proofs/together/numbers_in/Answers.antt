use Rattle.std.proofs.Common.{◌++◌, ap, ◌∙◌, arith, ◌≡◌, ◌+◌}
use Rattle.std.specs.Prelude.{ℕ, ◌-◌}
use Rattle.std.specs.Global.{Vec}
use Rattle.mark_sets.specs.Words.{has}
use Rattle.pin_frames.specs.inner.Together.{numbers}
use Rattle.pin_frames.proofs.SlotSets.{number_in, number_out, pass_over}
use Rattle.pin_frames.proofs.together.numbers_in.Goals.{then-contains+in_ok-push, else-contains}
use Rattle.pin_frames.proofs.together.numbers_in.Goals as goal

pub numbers-preserved : goal.numbers-preserved
numbers-preserved c =
    let f = has c.args.set.now in
    let n = c.args.count in
    let i = c.numbers.i in
    let next : c.if-contains.out.items ++ numbers f (i + 1) (n - (i + 1)) ≡ numbers f 0 n = elim c.if-contains.branch [
      | then-contains+in_ok-push w ↦ number_in f i n c.contains.result c.numbers.out.items c.if-contains.out.items (numbers f 0 n) (omega arith) c.contains.ensures w.if-contains.true
          (ap (λ (v : Vec ℕ). v.items) w.out-is ∙ w.in_ok-push.ensures.items) c.numbers.invariant
      | else-contains w ↦ number_out f i n c.contains.result c.if-contains.out.items (numbers f 0 n) (omega arith) c.contains.ensures w.if-contains.false
          (ap (λ (v : Vec ℕ). v.items ++ numbers f i (n - i)) w.out-is ∙ c.numbers.invariant)
    ] in
    pass_over f n (i + 1) c.next_from-i.result c.if-contains.out.items (numbers f 0 n) c.next_from-i.ensures.on c.next_from-i.ensures.none next
