use Rattle.std.proofs.Common.{ℕ, true}
use Rattle.formats.specs.Formats.{u32}
use Rattle.code_save.proofs.Writing.{first_writes, next_writes, all_wrote, numbers_wrote}
use Rattle.code_save.proofs.actions.put_numbers.Goals as goal

pub loop-n-init : goal.loop-n-init
loop-n-init c = first_writes (u32) (λ (n : ℕ). n) (λ (n : ℕ). true) c.args.numbers.now c.in_ok-put_count.ensures

pub loop-n-preserved : goal.loop-n-preserved
loop-n-preserved c = next_writes (u32) (λ (n : ℕ). n) (λ (n : ℕ). true) c.args.numbers.now c.loop-n.n-index 0 c.loop-n-test.true (c.in_ok-put_u32.ensures) c.loop-n.invariant

pub returns : goal.returns
returns c = numbers_wrote c.args.numbers.now (all_wrote (u32) (λ (n : ℕ). n) (λ (n : ℕ). true) c.args.numbers.now c.loop-n.n-index c.loop-n-test.false c.loop-n.invariant)
