use Rattle.std.proofs.Common.{ℕ, true}
use Rattle.formats.specs.Formats.{u32}
use Rattle.std.proofs.Common.{drop}
use Rattle.code_save.proofs.Writing.{WritesAll}
use Rattle.code_save.proofs.actions.put_numbers.Given as goal

-- what is left makes the whole
abbrev pub invariant-loop-n : goal.invariant-loop-n
invariant-loop-n l = WritesAll (u32) (λ (n : ℕ). n) (λ (n : ℕ). true) (drop l.n-index l.numbers) l.numbers l.fn.out l.out
