use Rattle.std.proofs.Common.{◌≡◌, ℕ, ◌||◌, drop}
use Rattle.c_typing.specs.Numbering.{is_in}
use Rattle.type_locals.specs.inner.Marking.{marked}
use Rattle.type_locals.proofs.marks.Marks.of.Given as goal

-- those that are marked, and the rest
abbrev pub invariant-numbers : goal.invariant-numbers
invariant-numbers l = (k : ℕ) → (is_in k (marked l.marks) || is_in k (drop l.n-index l.numbers)) ≡ is_in k l.numbers
