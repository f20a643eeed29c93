-- A text read cell by cell.
use Rattle.std.proofs.Common.{ℕ, ◌+◌, Ok, Err}
use Rattle.std.specs.Prelude.{Result}
use Rattle.ak_words.specs.declared.rule.Rule.{Rule}

-- k bytes more before the end
abbrev pub after : ℕ → Result ℕ Rule → Result ℕ Rule
after k (Err rule) = Err rule
after k (Ok n) = Ok (k + n)
