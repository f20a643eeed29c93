use Rattle.std.proofs.Common.{◌≡◌, drop, pos}
use Rattle.std.specs.List.{find}
use Rattle.ak_words.specs.IntType.{is_held}
use Rattle.c_lex.proofs.constant.first_holding.Given as goal

abbrev pub invariant-loop-ty : goal.invariant-loop-ty
invariant-loop-ty l = find (λ t. is_held t (pos l.value)) l.types ≡ find (λ t. is_held t (pos l.value)) (drop l.ty-index l.types)
