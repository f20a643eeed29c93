use Rattle.std.proofs.Common.{◌%◌, nat_eq, ap, ◌∙◌}
use Rattle.std.specs.Int.{bit_at}
use Rattle.std.proofs.lemmas.Nat.Bits.{shr_and_one}
use Rattle.mark_sets.specs.Words.{has}
use Rattle.mark_sets.proofs.words.contains.Goals as goal

pub returns : goal.returns
unfolding has
returns c =
    let i = c.args.i % 64 in
    ap (λ x. nat_eq x 1) (shr_and_one c.word.result i) ∙ ap (λ w. nat_eq (bit_at w i) 1) c.word.ensures
