use Rattle.std.proofs.Common.{◌≡◌, ◌/◌, ◌+◌, replicate}
use Rattle.mark_sets.proofs.Wordly.{full_has}
use Rattle.mark_sets.proofs.words.full.Goals as goal

pub returns : goal.returns
returns c =
    let none : c.in_ok-vec.field-0.items ≡ replicate (c.args.count / 64 + 1) 18446744073709551615 = c.in_ok-vec.ensures.items_if_clones_equal (λ y h. h) in
    full_has c.args.count c.in_ok-vec.field-0.items none
