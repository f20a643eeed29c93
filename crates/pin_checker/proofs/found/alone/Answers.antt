use Rattle.pin_checker.proofs.found.alone.Goals as goal

pub returns : goal.returns
returns c l =
    let g = c.itself.ensures l in
    let b = c.itself-2.ensures l in
    λ i. record { good = g i; bad = b i }
