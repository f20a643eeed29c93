use Rattle.std.proofs.Common.{◌≡◌, ◌+◌, ◌*◌, ◌++◌, take, drop, ap, ◌∙◌, arith}
use Rattle.flat_store.proofs.Moved.{moved_more}
use Rattle.flat_store.proofs.moving.move_down.Goals as goal

pub loop-k-preserved : goal.loop-k-preserved
loop-k-preserved c =
    let xs = c.args.bytes.now in
    let to = c.args.to in
    let from = c.args.from in
    let d = c.loop-k.k * 64 in
    let more : d + 64 ≡ (c.loop-k.k + 1) * 64 = omega arith in
    c.move_part.ensures ∙ ap (λ ys. take (to + d) ys ++ take 64 (drop (from + d) ys) ++ drop (to + d + 64) ys) c.loop-k.invariant
    ∙ moved_more xs to from d 64 c.requires.below (omega (arith, c.requires.source, c.loop-k-test.true)) ∙ ap (λ j. take to xs ++ take j (drop from xs) ++ drop (to + j) xs) more
