-- Each cell is read before it is written.
use Rattle.std.proofs.Common.{◌≡◌, ◌+◌, ◌<◌, ◌∙◌, ap, set, get_or, length, arith, take, drop}
use Rattle.std.proofs.lemmas.List.{get_or_default}
use Rattle.block_store.specs.declared.values.Cell.TheVariants.{Unknown}
use Rattle.block_store.specs.Blocks.{with_cells}
use Rattle.block_store.proofs.Copies.{copied-next}
use Rattle.block_store.proofs.cells.copy_inside.Goals as goal

pub loop-k-preserved : goal.loop-k-preserved
loop-k-preserved c =
    let x = get_or c.loop-k.cells (c.args.from + c.loop-k.k) Unknown in
    let within : c.args.from + c.loop-k.k < length c.loop-k.cells = omega (arith, c.loop-k.auto.cells, c.requires.source, c.loop-k-test.true) in
    let read : x ≡ get_or (with_cells c.args.cells.now c.args.to (take c.loop-k.k (drop c.args.from c.args.cells.now))) (c.args.from + c.loop-k.k) x =
    get_or_default c.loop-k.cells (c.args.from + c.loop-k.k) Unknown x within ∙ ap (λ l. get_or l (c.args.from + c.loop-k.k) x) c.loop-k.invariant in
    ap (λ l. set l (c.args.to + c.loop-k.k) x) c.loop-k.invariant
    ∙ copied-next c.args.cells.now c.args.to c.args.from c.args.n c.loop-k.k x c.loop-k-test.true c.requires.target c.requires.source c.requires.apart read
