use Rattle.race_walk.proofs.Steps.{test_end}
use Rattle.race_walk.proofs.cells.note_all.Goals as goal

pub returns : goal.returns
returns c = λ k. rw (test_end c.args.from c.args.to c.loop-cell.cell k c.loop-cell.invariant.2 c.loop-cell-test.false c.loop-cell.auto.cell) at (c.loop-cell.invariant.1 k)
