use Rattle.std.proofs.Common.{ℕ, Option, Vec, ap, arith}
use Rattle.std.specs.Global.{Global}
use Rattle.std.specs.HashMap.{get}
use Rattle.race_walk.specs.Keys.{two_eq}
use Rattle.race_walk.specs.Views.{told_by, row_of}
use Rattle.race_walk.proofs.Steps.{joined_at, two_same, write_step, test_end}
use Rattle.race_walk.proofs.rows.write.Goals as goal

pub loop-cell-preserved : goal.loop-cell-preserved
loop-cell-preserved c = record {
  most = omega arith;
  so = λ b e u.
      write_step c.args.touch.block b c.args.touch.from e c.loop-cell.cell (told_by c.args.clock.now) (told_by (row_of (get two_eq c.args.rows.now (b, e)))) (told_by (row_of (get two_eq c.loop-cell.rows (b, e))))
      (told_by (row_of (get two_eq c.join_row.new.rows (b, e)))) u (c.loop-cell.invariant.so b e u)
      (joined_at two_eq two_same (λ q. told_by (row_of (get two_eq c.loop-cell.rows q))) (λ q. told_by (row_of (get two_eq c.join_row.new.rows q))) (told_by c.args.clock.now) (c.args.touch.block, c.loop-cell.cell)
      c.in_ok-join_row.ensures.here (λ q h t. let F : Option (Vec ℕ Global) → ℕ = λ o. told_by (row_of o) t in ap F (c.in_ok-join_row.ensures.others q h)) (b, e) u)
      c.loop-cell.auto.cell;
}

pub returns : goal.returns
returns c = λ b e u. rw (test_end c.args.touch.from c.args.touch.to c.loop-cell.cell e c.loop-cell.invariant.most c.loop-cell-test.false c.loop-cell.auto.cell) at (c.loop-cell.invariant.so b e u)
