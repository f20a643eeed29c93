use Rattle.std.proofs.Common.{◌≡◌, drop}
use Rattle.struct_ir.specs.Views.{nodes_view}
use Rattle.pin_flow.specs.Looks.{some_act}
use Rattle.pin_flow.specs.Views.{test_view}
use Rattle.pin_flow.proofs.seen.+somes.Given as goal

-- none so far
abbrev pub invariant-some-loop-n : goal.invariant-some-loop-n
invariant-some-loop-n l = some_act (test_view l.test) (nodes_view (drop l.n-index l.rows)) ≡ some_act (test_view l.test) (nodes_view l.rows)
