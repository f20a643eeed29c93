use Rattle.std.proofs.Common.{◌≡◌, take}
use Rattle.source_tree.proofs.share_stmts.share_labels.Given as goal

-- so far
abbrev pub invariant-loop-label : goal.invariant-loop-label
invariant-loop-label l = l.labels.items ≡ take l.label-index l.all
