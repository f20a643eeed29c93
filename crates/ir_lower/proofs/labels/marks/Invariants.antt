use Rattle.std.proofs.Common.{◌≡◌, map, drop}
use Rattle.c_tree.specs.TypedViews.{label_view}
use Rattle.struct_ir.specs.Nodes.{Nodes}
use Rattle.struct_ir.specs.Views.{followed}
use Rattle.lower_forms.specs.Forms.{label_nodes}
use Rattle.ir_lower.proofs.labels.marks.Given as goal

-- so far
abbrev pub invariant-loop-number : goal.invariant-loop-number
invariant-loop-number l =
    (rest : Nodes) → followed l.out.items (label_nodes l.place l.chosen l.index l.number (map label_view (drop l.number l.labels)) rest)
    ≡ followed l.initial.out.items (label_nodes l.place l.chosen l.index 0 (map label_view l.labels) rest)
