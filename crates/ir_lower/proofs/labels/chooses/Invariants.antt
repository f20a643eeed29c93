use Rattle.std.proofs.Common.{◌≡◌, ◌≤◌, length, map, drop}
use Rattle.c_tree.specs.TypedViews.{label_view}
use Rattle.struct_ir.specs.Nodes.{Nodes}
use Rattle.struct_ir.specs.Views.{followed}
use Rattle.lower_forms.specs.Forms.{choose_nodes}
use Rattle.ir_lower.proofs.labels.chooses.Given as goal

-- the labels from this number on are compared
pub record Compared (Within Same : Type 0) : Type 0 where
  pub within : Within
  pub same : Same

abbrev pub invariant-loop-number : goal.invariant-loop-number
invariant-loop-number l = Compared (l.number ≤ length l.labels)
    ((rest : Nodes) → followed l.out.items rest ≡ followed l.initial.out.items (choose_nodes l.place l.chosen l.number (map label_view (drop l.number l.labels)) rest))

abbrev pub decreases-loop-number : goal.decreases-loop-number
decreases-loop-number l = l.number
