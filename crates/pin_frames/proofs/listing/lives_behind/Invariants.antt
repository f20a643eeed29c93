use Rattle.std.proofs.Common.{List, ◌++◌, ◌≡◌, length}
use Rattle.struct_ir.specs.declared.code.Node.{Node as CodeNode}
use Rattle.struct_ir.specs.Views.{nodes_view}
use Rattle.pin_flow.specs.Live.{live}
use Rattle.pin_frames.specs.Views.{lives_view}
use Rattle.pin_frames.specs.inner.Place.{behind}
use Rattle.pin_frames.proofs.listing.lives_behind.Given as goal

-- what is behind the nodes that are left is known
abbrev pub invariant-row : goal.invariant-row
invariant-row l = (rest : List CodeNode) × (l.fn.rows ≡ l.left ++ rest) × (l.on ≡ live l.slot l.b (nodes_view rest) (lives_view l.after)) × (l.out.items ≡ behind l.slot l.b (nodes_view rest) (lives_view l.after))

abbrev pub decreases-row : goal.decreases-row
decreases-row l = length l.left
