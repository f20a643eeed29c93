-- Loops with their Looks stand in the places of those without.
use Rattle.std.proofs.Common.{◌≡◌, ℕ, refl}
use Rattle.struct_ir.specs.Nodes.{Node, plain, if_, loop, break_, next_, ret, node_place}
use Rattle.hoist_pass.specs.inner.Hoist.{lifted_in}

pub place_lifted : (slot b : ℕ) (n : Node) → node_place (lifted_in slot b n) ≡ node_place n
place_lifted slot b (plain p a) = refl
place_lifted slot b (if_ p x one other) = refl
place_lifted slot b (loop p body latch) = refl
place_lifted slot b (break_ p) = refl
place_lifted slot b (next_ p) = refl
place_lifted slot b (ret p x) = refl
