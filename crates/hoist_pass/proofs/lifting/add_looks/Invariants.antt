use Rattle.std.proofs.Common.{◌≡◌, ◌&&◌, drop}
use Rattle.std.specs.Prelude.{not}
use Rattle.struct_ir.specs.Nodes.{Nodes}
use Rattle.struct_ir.specs.Views.{followed}
use Rattle.mark_sets.specs.Words.{has}
use Rattle.hoist_pass.specs.inner.Sets.{looks_from}
use Rattle.hoist_pass.proofs.lifting.add_looks.Given as goal

-- with the Looks of the registers that are left, it is what is to be made
abbrev pub invariant-bases : goal.invariant-bases
invariant-bases l = (rest : Nodes) → followed l.out.items (looks_from (λ i. has l.seen.looks.items i && not (has l.seen.assigns.items i)) l.place l.i (drop l.i l.bases) rest)
    ≡ followed l.fn.out.items (looks_from (λ i. has l.seen.looks.items i && not (has l.seen.assigns.items i)) l.place 0 l.bases rest)
