use Rattle.std.proofs.Common.{◌≡◌, ◌||◌, ℕ, Some}
use Rattle.struct_ir.specs.Views.{nodes_view, followed}
use Rattle.pin_flow.specs.Looks.{act_looks, act_assigns, some_act}
use Rattle.pin_flow.specs.Slots.{slot_in}
use Rattle.mark_sets.specs.Words.{has}
use Rattle.hoist_pass.specs.inner.Hoist.{lifted_all}
use Rattle.hoist_pass.specs.inner.Sets.{bit}
use Rattle.hoist_pass.proofs.lifting.+lifts.Given as goal

-- with what is made of the nodes that are left, it is what is to be made; so it is with what is seen
abbrev pub invariant-lift_row-loop-n : goal.invariant-lift_row-loop-n
invariant-lift_row-loop-n l = record {
  made : followed l.out.items (lifted_all (slot_in l.bases) l.bases (nodes_view l.n-iterator.rest.items)) ≡ lifted_all (slot_in l.bases) l.bases (nodes_view l.fn.rows.items);
  looks : (b i : ℕ) → bit l.marks b ≡ Some i → (has l.seen.looks.items i || some_act (act_looks b) (nodes_view l.n-iterator.rest.items)) ≡ some_act (act_looks b) (nodes_view l.fn.rows.items);
  assigns : (b i : ℕ) → bit l.marks b ≡ Some i → (has l.seen.assigns.items i || some_act (act_assigns b) (nodes_view l.n-iterator.rest.items)) ≡ some_act (act_assigns b) (nodes_view l.fn.rows.items);
}
