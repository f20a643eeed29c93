use Rattle.std.proofs.Common.{◌∙◌, Bool, sym, ap}
use Rattle.struct_ir.specs.Views.{node_view}
use Rattle.pin_flow.specs.declared.mark.Mark.TheVariants as kinds
use Rattle.pin_flow.specs.Held.{held}
use Rattle.pin_flow.specs.Marks.{after}
use Rattle.pin_flow.specs.Views.{node_marked}
use Rattle.mark_sets.specs.declared.sets.Sets.{Sets}
use Rattle.mark_sets.specs.Views.{sets_view}
use Rattle.hoist_pass.specs.inner.Sets.{bit, states}
use Rattle.hoist_pass.proofs.ByBit.{changed_by}
use Rattle.hoist_pass.proofs.acting.changed.Goals as goal

pub returns-in_ok-change-in-Bads : goal.returns-in_ok-change-in-Bads
returns-in_ok-change-in-Bads c = λ b.
    let x = c.args.marks.now in
    let f : Bool → Bool = λ w. node_marked (held b) (node_view c.args.n.now) w in
    changed_by f c.in-Bads.bads.items c.change.new.set.items (bit x b) (λ i e. c.in_ok-change-in-Bads.ensures (kinds.Held b) i e) ∙ ap (λ (u : Sets). after f (states x (sets_view u) b)) (sym c.in-Bads.is)
