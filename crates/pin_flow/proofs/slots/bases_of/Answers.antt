use Rattle.std.proofs.Common.{◌≡◌, ◌+◌, ℕ, ap, ◌∙◌}
use Rattle.std.specs.Global.{Vec}
use Rattle.struct_ir.specs.Views.{nodes_view}
use Rattle.pin_flow.specs.Looks.{some_act}
use Rattle.pin_flow.specs.Slots.{accesses}
use Rattle.pin_flow.proofs.MarkedRows.{Those, those_in, those_out, read_is}
use Rattle.pin_flow.proofs.slots.bases_of.Goals.{then-index+in_ok-push, else-index}
use Rattle.pin_flow.proofs.slots.bases_of.Goals as goal

pub loop-b-preserved : goal.loop-b-preserved
loop-b-preserved c =
    let ns = nodes_view c.args.f.now.nodes.items in
    let b = c.loop-b.b in
    let old = c.loop-b.bases.items in
    let new = c.if-index.bases.items in
    let flag : some_act (accesses b) ns ≡ c.index.result.now =
    read_is c.in_ok-seen.seen.items c.args.f.now.temps b c.index.result.now (λ d. some_act (accesses d) ns) c.in_ok-seen.ensures.long c.in_ok-seen.ensures.each c.loop-b-test.true c.index.ensures in
    let those : Those ns (b + 1) new = elim c.if-index.branch [
      | then-index+in_ok-push w ↦ those_in ns b old new (flag ∙ w.if-index.true) c.loop-b.invariant.those c.loop-b.invariant.few (ap (λ (v : Vec ℕ). v.items) w.bases-is ∙ w.in_ok-push.ensures.items)
      | else-index w ↦ those_out ns b old new (flag ∙ w.if-index.false) c.loop-b.invariant.those c.loop-b.invariant.few (ap (λ (v : Vec ℕ). v.items) w.bases-is)
    ] in
    record { those = those.those; few = those.few }
