use Rattle.std.proofs.Common.{◌≡◌, false, replicate, subst}
use Rattle.struct_ir.specs.Views.{nodes_view}
use Rattle.pin_flow.specs.Looks.{some_act}
use Rattle.pin_flow.specs.Slots.{accesses}
use Rattle.pin_flow.specs.inner.Marked.{IsMarked}
use Rattle.pin_flow.proofs.MarkedRows.{seen_is}
use Rattle.pin_flow.proofs.slots.bases_seen.Goals as goal

pub returns-clause-each : goal.returns-clause-each
returns-clause-each c =
    let old = c.in_ok-seen.seen.items in
    let new = c.mark_row.new.seen.items in
    let none : old ≡ replicate c.args.f.now.temps false = c.in_ok-seen.ensures.items_if_clones_equal (λ y h. h) in
    seen_is old new c.args.f.now.temps (λ b. some_act (accesses b) (nodes_view c.args.f.now.nodes.items)) none
    (subst (λ l. IsMarked old new (λ b. some_act (accesses b) (nodes_view l))) c.deref.ensures.value c.mark_row.ensures)
