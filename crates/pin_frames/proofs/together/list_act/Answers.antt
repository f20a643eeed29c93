use Rattle.std.proofs.Common.{◌≡◌, ap, ◌∙◌, arith, ◌||◌, ◌&&◌, length}
use Rattle.std.specs.Prelude.{not}
use Rattle.struct_ir.specs.Views.{node_view}
use Rattle.pin_flow.specs.Live.{uses}
use Rattle.pin_flow.specs.Views.{act_is, looks_slot}
use Rattle.mark_sets.specs.Words.{has}
use Rattle.pin_frames.specs.inner.Together.{numbers, node_listing}
use Rattle.mark_sets.proofs.HomeSlots.{home_of}
use Rattle.pin_frames.proofs.SlotSets.{numbers_are}
use Rattle.pin_frames.proofs.together.list_act.Goals as goal

pub list_own-requires : goal.list_own-requires
list_own-requires c = let h = (home_of c.requires).few in omega (arith, h)

pub returns-clause-node : goal.returns-clause-node
returns-clause-node c =
    let bs = c.args.homes.now.bases.items in
    let n = node_view c.args.n.now in
    let long : c.len.result ≡ length bs = omega arith in
    c.in_ok-list_own.ensures
    ∙ ap (node_listing n) ((λ j. numbers (has (c.deref-2.ensures.value j)) 0 (long j))
    ∙ numbers_are bs c.in_ok-set.set.items (λ i b. act_is (uses i b) n || (not (looks_slot i n) && has c.args.on.items i)) (home_of c.requires).once c.in_ok-set.ensures)
