use Rattle.std.proofs.Common.{◌≡◌, ◌+◌, true, cond, not, ap, sym, ◌∙◌, length, arith}
use Rattle.std.specs.FinSet as set
use Rattle.std.proofs.lemmas.Bool.{false≢true}
use Rattle.move_plan.specs.Holding.{PinSet, is_pinned}
use Rattle.move_plan.proofs.PinSets.{contains-list, from_list_more, insert_present, keys_leave_room}
use Rattle.move_plan.proofs.pinned.Pins.add.Goals as goal

-- the place is there already
pub returns-then-contains : goal.returns-then-contains
returns-then-contains c =
    let there = contains-list c.self.inside.places.keys c.args.at ∙ sym c.if-contains.ensures in
    let there_now = sym (ap (λ (p : PinSet). is_pinned p c.args.at) c.self.view_is) ∙ there in
    ap (λ s. record c.args.self.now { places = s }) (insert_present c.args.self.now.places c.args.at there_now)

-- the place isn't there, and there is room for it
pub unreachable-requires : goal.unreachable-requires
unreachable-requires c =
    let room = keys_leave_room c.self.inside.room c.self.inside.places.keys c.args.self.now c.args.at c.self.view_is c.self.invariant.2 (sym c.if-contains.ensures) c.requires in
    false≢true (c.in-Err.ensures.succeeds (omega (arith, room, c.self.invariant.1)))

pub invariant_of-self : goal.invariant_of-self
invariant_of-self c =
    let room = keys_leave_room c.self.inside.room c.self.inside.places.keys c.args.self.now c.args.at c.self.view_is c.self.invariant.2 (sym c.if-contains.ensures) c.requires in
    let added : c.in-Ok.field-0 ≡ true = c.in-Ok.ensures.added ∙ ap not (sym c.if-contains.ensures) in
    let more : length c.insert.new.self.keys ≡ length c.self.inside.places.keys + 1 = c.in-Ok.ensures.len ∙ ap (λ b. length c.self.inside.places.keys + cond b 1 0) added in
    (omega (arith, room, more), omega (arith, more, c.self.invariant.1, c.in-Ok.ensures.spare), c.in-Ok.ensures.unique)

pub returns : goal.returns
returns c =
    ap (λ s. record { room = c.self.inside.room; places = s }) (from_list_more c.self.inside.places.keys c.insert.new.self.keys c.args.at c.in-Ok.ensures.updates.0)
    ∙ ap (λ (p : PinSet). record p { places = set.insert p.places c.args.at }) c.self.view_is
