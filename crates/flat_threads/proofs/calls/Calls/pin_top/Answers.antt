use Rattle.std.proofs.Common.{List, ℕ, ap, ◌∙◌, length, arith}
use Rattle.std.proofs.lemmas.List.{length-append}
use Rattle.handle_table.specs.Words.{WordList}
use Rattle.handle_table.specs.Frame.{listed_handles}
use Rattle.flat_threads.proofs.Listed.{top_slots, top_handles, top_few, with_more}
use Rattle.flat_threads.proofs.calls.Calls.pin_top.Goals as goal

pub unite-requires-clause-slots : goal.unite-requires-clause-slots
unite-requires-clause-slots c = top_slots c.self.inside.registers.items c.self.inside.slots c.self.inside.top c.self.inside.callers.items c.self.invariant.0 c.args.self.now c.self.view_is c.args.list.now c.requires.list

pub unite-requires-clause-room : goal.unite-requires-clause-room
unite-requires-clause-room c =
    let n = top_few c.self.inside.registers.items c.self.inside.slots c.self.inside.top c.self.inside.callers.items c.self.invariant.0 c.args.self.now c.self.view_is c.args.list.now c.requires.list in
    omega (arith, n, c.requires.room)

pub returns-clause-pinned : goal.returns-clause-pinned
returns-clause-pinned c =
    c.unite.ensures
    ∙ ap (λ (l : List ℕ). with_more c.args.into.now l) (top_handles c.self.inside.registers.items c.self.inside.slots c.self.inside.top c.self.inside.callers.items c.self.invariant.0 c.args.self.now c.self.view_is c.args.list.now c.requires.list)

pub returns-clause-few : goal.returns-clause-few
returns-clause-few c =
    let n = top_few c.self.inside.registers.items c.self.inside.slots c.self.inside.top c.self.inside.callers.items c.self.invariant.0 c.args.self.now c.self.view_is c.args.list.now c.requires.list in
    let e = ap (λ (w : WordList). length w.words) c.unite.ensures in
    omega (arith, n, e, length-append c.args.into.now.words (listed_handles c.self.inside.slots c.self.inside.top.slots c.args.list.now))
