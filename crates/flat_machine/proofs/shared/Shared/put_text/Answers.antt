use Rattle.std.proofs.Common.{◌≡◌, ◌∙◌, ◌-◌, ◌+◌, ◌++◌, [], Some, refl, ap, sym, arith}
use Rattle.flat_store.specs.Flat.{IsTextLen, HasNoZero, bytes_from, first_outside}
use Rattle.flat_meaning.specs.Accesses.{output_room}
use Rattle.flat_meaning.specs.Printing.{reads, outside, too_long}
use Rattle.flat_machine.specs.contracts.shared.Shared.{the_view}
use Rattle.flat_machine.proofs.Prints.{with_output, with_nothing, puts_text}
use Rattle.flat_machine.proofs.Texts.{text_of_len, text_too_long, text_outside}
use Rattle.flat_machine.proofs.shared.Shared.put_text.Goals as goal
use Rattle.flat_machine.proofs.shared.Shared.put_text.Goals.{After-text_len}

-- the room that is left
room_is : (c : After-text_len) → c.from.result - c.len.result ≡ output_room (the_view c.self.inside).output_limit (the_view c.self.inside).memory
room_is c = omega (arith, c.self.inside.output.ok.0)

pub returns-in-Ok-Some : goal.returns-in-Ok-Some
returns-in-Ok-Some c =
    let v = the_view c.self.inside in
    let ended = rw c.in-Ok-Some.field-0-is at c.in-Ok-Some.ensures.ended in
    let is : IsTextLen v.memory.storage.bytes c.args.at c.in-Ok-Some.len = rw c.flat.ensures.bytes at ended.1 in
    puts_text v c.args.self.now _ _ c.args.at (c.from.result - c.len.result) (reads (bytes_from v.memory.storage.bytes c.args.at c.in-Ok-Some.len)) c.self.view_is (room_is (goal.at.returns-in-Ok-Some c).After-text_len)
    (text_of_len v.memory.storage.bytes c.args.at c.in-Ok-Some.len _ is ended.0)
    (refl, ap (with_output v) (c.append_text.ensures.items ∙ ap (λ bytes. v.memory.output ++ bytes_from bytes c.args.at c.in-Ok-Some.len) c.flat-in-Ok-Some.ensures.bytes))

pub returns-in-Ok-None : goal.returns-in-Ok-None
returns-in-Ok-None c =
    let v = the_view c.self.inside in
    let has : HasNoZero v.memory.storage.bytes c.args.at (c.from.result - c.len.result + 1) = rw c.flat.ensures.bytes at (rw c.in-Ok-None.field-0-is at c.in-Ok-None.ensures.longer) in
    puts_text v c.args.self.now _ _ c.args.at (c.from.result - c.len.result) too_long c.self.view_is (room_is (goal.at.returns-in-Ok-None c).After-text_len) (text_too_long v.memory.storage.bytes c.args.at _ has)
    (refl, [], sym c.self.view_is ∙ with_nothing v)

pub returns-in-Err : goal.returns-in-Err
returns-in-Err c =
    let v = the_view c.self.inside in
    let e = c.in-Err.outside.0 in
    let is : first_outside v.memory.storage.bytes c.args.at (c.from.result - c.len.result + 1) ≡ Some e = rw c.flat.ensures.bytes at c.in-Err.ensures.outside.0 in
    let has : HasNoZero v.memory.storage.bytes c.args.at (e - c.args.at) = rw c.flat.ensures.bytes at c.in-Err.ensures.outside.1 in
    puts_text v c.args.self.now _ _ c.args.at (c.from.result - c.len.result) (outside e) c.self.view_is (room_is (goal.at.returns-in-Err c).After-text_len) (text_outside v.memory.storage.bytes c.args.at _ e is has)
    (refl, [], sym c.self.view_is ∙ with_nothing v)
