use Rattle.std.proofs.Common.{◌≡◌, ℕ, ◌*◌, ◌+◌, ◌≤◌, false, List, ◌++◌, length, ap, ◌∙◌, arith}
use Rattle.std.specs.Prelude.{flat_map}
use Rattle.std.specs.FinSet as set
use Rattle.std.specs.Ordering.{nat_cmp}
use Rattle.move_plan.specs.Holding.{PinSet, is_pinned}
use Rattle.handle_table.specs.Words.{WordList}
use Rattle.defrag_move.proofs.Places.{len-places_named}
use Rattle.flat_machine.specs.inner.Swept.{handles_home}
use Rattle.flat_machine.proofs.Slid.{only_named}
use Rattle.flat_machine.proofs.pinning.pin_all.Goals as goal

pub pins_of-requires : goal.pins_of-requires
pins_of-requires c =
    let few : length c.unite_all.new.into.words ≤ length c.clear.new.self.words + 1024 * length c.args.home.now = c.unite_all.ensures.few in
    let cleared : length c.clear.new.self.words ≡ 0 = ap (λ (w : WordList). length w.words) c.clear.ensures in
    let none : set.len c.clear-2.new.self.places ≡ 0 = ap (λ (p : PinSet). set.len p.places) c.clear-2.ensures ∙ set.len-empty nat_cmp in
    let room : c.clear-2.new.self.room ≡ 65536 = ap (λ (p : PinSet). p.room) c.clear-2.ensures ∙ c.requires.pins_room in
    omega (arith, few, cleared, none, room, c.requires.few, len-places_named c.args.arena.now c.unite_all.new.into.words c.clear-2.new.self.places)

pub returns-clause-pinned : goal.returns-clause-pinned
returns-clause-pinned c = λ at.
    let code = c.args.program.now in
    let home = c.args.home.now in
    let none : is_pinned c.clear-2.new.self at ≡ false = ap (λ (p : PinSet). is_pinned p at) c.clear-2.ensures ∙ set.contains-empty nat_cmp at in
    let named : c.unite_all.new.into.words ≡ flat_map (handles_home code) home = ap (λ (w : WordList). w.words) c.unite_all.ensures.united ∙ ap (λ (ws : List ℕ). ws ++ flat_map (handles_home code) home) (ap (λ (w : WordList). w.words) c.clear.ensures) in
    only_named c.args.arena.now c.unite_all.new.into.words (flat_map (handles_home code) home) (is_pinned c.clear-2.new.self at) (is_pinned c.pins_of.new.into at) at none named (c.pins_of.ensures.members at)
