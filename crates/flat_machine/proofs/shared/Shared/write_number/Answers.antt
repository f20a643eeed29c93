use Rattle.std.proofs.Common.{◌/◌, Some, refl, ◌∙◌}
use Rattle.flat_store.specs.Flat.{first_outside}
use Rattle.flat_store.specs.Word.{low_bytes}
use Rattle.flat_store.proofs.Firsts.{none_outside}
use Rattle.ak_trace.specs.declared.endings.TrapKind.TheVariants as kinds
use Rattle.flat_meaning.specs.Accesses.{went, within}
use Rattle.flat_meaning.specs.Memory.{written}
use Rattle.flat_machine.specs.contracts.shared.Shared.{the_view}
use Rattle.flat_machine.proofs.Doing.{does_same, does_write, does_reach}
use Rattle.flat_machine.proofs.shared.Shared.write_number.Goals as goal
use Rattle.flat_machine.proofs.shared.Shared.write_number.Goals.{in-Ok, in-Err}

pub returns-clause-does : goal.returns-clause-does
returns-clause-does c =
    let v = the_view c.self.inside in
    let n = c.args.ty.bits / 8 in
    let at = c.args.at in
    does_same v c.args.self.now _ c.match-store.result (λ s. within kinds.Store (first_outside s.memory.storage.bytes at n) (went (Some c.args.gives) (written s.memory at (low_bytes n c.args.word)))) c.self.view_is (
    elim c.match-store.branch [
      | in-Ok w ↦
          does_write v kinds.Store (first_outside v.memory.storage.bytes at n) c.match-store.result c.store.new.self at (low_bytes n c.args.word) (Some c.args.gives) _ (w.result-is ∙ w.went.ensures) (none_outside _ _ _ (w.in-Ok.ensures.within.0 refl)) w.in-Ok.ensures.stored
      | in-Err w ↦
          does_reach v kinds.Store (first_outside v.memory.storage.bytes at n) c.match-store.result c.store.new.self w.in-Err.outside.0 _ w.result-is w.in-Err.ensures.outside w.in-Err.ensures.unchanged
    ]
    )
