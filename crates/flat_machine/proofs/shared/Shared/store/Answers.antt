use Rattle.std.proofs.Common.{◌≡◌, None, refl, ◌∙◌}
use Rattle.flat_store.specs.Flat.{first_outside}
use Rattle.flat_store.specs.Word.{low_bytes}
use Rattle.flat_store.proofs.Firsts.{none_outside}
use Rattle.block_store.specs.Cells.{size_of}
use Rattle.ak_trace.specs.declared.endings.TrapKind.TheVariants as kinds
use Rattle.flat_meaning.specs.Accesses.{stored}
use Rattle.flat_threads.specs.Targets.{target_view}
use Rattle.flat_machine.specs.contracts.shared.Shared.{the_view}
use Rattle.flat_machine.proofs.Doing.{does_same, does_write, does_reach}
use Rattle.flat_machine.proofs.shared.Shared.store.Goals as goal
use Rattle.flat_machine.proofs.shared.Shared.store.Goals.{in-Ok, in-Err}

pub returns-clause-does : goal.returns-clause-does
returns-clause-does c =
    let v = the_view c.self.inside in
    let a = target_view c.args.at in
    let n : c.size_of_access.result ≡ size_of c.args.how = c.size_of_access.ensures.size in
    does_same v c.args.self.now _ c.match-store.result (λ s. stored c.args.how a c.args.word s.memory) c.self.view_is (
    elim c.match-store.branch [
      | in-Ok w ↦
          does_write v kinds.Store (first_outside v.memory.storage.bytes a.address (size_of c.args.how)) c.match-store.result c.store.new.self a.address (low_bytes (size_of c.args.how) c.args.word) None _ (w.result-is ∙ w.plain.ensures)
          (rw (← n) (none_outside _ _ _ (w.in-Ok.ensures.within.0 refl)))
          (rw (← n) w.in-Ok.ensures.stored)
      | in-Err w ↦
          does_reach v kinds.Store (first_outside v.memory.storage.bytes a.address (size_of c.args.how)) c.match-store.result c.store.new.self w.in-Err.outside.0 _ w.result-is (rw (← n) w.in-Err.ensures.outside) w.in-Err.ensures.unchanged
    ]
    )
