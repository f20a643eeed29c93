use Rattle.std.proofs.Common.{◌∙◌, Some, refl, sym, subst, arith, length, ◌<◌}
use Rattle.std.specs.Prelude.{slice_get}
use Rattle.flat_store.specs.Flat.{first_outside}
use Rattle.flat_store.specs.Word.{low_bytes}
use Rattle.flat_store.proofs.Firsts.{none_outside}
use Rattle.ak_trace.specs.declared.endings.TrapKind.TheVariants as kinds
use Rattle.flat_meaning.specs.Accesses.{Done}
use Rattle.flat_meaning.specs.Actions.{joined_if}
use Rattle.flat_threads.specs.Targets.{target_view}
use Rattle.flat_machine.specs.inner.Dones.{Does}
use Rattle.flat_machine.specs.contracts.shared.Shared.{the_view}
use Rattle.flat_machine.proofs.Doing.{does_same, does_write, does_reach, with_arena}
use Rattle.flat_machine.proofs.Threads.{joined_is}
use Rattle.flat_machine.proofs.shared.Shared.join.Goals as goal
use Rattle.flat_machine.proofs.shared.Shared.join.Goals.{in-Ok, in-Err}

pub returns-clause-does : goal.returns-clause-does
returns-clause-does c =
    let v = the_view c.self.inside in
    let to = target_view c.args.to in
    let outside = first_outside v.memory.storage.bytes to.address 4 in
    let within : c.args.number < length c.self.inside.threads.items = omega arith in
    let d = joined_is v.memory c.self.inside.threads.items refl c.args.number c.index.result.now c.in-Some.word within c.index.ensures c.in-Some.is to c.if-to-eq0.false in
    does_same v c.args.self.now _ c.match-store.result (λ s. joined_if to (slice_get s.memory.threads c.args.number) s.memory) c.self.view_is
    (subst (λ (d : Done). Does v (with_arena v c.store.new.self) c.match-store.result d) (sym d) (
    elim c.match-store.branch [
      | in-Ok w ↦
          does_write v kinds.Join outside c.match-store.result c.store.new.self to.address (low_bytes 4 c.in-Some.word) (Some 0) _ (w.result-is ∙ w.went-in-Ok.ensures) (none_outside _ _ _ (w.in-Ok.ensures.within.0 refl)) w.in-Ok.ensures.stored
      | in-Err w ↦
          does_reach v kinds.Join outside c.match-store.result c.store.new.self w.in-Err.outside.0 _ w.result-is w.in-Err.ensures.outside w.in-Err.ensures.unchanged
    ]
    ))
