use Rattle.std.proofs.Common.{List, ℕ, None, refl, ◌∙◌}
use Rattle.flat_store.specs.Flat.{bytes_from, first_outside_of_both}
use Rattle.ak_trace.specs.declared.endings.TrapKind.TheVariants as kinds
use Rattle.flat_meaning.specs.Accesses.{copied}
use Rattle.flat_threads.specs.Targets.{target_view}
use Rattle.flat_machine.specs.contracts.shared.Shared.{the_view}
use Rattle.flat_machine.proofs.Doing.{does_same, does_write, does_reach, none_of_both}
use Rattle.flat_machine.proofs.shared.Shared.copy.Goals as goal
use Rattle.flat_machine.proofs.shared.Shared.copy.Goals.{in-Ok, in-Err}

pub returns-clause-does : goal.returns-clause-does
returns-clause-does c =
    let v = the_view c.self.inside in
    let to = target_view c.args.to in
    let from = target_view c.args.from in
    let bytes : List ℕ = v.memory.storage.bytes in
    does_same v c.args.self.now _ c.match-copy.result (λ s. copied to from c.args.n s.memory) c.self.view_is (
    elim c.match-copy.branch [
      | in-Ok w ↦
          does_write v kinds.Copy (first_outside_of_both bytes to.address from.address c.args.n) c.match-copy.result c.copy.new.self to.address (bytes_from bytes from.address c.args.n) None _ (w.result-is ∙ w.plain.ensures)
          (none_of_both bytes to.address from.address c.args.n (w.in-Ok.ensures.within.0 refl))
          w.in-Ok.ensures.copied
      | in-Err w ↦
          does_reach v kinds.Copy (first_outside_of_both bytes to.address from.address c.args.n) c.match-copy.result c.copy.new.self w.in-Err.outside.0 _ w.result-is w.in-Err.ensures.outside w.in-Err.ensures.unchanged
    ]
    )
