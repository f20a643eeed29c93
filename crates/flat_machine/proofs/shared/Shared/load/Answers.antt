use Rattle.std.proofs.Common.{◌≡◌, refl, subst}
use Rattle.flat_meaning.specs.Accesses.{loaded}
use Rattle.flat_threads.specs.Targets.{target_view}
use Rattle.flat_machine.specs.inner.Dones.{done_view}
use Rattle.flat_machine.specs.contracts.shared.Shared.{the_view}
use Rattle.flat_machine.proofs.Doing.{done_load}
use Rattle.flat_machine.proofs.shared.Shared.load.Goals as goal

pub returns-in-Ok-clause-done : goal.returns-in-Ok-clause-done
returns-in-Ok-clause-done c =
    let v = the_view c.self.inside in
    subst (λ s. done_view s.memory c.went.result ≡ loaded c.args.how (target_view c.args.at) s.memory) c.self.view_is
    (done_load v.memory c.args.how (target_view c.args.at) c.went.result _ c.word_read.result c.in-Ok.number c.went.ensures c.word_read.ensures c.size_of_access.result c.size_of_access.ensures.size c.flat.result.now c.flat.ensures.bytes (c.in-Ok.ensures.within.0 refl) c.in-Ok.ensures.value)
