use Rattle.std.proofs.Common.{◌<◌, ap, ◌∙◌, length}
use Rattle.flat_meaning.specs.Memory.{thread_ended}
use Rattle.flat_machine.specs.Shares.{Shared}
use Rattle.flat_machine.specs.inner.Dones.{with_memory}
use Rattle.flat_machine.specs.contracts.shared.Shared.{the_view}
use Rattle.flat_machine.proofs.Threads.{made_ended, made_within}
use Rattle.flat_machine.proofs.shared.Shared.finish.Goals as goal

pub returns-clause-ended : goal.returns-clause-ended
returns-clause-ended c =
    let v = the_view c.self.inside in
    let within : c.args.thread < length c.self.inside.threads.items = made_within _ _ (rw (← c.self.view_is) at c.requires) in
    ap (λ threads. with_memory v (record { storage = v.memory.storage; output = v.memory.output; threads = threads; leaving = v.memory.leaving })) (made_ended c.self.inside.threads.items c.args.thread c.index_mut.result.now c.args.word within c.index_mut.ensures.value)
    ∙ ap (λ (s : Shared). with_memory s (thread_ended s.memory c.args.thread c.args.word)) c.self.view_is
