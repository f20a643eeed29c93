use Rattle.std.proofs.Common.{◌∙◌, ap}
use Rattle.std.proofs.lemmas.Result.{IfErr-weaker}
use Rattle.block_store.specs.Atomics.{changed}
use Rattle.block_store.specs.Blocks.{Blocks}
use Rattle.source_state.specs.inner.Back.{back_by_all}
use Rattle.source_state.proofs.Broken.{change_kept}
use Rattle.source_state.proofs.kept.KeptStore.change.Goals as goal

pub returns-clause-unchanged : goal.returns-clause-unchanged
returns-clause-unchanged c =
    IfErr-weaker c.change.result _ _ (λ rule same. ap (λ (s : Blocks). record { now = s; kept = back_by_all c.self.inside.log.items s }) same ∙ c.self.view_is)
    (change_kept c.change.result (changed c.self.inside.store c.args.at c.args.by.ty c.args.how c.args.by.value) c.self.inside.store c.change.new.self c.change.ensures.answer c.change.ensures.after)
