use Rattle.std.proofs.Common.{◌∙◌, ap}
use Rattle.std.proofs.lemmas.Result.{IfErr-weaker}
use Rattle.block_store.specs.Atomics.{compared}
use Rattle.block_store.specs.Blocks.{Blocks}
use Rattle.source_state.specs.inner.Back.{back_by_all}
use Rattle.source_state.proofs.Broken.{compare_kept}
use Rattle.source_state.proofs.kept.KeptStore.compare.Goals as goal

pub returns-clause-unchanged : goal.returns-clause-unchanged
returns-clause-unchanged c =
    IfErr-weaker c.compare.result _ _ (λ rule same. ap (λ (s : Blocks). record { now = s; kept = back_by_all c.self.inside.log.items s }) same ∙ c.self.view_is)
    (compare_kept c.compare.result (compared c.self.inside.store c.args.at c.args.want c.args.new.ty c.args.new.value) c.self.inside.store c.compare.new.self c.compare.ensures.answer c.compare.ensures.after)
