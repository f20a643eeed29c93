use Rattle.std.proofs.Common.{ap, sym, ◌∙◌}
use Rattle.block_store.specs.Blocks.{renewed}
use Rattle.source_state.specs.Kept.{Kept}
use Rattle.source_state.proofs.kept.KeptStore.renew.Goals as goal

pub returns-clause-broke : goal.returns-clause-broke
returns-clause-broke c rule e = sym (ap (λ (k : Kept). renewed k.now c.args.at c.args.size) c.self.view_is) ∙ (c.renew.ensures.broke rule).0 e
