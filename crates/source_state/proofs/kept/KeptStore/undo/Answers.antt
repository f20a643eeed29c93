use Rattle.std.proofs.Common.{◌∙◌, rules}
use Rattle.source_state.proofs.Back.{popped_back}
use Rattle.source_state.proofs.kept.KeptStore.undo.Goals as goal

pub back-preserved : goal.back-preserved
back-preserved c =
    popped_back c.back.self-inside.log.items c.pop.new.self.items c.in-Some.change c.back.self-inside.store c.take_back.new.store (search rules) c.take_back.ensures
    ∙ c.back.invariant
