use Rattle.std.proofs.Common.{◌≡◌, length}
use Rattle.source_state.specs.inner.Back.{back_by_all}
use Rattle.source_state.proofs.kept.KeptStore.undo.Given as goal

abbrev pub invariant-back : goal.invariant-back
invariant-back l = back_by_all l.self-inside.log.items l.self-inside.store ≡ l.fn.self.kept

abbrev pub decreases-back : goal.decreases-back
decreases-back l = length l.self-inside.log.items
