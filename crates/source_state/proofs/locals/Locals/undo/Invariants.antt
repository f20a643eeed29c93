use Rattle.std.proofs.Common.{◌≡◌, length, map}
use Rattle.source_state.specs.Variables.{variable_of}
use Rattle.source_state.specs.inner.LocalsBack.{back_by_all}
use Rattle.source_state.proofs.locals.Locals.undo.Given as goal

abbrev pub invariant-back : goal.invariant-back
invariant-back l = map variable_of (back_by_all l.self-inside.log.items l.self-inside.variables.items) ≡ l.fn.self.kept

abbrev pub decreases-back : goal.decreases-back
decreases-back l = length l.self-inside.log.items
