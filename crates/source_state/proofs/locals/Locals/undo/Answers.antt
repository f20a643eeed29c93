use Rattle.std.proofs.Common.{◌∙◌, ap, map, rules}
use Rattle.source_state.specs.Variables.{variable_of}
use Rattle.source_state.proofs.LocalsBack.{popped_back}
use Rattle.source_state.proofs.locals.Locals.undo.Goals as goal

pub back-preserved : goal.back-preserved
back-preserved c =
    ap (map variable_of) (popped_back c.back.self-inside.log.items c.pop.new.self.items c.in-Some.old c.back.self-inside.variables.items c.take_back.new.variables.items (search rules) c.take_back.ensures)
    ∙ c.back.invariant
