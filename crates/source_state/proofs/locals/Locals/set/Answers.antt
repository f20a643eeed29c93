use Rattle.std.proofs.Common.{◌∙◌, set, ap, sym, refl, rules}
use Rattle.std.proofs.lemmas.List.{map-set}
use Rattle.source_state.specs.Variables.{KeptLocals, variable_of}
use Rattle.source_state.proofs.LocalsBack.{changed_back}
use Rattle.source_state.proofs.locals.Locals.set.Goals as goal

pub returns-in_ok-push-clause-now : goal.returns-in_ok-push-clause-now
returns-in_ok-push-clause-now c =
    map-set variable_of c.self.inside.variables.items c.args.number c.args.variable
    ∙ ap (λ (k : KeptLocals). set k.now c.args.number (variable_of c.args.variable)) c.self.view_is

pub returns-in_ok-push-clause-kept : goal.returns-in_ok-push-clause-kept
returns-in_ok-push-clause-kept c =
    changed_back c.self.inside.log.items c.push.new.self.items c.self.inside.variables.items _ c.args.self.now.kept c.args.number c.args.variable c.index.result.now c.index.result.now
    (search rules) (search rules) refl (sym (ap (λ (k : KeptLocals). k.kept) c.self.view_is))
