use Rattle.std.proofs.Common.{◌∙◌, sym, subst, length, ap}
use Rattle.std.proofs.lemmas.List.{length-map}
use Rattle.c_tree.specs.TypedViews.{type_view}
use Rattle.c_typing.specs.Faults.{Gives, both}
use Rattle.c_typing.specs.Scope.{within}
use Rattle.c_typing.specs.Statements.{most_locals}
use Rattle.c_typing.specs.Programs.{param_fine, fresh_if}
use Rattle.type_context.specs.ContextViews.{context_view}
use Rattle.type_context.specs.inner.Outcomes.{joined}
use Rattle.type_context.specs.Telling.{as_fault, Says}
use Rattle.type_context.proofs.Judging.{gives_both}
use Rattle.type_declared.proofs.parameters.param_fine.Goals as goal

pub returns : goal.returns
returns c =
    let place = c.args.place in
    let d = context_view c.args.context.now in
    let unit = λ (u : Unit {0}). tt in
    let is = c.len-count.ensures ∙ c.args.context.now.locals.ok.0 ∙ sym (length-map c.args.context.now.locals.items type_view) in
    let few = subst (λ k. Says unit c.within.result (within place 6 16 k)) is c.within.ensures in
    let room = subst (λ k. Says unit c.within-2.result (within place 5 most_locals k)) is c.within-2.ensures in
    subst (λ r. Gives (λ x. x) r (param_fine d place c.args.name)) (sym (c.both_or_refusal.ensures ∙ ap (joined (as_fault c.fresh_if.result)) c.both_or_refusal-few.ensures))
    (gives_both unit (λ (u : Unit {0} × Unit {0}). (tt, tt)) (as_fault c.fresh_if.result) (joined (as_fault c.within.result) (as_fault c.within-2.result)) (fresh_if d c.args.name) (both (within place 6 16 (length d.locals)) (within place 5 most_locals (length d.locals))) c.fresh_if.ensures
    (gives_both unit unit (as_fault c.within.result) (as_fault c.within-2.result) (within place 6 16 (length d.locals)) (within place 5 most_locals (length d.locals)) few room))
