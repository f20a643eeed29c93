use Rattle.std.proofs.Common.{◌∙◌, sym, subst, length}
use Rattle.std.proofs.lemmas.List.{length-map}
use Rattle.c_tree.specs.TypedViews.{type_view}
use Rattle.c_typing.specs.Faults.{Gives}
use Rattle.type_context.specs.Telling.{as_fault, Says}
use Rattle.c_typing.specs.Scope.{fresh, within}
use Rattle.c_typing.specs.Statements.{most_locals, local_fine}
use Rattle.type_context.specs.ContextViews.{context_view}
use Rattle.type_context.proofs.Judging.{gives_both}
use Rattle.type_declared.proofs.objects.fine_local.Goals as goal

pub returns : goal.returns
returns c =
    let n = c.args.name in
    let d = context_view c.args.context.now in
    let few = subst (λ k. Says (λ (u : Unit {0}). tt) c.within-few.result (within n.from 5 most_locals k)) (c.len.ensures ∙ c.args.context.now.locals.ok.0 ∙ sym (length-map c.args.context.now.locals.items type_view)) c.within-few.ensures in
    subst (λ r. Gives (λ x. x) r (local_fine d n)) (sym c.both_or_refusal.ensures)
    (gives_both (λ (u : Unit {0}). tt) (λ (u : Unit {0}). tt) (as_fault c.fresh.result) (as_fault c.within-few.result) (fresh d n) (within n.from 5 most_locals (length d.locals)) c.fresh.ensures few)
