use Rattle.std.proofs.Common.{◌∙◌, sym, subst, length, ap}
use Rattle.std.proofs.lemmas.List.{length-map}
use Rattle.c_tree.specs.TypedViews.{type_view}
use Rattle.c_typing.specs.Faults.{Gives, both}
use Rattle.c_typing.specs.Scope.{fresh, within}
use Rattle.type_context.specs.ContextViews.{context_view}
use Rattle.type_context.specs.inner.Outcomes.{joined}
use Rattle.type_context.proofs.Judging.{gives_both, fault_gives}
use Rattle.type_declared.specs.ObjectFits.{fits_of}
use Rattle.c_typing.specs.Programs.{global_fine}
use Rattle.type_declared.proofs.objects.global_fine.Goals as goal

pub returns : goal.returns
returns c = λ j h.
    let n = c.args.name in
    let d = context_view c.args.context.now in
    let unit = λ (u : Unit {0}). tt in
    let few = subst (λ k. Gives unit c.as_fault-few.result (within n.from 2 4096 k)) (c.len.ensures ∙ c.args.context.now.globals.ok.0 ∙ sym (length-map c.args.context.now.globals.items type_view)) (fault_gives unit _ _ _ c.as_fault-few.ensures c.within.ensures) in
    subst (λ r. Gives (λ x. x) r (global_fine d n j)) (sym (c.both.ensures ∙ ap (joined c.as_fault.result) c.both-room.ensures))
    (gives_both unit (λ (u : Unit {0} × Unit {0}). (tt, tt)) c.as_fault.result (joined c.as_fault-few.result c.global_fits.result) (fresh d n) (both (within n.from 2 4096 (length d.globals)) (fits_of d n.from j)) (fault_gives unit _ _ _ c.as_fault.ensures c.fresh.ensures)
    (gives_both unit unit c.as_fault-few.result c.global_fits.result (within n.from 2 4096 (length d.globals)) (fits_of d n.from j) few (c.global_fits.ensures j h)))
