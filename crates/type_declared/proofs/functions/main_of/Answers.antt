use Rattle.std.proofs.Common.{◌≡◌, ◌&&◌, ap, sym, subst, ◌∙◌, length}
use Rattle.std.proofs.lemmas.Result.{err_from_is_err_and}
use Rattle.std.specs.Prelude.{codes}
use Rattle.std.specs.List.{list_any}
use Rattle.std.specs.Map.{lookup}
use Rattle.std.specs.Str.{bytes_eq}
use Rattle.c_lex.specs.declared.refusal.Kind.TheVariants.{UnknownName}
use Rattle.c_typing.specs.Faults.{Judged, Gives, typed, unless, ◌>>=◌}
use Rattle.c_typing.specs.Programs.{is_main, place_of_name}
use Rattle.type_context.specs.ContextViews.{frame_view}
use Rattle.type_context.proofs.Judging.{fails_part, fault_gives}
use Rattle.type_declared.proofs.functions.main_of.Goals as goal

pub returns-in_err-as_fault : goal.returns-in_err-as_fault
returns-in_err-as_fault c = λ names h.
    let d = c.args.context.now in
    let fine : Judged (Unit {0}) = unless (length d.text.now) UnknownName (is_main (lookup (bytes_eq (codes "main")) (frame_view d.inner.entries)) && list_any (bytes_eq (codes "main")) names) in
    let p = err_from_is_err_and c.from_residual-in_err-as_fault.result c.from_residual-in_err-as_fault.ensures.1 in
    rw (p.1, p.2)
    (fails_part fine (λ u. typed (place_of_name (codes "main") names)) c.in_err-as_fault.field-0.0
    (subst (λ r. Gives (λ (u : Unit {0}). tt) r fine) c.in_err-as_fault.was (fault_gives (λ (u : Unit {0}). tt) c.unless.result c.as_fault.result fine c.as_fault.ensures (rw (c.in_ok-end.ensures.number, c.main_is_there-is_there.ensures names h) at c.unless.ensures))))

pub returns : goal.returns
returns c = λ names h.
    let d = c.args.context.now in
    let fine : Judged (Unit {0}) = unless (length d.text.now) UnknownName (is_main (lookup (bytes_eq (codes "main")) (frame_view d.inner.entries)) && list_any (bytes_eq (codes "main")) names) in
    let is : fine ≡ typed tt =
    subst (λ r. Gives (λ (u : Unit {0}). tt) r fine) c.in_ok-as_fault.was (fault_gives (λ (u : Unit {0}). tt) c.unless.result c.as_fault.result fine c.as_fault.ensures (rw (c.in_ok-end.ensures.number, c.main_is_there-is_there.ensures names h) at c.unless.ensures)) in
    ap (λ (j : Judged (Unit {0})). j >>= λ u. typed (place_of_name (codes "main") names)) is ∙ ap typed (sym (c.place.ensures names h))
