use Rattle.std.proofs.Common.{◌≡◌, ◌∙◌, ap, subst, sym}
use Rattle.std.proofs.lemmas.Result.{err_from_is_err_and}
use Rattle.c_tree.specs.TypedViews.{type_view}
use Rattle.c_typing.specs.Faults.{typed, Gives}
use Rattle.c_typing.specs.Types.{value_type, behind_pointers}
use Rattle.c_typing.specs.Programs.{result_type, result_of}
use Rattle.type_context.proofs.Judging.{fails_typed, fails_part, fault_gives}
use Rattle.type_declared.proofs.ParamLaws.{same_typed}
use Rattle.type_declared.proofs.heads.result_of.Goals as goal

pub returns-in_err-named : goal.returns-in_err-named
returns-in_err-named c = λ j g.
    let p = err_from_is_err_and c.from_residual.result c.from_residual.ensures.1 in
    rw (p.1, p.2) (fails_part j (λ t. result_type c.args.place (value_type (behind_pointers t c.args.pointers.now))) c.in_err-named.field-0.0 (subst (λ r. Gives type_view r j) c.in_err-named.was g))

pub returns-in_err-behind : goal.returns-in_err-behind
returns-in_err-behind c = λ j g.
    let p = err_from_is_err_and c.from_residual-in_err-behind.result c.from_residual-in_err-behind.ensures.1 in
    rw (p.1, p.2) (fails_typed (behind_pointers (type_view c.in_ok-named.named) c.args.pointers.now) (result_of c.args.place j c.args.pointers.now) c.in_err-behind.field-0.0 c.in_err-behind.ensures)

pub returns : goal.returns
returns c = λ j g.
    let t = behind_pointers (type_view c.in_ok-named.named) c.args.pointers.now in
    let is : j ≡ typed (type_view c.in_ok-named.named) = subst (λ r. Gives type_view r j) c.in_ok-named.was g in
    subst (λ i. Gives type_view c.as_fault.result (result_of c.args.place i c.args.pointers.now)) (sym is)
    (subst (λ s. Gives type_view c.as_fault.result (result_type c.args.place s)) (c.value_type.ensures ∙ ap value_type (sym (same_typed t (type_view c.in_ok-behind.behind) c.in_ok-behind.ensures))) (fault_gives type_view _ _ _ c.as_fault.ensures c.result_type.ensures))
