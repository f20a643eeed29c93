use Rattle.std.proofs.Common.{subst, sym}
use Rattle.std.proofs.lemmas.Result.{err_from_is_err_and}
use Rattle.c_tree.specs.TypedViews.{type_view}
use Rattle.c_typing.specs.Faults.{Gives, Fails, ◌>>=◌}
use Rattle.c_typing.specs.Types.{behind_pointers}
use Rattle.c_typing.specs.Programs.{adjusted_param, adjusted, param_type}
use Rattle.type_context.specs.ContextViews.{context_view}
use Rattle.type_context.proofs.Judging.{fails_typed, fails_part, fault_gives}
use Rattle.type_declared.proofs.ParamLaws.{same_typed}
use Rattle.type_declared.proofs.parameters.adjusted_param.Goals as goal

pub returns-in_err-behind : goal.returns-in_err-behind
returns-in_err-behind c =
    let t = behind_pointers (type_view c.args.base) c.args.pointers.now in
    let p = err_from_is_err_and c.from_residual.result c.from_residual.ensures.1 in
    rw (p.1, p.2) (fails_typed t (adjusted_param (context_view c.args.context.now) c.args.place (type_view c.args.base) c.args.pointers.now c.args.sizes.now) c.in_err-behind.field-0.0 c.in_err-behind.ensures)

pub returns-in_err-whole : goal.returns-in_err-whole
returns-in_err-whole c =
    let d = context_view c.args.context.now in
    let t = behind_pointers (type_view c.args.base) c.args.pointers.now in
    let same = same_typed t (type_view c.in_ok-behind.behind) c.in_ok-behind.ensures in
    let p = err_from_is_err_and c.from_residual-in_err-whole.result c.from_residual-in_err-whole.ensures.1 in
    rw (p.1, p.2) (subst (λ s. Fails c.in_err-whole.field-0.0 (adjusted d c.args.place s c.args.sizes.now >>= param_type d c.args.place)) (sym same)
    (fails_part (adjusted d c.args.place (type_view c.in_ok-behind.behind) c.args.sizes.now) (param_type d c.args.place) c.in_err-whole.field-0.0 c.in_err-whole.ensures))

pub returns : goal.returns
returns c =
    let d = context_view c.args.context.now in
    let t = behind_pointers (type_view c.args.base) c.args.pointers.now in
    let same = same_typed t (type_view c.in_ok-behind.behind) c.in_ok-behind.ensures in
    subst (λ s. Gives type_view c.as_fault.result (adjusted d c.args.place s c.args.sizes.now >>= param_type d c.args.place)) (sym same)
    (subst (λ j. Gives type_view c.as_fault.result (j >>= param_type d c.args.place)) (sym c.in_ok-whole.ensures) (fault_gives type_view _ _ _ c.as_fault.ensures c.param_type.ensures))
