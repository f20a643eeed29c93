use Rattle.std.proofs.Common.{List, map, subst, sym, ◌∙◌}
use Rattle.std.proofs.lemmas.Result.{err_from_is_err_and}
use Rattle.c_tree.specs.Typed.{Ty}
use Rattle.c_tree.specs.TypedViews.{type_view}
use Rattle.c_typing.specs.Faults.{Judged, Gives, Fails, mapped}
use Rattle.c_typing.specs.Numbering.{passed_type}
use Rattle.c_typing.specs.Programs.{agrees, before_name}
use Rattle.type_context.specs.ContextViews.{context_view}
use Rattle.type_context.proofs.Judging.{both_fails, both_then, fault_gives}
use Rattle.type_declared.specs.Gathering.{each}
use Rattle.type_declared.proofs.HeadLaws.{mapped_both}
use Rattle.type_declared.proofs.heads.types_fine.Goals as goal

pub returns-in_err-types : goal.returns-in_err-types
returns-in_err-types c = λ j k g h.
    let d = context_view c.args.context.now in
    let n = c.args.name in
    let f = map passed_type in
    let rule : List Ty × Ty → Judged (Unit {0}) = λ p. agrees n.from p.0 p.1 (before_name d n) in
    let p = err_from_is_err_and c.from_residual.result c.from_residual.ensures.1 in
    rw (p.1, p.2) (subst (Fails c.in_err-types.field-0.0) (mapped_both f j k rule)
    (both_fails (each type_view) type_view c.typed_params-types.result c.again-returned.result (mapped f j) k rule c.in_err-types.field-0.0 (c.typed_params-types.ensures j g) (c.again-returned.ensures k h) (sym c.both.ensures ∙ c.in_err-types.was)))

pub returns : goal.returns
returns c = λ j k g h.
    let d = context_view c.args.context.now in
    let n = c.args.name in
    let f = map passed_type in
    let unit = λ (u : Unit {0}). tt in
    let rule : List Ty × Ty → Judged (Unit {0}) = λ p. agrees n.from p.0 p.1 (before_name d n) in
    subst (Gives unit c.as_fault.result) (mapped_both f j k rule)
    (both_then (each type_view) type_view unit c.typed_params-types.result c.again-returned.result (mapped f j) k rule (c.in_ok-types.types, c.in_ok-types.returned) c.as_fault.result (c.typed_params-types.ensures j g) (c.again-returned.ensures k h) (sym c.both.ensures ∙ c.in_ok-types.was) (fault_gives unit _ _ _ c.as_fault.ensures (rw c.deref.ensures.value at c.type_fine.ensures)))
