use Rattle.std.proofs.Common.{◌≡◌, subst, sym, ap, ◌∙◌, IfOk, Err}
use Rattle.c_typing.specs.Faults.{typed, Gives}
use Rattle.c_typing.specs.Programs.{types_or}
use Rattle.type_context.specs.ContextViews.{types_view}
use Rattle.type_locals.specs.LocalViews.{param_view}
use Rattle.type_declared.specs.Gathering.{each}
use Rattle.type_declared.proofs.HeadLaws.{refused_types}
use Rattle.type_declared.proofs.heads.types_or.Goals as goal

pub returns-in-Ok-clause-types : goal.returns-in-Ok-clause-types
returns-in-Ok-clause-types c = λ j g.
    let is : j ≡ typed (each param_view c.in-Ok.params) = subst (λ r. Gives (each param_view) r j) c.in-Ok.is g in
    subst (λ i. IfOk c.types_of.result (λ ts. types_view ts.items ≡ types_or i)) (sym is) (rw c.deref.ensures.value at c.types_of.ensures.types)

pub returns-in-Err-Refused-clause-types : goal.returns-in-Err-Refused-clause-types
returns-in-Err-Refused-clause-types c = λ j g.
    ap types_view c.new.ensures.items ∙ sym (refused_types (each param_view) c.args.params.now c.in-Err-Refused.field-0-0 j (c.in-Err-Refused.is ∙ ap Err (rw c.in-Err-Refused.is at c.in-Err-Refused.field-0-is)) g)
