use Rattle.std.proofs.Common.{◌≡◌, map, subst, sym}
use Rattle.c_tree.specs.TypedViews.{type_view}
use Rattle.c_typing.specs.Faults.{typed, Gives, mapped}
use Rattle.c_typing.specs.Numbering.{passed_type}
use Rattle.type_locals.specs.LocalViews.{param_view}
use Rattle.type_declared.specs.Gathering.{each}
use Rattle.type_declared.proofs.HeadLaws.{gives_list, fails_mapped}
use Rattle.type_declared.proofs.heads.typed_params.Goals as goal

pub returns-in-Ok : goal.returns-in-Ok
returns-in-Ok c = λ j g.
    let is : j ≡ typed (each param_view c.in-Ok.params) = subst (λ r. Gives (each param_view) r j) c.in-Ok.is g in
    subst (λ i. Gives (each type_view) c.types_of.result (mapped (map passed_type) i)) (sym is)
    (gives_list c.types_of.result (map passed_type (each param_view c.in-Ok.params)) (rw c.deref.ensures.value at c.types_of.ensures.types) c.types_of.ensures.memory)

pub returns-in-Err : goal.returns-in-Err
returns-in-Err c = λ j g. fails_mapped (map passed_type) c.in-Err.fault j (subst (λ r. Gives (each param_view) r j) c.in-Err.is g)
