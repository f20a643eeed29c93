use Rattle.std.proofs.Common.{◌≡◌, false, sym, subst, ◌∙◌}
use Rattle.c_tree.specs.TypedViews.{type_view}
use Rattle.c_typing.specs.Faults.{Gives}
use Rattle.c_typing.specs.Types.{behind_pointers}
use Rattle.type_context.specs.Telling.{lacks_memory}
use Rattle.type_declared.proofs.ParamLaws.{typed_void, refused_no_void}
use Rattle.type_declared.proofs.parameters.is_void_behind.Goals as goal

pub returns-in-Ok : goal.returns-in-Ok
returns-in-Ok c = λ j k g.
    c.void_behind.ensures ∙ sym (typed_void (λ t. behind_pointers t c.args.pointers.now) (type_view c.in-Ok.t) j (subst (λ r. Gives type_view r j) c.in-Ok.is g))

pub returns-in-Err : goal.returns-in-Err
returns-in-Err c = λ j k g.
    sym (refused_no_void (λ t. behind_pointers t c.args.pointers.now) c.in-Err.field-0 j (subst (λ r. lacks_memory r ≡ false) c.in-Err.is k) (subst (λ r. Gives type_view r j) c.in-Err.is g))
