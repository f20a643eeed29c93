use Rattle.std.proofs.Common.{◌≡◌, true, false, ap, sym, subst, ◌∙◌, [], ◌∷◌, map}
use Rattle.c_tree.specs.SyntaxViews as source
use Rattle.c_tree.specs.Syntax.{specs_of}
use Rattle.c_tree.specs.TypedViews.{type_view}
use Rattle.c_typing.specs.Faults.{typed}
use Rattle.c_typing.specs.Judgement.{judged_specs}
use Rattle.c_typing.specs.Programs.{is_none, judged_param, judged_param_list}
use Rattle.type_context.specs.ContextViews.{context_view}
use Rattle.type_locals.specs.LocalViews.{param_view}
use Rattle.type_context.specs.Telling.{Tells, lacks_memory}
use Rattle.type_context.proofs.Walks.{known_tells, ok_tells}
use Rattle.type_declared.specs.Gathering.{each}
use Rattle.c_types.proofs.Steps.{memory_passes, err_passes}
use Rattle.c_types.proofs.Known.{known_left, known_gives}
use Rattle.c_types.proofs.FileParts.{param_told, only_is, none_is}
use Rattle.c_types.proofs.parameters.only_param.Goals as goal

pub returns-in_err-base : goal.returns-in_err-base
returns-in_err-base c =
    memory_passes (each param_view) c.from_residual.result c.in_err-base.field-0.0 c.specifiers.new.context (judged_param_list (source.param_view c.args.p.now ∷ []) (context_view c.args.context.now)) c.in_err-base.ensures c.from_residual.ensures.1

pub returns-then-is_none : goal.returns-then-is_none
returns-then-is_none c =
    let p = source.param_view c.args.p.now in
    let d = context_view c.args.context.now in
    let base = judged_specs (specs_of p.specs) d in
    let told : Tells type_view c.specifiers.result c.specifiers.new.context base = rw c.deref.ensures.value at c.specifiers.ensures in
    let is : is_none base.0 p ≡ true = sym (c.is_none.ensures base.0 (ap lacks_memory c.in_ok-base.ensures.0 ∙ c.in_ok-base.ensures.1) (known_gives type_view c.specifiers.result c.in_ok-base.base base.0 c.in_ok-base.ensures told.gives)) ∙ c.if-is_none.true in
    subst (Tells (each param_view) _ c.specifiers.new.context) (sym (none_is p d is))
    (known_tells (each param_view) _ c.specifiers.new.context (typed []) base.1 (ap (λ l. typed (map param_view l)) (sym c.new.ensures.items)) (known_left c.specifiers.result c.in_ok-base.base c.specifiers.new.context base.1 c.in_ok-base.ensures told.leaves))

pub returns-in_err-p : goal.returns-in_err-p
returns-in_err-p c =
    let p = source.param_view c.args.p.now in
    let d = context_view c.args.context.now in
    let base = judged_specs (specs_of p.specs) d in
    let told : Tells type_view c.specifiers.result c.specifiers.new.context base = rw c.deref.ensures.value at c.specifiers.ensures in
    let is : is_none base.0 p ≡ false = sym (c.is_none.ensures base.0 (ap lacks_memory c.in_ok-base.ensures.0 ∙ c.in_ok-base.ensures.1) (known_gives type_view c.specifiers.result c.in_ok-base.base base.0 c.in_ok-base.ensures told.gives)) ∙ c.if-is_none.false in
    subst (Tells (each param_view) _ c.param_behind.new.context) (sym (only_is p d is))
    (err_passes param_view (each param_view) (judged_param p) (λ e x. typed (x ∷ [])) d c.param_behind.new.context c.param_behind.result c.in_err-p.field-0.0 c.from_residual-in_err-p.result
    (param_told param_view p d c.specifiers.new.context c.param_behind.new.context c.specifiers.result c.in_ok-base.base c.param_behind.result told c.in_ok-base.ensures c.param_behind.ensures) c.in_err-p.was c.from_residual-in_err-p.ensures.1)

pub returns : goal.returns
returns c =
    let p = source.param_view c.args.p.now in
    let d = context_view c.args.context.now in
    let base = judged_specs (specs_of p.specs) d in
    let told : Tells type_view c.specifiers.result c.specifiers.new.context base = rw c.deref.ensures.value at c.specifiers.ensures in
    let is : is_none base.0 p ≡ false = sym (c.is_none.ensures base.0 (ap lacks_memory c.in_ok-base.ensures.0 ∙ c.in_ok-base.ensures.1) (known_gives type_view c.specifiers.result c.in_ok-base.base base.0 c.in_ok-base.ensures told.gives)) ∙ c.if-is_none.false in
    subst (Tells (each param_view) c.alone.result c.param_behind.new.context) (sym (only_is p d is))
    (ok_tells param_view (each param_view) (judged_param p) (λ e x. typed (x ∷ [])) d c.param_behind.new.context c.param_behind.result c.in_ok-p.p c.alone.result
    (param_told param_view p d c.specifiers.new.context c.param_behind.new.context c.specifiers.result c.in_ok-base.base c.param_behind.result told c.in_ok-base.ensures c.param_behind.ensures) c.in_ok-p.was c.alone.ensures)
