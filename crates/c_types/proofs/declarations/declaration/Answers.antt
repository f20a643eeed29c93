use Rattle.std.proofs.Common.{refl, map}
use Rattle.c_tree.specs.Syntax as trees
use Rattle.c_tree.specs.SyntaxViews as source
use Rattle.c_tree.specs.TypedViews.{type_view, stmt_view}
use Rattle.c_typing.specs.Faults.{typed}
use Rattle.c_typing.specs.Judgement.{judged_specs}
use Rattle.c_typing.specs.Statements.{judged_locals}
use Rattle.type_context.specs.ContextViews.{context_view}
use Rattle.type_context.specs.Telling.{Tells}
use Rattle.type_declared.specs.Gathering.{each}
use Rattle.c_types.proofs.Steps.{two_pass, two_rule}
use Rattle.c_types.proofs.declarations.declaration.Goals as goal

pub returns-in_err-all : goal.returns-in_err-all
returns-in_err-all c =
    let specs = trees.specs_of (map source.spec_view c.args.d.now.specs.items) in
    let base = (judged_specs specs (context_view c.args.context.now)).0 in
    let told : Tells type_view c.specifiers-base.result c.specifiers-base.new.context (judged_specs specs (context_view c.args.context.now)) = rw c.deref.ensures.value at c.specifiers-base.ensures in
    two_pass type_view (each stmt_view) (each stmt_view) (judged_specs specs) (judged_locals base (map source.init_declarator_view c.args.d.now.declarators.items)) (λ d p. typed p.1) (context_view c.args.context.now)
    c.specifiers-base.new.context c.locals-all.new.context c.specifiers-base.result c.locals-all.result c.both.result c.in_err-all.field-0.0 c.from_residual.result
    told (rw c.deref-2.ensures.value at (c.locals-all.ensures base told.gives)) c.both.ensures c.in_err-all.was c.from_residual.ensures.1

pub returns : goal.returns
returns c =
    let specs = trees.specs_of (map source.spec_view c.args.d.now.specs.items) in
    let base = (judged_specs specs (context_view c.args.context.now)).0 in
    let told : Tells type_view c.specifiers-base.result c.specifiers-base.new.context (judged_specs specs (context_view c.args.context.now)) = rw c.deref.ensures.value at c.specifiers-base.ensures in
    two_rule type_view (each stmt_view) (each stmt_view) (judged_specs specs) (judged_locals base (map source.init_declarator_view c.args.d.now.declarators.items)) (λ d p. typed p.1) (context_view c.args.context.now)
    c.specifiers-base.new.context c.locals-all.new.context c.specifiers-base.result c.locals-all.result c.both.result (c.in_ok-all.field-0-0, c.in_ok-all.all) _
    told (rw c.deref-2.ensures.value at (c.locals-all.ensures base told.gives)) c.both.ensures c.in_ok-all.was refl
