use Rattle.std.proofs.Common.{refl, map}
use Rattle.c_tree.specs.Syntax as trees
use Rattle.c_tree.specs.SyntaxViews as source
use Rattle.c_tree.specs.TypedViews.{type_view}
use Rattle.c_typing.specs.Faults.{typed}
use Rattle.c_typing.specs.Judgement.{judged_specs}
use Rattle.c_typing.specs.Programs.{judged_aliases}
use Rattle.type_context.specs.ContextViews.{context_view}
use Rattle.c_types.proofs.Steps.{two_pass, two_rule}
use Rattle.c_types.proofs.typedefs.typedef.Goals as goal

pub returns-in_err-both : goal.returns-in_err-both
returns-in_err-both c =
    let specs = trees.specs_of (map source.spec_view c.args.specs.now) in
    let base = (judged_specs specs (context_view c.args.context.now)).0 in
    let unit = λ (u : Unit {0}). tt {0} in
    two_pass type_view unit unit (judged_specs specs) (judged_aliases base (map source.declarator_view c.args.ds.now)) (λ d p. typed p.1) (context_view c.args.context.now)
    c.specifiers-base.new.context c.aliases-all.new.context c.specifiers-base.result c.aliases-all.result c.both.result c.in_err-both.field-0.0 c.from_residual.result
    c.specifiers-base.ensures (c.aliases-all.ensures base c.specifiers-base.ensures.gives) c.both.ensures c.in_err-both.was c.from_residual.ensures.1

pub returns : goal.returns
returns c =
    let specs = trees.specs_of (map source.spec_view c.args.specs.now) in
    let base = (judged_specs specs (context_view c.args.context.now)).0 in
    let unit = λ (u : Unit {0}). tt {0} in
    two_rule type_view unit unit (judged_specs specs) (judged_aliases base (map source.declarator_view c.args.ds.now)) (λ d p. typed p.1) (context_view c.args.context.now)
    c.specifiers-base.new.context c.aliases-all.new.context c.specifiers-base.result c.aliases-all.result c.both.result c.in_ok-both.field-0 _
    c.specifiers-base.ensures (c.aliases-all.ensures base c.specifiers-base.ensures.gives) c.both.ensures c.in_ok-both.was refl
