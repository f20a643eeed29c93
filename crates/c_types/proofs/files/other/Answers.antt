use Rattle.std.proofs.Common.{refl, map}
use Rattle.c_tree.specs.Syntax as trees
use Rattle.c_tree.specs.SyntaxViews as source
use Rattle.c_tree.specs.TypedViews.{type_view}
use Rattle.c_typing.specs.Faults.{typed}
use Rattle.c_typing.specs.Judgement.{judged_specs}
use Rattle.c_typing.specs.Programs.{judged_rest}
use Rattle.type_context.specs.ContextViews.{context_view}
use Rattle.c_types.proofs.Steps.{two_pass, two_rule}
use Rattle.c_types.specs.inner.Files.{made_view}
use Rattle.c_types.proofs.files.other.Goals as goal

pub returns-in_err-made : goal.returns-in_err-made
returns-in_err-made c = λ names is.
    let specs = trees.specs_of (map source.spec_view c.args.specs.now) in
    let base = (judged_specs specs (context_view c.args.context.now)).0 in
    two_pass type_view made_view made_view (judged_specs specs) (judged_rest names base (source.rest_view c.args.x.now)) (λ d p. typed p.1) (context_view c.args.context.now)
    c.specifiers-base.new.context c.rest-made.new.context c.specifiers-base.result c.rest-made.result c.both.result c.in_err-made.field-0.0 c.from_residual.result
    c.specifiers-base.ensures (c.rest-made.ensures names base is c.specifiers-base.ensures.gives) c.both.ensures c.in_err-made.was c.from_residual.ensures.1

pub returns : goal.returns
returns c = λ names is.
    let specs = trees.specs_of (map source.spec_view c.args.specs.now) in
    let base = (judged_specs specs (context_view c.args.context.now)).0 in
    two_rule type_view made_view made_view (judged_specs specs) (judged_rest names base (source.rest_view c.args.x.now)) (λ d p. typed p.1) (context_view c.args.context.now)
    c.specifiers-base.new.context c.rest-made.new.context c.specifiers-base.result c.rest-made.result c.both.result (c.in_ok-made.field-0-0, c.in_ok-made.made) _
    c.specifiers-base.ensures (c.rest-made.ensures names base is c.specifiers-base.ensures.gives) c.both.ensures c.in_ok-made.was refl
