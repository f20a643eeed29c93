use Rattle.c_tree.specs.SyntaxViews as source
use Rattle.c_tree.specs.TypedViews.{type_view}
use Rattle.c_typing.specs.Judgement.{lone}
use Rattle.c_typing.specs.Statements.{judged_declarator}
use Rattle.c_typing.specs.Programs.{alias_declared}
use Rattle.type_rules.specs.SpecifierViews.{declared_view}
use Rattle.type_context.specs.ContextViews.{context_view}
use Rattle.type_context.proofs.Walks.{lone_tells}
use Rattle.c_types.proofs.Steps.{two_pass, two_rule}
use Rattle.c_types.proofs.typedefs.alias_of.Goals as goal

pub returns-in_err-base : goal.returns-in_err-base
returns-in_err-base c = λ j h.
    two_pass type_view declared_view type_view (lone j) (judged_declarator (source.declarator_view c.args.d.now)) (λ d p. alias_declared d p.0 p.1) (context_view c.args.context.now) c.args.context.now c.declarator-declarator.new.context c.again-base.result c.declarator-declarator.result c.both.result c.in_err-base.field-0.0 c.from_residual.result
    (lone_tells type_view c.again-base.result c.args.context.now j (c.again-base.ensures j h)) c.declarator-declarator.ensures c.both.ensures c.in_err-base.was c.from_residual.ensures.1

pub returns : goal.returns
returns c = λ j h.
    two_rule type_view declared_view type_view (lone j) (judged_declarator (source.declarator_view c.args.d.now)) (λ d p. alias_declared d p.0 p.1) (context_view c.args.context.now) c.args.context.now c.declarator-declarator.new.context c.again-base.result c.declarator-declarator.result c.both.result (c.in_ok-base.base, c.in_ok-base.declarator) c.alias_declared.result
    (lone_tells type_view c.again-base.result c.args.context.now j (c.again-base.ensures j h)) c.declarator-declarator.ensures c.both.ensures c.in_ok-base.was c.alias_declared.ensures
