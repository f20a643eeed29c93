use Rattle.std.proofs.Common.{map, ap, sym}
use Rattle.c_tree.specs.SyntaxViews as source
use Rattle.c_typing.specs.Faults.{typed}
use Rattle.c_typing.specs.Programs.{behind_specs, judged_aliases, no_objects}
use Rattle.type_context.specs.ContextViews.{context_view}
use Rattle.type_context.proofs.Walks.{ok_tells}
use Rattle.c_types.proofs.Steps.{err_passes}
use Rattle.c_types.specs.inner.Files.{made_view}
use Rattle.c_types.proofs.files.typedef_alone.Goals as goal

pub returns-in_err-typedef : goal.returns-in_err-typedef
returns-in_err-typedef c =
    err_passes (λ (u : Unit {0}). tt {0}) made_view (behind_specs (map source.spec_view c.args.specs.now) (λ base. judged_aliases base (map source.declarator_view c.args.declarators.now))) (λ c u. typed no_objects) (context_view c.args.context.now)
    c.typedef.new.context c.typedef.result c.in_err-typedef.field-0.0 c.from_residual.result c.typedef.ensures c.in_err-typedef.was c.from_residual.ensures.1

pub returns : goal.returns
returns c =
    ok_tells (λ (u : Unit {0}). tt {0}) made_view (behind_specs (map source.spec_view c.args.specs.now) (λ base. judged_aliases base (map source.declarator_view c.args.declarators.now))) (λ c u. typed no_objects) (context_view c.args.context.now)
    c.typedef.new.context c.typedef.result (tt {0}) _ c.typedef.ensures c.in_ok-typedef.was (ap typed (sym c.made_nothing.ensures))
