use Rattle.std.proofs.Common.{ap, sym, subst, [], map}
use Rattle.std.proofs.lemmas.List.{take_all}
use Rattle.c_tree.specs.SyntaxViews as source
use Rattle.c_typing.specs.Faults.{typed}
use Rattle.c_typing.specs.Programs.{judged_externals}
use Rattle.type_context.specs.ContextViews.{context_view}
use Rattle.type_context.specs.Telling.{Tells}
use Rattle.type_context.proofs.Walks.{lone_tells}
use Rattle.c_types.specs.inner.Files.{made_view}
use Rattle.c_types.proofs.Externals.{external_more}
use Rattle.c_types.proofs.files.externals.Goals as goal

pub externals-init : goal.externals-init
externals-init c = λ names is. lone_tells made_view _ c.args.context.now (typed (record { globals = []; funcs = [] })) (ap typed (sym c.made_nothing.ensures))

pub externals-preserved : goal.externals-preserved
externals-preserved c = λ names is.
    external_more names c.args.xs.now c.externals.x-index c.x-item.result (context_view c.args.context.now) c.externals.context c.external-next.new.context c.externals.all c.external-next.result c.joined-all.result
    c.externals-test.true c.x-item.is (c.externals.invariant names is) (c.external-next.ensures names is) c.joined-all.ensures

pub returns : goal.returns
returns c = λ names is.
    subst (λ xs. Tells made_view c.externals.all c.externals.context (judged_externals names (map source.external_view xs) (context_view c.args.context.now))) (take_all c.externals.x-index c.args.xs.now c.externals-test.false) (c.externals.invariant names is)
