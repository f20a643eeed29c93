use Rattle.std.proofs.Common.{[]}
use Rattle.c_typing.specs.Faults.{typed}
use Rattle.type_context.specs.ContextViews.{context_view}
use Rattle.type_context.proofs.Walks.{lone_tells}
use Rattle.std.proofs.Common.{refl}
use Rattle.c_types.proofs.AliasRows.{aliases_more, aliases_all}
use Rattle.c_types.proofs.typedefs.aliases.Goals as goal

pub declarators-init : goal.declarators-init
declarators-init c = λ j h. lone_tells (λ (u : Unit {0}). tt {0}) _ c.args.context.now (typed (tt {0})) refl

pub declarators-preserved : goal.declarators-preserved
declarators-preserved c = λ j h.
    aliases_more j c.args.ds.now c.declarators.d-index c.d-item.result (context_view c.args.context.now) c.declarators.context c.alias-next.new.context c.declarators.all c.alias-next.result c.fine_with-all.result
    c.declarators-test.true c.d-item.is (c.declarators.invariant j h) (c.alias-next.ensures j h) c.fine_with-all.ensures

pub returns : goal.returns
returns c = λ j h. aliases_all j c.args.ds.now c.declarators.d-index (context_view c.args.context.now) c.declarators.context c.declarators.all c.declarators-test.false (c.declarators.invariant j h)
