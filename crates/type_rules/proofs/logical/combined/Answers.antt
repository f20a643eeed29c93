use Rattle.type_context.specs.ContextViews.{context_view}
use Rattle.type_rules.proofs.logical.combined.Goals as goal

pub returns-in-AndAnd : goal.returns-in-AndAnd
returns-in-AndAnd c = rw c.in-AndAnd.is (c.and_also.ensures (context_view c.args.context.now))

pub returns-in-OrOr : goal.returns-in-OrOr
returns-in-OrOr c = rw c.in-OrOr.is (c.or_else.ensures (context_view c.args.context.now))
