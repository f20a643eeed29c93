use Rattle.type_context.specs.ContextViews.{context_view}
use Rattle.c_types.proofs.AliasRows.{alias_tells}
use Rattle.c_types.proofs.typedefs.alias.Goals as goal

pub returns : goal.returns
returns c = λ j h. alias_tells j c.args.d.now (context_view c.args.context.now) c.alias_of-t.new.context c.name_type.new.context c.alias_of-t.result c.name_type.result (c.alias_of-t.ensures j h) c.name_type.ensures
