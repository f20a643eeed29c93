use Rattle.type_context.specs.ContextViews.{context_view}
use Rattle.type_declared.proofs.initials.init_at.Goals as goal

pub returns-in-Pointer : goal.returns-in-Pointer
returns-in-Pointer c = rw c.in-Pointer.is (rw c.deref.ensures at (c.pointer_at.ensures (context_view c.args.context.now)))
