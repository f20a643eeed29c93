use Rattle.emit_code.proofs.Program.{placed_at, scoped_at}
use Rattle.emit_code.proofs.emitting.emit_funcs.Goals as goal

pub emit_func-requires-clause-placed : goal.emit_func-requires-clause-placed
emit_func-requires-clause-placed c = placed_at c.args.funcs.now c.loop-f.f-index c.f-item.result c.loop-f-test.true c.f-item.is c.requires.placed

pub emit_func-requires-clause-scoped : goal.emit_func-requires-clause-scoped
emit_func-requires-clause-scoped c = scoped_at c.args.funcs.now c.loop-f.f-index c.f-item.result c.loop-f-test.true c.f-item.is c.requires.scoped
