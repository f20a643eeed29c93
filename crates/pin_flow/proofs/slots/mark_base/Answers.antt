use Rattle.std.proofs.Common.{arith}
use Rattle.pin_flow.proofs.MarkedRows.{set_is}
use Rattle.pin_flow.proofs.slots.mark_base.Goals as goal

pub returns-then-at-len : goal.returns-then-at-len
returns-then-at-len c = set_is c.args.seen.now.items c.args.b (let h = c.if-at-len.true in let e = c.len.ensures in omega (arith, h, e))
