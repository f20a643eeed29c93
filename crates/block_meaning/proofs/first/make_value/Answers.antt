use Rattle.std.proofs.Common.{rules}
use Rattle.block_meaning.proofs.Firsts.{value_made}
use Rattle.block_meaning.proofs.first.make_value.Goals as goal

pub returns-in-Ok : goal.returns-in-Ok
returns-in-Ok c = value_made c.args.store.now c.make_zeros.new.store c.store.new.self c.args.v c.names-block.result _ c.names-block.ensures c.in_ok-make_zeros.ensures c.in-Ok.ensures.after (search rules)
