use Rattle.std.proofs.Common.{rules}
use Rattle.block_meaning.proofs.Firsts.{first_are}
use Rattle.block_meaning.proofs.first.first_store.Goals as goal

pub returns : goal.returns
returns c = first_are c.args.program.now c.make_globals.new.store c.make_literals.new.store (search rules) (search rules)
