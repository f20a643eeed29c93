use Rattle.std.proofs.Common.{◌∙◌, arith, rules}
use Rattle.source_tree.specs.SharedViews.{program_of}
use Rattle.block_meaning.proofs.Picks.{more_begun, no_more_begun}
use Rattle.block_meaning.proofs.taking.begin_all.Goals as goal

pub made-preserved : goal.made-preserved
made-preserved c =
    more_begun (program_of c.args.program.now) c.made.threads.items c.push.new.self.items c.in_ok-own.own c.args.world.now c.index-next.result.now (search rules) c.in_ok-own.ensures (omega arith) (search rules)
    ∙ c.made.invariant

pub returns : goal.returns
returns c = no_more_begun (program_of c.args.program.now) c.made.threads.items c.args.threads.now.items c.args.world.now (omega arith) c.made.invariant
