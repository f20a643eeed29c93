use Rattle.std.proofs.Common.{nat_eq}
use Rattle.race_walk.proofs.Blocks.{gone_at}
use Rattle.race_walk.proofs.history.History.forget.Goals as goal

pub returns : goal.returns
returns c = λ b e. gone_at (nat_eq c.args.block b) _ _ e (c.remove.ensures.updates.0 b)
