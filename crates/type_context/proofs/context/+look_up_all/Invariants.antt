use Rattle.std.proofs.Common.{length}
use Rattle.type_context.proofs.context.+look_up_all.Given as goal

abbrev pub decreases-look_up_all : goal.decreases-look_up_all
decreases-look_up_all l = length l.frames.now
