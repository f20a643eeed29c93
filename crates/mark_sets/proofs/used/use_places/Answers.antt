use Rattle.std.proofs.Common.{arith}
use Rattle.mark_sets.specs.Words.{has}
use Rattle.mark_sets.proofs.HomeSlots.{use_more}
use Rattle.mark_sets.proofs.used.use_places.Goals as goal

pub loop-a-preserved : goal.loop-a-preserved
loop-a-preserved c = λ b i e. use_more i b c.args.places.now c.loop-a.a-index _ (has c.loop-a.set.items i) (has c.use_place.new.set.items i) _ (omega arith) (c.loop-a.invariant b i e) (c.in_ok-use_place.ensures b i e)
