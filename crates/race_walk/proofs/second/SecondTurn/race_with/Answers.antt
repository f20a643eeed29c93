use Rattle.race_walk.proofs.Finding.{race_answer}
use Rattle.race_walk.proofs.second.SecondTurn.race_with.Goals as goal

pub returns : goal.returns
returns c = λ ts t lt at.
    race_answer ts c.args.self.now c.args.turn c.args.thread c.args.touches.now c.as_slice-2.result.now c.as_slice.result.now c.known.result c.shown.result c.if-turn-known.false c.known.ensures c.as_slice.ensures.value
    c.as_slice-2.ensures.value c.shown.ensures t lt at
