use Rattle.std.proofs.Common.{◌/◌, ◌<◌, ◌∙◌, length, arith}
use Rattle.std.specs.Vec.{vec_len}
use Rattle.evacuate.proofs.Filling.{popped_each, popped_front, popped_long, popped_lowered}
use Rattle.evacuate.proofs.emptying.take_back.Goals as goal

pub index_mut-requires : goal.index_mut-requires
index_mut-requires c =
    let more : c.args.kept < length c.loop-moves.moves.items = omega (arith, c.loop-moves-test.true, c.len.ensures, c.loop-moves.moves.ok.0) in
    (popped_each c.args.kept c.loop-moves.moves.items c.pop.new.self.items c.in-Some.last c.in-Some.ensures.items more (λ m. m.to / c.args.size < vec_len c.loop-moves.tails) c.loop-moves.invariant.numbers).0

pub loop-moves-preserved : goal.loop-moves-preserved
loop-moves-preserved c =
    let more : c.args.kept < length c.loop-moves.moves.items = omega (arith, c.loop-moves-test.true, c.len.ensures, c.loop-moves.moves.ok.0) in
    let ms = c.loop-moves.moves.items in
    let front = c.pop.new.self.items in
    let m = c.in-Some.last in
    record {
      some = omega (arith, popped_long c.args.kept ms front m c.in-Some.ensures.items more, c.pop.new.self.ok.0);
      moves = popped_front c.args.kept ms front m c.in-Some.ensures.items more ∙ c.loop-moves.invariant.moves;
      tails = popped_lowered c.args.kept ms front m c.in-Some.ensures.items more c.args.size c.loop-moves.tails.items ∙ c.loop-moves.invariant.tails;
      numbers = (popped_each c.args.kept ms front m c.in-Some.ensures.items more (λ m. m.to / c.args.size < vec_len c.loop-moves.tails) c.loop-moves.invariant.numbers).1;
      len = c.loop-moves.invariant.len;
      capacity = c.in-Some.ensures.capacity ∙ c.loop-moves.invariant.capacity;
    }
