use Rattle.std.proofs.Common.{◌≡◌, ◌+◌, ◌<◌, ◌++◌, true, false, eqb, length, sym, ap, ◌∙◌, subst, refl, arith}
use Rattle.std.proofs.lemmas.Bool.{eq-eqb, ne_eqb}
use Rattle.std.proofs.lemmas.List.{append_assoc, append-nil, length-append}
use Rattle.sub_heaps.specs.ByPlace.{end_of}
use Rattle.move_plan.specs.Holding.{MoveList, is_pinned}
use Rattle.move_plan.specs.Sliding.{IsSlide}
use Rattle.move_plan.proofs.Rest.{IsStep-read, rest_all, rest_none-read, rest_from}
use Rattle.move_plan.proofs.Slid.{length-move_to-le, move_to, slid_place-le, slide_moves}
use Rattle.move_plan.proofs.Unique.{longest_after_slide}
use Rattle.move_plan.proofs.Slides.{IsSlide-slide_moves}
use Rattle.move_plan.proofs.sliding.slide.Goals.{then-to-object, else-to-object}
use Rattle.move_plan.proofs.sliding.slide.Goals as goal

pub loop-object-init : goal.loop-object-init
loop-object-init c =
    let all = rest_all c.args.heaps.now.count c.args.heaps.now.size 0 0 c.args.heaps.now.objects (omega arith) c.size-size.ensures.sound.stand in
    record {
      sound = c.size-size.ensures.sound;
      reader = c.reader-reader.ensures.objects;
      size = c.size-size.ensures.bytes;
      behind = omega arith;
      within = omega arith;
      room = refl;
      left = rw (all, c.requires.empty) (omega (arith, c.requires.room));
      moves = rw (all, c.requires.empty) refl;
    }

pub push-requires : goal.push-requires
push-requires c =
    let step = IsStep-read c.args.heaps.now c.loop-object.invariant.sound c.loop-object.from c.in-Some.object c.loop-object.reader c.loop-object.invariant.reader c.in-Some.ensures.next in
    omega (arith, c.loop-object.invariant.left, ap length step.left)

pub loop-object-smaller : goal.loop-object-smaller
loop-object-smaller c =
    let step = IsStep-read c.args.heaps.now c.loop-object.invariant.sound c.loop-object.from c.in-Some.object c.loop-object.reader c.loop-object.invariant.reader c.in-Some.ensures.next in
    omega (arith, ap length step.left)

pub overflow_add-below : goal.overflow_add-below
overflow_add-below c =
    let step = IsStep-read c.args.heaps.now c.loop-object.invariant.sound c.loop-object.from c.in-Some.object c.loop-object.reader c.loop-object.invariant.reader c.in-Some.ensures.next in
    let some : 0 < c.size-size.result = omega (arith, c.loop-object.invariant.size, c.loop-object.invariant.sound.shape.size_least) in
    let lower = slid_place-le (is_pinned c.args.pins.now) c.args.heaps.now.count c.size-size.result some c.loop-object.below c.in-Some.object (omega (arith, step.above, c.loop-object.invariant.behind)) in
    omega (arith, lower, c.slid_place-to.ensures, step.within, c.loop-object.invariant.sound.shape.whole_bounded)

pub overflow_add-from : goal.overflow_add-from
overflow_add-from c =
    let step = IsStep-read c.args.heaps.now c.loop-object.invariant.sound c.loop-object.from c.in-Some.object c.loop-object.reader c.loop-object.invariant.reader c.in-Some.ensures.next in
    omega (arith, step.within, c.loop-object.invariant.sound.shape.whole_bounded)

pub loop-object-preserved : goal.loop-object-preserved
loop-object-preserved c =
    let o = c.in-Some.object in
    let to = c.slid_place-to.result in
    let old = c.loop-object.into in
    let pinned = is_pinned c.args.pins.now in
    let objects = c.args.heaps.now.objects in
    let step = IsStep-read c.args.heaps.now c.loop-object.invariant.sound c.loop-object.from o c.loop-object.reader c.loop-object.invariant.reader c.in-Some.ensures.next in
    let some : 0 < c.size-size.result = omega (arith, c.loop-object.invariant.size, c.loop-object.invariant.sound.shape.size_least) in
    let lower = slid_place-le pinned c.args.heaps.now.count c.size-size.result some c.loop-object.below o (omega (arith, step.above, c.loop-object.invariant.behind)) in
    let pushed : c.if-to-object.into ≡ record old { moves = old.moves ++ move_to o to } =
    elim c.if-to-object.branch [
      | then-to-object w ↦ let differs : eqb to o.at ≡ false = ne_eqb to o.at w.if-to-object.true in rw differs (w.into-is ∙ w.push.ensures)
      | else-to-object w ↦ let same : eqb to o.at ≡ true = eq-eqb to o.at w.if-to-object.false in rw (same, append-nil) w.into-is
    ] in
    let rest = rest_from (end_of o) objects in
    let joined : move_to o to ++ slide_moves pinned c.size-size.result (to + o.size) rest ≡ slide_moves pinned c.size-size.result c.loop-object.below (rest_from c.loop-object.from objects) =
    ap (λ t. move_to o t ++ slide_moves pinned c.size-size.result (t + o.size) rest) c.slid_place-to.ensures ∙ ap (slide_moves pinned c.size-size.result c.loop-object.below) (sym step.left) in
    record {
      sound = c.loop-object.invariant.sound;
      reader = c.in-Some.ensures.same ∙ c.loop-object.invariant.reader;
      size = c.loop-object.invariant.size;
      behind = omega (arith, lower, c.slid_place-to.ensures);
      within = step.within;
      room = ap (λ (p : MoveList). p.room) pushed ∙ c.loop-object.invariant.room;
      left =
          omega (arith, ap (λ (p : MoveList). length p.moves) pushed, ap (λ (p : MoveList). p.room) pushed, length-append old.moves (move_to o to), length-move_to-le o to, ap length step.left, c.loop-object.invariant.left);
      moves =
          ap (λ (p : MoveList). p.moves ++ slide_moves pinned c.size-size.result (to + o.size) rest) pushed
          ∙ append_assoc old.moves (move_to o to) (slide_moves pinned c.size-size.result (to + o.size) rest)
          ∙ ap (λ ms. old.moves ++ ms) joined
          ∙ c.loop-object.invariant.moves;
    }

-- the walk has come to its end
moves_of_all : (c : goal.In_default) → c.loop-object.into.moves ≡ slide_moves (is_pinned c.args.pins.now) c.args.heaps.now.size 0 c.args.heaps.now.objects
moves_of_all c =
    let none = rest_none-read c.loop-object.from c.loop-object.reader c.args.heaps.now.objects c.loop-object.invariant.reader c.in_default.ensures.next in
    let all = rw (none, append-nil) at c.loop-object.invariant.moves in
    all ∙ ap (λ n. slide_moves (is_pinned c.args.pins.now) n 0 c.args.heaps.now.objects) c.loop-object.invariant.size

pub returns-clause-slide : goal.returns-clause-slide
returns-clause-slide c =
    subst (λ ms. IsSlide (is_pinned c.args.pins.now) c.args.heaps.now ms) (sym (moves_of_all c)) (IsSlide-slide_moves (is_pinned c.args.pins.now) c.args.heaps.now c.loop-object.invariant.sound)

pub returns-clause-longest : goal.returns-clause-longest
returns-clause-longest c = longest_after_slide (is_pinned c.args.pins.now) c.args.heaps.now c.loop-object.into.moves c.loop-object.invariant.sound (returns-clause-slide c)
