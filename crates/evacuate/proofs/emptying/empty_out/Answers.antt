use Rattle.std.proofs.Common.{◌≡◌, ℕ, ◌+◌, ◌*◌, ◌<◌, ◌≤◌, List, [], ◌∷◌, ◌++◌, Some, None, drop, length, get_or, sym, ap, ◌∙◌, subst, refl, arith}
use Rattle.std.specs.List.{find, range_with_len}
use Rattle.std.proofs.lemmas.List.{length-append}
use Rattle.sub_heaps.specs.declared.objects.Object.{Object}
use Rattle.sub_heaps.specs.declared.moves.Move.{Move}
use Rattle.sub_heaps.specs.ByPlace.{end_of}
use Rattle.sub_heaps.specs.SubHeaps.{objects_in}
use Rattle.move_plan.proofs.Rest.{rest_all, rest_from, rest_none}
use Rattle.move_plan.proofs.Numbered.{IsStepIn-found, end_bounded, stand_in}
use Rattle.evacuate.specs.inner.Tails.{has_room, lowered, tail_move}
use Rattle.evacuate.proofs.Filling.{Filling, ends, goes, room_found, starts, stops, taken_back}
use Rattle.evacuate.proofs.Steps.{takes_found}
use Rattle.evacuate.proofs.emptying.empty_out.Goals as goal

pub loop-object-init : goal.loop-object-init
loop-object-init c =
    let h = c.args.heaps.now in
    let k = c.args.number in
    let all = rest_all h.count h.size (k * h.size) (k * h.size) (objects_in h k) (omega arith) (stand_in h c.size-size.ensures.sound k) in
    let first : Filling h.size k (objects_in h k) (rest_from (k * h.size) (objects_in h k)) c.args.tails.now.items c.args.tails.now.items c.args.moves.now.items c.args.moves.now.items [] =
    subst (λ (xs : List Object). Filling h.size k (objects_in h k) xs c.args.tails.now.items c.args.tails.now.items c.args.moves.now.items c.args.moves.now.items []) (sym all) (starts h.size k (objects_in h k) c.args.tails.now.items c.args.moves.now.items) in
    record {
      sound = c.size-size.ensures.sound;
      size = c.size-size.ensures.bytes;
      kept = c.len-kept.ensures;
      start = rw c.size-size.ensures.bytes (omega arith);
      len = refl;
      capacity = omega arith;
      filling = ([], rw c.size-size.ensures.bytes first);
    }

pub lowest_tail-requires-clause-bytes : goal.lowest_tail-requires-clause-bytes
lowest_tail-requires-clause-bytes c =
    let takes = takes_found c.args.heaps.now c.loop-object.invariant.sound c.args.number c.loop-object.from c.in-Some.object c.in-Some.ensures in
    omega (arith, takes.1, c.loop-object.invariant.size)

-- one finds no place
pub returns-in_default-lowest_tail-clause-emptied : goal.returns-in_default-lowest_tail-clause-emptied
returns-in_default-lowest_tail-clause-emptied c =
    let h = c.args.heaps.now in
    let k = c.args.number in
    let o = c.in-Some.object in
    let objects = objects_in h k in
    let tails = c.loop-object.tails.items in
    let moves = c.loop-object.moves.items in
    let step = IsStepIn-found h c.loop-object.invariant.sound k c.loop-object.from o c.in-Some.ensures in
    let filling = c.loop-object.invariant.filling in
    let now : Filling h.size k objects (o ∷ rest_from (end_of o) objects) c.args.tails.now.items tails c.args.moves.now.items moves filling.0 =
    subst (λ (xs : List Object). Filling h.size k objects xs c.args.tails.now.items tails c.args.moves.now.items moves filling.0) step.left filling.1 in
    let none : find (has_room h.size o.size tails) (range_with_len 0 k) ≡ None =
    ap (λ (n : ℕ). find (has_room n o.size tails) (range_with_len 0 k)) (sym c.loop-object.invariant.size) ∙ ap (λ (xs : List ℕ). find (has_room c.size-size.result o.size xs) (range_with_len 0 k)) (sym c.deref.ensures.value) ∙ sym c.in_default-lowest_tail.ensures in
    let back = taken_back h.size k objects (o ∷ rest_from (end_of o) objects) c.args.tails.now.items tails c.args.moves.now.items moves filling.0 now c.len-kept.result (omega (arith, c.args.moves.now.ok.0, c.len-kept.ensures)) in
    let plan = stops h.size k objects o (rest_from (end_of o) objects) c.args.tails.now.items tails c.args.moves.now.items moves filling.0 now none in
    rw plan (refl, c.take_back.ensures.moves ∙ back.0, c.take_back.ensures.tails ∙ ap (λ (n : ℕ). lowered n (drop c.len-kept.result moves) tails) c.loop-object.invariant.size ∙ back.1)

pub add_move-requires-clause-lower : goal.add_move-requires-clause-lower
add_move-requires-clause-lower c =
    let o = c.in-Some.object in
    let k = c.args.number in
    let found : find (has_room c.size-size.result o.size c.loop-object.tails.items) (range_with_len 0 k) ≡ Some c.in-Some-lowest_tail.lower =
    ap (λ (xs : List ℕ). find (has_room c.size-size.result o.size xs) (range_with_len 0 k)) (sym c.deref.ensures.value) ∙ sym c.in-Some-lowest_tail.ensures in
    omega (arith, (room_found c.size-size.result o.size c.loop-object.tails.items k c.in-Some-lowest_tail.lower found).0, c.requires.number, c.requires.tails, c.loop-object.invariant.len)

pub add_move-requires-clause-tail : goal.add_move-requires-clause-tail
add_move-requires-clause-tail c =
    let o = c.in-Some.object in
    let k = c.args.number in
    let found : find (has_room c.size-size.result o.size c.loop-object.tails.items) (range_with_len 0 k) ≡ Some c.in-Some-lowest_tail.lower =
    ap (λ (xs : List ℕ). find (has_room c.size-size.result o.size xs) (range_with_len 0 k)) (sym c.deref.ensures.value) ∙ sym c.in-Some-lowest_tail.ensures in
    let room : get_or c.loop-object.tails.items c.in-Some-lowest_tail.lower 0 + o.size ≤ c.size-size.result = (room_found c.size-size.result o.size c.loop-object.tails.items k c.in-Some-lowest_tail.lower found).1 in
    room

pub add_move-requires-clause-within : goal.add_move-requires-clause-within
add_move-requires-clause-within c =
    let o = c.in-Some.object in
    let k = c.args.number in
    let found : find (has_room c.size-size.result o.size c.loop-object.tails.items) (range_with_len 0 k) ≡ Some c.in-Some-lowest_tail.lower =
    ap (λ (xs : List ℕ). find (has_room c.size-size.result o.size xs) (range_with_len 0 k)) (sym c.deref.ensures.value) ∙ sym c.in-Some-lowest_tail.ensures in
    let low : c.in-Some-lowest_tail.lower < c.args.heaps.now.count = omega (arith, (room_found c.size-size.result o.size c.loop-object.tails.items k c.in-Some-lowest_tail.lower found).0, c.requires.number) in
    rw c.size-size.ensures.bytes (end_bounded c.args.heaps.now c.loop-object.invariant.sound c.in-Some-lowest_tail.lower low)

pub add_move-requires-clause-room : goal.add_move-requires-clause-room
add_move-requires-clause-room c =
    let step = IsStepIn-found c.args.heaps.now c.loop-object.invariant.sound c.args.number c.loop-object.from c.in-Some.object c.in-Some.ensures in
    let filling = c.loop-object.invariant.filling in
    let long = ap (λ (ms : List Move). length ms) filling.1.appended in
    omega (arith, ap length step.left, filling.1.few, long, length-append c.args.moves.now.items filling.0, c.args.moves.now.ok.0, c.loop-object.moves.ok.0, c.requires.room, c.loop-object.invariant.capacity)

pub overflow_add-from : goal.overflow_add-from
overflow_add-from c =
    let step = IsStepIn-found c.args.heaps.now c.loop-object.invariant.sound c.args.number c.loop-object.from c.in-Some.object c.in-Some.ensures in
    let bound = end_bounded c.args.heaps.now c.loop-object.invariant.sound c.args.number c.requires.number in
    omega (arith, step.within, bound)

pub loop-object-smaller : goal.loop-object-smaller
loop-object-smaller c =
    let step = IsStepIn-found c.args.heaps.now c.loop-object.invariant.sound c.args.number c.loop-object.from c.in-Some.object c.in-Some.ensures in
    omega (arith, ap length step.left)

pub loop-object-preserved : goal.loop-object-preserved
loop-object-preserved c =
    let h = c.args.heaps.now in
    let k = c.args.number in
    let o = c.in-Some.object in
    let j = c.in-Some-lowest_tail.lower in
    let objects = objects_in h k in
    let rest = rest_from (end_of o) objects in
    let before = c.args.tails.now.items in
    let front = c.args.moves.now.items in
    let tails = c.loop-object.tails.items in
    let moves = c.loop-object.moves.items in
    let step = IsStepIn-found h c.loop-object.invariant.sound k c.loop-object.from o c.in-Some.ensures in
    let filling = c.loop-object.invariant.filling in
    let now : Filling h.size k objects (o ∷ rest) before tails front moves filling.0 = subst (λ (xs : List Object). Filling h.size k objects xs before tails front moves filling.0) step.left filling.1 in
    let found : find (has_room h.size o.size tails) (range_with_len 0 k) ≡ Some j =
    ap (λ (n : ℕ). find (has_room n o.size tails) (range_with_len 0 k)) (sym c.loop-object.invariant.size) ∙ ap (λ (xs : List ℕ). find (has_room c.size-size.result o.size xs) (range_with_len 0 k)) (sym c.deref.ensures.value) ∙ sym c.in-Some-lowest_tail.ensures in
    let room = room_found h.size o.size tails k j found in
    let takes = takes_found h c.loop-object.invariant.sound k c.loop-object.from o c.in-Some.ensures in
    let low : j < length tails = omega (arith, room.0, c.requires.number, c.requires.tails, c.loop-object.invariant.len, c.loop-object.tails.ok.0) in
    let m = tail_move h.size o j tails in
    let one = goes h.size k objects o rest before tails front moves filling.0 now j (omega (arith, takes.0)) low room.1 found in
    let two : Filling h.size k objects rest before c.add_move.new.tails.items front (moves ++ m ∷ []) (filling.0 ++ m ∷ []) = subst (λ (xs : List ℕ). Filling h.size k objects rest before xs front (moves ++ m ∷ []) (filling.0 ++ m ∷ [])) (sym c.add_move.ensures.tails) one in
    let made : c.add_move.new.moves.items ≡ moves ++ m ∷ [] = c.add_move.ensures.moves ∙ ap (λ (n : ℕ). moves ++ tail_move n o j tails ∷ []) c.loop-object.invariant.size in
    record {
      sound = c.loop-object.invariant.sound;
      size = c.loop-object.invariant.size;
      kept = c.loop-object.invariant.kept;
      start = omega (arith, c.loop-object.invariant.start, step.above);
      len = c.add_move.ensures.tails_len ∙ c.loop-object.invariant.len;
      capacity = omega (arith, c.add_move.ensures.capacity, c.loop-object.invariant.capacity);
      filling = (filling.0 ++ m ∷ [], subst (λ (ms : List Move). Filling h.size k objects rest before c.add_move.new.tails.items front ms (filling.0 ++ m ∷ [])) (sym made) two);
    }

-- all were moved
pub returns-clause-emptied : goal.returns-clause-emptied
returns-clause-emptied c =
    let h = c.args.heaps.now in
    let k = c.args.number in
    let objects = objects_in h k in
    let filling = c.loop-object.invariant.filling in
    let none = rest_none c.loop-object.from objects (sym c.in_default.ensures) in
    let now : Filling h.size k objects [] c.args.tails.now.items c.loop-object.tails.items c.args.moves.now.items c.loop-object.moves.items filling.0 =
    subst (λ (xs : List Object). Filling h.size k objects xs c.args.tails.now.items c.loop-object.tails.items c.args.moves.now.items c.loop-object.moves.items filling.0) none filling.1 in
    let plan = ends h.size k objects c.args.tails.now.items c.loop-object.tails.items c.args.moves.now.items c.loop-object.moves.items filling.0 now in
    rw plan (refl, now.appended, now.risen)
