-- Of a call that has room, the stack objects lie in its thread's stack, apart from one another.
use Rattle.std.proofs.Common.{◌≡◌, ◌≢◌, ℕ, zero, suc, ◌+◌, ◌*◌, ◌<◌, ◌≤◌, List, [], ◌∷◌, length, take, slice_get, ap, arith, inl, inr}
use Rattle.std.proofs.lemmas.Bool.{cases_lt}
use Rattle.std.proofs.lemmas.List.Sums.{sum_by-cons}
use Rattle.std.proofs.lemmas.Nat.{mul-le}
use Rattle.std.proofs.Math.Seq.{take-length}
use Rattle.c_tree.specs.TypedForm.{taken}
use Rattle.arena_meaning.specs.Arena.{start_behind}
use Rattle.struct_ir.specs.Nodes.{StackObject, Ir}
use Rattle.struct_ir.specs.meaning.Blocks.{size_of}
use Rattle.flat_meaning.specs.Image.{Layout, frame_of, objects_bytes, stack_address, plain_size}
use Rattle.flat_meaning.specs.Words.{Words, object_address}
use Rattle.flat_simulation.specs.inner.Calls.{objects_in, object_size}
use Rattle.flat_simulation.specs.inner.Frames.{FrameLies}

abbrev bytes_of : List StackObject → ℕ
bytes_of os = objects_bytes os

-- an object's bytes come behind those of the objects before it, and before those of the objects behind it
part_room : (os : List StackObject) (i j : ℕ) → i < j → j ≤ length os → bytes_of (take i os) + taken (size_of (slice_get os i)) ≤ bytes_of (take j os)
part_room [] i j lt le = absurd (omega (arith, lt, le))
part_room (o ∷ os) i zero lt le = absurd (omega (arith, lt))
part_room (o ∷ os) zero (suc j) lt le = let sum = sum_by-cons (λ (x : StackObject). taken x.size) o (take j os) in omega (arith, sum)
part_room (o ∷ os) (suc i) (suc j) lt le =
    let one = sum_by-cons (λ (x : StackObject). taken x.size) o (take i os) in
    let two = sum_by-cons (λ (x : StackObject). taken x.size) o (take j os) in
    let rest = part_room os i j (omega (arith, lt)) (omega (arith, le)) in
    omega (arith, one, two, rest)

module _ (y : Layout) (p : Ir) (thread function : ℕ) (q : Words) (its_objects : (frame_of y q.function).objects ≡ objects_in p function) (inside : thread < y.limits.threads) (room : q.below.stack + objects_bytes (objects_in p function) ≤ y.limits.stack) where
  its_address : (i : ℕ) → object_address y thread q i ≡ stack_address y thread + q.below.stack + bytes_of (take i (objects_in p function))
  its_address i = ap (λ os. stack_address y thread + q.below.stack + bytes_of (take i os)) its_objects

  ordered : (i j : ℕ) → i < j → j < length (objects_in p function) → object_address y thread q i + taken (object_size p function i) ≤ object_address y thread q j
  ordered i j lt below = omega (arith, its_address i, its_address j, part_room (objects_in p function) i j lt (omega (arith, below)))

  -- each object ends within the call's own bytes
  pub in_frame : (i : ℕ) → i < length (objects_in p function) → object_address y thread q i + taken (object_size p function i) ≤ stack_address y thread + q.below.stack + objects_bytes (objects_in p function)
  in_frame i below =
      let all = part_room (objects_in p function) i (length (objects_in p function)) below (omega arith) in
      let whole = ap bytes_of (take-length (objects_in p function)) in
      omega (arith, its_address i, all, whole)

  pub frame_lies : FrameLies y p thread (start_behind (plain_size y)) function q
  frame_lies = record {
    low = omega arith;
    above = λ i below. omega (arith, its_address i);
    inside = λ i below.
        let all = part_room (objects_in p function) i (length (objects_in p function)) below (omega arith) in
        let whole = ap bytes_of (take-length (objects_in p function)) in
        omega (arith, its_address i, all, whole, room);
    below = (let stacks : (thread + 1) * y.limits.stack ≤ y.limits.threads * y.limits.stack = mul-le (thread + 1) y.limits.stack y.limits.threads y.limits.stack (omega arith) (omega arith) in omega (arith, stacks));
    apart = λ i j ne one two. elim (cases_lt i j) [ inl lt ↦ inl (ordered i j lt two) | inr ge ↦ inr (ordered j i (lower i j ne ge) one) ];
  }
    where
      lower : (i j : ℕ) → i ≢ j → j ≤ i → j < i
      lower i j ne ge = elim (cases_lt j i) [ inl lt ↦ lt | inr le ↦ absurd (ne (omega arith)) ]
