use Rattle.std.proofs.Common.{◌≡◌, ℕ, ◌-◌, ◌*◌, ◌<◌, ◌≤◌, ◌&&◌, Bool, true, false, eqb, nat_le, nat_lt, length, sym, ap, ◌∙◌, refl, arith}
use Rattle.std.proofs.lemmas.Bool.Decides.{nat_tests}
use Rattle.sub_heaps.specs.SubHeaps.{objects_in}
use Rattle.move_plan.specs.Holding.{is_pinned}
use Rattle.move_plan.proofs.Rest.{rest_all, rest_none}
use Rattle.move_plan.proofs.Numbered.{IsStepIn-found, end_bounded, stand_in}
use Rattle.evacuate.proofs.Steps.{seen_all, seen_more, seen_none, seen_pin}
use Rattle.evacuate.specs.inner.Tails.{is_thin_at}
use Rattle.evacuate.proofs.walks.is_thin.Goals.{then-held-gt0, else-held-gt0}
use Rattle.evacuate.proofs.walks.is_thin.Goals as goal

pub loop-object-init : goal.loop-object-init
loop-object-init c =
    let h = c.args.heaps.now in
    let k = c.args.number in
    let all = rest_all h.count h.size (k * h.size) (k * h.size) (objects_in h k) (omega arith) (stand_in h c.size-size.ensures.sound k) in
    rw c.size-size.ensures.bytes (record {
      sound = c.size-size.ensures.sound;
      size = refl;
      start = refl;
      above = omega arith;
      within = omega arith;
      seen = seen_none (is_pinned c.args.pins.now) h k all;
    })

pub returns-then-has : goal.returns-then-has
returns-then-has c =
    let h = c.args.heaps.now in
    let k = c.args.number in
    let step = IsStepIn-found h c.loop-object.invariant.sound k c.loop-object.at c.in-Some.object c.in-Some.ensures in
    sym (seen_pin (is_pinned c.args.pins.now) h k c.loop-object.at c.loop-object.held c.args.tail c.in-Some.object step (sym c.if-has.ensures.member) c.loop-object.invariant.seen)

pub overflow_add-held : goal.overflow_add-held
overflow_add-held c =
    let h = c.args.heaps.now in
    let k = c.args.number in
    let step = IsStepIn-found h c.loop-object.invariant.sound k c.loop-object.at c.in-Some.object c.in-Some.ensures in
    let bound = end_bounded h c.loop-object.invariant.sound k c.requires in
    let seen = c.loop-object.invariant.seen in
    omega (arith, step.within, step.above, bound, seen.within)

pub overflow_add-at : goal.overflow_add-at
overflow_add-at c =
    let step = IsStepIn-found c.args.heaps.now c.loop-object.invariant.sound c.args.number c.loop-object.at c.in-Some.object c.in-Some.ensures in
    let bound = end_bounded c.args.heaps.now c.loop-object.invariant.sound c.args.number c.requires in
    omega (arith, step.within, bound)

pub loop-object-smaller : goal.loop-object-smaller
loop-object-smaller c =
    let step = IsStepIn-found c.args.heaps.now c.loop-object.invariant.sound c.args.number c.loop-object.at c.in-Some.object c.in-Some.ensures in
    omega (arith, ap length step.left)

pub loop-object-preserved : goal.loop-object-preserved
loop-object-preserved c =
    let h = c.args.heaps.now in
    let k = c.args.number in
    let step = IsStepIn-found h c.loop-object.invariant.sound k c.loop-object.at c.in-Some.object c.in-Some.ensures in
    record {
      sound = c.loop-object.invariant.sound;
      size = c.loop-object.invariant.size;
      start = c.loop-object.invariant.start;
      above = omega (arith, c.loop-object.invariant.above, step.above);
      within = omega (arith, c.loop-object.invariant.start, step.within);
      seen = seen_more (is_pinned c.args.pins.now) h k c.loop-object.at c.loop-object.held c.in-Some.object step (sym c.if-has.ensures.member) c.loop-object.invariant.seen;
    }

-- the first two tests, as the branches give them
some_gate : (held size : ℕ) (value : Bool) → 0 < held → value ≡ nat_le (4 * held) size → (nat_lt 0 held && nat_le (4 * held) size) ≡ value
some_gate held size value some is = let holds : nat_lt 0 held ≡ true = grind (arith, nat_tests) in ap (λ (b : Bool). b && nat_le (4 * held) size) holds ∙ sym is

none_gate : (held size : ℕ) (value : Bool) → held ≤ 0 → value ≡ nat_lt 0 held → (nat_lt 0 held && nat_le (4 * held) size) ≡ value
none_gate held size value none is = let fails : nat_lt 0 held ≡ false = grind (arith, nat_tests) in ap (λ (b : Bool). b && nat_le (4 * held) size) fails ∙ sym fails ∙ sym is

gated : (a b e value : Bool) → (a && b) ≡ value → (a && (b && e)) ≡ (value && e)
gated true b e value is = ap (λ (x : Bool). x && e) is
gated false b e value is = ap (λ (x : Bool). x && e) is

-- all were seen
pub returns-then-held-size : goal.returns-then-held-size
returns-then-held-size c =
    let h = c.args.heaps.now in
    let k = c.args.number in
    let at = c.loop-object.at in
    let held = c.loop-object.held in
    let gate : (nat_lt 0 held && nat_le (4 * held) c.size-size.result) ≡ c.if-held-gt0.value = elim c.if-held-gt0.branch [
      | then-held-gt0 w ↦ some_gate held c.size-size.result c.if-held-gt0.value (omega (arith, w.if-held-gt0.true)) w.value-is
      | else-held-gt0 w ↦ none_gate held c.size-size.result c.if-held-gt0.value (omega (arith, w.if-held-gt0.false)) w.value-is
    ] in
    let none = rest_none at (objects_in h k) (sym c.in_default.ensures) in
    let all = seen_all (is_pinned c.args.pins.now) h k c.loop-object.invariant.sound at held c.args.tail none c.loop-object.invariant.seen in
    let here : is_thin_at (is_pinned c.args.pins.now) h k c.args.tail ≡ (c.if-held-gt0.value && eqb (at - k * c.size-size.result) c.args.tail) =
    all ∙ ap (λ (n : ℕ). nat_lt 0 held && (nat_le (4 * held) n && eqb (at - k * n) c.args.tail)) (sym c.loop-object.invariant.size) ∙ gated (nat_lt 0 held) (nat_le (4 * held) c.size-size.result) (eqb (at - k * c.size-size.result) c.args.tail) c.if-held-gt0.value gate in
    sym (here ∙ ap (λ (b : Bool). b && eqb (at - k * c.size-size.result) c.args.tail) c.if-held-size.true)

pub returns-else-held-size : goal.returns-else-held-size
returns-else-held-size c =
    let h = c.args.heaps.now in
    let k = c.args.number in
    let at = c.loop-object.at in
    let held = c.loop-object.held in
    let gate : (nat_lt 0 held && nat_le (4 * held) c.size-size.result) ≡ c.if-held-gt0.value = elim c.if-held-gt0.branch [
      | then-held-gt0 w ↦ some_gate held c.size-size.result c.if-held-gt0.value (omega (arith, w.if-held-gt0.true)) w.value-is
      | else-held-gt0 w ↦ none_gate held c.size-size.result c.if-held-gt0.value (omega (arith, w.if-held-gt0.false)) w.value-is
    ] in
    let none = rest_none at (objects_in h k) (sym c.in_default.ensures) in
    let all = seen_all (is_pinned c.args.pins.now) h k c.loop-object.invariant.sound at held c.args.tail none c.loop-object.invariant.seen in
    let here : is_thin_at (is_pinned c.args.pins.now) h k c.args.tail ≡ (c.if-held-gt0.value && eqb (at - k * c.size-size.result) c.args.tail) =
    all ∙ ap (λ (n : ℕ). nat_lt 0 held && (nat_le (4 * held) n && eqb (at - k * n) c.args.tail)) (sym c.loop-object.invariant.size) ∙ gated (nat_lt 0 held) (nat_le (4 * held) c.size-size.result) (eqb (at - k * c.size-size.result) c.args.tail) c.if-held-gt0.value gate in
    c.if-held-size.false ∙ sym (here ∙ ap (λ (b : Bool). b && eqb (at - k * c.size-size.result) c.args.tail) c.if-held-size.false)
