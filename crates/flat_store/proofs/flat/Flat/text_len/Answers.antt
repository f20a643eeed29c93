use Rattle.std.proofs.Common.{◌≡◌, ℕ, ◌+◌, ◌-◌, ◌<◌, ◌≤◌, List, length, get_or, take, drop, Some, ◌∙◌, subst, arith}
use Rattle.flat_store.specs.Flat.{HasNoZero, IsTextLen, first_outside}
use Rattle.flat_store.proofs.Firsts.{outside_is}
use Rattle.flat_store.proofs.Texts.{length-read, HasNoZero-read, IsTextLen-read, IsFirstOutside-end}
use Rattle.flat_store.proofs.flat.Flat.text_len.Goals as goal

pub returns-in-Some-clause-ended : goal.returns-in-Some-clause-ended
returns-in-Some-clause-ended c =
    let xs = c.deref-2.result.now in
    let start = c.in_ok-start.start in
    let m = start + c.min-reached.result - start in
    let within : start + m ≤ length xs = omega (arith, c.in_ok-start.ensures.within, c.deref.ensures.len, c.deref-2.ensures.len, c.len.ensures, c.min-reached.ensures) in
    let below : c.in-Some.len < m = omega (arith, c.in-Some.ensures.zero.0, length-read xs start m within) in
    let text = IsTextLen-read xs c.args.at start m c.in-Some.len c.in_ok-start.ensures.index within below c.in-Some.ensures.before c.in-Some.ensures.zero.1 in
    (omega (arith, c.min-reached.ensures, c.saturating_add.ensures), subst (λ (bytes : List ℕ). IsTextLen bytes c.args.at c.in-Some.len) (c.deref-2.ensures.value ∙ c.self.view_is) text)

pub returns-in-None-clause-longer : goal.returns-in-None-clause-longer
returns-in-None-clause-longer c =
    let xs = c.deref-2.result.now in
    let start = c.in_ok-start.start in
    let m = start + c.min-reached.result - start in
    let within : start + m ≤ length xs = omega (arith, c.in_ok-start.ensures.within, c.deref.ensures.len, c.deref-2.ensures.len, c.len.ensures, c.min-reached.ensures) in
    let none : (k : ℕ) → k < c.args.most + 1 → get_or (take m (drop start xs)) k 0 ≡ 0 → ⊥ = λ k below. c.in-None.ensures.none k (omega (arith, length-read xs start m within)) in
    let text = HasNoZero-read xs c.args.at start m (c.args.most + 1) c.in_ok-start.ensures.index within (omega arith) none in
    subst (λ (bytes : List ℕ). HasNoZero bytes c.args.at (c.args.most + 1)) (c.deref-2.ensures.value ∙ c.self.view_is) text

pub returns-in-None-2-clause-outside : goal.returns-in-None-2-clause-outside
returns-in-None-2-clause-outside c =
    let xs = c.deref-2.result.now in
    let start = c.in_ok-start.start in
    let m = start + c.min-reached.result - start in
    let within : start + m ≤ length xs = omega (arith, c.in_ok-start.ensures.within, c.deref.ensures.len, c.deref-2.ensures.len, c.len.ensures, c.min-reached.ensures) in
    let same : c.args.at + c.min-reached.result - c.args.at ≡ m = omega arith in
    let none : (k : ℕ) → k < c.args.at + c.min-reached.result - c.args.at → get_or (take m (drop start xs)) k 0 ≡ 0 → ⊥ = λ k below. c.in-None-2.ensures.none k (omega (arith, length-read xs start m within)) in
    let text = HasNoZero-read xs c.args.at start m (c.args.at + c.min-reached.result - c.args.at) c.in_ok-start.ensures.index within (omega arith) none in
    let now = c.deref-2.ensures.value ∙ c.self.view_is in
    let outside = IsFirstOutside-end xs c.args.at (c.args.most + 1) c.min-reached.result (omega (arith, c.in_ok-start.ensures.index)) (omega (arith, c.in_ok-start.ensures.index, c.in_ok-start.ensures.within, c.deref.ensures.len, c.deref-2.ensures.len, c.len.ensures, c.min-reached.ensures, c.saturating_add.ensures)) (omega arith) in (
      subst (λ (bytes : List ℕ). first_outside bytes c.args.at (c.args.most + 1) ≡ Some (c.args.at + c.min-reached.result)) now (outside_is xs c.args.at (c.args.most + 1) (c.args.at + c.min-reached.result) outside),
      subst (λ (bytes : List ℕ). HasNoZero bytes c.args.at (c.args.at + c.min-reached.result - c.args.at)) now text,
    )
