use Rattle.std.proofs.Common.{◌≡◌, ℕ, List, refl, sym, subst}
use Rattle.race_rules.specs.Turns.{Has}
use Rattle.race_rules.specs.Histories.{Caught, saw_all}
use Rattle.race_walk.specs.Views.{told_by, this_turn}
use Rattle.race_walk.specs.States.{clocks_of}
use Rattle.race_walk.specs.Seeing.{history_of}
use Rattle.race_walk.proofs.Steps.{same_is}
use Rattle.race_walk.proofs.Turning.{false_true, found_so, walked_on}
use Rattle.race_walk.proofs.walk.RaceWalk.turn.Goals as goal

pub returns-then-catches_one-clause-finds : goal.returns-then-catches_one-clause-finds
returns-then-catches_one-clause-finds c = λ ts a at.
    let h = history_of c.args.self.now.history in
    let x = this_turn c.args.thread c.args.touches.now in
    let F : List ℕ → Type 0 = λ l. Has (Caught (told_by l) h) c.args.touches.now in
    let so = found_so ts c.args.self.now.turns (clocks_of c.args.self.now.clocks) h x (told_by c.set_clock.new.clock.items) a at c.in_ok-set_clock.ensures in
    record {
      exactly = (λ t. so.0 (subst F c.as_slice.ensures.value (c.catches_one.ensures.0 c.if-catches_one.true)), λ s. refl);
      goes_on = λ f. (cc);
      counts = λ f. (cc);
      stays = λ t. a;
      still = λ t. refl;
    }

pub returns-clause-finds : goal.returns-clause-finds
returns-clause-finds c = λ ts a at.
    let k = c.args.self.now.turns in
    let s = clocks_of c.args.self.now.clocks in
    let h = history_of c.args.self.now.history in
    let x = this_turn c.args.thread c.args.touches.now in
    let v = told_by c.set_clock.new.clock.items in
    let F : List ℕ → Type 0 = λ l. Has (Caught (told_by l) h) c.args.touches.now in
    let G : List ℕ → Type 0 = λ l. (b e : ℕ) → history_of c.see_all.new.self b e ≡ saw_all (told_by l) k c.args.thread c.args.touches.now h b e in
    let so = found_so ts k s h x v a at c.in_ok-set_clock.ensures in
    let never : Has (Caught v h) c.args.touches.now → ⊥ = λ m. false_true c.catches_one.result c.if-catches_one.false (c.catches_one.ensures.1 (subst F (sym c.as_slice.ensures.value) m)) in
    record {
      exactly = (λ f. (cc), λ q. absurd (never (so.1 q)));
      goes_on = λ f.
          walked_on ts k s (clocks_of c.finish.new.self) h (history_of c.see_all.new.self) x v a at c.in_ok-set_clock.ensures never (same_is _ _ c.in_ok-finish.ensures)
          (subst G c.as_slice-2.ensures.value c.in_ok-see_all.ensures);
      counts = λ f. refl;
      stays = λ t. (cc);
      still = λ t. (cc);
    }
