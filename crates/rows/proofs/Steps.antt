-- One step of a thread, and several of them.
use Rattle.std.proofs.Common.{◌≡◌, ◌≢◌, ℕ, ◌<◌, ◌≤◌, ◌==◌, ◌||◌, ◌&&◌, Bool, true, false, cond, ap, sym, subst, ◌∙◌, refl, arith, inr, Some, None}
use Rattle.std.proofs.lemmas.Bool.Decides.{nat_tests}
use Rattle.ak_trace.specs.declared.endings.End.TheVariants.{Done}
use Rattle.flat_rules.specs.declared.step.Step.{Step}
use Rattle.flat_rules.specs.declared.step.Step.TheVariants as step
use Rattle.flat_rules.specs.Answers.{step_of, step_by_end}
use Rattle.flat_rules.specs.Events.{goes, back, away}
use Rattle.flat_rules.specs.Lawful.{IsFlat, Leaves, Lives, is_end}
use Rattle.flat_rules.specs.Machine.{Machine, Turned, steps, looked, stepped, got, got_null, made_thread, refused_thread, found_busy, wants_room, rested, ended, trapped, passed_limit, lacked_stack}
use Rattle.flat_rules.specs.States.{most_threads}
use Rattle.rows.specs.Runs.{Comes, GoesOn, Turns}

same_number : (t : ℕ) → (t == t) ≡ true
same_number t = grind (arith, nat_tests)

other_number : (k t : ℕ) → k ≢ t → (k == t) ≡ false
other_number k t not = grind (arith, nat_tests)

not_by_other : (a b e : Bool) → b ≡ false → (a || (b && e)) ≡ a
not_by_other true b e not = refl
not_by_other false true e not = absurd (cc not)
not_by_other false false e not = refl

not_ended : (a b e : Bool) → a ≡ false → e ≡ false → (a || (b && e)) ≡ false
not_ended true b e going stays = absurd (cc going)
not_ended false true e going stays = stays
not_ended false false e going stays = refl

has_now : (a b e : Bool) → b ≡ true → e ≡ true → (a || (b && e)) ≡ true
has_now true b e one is = refl
has_now false true e one is = is
has_now false false e one is = absurd (cc one)

module _ {S C : Type 0} (m : Machine S C) (SharedOf : S → Type 0) (ContextOf : C → Type 0) where
  -- by how the step went: what holds where it has not ended the thread, where it brings it home, and where it ended it
  module _ (s : S) (t : ℕ) (c : C) where
    comes_by : (a : Turned) → ((goes a ≡ away → ⊥) → is_end a ≡ false → GoesOn m SharedOf ContextOf s t c) → ((goes a ≡ away → ⊥) → goes a ≡ back → m.stands c ≡ true) → (is_end a ≡ true → m.has_ended s t ≡ true)
        → Comes m SharedOf ContextOf s t c (step_of t a)
    comes_by (ended value) on stands has = by (t == 0)
      where
        by : (b : Bool) → Comes m SharedOf ContextOf s t c (step_by_end (cond b (Some (Done value)) None) (ended value))
        by true = tt
        by false = has refl
    comes_by looked on stands has = on (λ e. cc e) refl
    comes_by stepped on stands has = on (λ e. cc e) refl
    comes_by (got id place) on stands has = on (λ e. cc e) refl
    comes_by got_null on stands has = on (λ e. cc e) refl
    comes_by (made_thread number) on stands has = on (λ e. cc e) refl
    comes_by refused_thread on stands has = on (λ e. cc e) refl
    comes_by found_busy on stands has = (on (λ e. cc e) refl, stands (λ e. cc e) refl)
    comes_by wants_room on stands has = (on (λ e. cc e) refl, stands (λ e. cc e) refl)
    comes_by rested on stands has = on (λ e. cc e) refl
    comes_by (trapped word kind) on stands has = tt
    comes_by passed_limit on stands has = tt
    comes_by lacked_stack on stands has = tt

  module _ (flat : IsFlat m SharedOf ContextOf) (s : S) (c d : C) (t : ℕ) (on : GoesOn m SharedOf ContextOf s t c) (few : m.threads s ≤ most_threads) (moved : d ≡ m.local 1024 c) where
    thread_d : m.thread_of d ≡ t
    thread_d = ap m.thread_of moved ∙ (flat.works 1024 c on.lives.context (inr refl) on.progress).thread ∙ on.thread

    pub steps_d : m.progress d ≡ steps
    steps_d = ap m.progress moved ∙ (flat.works 1024 c on.lives.context (inr refl) on.progress).progress

    pub same_thread : m.thread_of d ≡ m.thread_of c
    same_thread = thread_d ∙ sym on.thread

    lives_d : Lives m SharedOf ContextOf s d
    lives_d = record {
      shared = on.lives.shared;
      context = subst ContextOf (sym moved) (flat.works 1024 c on.lives.context (inr refl) on.progress).of_;
      made = subst (λ (j : ℕ). j < m.threads s) (sym same_thread) on.lives.made;
      going = ap (m.has_ended s) same_thread ∙ on.lives.going;
    }

    left : Leaves m SharedOf s (m.thread_of d) (m.act s d)
    left = flat.leaves s d lives_d steps_d few

    abbrev after : S
    after = (m.act s d).shared

    on_next : (goes (m.act s d).turned ≡ away → ⊥) → is_end (m.act s d).turned ≡ false → GoesOn m SharedOf ContextOf after t (m.act s d).context
    on_next stays not =
        let g = flat.goes_on s d lives_d steps_d stays in
        let thread : m.thread_of (m.act s d).context ≡ t = g.thread ∙ thread_d in
        let made : t < m.threads s = subst (λ (j : ℕ). j < m.threads s) on.thread on.lives.made in
        let still : t < m.threads after = omega (arith, made, left.more) in
        record {
          lives = record {
            shared = left.of_;
            context = g.of_;
            made = subst (λ (j : ℕ). j < m.threads after) (sym thread) still;
            going = ap (m.has_ended after) g.thread ∙ (left.ends (m.thread_of d) ∙ not_ended (m.has_ended s (m.thread_of d)) (m.thread_of d == m.thread_of d) (is_end (m.act s d).turned) lives_d.going not);
          };
          progress = g.progress;
          thread = thread;
        }

    has : is_end (m.act s d).turned ≡ true → m.has_ended after t ≡ true
    has is = ap (m.has_ended after) (sym thread_d) ∙ (left.ends (m.thread_of d) ∙ has_now (m.has_ended s (m.thread_of d)) (m.thread_of d == m.thread_of d) (is_end (m.act s d).turned) (same_number (m.thread_of d)) is)

    turns_at : Turns m SharedOf ContextOf s after t (m.act s d).context (step_of t (m.act s d).turned)
    turns_at = record {
      shared = left.of_;
      more = left.more;
      most = left.most;
      others = λ k not. left.ends k ∙ not_by_other (m.has_ended s k) (k == m.thread_of d) (is_end (m.act s d).turned) (other_number k (m.thread_of d) (λ e. not (e ∙ thread_d)));
      comes = comes_by after t (m.act s d).context (m.act s d).turned on_next (λ stays is. (flat.goes_on s d lives_d steps_d stays).stands is) has;
    }

    -- one step
    pub turns : (s' : S) (c' : C) (last : Step) → s' ≡ (m.act s d).shared → c' ≡ (m.act s d).context → last ≡ step_of (m.thread_of d) (m.act s d).turned → Turns m SharedOf ContextOf s s' t c' last
    turns s' c' last shared context answer =
        let told : last ≡ step_of t (m.act s d).turned = answer ∙ ap (λ (j : ℕ). step_of j (m.act s d).turned) thread_d in
        subst (λ (z : S × C × Step). Turns m SharedOf ContextOf s z.0 t z.1 z.2) (λ i. (sym shared i, sym context i, sym told i)) turns_at

  -- none yet
  pub turns_none : (s : S) (t : ℕ) (c : C) → GoesOn m SharedOf ContextOf s t c → m.threads s ≤ most_threads → Turns m SharedOf ContextOf s s t c step.Went
  turns_none s t c on few = record { shared = on.lives.shared; more = omega arith; most = few; others = λ k not. refl; comes = on }

  -- and more of them
  pub turns_more : (s s' s'' : S) (t t' : ℕ) (c' c'' : C) (last : Step) → Turns m SharedOf ContextOf s s' t c' step.Went → t' ≡ t → Turns m SharedOf ContextOf s' s'' t' c'' last → Turns m SharedOf ContextOf s s'' t c'' last
  turns_more s s' s'' t t' c' c'' last before same then =
      let on = subst (λ (j : ℕ). Turns m SharedOf ContextOf s' s'' j c'' last) same then in
      record {
        shared = on.shared;
        more = omega (arith, before.more, on.more);
        most = on.most;
        others = λ k not. on.others k not ∙ before.others k not;
        comes = on.comes;
      }

  -- a thread that was made begins
  pub begun_goes_on : IsFlat m SharedOf ContextOf → (s : S) (k : ℕ) (c d : C) → SharedOf s → c ≡ m.blank k → k < m.threads s → m.threads s ≤ most_threads → m.has_ended s k ≡ false → d ≡ m.begin s c → GoesOn m SharedOf ContextOf s k d
  begun_goes_on flat s k c d shared is made few going begun =
      let thread : m.thread_of c ≡ k = ap m.thread_of is ∙ flat.blank_thread k in
      let below : k < most_threads = omega (arith, made, few) in
      let lives : Lives m SharedOf ContextOf s c = record {
        shared = shared;
        context = subst ContextOf (sym is) (flat.blank_of s k shared below);
        made = subst (λ (j : ℕ). j < m.threads s) (sym thread) made;
        going = ap (m.has_ended s) thread ∙ going;
      } in
      let h = flat.begins s c lives (ap m.progress is ∙ flat.blank_progress k) in
      let thread_d : m.thread_of d ≡ k = ap m.thread_of begun ∙ (h.thread ∙ thread) in
      record {
        lives = record {
          shared = shared;
          context = subst ContextOf (sym begun) h.of_;
          made = subst (λ (j : ℕ). j < m.threads s) (sym thread_d) made;
          going = ap (m.has_ended s) thread_d ∙ going;
        };
        progress = ap m.progress begun ∙ h.progress;
        thread = thread_d;
      }

  -- by its own number
  pub on_of : (s : S) (t : ℕ) (c : C) → GoesOn m SharedOf ContextOf s t c → GoesOn m SharedOf ContextOf s (m.thread_of c) c
  on_of s t c on = record { lives = on.lives; progress = on.progress; thread = refl }
