-- A check, by what it comes to.
use Rattle.std.proofs.Common.{◌≡◌, ◌<◌, ◌≤◌, ◌%◌, ℕ, true, List, length, drop, take, Option, Some, None, IsSome, ℤ, refl, sym, ap, subst, ◌∙◌, arith}
use Rattle.std.proofs.lemmas.List.{take-append-drop}
use Rattle.std.specs.Option.{option_map}
use Rattle.ak_words.specs.declared.rule.Rule.{Rule}
use Rattle.ak_trace.specs.declared.endings.Verdict.{Verdict}
use Rattle.ak_trace.specs.declared.endings.Verdict.TheVariants as verdicts
use Rattle.block_store.specs.declared.values.Answer.TheVariants as answers
use Rattle.block_store.specs.Actions.{World}
use Rattle.block_store.specs.Runs.{Program, State, Pick, Turn, broke, own_at, turn_if, picked}
use Rattle.std.specs.List.{AllByRecursion}
use Rattle.block_meaning.specs.Asking.{told}
use Rattle.rule_check.specs.Seeded.{running, looked_at, is_blocked, first_ready, pick_for, draw_before}
use Rattle.rule_check.specs.Checks.{Breaks, HasEnded, IsRunning, AllWait, IsCheck}
use Rattle.rule_check.specs.inner.Steps.{HasCome}
use Rattle.rule_check.proofs.Ready.{all_wait, is_ready, blocked_is, all_append, all_joined}
use Rattle.rule_check.proofs.Running.{listed_back, zero_adds}
use Rattle.rule_check.specs.Reports.{Report}

-- what a verdict says of a rule, of main's value and of turns
same_broke : (rule rule' : Rule) (place place' turns turns' : ℕ) → verdicts.Broke rule place turns ≡ verdicts.Broke rule' place' turns' → (rule ≡ rule') × (place ≡ place') × (turns ≡ turns')
same_broke rule rule' place place' turns turns' e = (cc e, cc e, cc e)

-- where main or a thread doesn't run there is no turn
no_turn : {A : Type 0} (P : Program A) (s : State A) (p : Pick) (t : Turn A) (main own : Option A) → main ≡ None → turn_if P s p main own ≡ Some t → ⊥
no_turn P s p t None own e h = absurd (cc h)
no_turn P s p t (Some main) own e h = absurd (cc e)

pub thread_runs : {A : Type 0} (P : Program A) (s : State A) (p : Pick) (t : Turn A) (main own : Option A) → turn_if P s p main own ≡ Some t → IsSome own
thread_runs P s p t None own h = absurd (cc h)
thread_runs P s p t (Some main) None h = absurd (cc h)
thread_runs P s p t (Some main) (Some own) h = refl

main_runs : {A : Type 0} (P : Program A) (s : State A) (p : Pick) (t : Turn A) (main own : Option A) → turn_if P s p main own ≡ Some t → IsSome main
main_runs P s p t None own h = absurd (cc h)
main_runs P s p t (Some main) own h = refl

ended_or_runs : {A : Type 0} (own : Option A) → own ≡ None → IsSome own → ⊥
ended_or_runs None e h = absurd (cc h)
ended_or_runs (Some a) e h = absurd (cc e)

-- the pick of a thread that is ready
thread_of_pick : {A : Type 0} (P : Program A) (s : State A) (o : Option ℕ) (p : Pick) → option_map (pick_for P s) o ≡ Some p → o ≡ Some p.thread
thread_of_pick P s None p e = absurd (cc e)
thread_of_pick P s (Some t) p e = let same : pick_for P s t ≡ p = cc e in ap (λ (q : Pick). Some q.thread) same

no_pick : {A : Type 0} (P : Program A) (s : State A) (o : Option ℕ) (p : Pick) → o ≡ None → option_map (pick_for P s) o ≡ Some p → ⊥
no_pick P s None p e h = absurd (cc h)
no_pick P s (Some t) p e h = absurd (cc e)

-- where all wait no turn is chosen that breaks a rule
not_both : {A : Type 0} (P : Program A) (draw : ℕ) (s : State A) (rule : Rule) (place : ℕ) → Breaks P draw s rule place → AllWait P s → ⊥
not_both P draw s rule place b all =
    let runs : IsSome (own_at s.own b.pick.thread) = thread_runs P s b.pick (broke rule place) (own_at s.own 0) (own_at s.own b.pick.thread) b.breaks in
    let ready = is_ready P s (looked_at draw (running s.own)) b.pick.thread (thread_of_pick P s (first_ready P s (looked_at draw (running s.own))) b.pick b.is_next) in
    absurd (cc (sym ready ∙ ap is_blocked (all b.pick.thread runs)))

-- where none is ready all wait
pub none_ready : {A : Type 0} (P : Program A) (draw : ℕ) (s : State A) → first_ready P s (looked_at draw (running s.own)) ≡ None → AllWait P s
none_ready P draw s e =
    let place = draw % length (running s.own) in
    let Q = λ (thread : ℕ). is_blocked (told P s thread answers.Plain) ≡ true in
    let both = all_append Q (drop place (running s.own)) (take place (running s.own)) (all_wait P s (looked_at draw (running s.own)) e) in
    let all = subst (AllByRecursion Q) (take-append-drop place (running s.own)) (all_joined Q (take place (running s.own)) (drop place (running s.own)) both.1 both.0) in
    λ thread runs. blocked_is (told P s thread answers.Plain) (subst Q (sym (zero_adds thread)) (listed_back Q s.own 0 all thread runs))

-- a report, with the output of this state
abbrev pub reported : {A : Type 0} → Verdict → List Pick → State A → Report
reported v order s = record { verdict = v; order = order; output = s.world.output }

-- a turn breaks one rule, at one place
same_break : {A : Type 0} (P : Program A) (draw : ℕ) (s : State A) (rule rule' : Rule) (place place' : ℕ) → Breaks P draw s rule place → Breaks P draw s rule' place' → (rule ≡ rule') × (place ≡ place')
same_break {A} P draw s rule rule' place place' b c =
    let picks : b.pick ≡ c.pick = cc (sym b.is_next ∙ c.is_next) in
    let turns : ◌≡◌ {A = Turn A} (broke rule place) (broke rule' place') = cc (sym b.breaks ∙ ap (picked P s) picks ∙ c.breaks) in
    (cc turns, cc turns)

pub broke_check : {A : Type 0} (P : Program A) (w : World) (seed most : ℕ) (order : List Pick) (s : State A) (rule : Rule) (place : ℕ)
    → HasCome P w seed order s → length order < most → Breaks P (draw_before seed (length order)) s rule place → IsCheck P w seed most (reported (verdicts.Broke rule place (length order)) order s)
broke_check {A} P w seed most order s rule place h below b = record {
  last = s;
  comes = h.comes;
  seeded = h.seeded;
  within = omega (arith, below);
  printed = refl;
  broke = λ rule' place' turns. (
    λ e.
        let same = same_broke rule rule' place place' (length order) turns e in
        (sym same.2, subst (λ n. n < most) same.2 below, subst (λ r. Breaks P (draw_before seed turns) s r place') same.0 (subst (λ q. Breaks P (draw_before seed turns) s rule q) same.1 (subst (λ n. Breaks P (draw_before seed n) s rule place) same.2 b))),
    λ f.
        let same = same_break P (draw_before seed (length order)) s rule rule' place place' b (subst (λ n. Breaks P (draw_before seed n) s rule' place') f.0 f.2) in
        ap (λ r. verdicts.Broke r place (length order)) same.0 ∙ ap (λ q. verdicts.Broke rule' q (length order)) same.1 ∙ ap (verdicts.Broke rule' place') (sym f.0),
  );
  ended = λ exit turns. (λ e. absurd (cc e), λ f. absurd (ended_or_runs (own_at s.own 0) f.1.gone (main_runs P s b.pick (broke rule place) (own_at s.own 0) (own_at s.own b.pick.thread) b.breaks)));
  all_blocked = λ turns. (λ e. absurd (cc e), λ f. absurd (not_both P (draw_before seed (length order)) s rule place b f.3));
  spent = λ turns. (λ e. absurd (cc e), λ f. absurd (omega (arith, below, f.0, f.1)));
}

pub ended_check : {A : Type 0} (P : Program A) (w : World) (seed most : ℕ) (order : List Pick) (s : State A) (exit : ℤ)
    → HasCome P w seed order s → length order ≤ most → HasEnded s exit → IsCheck P w seed most (reported (verdicts.Ended exit (length order)) order s)
ended_check P w seed most order s exit h within e = record {
  last = s;
  comes = h.comes;
  seeded = h.seeded;
  within = within;
  printed = refl;
  broke = λ rule place turns. (λ g. absurd (cc g), λ f. absurd (no_turn P s f.2.pick (broke rule place) (own_at s.own 0) (own_at s.own f.2.pick.thread) e.gone f.2.breaks));
  ended = λ exit' turns. (
    λ g.
        let values : exit ≡ exit' = cc g in
        let lengths : length order ≡ turns = cc g in
        (sym lengths, subst (λ z. HasEnded s z) values e),
    λ f.
        let values : exit ≡ exit' = cc (sym e.value ∙ f.1.value) in
        ap (λ z. verdicts.Ended z (length order)) values ∙ ap (verdicts.Ended exit') (sym f.0),
  );
  all_blocked = λ turns. (λ g. absurd (cc g), λ f. absurd (ended_or_runs (own_at s.own 0) e.gone f.2));
  spent = λ turns. (λ g. absurd (cc g), λ f. absurd (ended_or_runs (own_at s.own 0) e.gone f.2));
}

pub blocked_check : {A : Type 0} (P : Program A) (w : World) (seed most : ℕ) (order : List Pick) (s : State A)
    → HasCome P w seed order s → length order < most → IsRunning s → first_ready P s (looked_at (draw_before seed (length order)) (running s.own)) ≡ None → IsCheck P w seed most (reported (verdicts.AllBlocked (length order)) order s)
blocked_check P w seed most order s h below runs none = record {
  last = s;
  comes = h.comes;
  seeded = h.seeded;
  within = omega (arith, below);
  printed = refl;
  broke = λ rule place turns. (
    λ g. absurd (cc g),
    λ f.
        let b = subst (λ n. Breaks P (draw_before seed n) s rule place) f.0 f.2 in
        absurd (no_pick P s (first_ready P s (looked_at (draw_before seed (length order)) (running s.own))) b.pick none b.is_next),
  );
  ended = λ exit turns. (λ g. absurd (cc g), λ f. absurd (ended_or_runs (own_at s.own 0) f.1.gone runs));
  all_blocked = λ turns. (
    λ g.
        let lengths : length order ≡ turns = cc g in
        (sym lengths, subst (λ n. n < most) lengths below, runs, none_ready P (draw_before seed (length order)) s none),
    λ f. ap verdicts.AllBlocked (sym f.0),
  );
  spent = λ turns. (λ g. absurd (cc g), λ f. absurd (omega (arith, below, f.0, f.1)));
}

pub spent_check : {A : Type 0} (P : Program A) (w : World) (seed most : ℕ) (order : List Pick) (s : State A)
    → HasCome P w seed order s → length order ≡ most → IsRunning s → IsCheck P w seed most (reported (verdicts.TurnsSpent (length order)) order s)
spent_check P w seed most order s h done runs = record {
  last = s;
  comes = h.comes;
  seeded = h.seeded;
  within = omega (arith, done);
  printed = refl;
  broke = λ rule place turns. (λ g. absurd (cc g), λ f. absurd (omega (arith, done, f.0, f.1)));
  ended = λ exit turns. (λ g. absurd (cc g), λ f. absurd (ended_or_runs (own_at s.own 0) f.1.gone runs));
  all_blocked = λ turns. (λ g. absurd (cc g), λ f. absurd (omega (arith, done, f.0, f.1)));
  spent = λ turns. (
    λ g.
        let lengths : length order ≡ turns = cc g in
        (sym lengths, sym lengths ∙ done, runs),
    λ f. ap verdicts.TurnsSpent (sym f.0),
  );
}
