-- A loop, by what its body and its step make of a yes and of a no.
use Rattle.std.proofs.Common.{◌≡◌, ℕ, Bool, true, false, refl, sym, ap, ◌∙◌}
use Rattle.std.specs.Prelude.{not}
use Rattle.pin_flow.specs.Marks.{AllPaths, unreached, good, bad, state_of, join, Ways, ways, at, end_state, round_of, head_of}
use Rattle.mark_sets.specs.Sets.{state_at, AllWays, ways_at, Both}
use Rattle.mark_sets.specs.Views.{is_bad, with_bad, led, led_by}

-- the row makes this of each mark
abbrev pub IsFlow : AllWays (Both ℕ) → ℕ → (AllPaths → Ways) → Type 0
IsFlow s i f = (v : Bool) → ways_at (i, v) s ≡ f (state_of v)

-- what it makes of a state is what is told by what it makes of a yes and of a no
led_flow : (s : AllWays (Both ℕ)) (i : ℕ) (f : AllPaths → Ways) → IsFlow s i f → f unreached ≡ at unreached → (t : AllPaths) → ways (led_by s.on i t) (led_by s.broken i t) (led_by s.next i t) ≡ f t
led_flow s i f is idle unreached = sym idle
led_flow s i f is idle good = is true
led_flow s i f is idle bad = is false

module _ (o s : AllWays (Both ℕ)) (i : ℕ) (f g : AllPaths → Ways) (isf : IsFlow o i f) (isg : IsFlow s i g) (idle : g unreached ≡ at unreached) where
  -- behind the body the step comes
  step_is : (v : Bool) → ways (led_by s.on i (end_state (ways_at (i, v) o))) (led_by s.broken i (end_state (ways_at (i, v) o))) (led_by s.next i (end_state (ways_at (i, v) o))) ≡ g (end_state (f (state_of v)))
  step_is v = led_flow s i g isg idle (end_state (ways_at (i, v) o)) ∙ ap (λ w. g (end_state w)) (isf v)

  pub round_on : (v : Bool) (x : AllPaths) → x ≡ join (led_by s.on i (end_state (ways_at (i, v) o))) (led_by s.next i (end_state (ways_at (i, v) o))) → x ≡ (round_of f g (state_of v)).on
  unfolding round_of
  round_on v x e = e ∙ ap end_state (step_is v)

  pub round_broken : (v : Bool) (x : AllPaths) → x ≡ join (state_at (i, v) o.broken) (led_by s.broken i (end_state (ways_at (i, v) o))) → x ≡ (round_of f g (state_of v)).broken
  unfolding round_of
  round_broken v x e = e ∙ (λ t. join ((isf v) t).broken ((step_is v) t).broken)

module _ (f g : AllPaths → Ways) (idf : f unreached ≡ at unreached) (idg : g unreached ≡ at unreached) where
  round_idle : round_of f g unreached ≡ at unreached
  unfolding round_of
  round_idle = rw (idf, idg) refl

  join_good : (r : AllPaths) → state_of (not (is_bad r)) ≡ join good r
  join_good unreached = refl
  join_good good = refl
  join_good bad = refl

  -- the start of each round
  pub head_is : (x : Bool) (t : AllPaths) → x ≡ is_bad (round_of f g good).on → with_bad x t ≡ head_of f g t
  unfolding head_of
  head_is x unreached e = sym (ap (λ (o : Ways). o.on) round_idle)
  head_is x good e = ap (λ y. state_of (not y)) e ∙ join_good (round_of f g good).on
  head_is x bad e = refl

  -- where the rounds leave the loop, by those that begin with a yes and with a no
  pub loop_is_left : (first second h : AllPaths) → first ≡ (round_of f g good).broken → second ≡ (round_of f g bad).broken → led first second h ≡ (round_of f g h).broken
  loop_is_left first second unreached e e' = sym (ap (λ (o : Ways). o.broken) round_idle)
  loop_is_left first second good e e' = e
  loop_is_left first second bad e e' = e'
