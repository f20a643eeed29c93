-- Checks worked out by hand.
use Rattle.std.proofs.Common.{ℕ, List, [], ◌∷◌, Option, Some, None, pos, refl, arith}
use Rattle.ak_words.specs.declared.rule.Rule.TheVariants.{C5}
use Rattle.ak_words.specs.Wrapped.{residue, wrapped_value}
use Rattle.block_store.specs.Actions.{SharedAction}
use Rattle.block_store.specs.Runs.{Program, State, Pick, Turn, went, ended, first_state, next_state, picked}
use Rattle.rule_check.specs.Rows.{falls, ends, hangs, shares, toy_world, plain, got, ChecksStand, AnswersStand, DrawsStand}
use Rattle.rule_check.proofs.Orders.{come_first, come_more}
use Rattle.rule_check.proofs.Verdicts.{broke_check, ended_check, blocked_check, spent_check}

-- the state behind a turn
abbrev behind_of : Program (List SharedAction) → State (List SharedAction) → (thread : ℕ) → Option (Turn (List SharedAction)) → State (List SharedAction)
behind_of P s thread (Some (went own w)) = next_state P s thread (Some own) w
behind_of P s thread (Some (ended w)) = next_state P s thread None w
behind_of P s thread t = s

abbrev behind : Program (List SharedAction) → State (List SharedAction) → Pick → State (List SharedAction)
behind P s p = behind_of P s p.thread (picked P s p)

-- the states at the start, and behind the first turns
abbrev begins : Program (List SharedAction) → State (List SharedAction)
begins P = first_state P toy_world

pub checks_stand : ChecksStand
unfolding residue wrapped_value
checks_stand = record {
  falls_stands =
      let s = behind falls (begins falls) (plain 0) in
      broke_check falls toy_world 0 9 (plain 0 ∷ []) s C5 35 (come_more falls toy_world 0 [] (plain 0) (begins falls) s (come_first falls toy_world 0) refl (λ n. refl)) (omega arith)
      (record { pick = plain 0; is_next = refl; breaks = refl });
  ends_stands =
      let s = behind ends (begins ends) (plain 0) in
      let t = behind ends s (plain 0) in
      ended_check ends toy_world 0 2 (plain 0 ∷ plain 0 ∷ []) t (pos 6)
      (come_more ends toy_world 0 (plain 0 ∷ []) (plain 0) s t (come_more ends toy_world 0 [] (plain 0) (begins ends) s (come_first ends toy_world 0) refl (λ n. refl)) refl (λ n. refl)) (omega arith)
      (record { gone = refl; value = refl });
  hangs_stands =
      let s = behind hangs (begins hangs) (got 0) in
      blocked_check hangs toy_world 0 9 (got 0 ∷ []) s (come_more hangs toy_world 0 [] (got 0) (begins hangs) s (come_first hangs toy_world 0) refl (λ n. refl)) (omega arith) refl refl;
  shares_stands =
      let s = behind shares (begins shares) (got 0) in
      let t = behind shares s (plain 0) in
      let u = behind shares t (plain 1) in
      let v = behind shares u (plain 1) in
      spent_check shares toy_world 1 4 (got 0 ∷ plain 0 ∷ plain 1 ∷ plain 1 ∷ []) v
      (come_more shares toy_world 1 (got 0 ∷ plain 0 ∷ plain 1 ∷ []) (plain 1) u v
      (come_more shares toy_world 1 (got 0 ∷ plain 0 ∷ []) (plain 1) t u
      (come_more shares toy_world 1 (got 0 ∷ []) (plain 0) s t
      (come_more shares toy_world 1 [] (got 0) (begins shares) s (come_first shares toy_world 1) refl (λ n. refl)) refl (λ n. refl)) refl (λ n. refl)) refl (λ n. refl)) refl refl;
}

pub answers_stand : AnswersStand
answers_stand = record {
  a_load = refl;
  four_bytes = refl;
  too_many = refl;
  eight_anew = refl;
  too_many_anew = refl;
  none_of_the_dead = refl;
  a_change = refl;
  a_compare = refl;
  a_new_thread = refl;
  one_without_place = refl;
  most_bytes = refl;
  one_byte_more = refl;
  last_thread = refl;
  one_thread_more = refl;
}

pub draws_stand : DrawsStand
draws_stand = record { first_draws = refl; are_these = refl; round = refl }
