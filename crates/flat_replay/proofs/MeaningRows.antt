-- What small journals mean, worked by hand.
use Rattle.std.proofs.Common.{◌≡◌, ℕ, zero, suc, ◌<◌, List, [], ◌∷◌, Some, None, refl, subst, inl, arith}
use Rattle.std.specs.Prelude.{pos, Any}
use Rattle.ak_words.specs.declared.rule.Rule.TheVariants.{C5, C13}
use Rattle.ak_words.specs.IntType.{int}
use Rattle.ak_words.specs.Wrapped.{wrapped_value, residue}
use Rattle.ak_trace.specs.declared.entry.Entry.{Entry}
use Rattle.ak_trace.specs.Rows.{row}
use Rattle.block_store.specs.declared.values.Answer.TheVariants as answers
use Rattle.block_store.specs.declared.values.Ptr.TheVariants.{Null}
use Rattle.block_store.specs.Actions.{World, beginning, at_stage, staged, returned}
use Rattle.block_store.specs.Runs.{State, blocked, picked, reaches, first_state}
use Rattle.ak_trace.specs.declared.endings.End.{End}
use Rattle.ak_trace.specs.declared.endings.End.TheVariants as ends
use Rattle.flat_meaning.specs.Order.{pick}
use Rattle.flat_rules.specs.declared.settings.Settings.{Settings}
use Rattle.flat_replay.specs.Meaning.{whole_run, Runs, BreaksAt, IsClean, by_turn, by_attempt, by_waiting, EndsAs}
use Rattle.flat_replay.specs.Rows.{Deed, calls, prints, waits, errs, returns, Small, waiting_calls, small, alone, LastsStand, TriesStand, Means, MeaningsStand, EndsStand, BreaksStand}

-- ---- what the parts of a meaning are

-- by computing
pub lasts_stand : LastsStand
lasts_stand = (refl, refl, refl)

-- by computing
pub tries_stand : TriesStand
tries_stand = (refl, refl, refl, refl)

-- ---- what small journals mean

-- by the state that a journal's order reaches
means : (limit : ℕ) (todo : List Deed) (log : List Entry) (u : State Small) (end : End) → whole_run (small todo) alone waiting_calls log ≡ reaches u
    → ((s : Settings) → s.output ≡ limit → EndsAs (small todo) alone waiting_calls log s u end) → Means limit todo log u.world.output end
means limit todo log u end at h s f is output ended = record {
  reached = u;
  reaches_it = at;
  output = output;
  ends_as = λ e told. subst (EndsAs (small todo) alone waiting_calls log s u) (let same : end ≡ e = cc in same) (h s is);
}

-- the world behind main's print
abbrev printed : World
printed = record alone { output = 65 ∷ [] }

-- the state there, in which main still has this to do
abbrev behind : List Deed → State Small
behind todo = record { world = printed; own = Some (todo, 0) ∷ [] }

-- 7 is an int
seven : wrapped_value int (pos 7) ≡ pos 7
unfolding wrapped_value residue
seven = refl

-- main has not ended there
main_runs : Runs printed 0
main_runs = (beginning 0 Null, refl, refl)

-- it waits, and no other thread runs
main_waits : (thread : ℕ) → Runs printed thread → picked (small (prints 65 ∷ waits ∷ [])) (behind (waits ∷ [])) (pick thread answers.Plain) ≡ Some blocked
main_waits zero h = refl
main_waits (suc n) h = absurd (let none : None ≡ Some h.0 = h.1 in cc none)

-- each by its state and its end
pub meanings_stand : MeaningsStand
meanings_stand = (
  means 1 (returns (pos 7) ∷ []) (row 0 0 0 0 ∷ row 2 0 9 0 ∷ []) (record { world = staged alone 0 (returned (pos 7)); own = None ∷ [] }) (ends.Done (pos 7)) refl
      (λ s is. (at_stage (returned (pos 7)) (beginning 0 Null), refl, (pos 7, refl, seven))),
  means 1 (prints 65 ∷ waits ∷ []) (row 0 0 0 0 ∷ row 2 0 1 0 ∷ row 2 0 6 0 ∷ row 1 0 0 0 ∷ []) (behind (waits ∷ [])) ends.AllBlocked refl (λ s is. (main_runs, main_waits)),
  means 1 (prints 65 ∷ calls ∷ []) (row 0 0 0 0 ∷ row 2 0 1 0 ∷ row 2 0 12 0 ∷ []) (behind (calls ∷ [])) (ends.StackLimit 0) refl (λ s is. (main_runs, main_runs, inl ((calls ∷ [], 0), refl, refl))),
  means 1 (prints 65 ∷ prints 66 ∷ []) (row 0 0 0 0 ∷ row 2 0 1 0 ∷ row 2 0 11 0 ∷ []) (behind (prints 66 ∷ [])) ends.OutputLimit refl (λ s is. (main_runs, omega (arith, is))),
)

-- no thread 63 was made
pub ends_stand : EndsStand
ends_stand todo s h = absurd (let none : None ≡ Some h.1.0 = h.1.1 in cc none)

-- ---- breaks

-- a journal without attempts has none here
nothing_tried : (P : ℕ × ℕ → Type 0) → Any P [] → ⊥
nothing_tried P a = omega (arith, a.2)

-- no turn breaks a rule, none was tried, and main returned
returns_clean : IsClean (small (returns (pos 7) ∷ [])) alone waiting_calls (row 0 0 0 0 ∷ row 2 0 9 0 ∷ []) (Some (ends.Done (pos 7)))
returns_clean turns (by_turn rule at) = cc at
returns_clean turns (by_attempt thread u tries at broken) = nothing_tried _ tries
returns_clean turns (by_waiting thread u all behind at broken) = cc all

-- the first turn breaks none
none_before : (before : ℕ) → before < 1 → BreaksAt (small (prints 65 ∷ errs C5 ∷ [])) alone waiting_calls (row 0 0 0 0 ∷ row 2 0 1 0 ∷ row 2 0 1 0 ∷ []) None before → ⊥
none_before before less (by_turn rule at) = let one : 1 ≡ before = cc at in omega (arith, one, less)
none_before before less (by_attempt thread u tries at broken) = nothing_tried _ tries
none_before before less (by_waiting thread u all behind at broken) = cc all

-- each by its way
pub breaks_stand : BreaksStand
breaks_stand = (
  returns_clean,
  (by_turn C5 refl, none_before),
  (λ word kind. by_attempt 0 (behind (errs C5 ∷ [])) (0, (0, 1), omega arith, refl, refl) refl tt),
  by_waiting 0 (first_state (small (errs C13 ∷ [])) alone) refl refl refl tt,
)
