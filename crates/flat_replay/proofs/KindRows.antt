-- The worked journal of code made by hand.
use Rattle.std.proofs.Common.{◌≡◌, ℕ, ◌<◌, List, [], ◌∷◌, ◌++◌, length, None, sym, subst, ◌∙◌, arith, inl, inr}
use Rattle.std.specs.Prelude.{Any}
use Rattle.block_store.specs.declared.values.Answer.TheVariants.{Plain}
use Rattle.block_store.specs.Runs as runs
use Rattle.block_store.specs.Runs.{Pick, breaks, no_run, reaches, run_from}
use Rattle.struct_ir.specs.Structured.{Position}
use Rattle.struct_ir.specs.Threads.{Thread}
use Rattle.struct_ir.specs.meaning.Blocks.{Own}
use Rattle.struct_ir.specs.meaning.Threads.{program_of}
use Rattle.flat_meaning.specs.Order.{pick}
use Rattle.flat_simulation.specs.Kinds.{TakesWrongKind}
use Rattle.flat_simulation.specs.KindRows.{by_hand, begins, both_turns, KindRowsHold}
use Rattle.flat_replay.specs.Kinds.{in_order, in_attempt, in_waiting, StopsAt}
use Rattle.flat_replay.specs.KindRows.{prints_journal, FirstStopsAreTold}
use Rattle.flat_replay.specs.Meaning.{by_turn, by_attempt, by_waiting}

-- nothing was tried
nothing_tried : (P : ℕ × ℕ → Type 0) → Any P [] → ⊥
nothing_tried P a = omega (arith, a.2)

same_state : {A : Type 0} (u v : runs.State A) → reaches u ≡ reaches v → u ≡ v
same_state u v e = cc

same_first : (a b : Pick) (as' bs : List Pick) → a ∷ as' ≡ b ∷ bs → a ≡ b
same_first a b as' bs e = cc

module _ (rows : KindRowsHold) where
  -- the first turn is no such operation
  at_first : (earlier : List Pick) (next : Pick) (rest : List Pick) (u : runs.State (Thread Position Own)) → both_turns ≡ earlier ++ next ∷ rest → length earlier < 1 → run_from (program_of by_hand) earlier 0 begins ≡ reaches u → TakesWrongKind by_hand u next → ⊥
  at_first [] next rest u split few reached wrong =
      rows.first Plain
      (subst (λ k. TakesWrongKind by_hand begins k) (sym (same_first (pick 0 Plain) next (pick 0 Plain ∷ []) rest split)) (subst (λ v. TakesWrongKind by_hand v next) (sym (same_state begins u reached)) wrong))
  at_first (k ∷ earlier) next rest u split few reached wrong = absurd (omega (arith, few))

  none_before : (before : ℕ) → before < 1 → StopsAt by_hand prints_journal None before → ⊥
  none_before before few (inl (by_turn rule is)) = (let both : no_run 1 ≡ breaks rule before = sym rows.none ∙ is in cc)
  none_before before few (inl (by_attempt thread u tried at broken)) = nothing_tried _ tried
  none_before before few (inl (by_waiting thread u ended all at broken)) = cc ended
  none_before before few (inr (in_order m)) = at_first m.before m.next m.rest m.state m.split (let place = m.place in omega (arith, place, few)) m.reached m.wrong
  none_before before few (inr (in_attempt thread answer u tried at wrong)) = nothing_tried _ tried
  none_before before few (inr (in_waiting thread answer u ended all at wrong)) = cc ended

  pub first_stops_are_told : FirstStopsAreTold
  first_stops_are_told = record { meets = in_order rows.second; first = (inr (in_order rows.second), none_before) }
