-- What a journal of the text means that has room: where main has ended, 42 and a newline were printed; and it doesn't end otherwise.
use Rattle.std.proofs.Common.{◌≡◌, ◌≢◌, refl, sym, ap, subst, ◌∙◌, ℕ, zero, suc, ◌≤◌, ◌<◌, Bool, true, false, cond, List, [], ◌∷◌, length, map, take, Option, Some, None, ℤ, pos, inl, inr, arith}
use Rattle.std.specs.Prelude.{nat_le, slice_get, codes}
use Rattle.std.proofs.lemmas.Bool.Decides.{nat_tests}
use Rattle.ak_words.specs.IntType.{int}
use Rattle.ak_words.specs.Num.{num}
use Rattle.ak_words.specs.Wrapped.{residue, wrapped_value}
use Rattle.ak_trace.specs.declared.entry.Entry.{Entry}
use Rattle.block_store.specs.declared.values.Answer.TheVariants as answers
use Rattle.block_store.specs.Actions.{ThreadRecord, Stage, running, returned, World}
use Rattle.block_store.specs.Runs.{Pick, Turn, went, ended, blocked, unfit, broke, Program, State, picked, Run, reaches, breaks, no_run}
use Rattle.c_meaning.specs.Control.{Control}
use Rattle.c_meaning.specs.Meaning.{program, start, run}
use Rattle.ak_trace.specs.declared.endings.End.{End}
use Rattle.ak_trace.specs.declared.endings.End.TheVariants as ends
use Rattle.flat_meaning.specs.Journals.{journal_picks}
use Rattle.flat_meaning.specs.Order.{pick}
use Rattle.flat_meaning.specs.Reaching.{Broken}
use Rattle.flat_rules.specs.declared.settings.Settings.{Settings}
use Rattle.flat_machine.specs.Replays.{Final}
use Rattle.flat_replay.specs.Meaning.{MainReturned, Goes, tried_with, last_thread, run_of, whole_run, next_turn, by_turn, by_attempt, by_waiting, IsClean, EndsAs, IsAsMeant}
use Rattle.headline_example.specs.Text.{tree}
use Rattle.headline_example.specs.Runs.{whole_order, IsFront, printed, stages, IsQuiet, GoesWell, RunsAreKnown}
use Rattle.headline_example.specs.Room.{NotFull, HasRoom}

-- the program, its first world, and how many calls of a thread wait
abbrev P : Program Control
P = program tree

abbrev W : World
W = start tree

abbrev depth : Control → ℕ
depth c = length c.callers

-- ---- quiet turns

-- a quiet turn breaks nothing, whatever it is told
quiet_unbroken : (b : Option (Turn Control)) → IsQuiet 0 b → Broken b → ⊥
quiet_unbroken None q h = h
quiet_unbroken (Some (went own w)) q h = h
quiet_unbroken (Some (ended w)) q h = h
quiet_unbroken (Some blocked) q h = h
quiet_unbroken (Some unfit) q h = h
quiet_unbroken (Some (broke rule place)) q h = q

quiet_tried : (a b : Option (Turn Control)) → IsQuiet 0 a → IsQuiet 0 b → Broken (tried_with a b) → ⊥
quiet_tried None b q r h = h
quiet_tried (Some (went own w)) b q r h = h
quiet_tried (Some (ended w)) b q r h = h
quiet_tried (Some blocked) b q r h = h
quiet_tried (Some unfit) b q r h = quiet_unbroken b r h
quiet_tried (Some (broke rule place)) b q r h = q

-- it prints little
quiet_prints : (a : Option (Turn Control)) (limit : ℕ) → IsQuiet 0 a → limit ≡ 1048576 → Goes (λ next v. limit < length v.output) a → ⊥
quiet_prints None limit q l h = h
quiet_prints (Some (went own w)) limit q l h = let few = q.1 in absurd (omega (arith, few, l, h))
quiet_prints (Some (ended w)) limit q l h = h
quiet_prints (Some blocked) limit q l h = h
quiet_prints (Some unfit) limit q l h = h
quiet_prints (Some (broke rule place)) limit q l h = h

-- ---- first turns

-- the first turns of the first turns of an order
record Fewer (turns n : ℕ) (order : List Pick) : Type 0 where
  k : ℕ
  few : k ≤ n
  is : take turns (take n order) ≡ take k order

fewer : (turns n : ℕ) (order : List Pick) → Fewer turns n order
fewer zero n order = record { k = 0; few = omega arith; is = refl }
fewer (suc turns) zero order = record { k = 0; few = omega arith; is = refl }
fewer (suc turns) (suc n) [] = record { k = 0; few = omega arith; is = refl }
fewer (suc turns) (suc n) (p ∷ order) = let h = fewer turns n order in let few = h.few in record { k = suc h.k; few = omega (arith, few); is = ap (λ rest. p ∷ rest) h.is }

state_in : State Control → Run Control → State Control
state_in d (reaches u) = u
state_in d (breaks rule k) = d
state_in d (no_run k) = d

same_state : (u v : State Control) → reaches u ≡ reaches v → u ≡ v
unfolding state_in
same_state u v e = ap (state_in u) e

module _ (known : RunsAreKnown) (log : List Entry) (f : Final) (room : HasRoom log f) (a_run : (turns : ℕ) → whole_run P W depth log ≢ no_run turns) where
  front : IsFront (journal_picks log)
  front = elim (known.orders (journal_picks log) a_run) [ inl h ↦ h | inr h ↦ absurd (room.gets h) ]

  well : GoesWell front.turns (take front.turns whole_order)
  well = known.fronts front.turns front.few

  abbrev u : State Control
  u = well.state

  reached : whole_run P W depth log ≡ reaches u
  reached = ap (run tree) front.is ∙ well.comes

  -- what a run of its first turns comes to
  quiet_at : (turns : ℕ) (v : State Control) → run_of P W depth log turns ≡ reaches v → (p : Pick) → IsQuiet 0 (picked P v p)
  quiet_at turns v e =
      let fewer_ = fewer turns front.turns whole_order in
      let few = fewer_.few in
      let some = front.few in
      let w = known.fronts fewer_.k (omega (arith, few, some)) in
      let same : w.state ≡ v = same_state w.state v (sym (ap (run tree) (ap (take turns) front.is ∙ fewer_.is) ∙ w.comes) ∙ e) in
      subst (λ v. (p : Pick) → IsQuiet 0 (picked P v p)) same w.after.quiet

  quiet_whole : (v : State Control) → whole_run P W depth log ≡ reaches v → (p : Pick) → IsQuiet 0 (picked P v p)
  quiet_whole v e = subst (λ v. (p : Pick) → IsQuiet 0 (picked P v p)) (same_state u v (sym reached ∙ e)) well.after.quiet

  -- no rule is broken
  pub clean : IsClean P W depth log f.end
  clean turns (by_turn rule e) = let no : reaches u ≡ breaks rule turns = sym reached ∙ e in absurd (cc no)
  clean turns (by_attempt thread v tried e h) = quiet_tried _ _ (quiet_at turns v e (pick thread answers.Plain)) (quiet_at turns v e (pick thread answers.Got)) h
  clean turns (by_waiting thread v end all e h) = quiet_tried _ _ (quiet_whole v e (pick thread answers.Plain)) (quiet_whole v e (pick thread answers.Got)) h

  -- ---- the end

  -- main ended with 0, and this was printed
  pub record Ended (end : End) : Type 0 where
    pub is : end ≡ ends.Done (pos 0)
    pub output : f.output ≡ codes "42\n"

  stage_returned : (n : ℕ) (z : ℤ) → cond (nat_le 8 n) (returned (pos 0)) running ≡ returned z → (nat_le 8 n ≡ true) × (z ≡ pos 0)
  stage_returned n z e = by (nat_le 8 n) e
    where
      value_in : Stage → ℤ
      value_in (returned z) = z
      value_in stage = pos 0

      by : (b : Bool) → cond b (returned (pos 0)) running ≡ returned z → (b ≡ true) × (z ≡ pos 0)
      by true e = (refl, sym (ap value_in e))
      by false e = absurd (cc e)

  returned_0 : (value : ℤ) → MainReturned u.world value → (nat_le 8 front.turns ≡ true) × (value ≡ pos 0)
  unfolding residue wrapped_value
  returned_0 value h =
      let is = first_stage front.turns u.world.threads h.0 h.1 well.after.stages_are in
      let r = stage_returned front.turns h.2.0 (sym is ∙ h.2.1) in
      (r.0, sym h.2.2 ∙ ap (λ z. (num int z).value) r.1)
    where
      first_stage : (n : ℕ) (threads : List ThreadRecord) (t : ThreadRecord) → slice_get threads 0 ≡ Some t → map (λ (t : ThreadRecord). t.stage) threads ≡ stages n → t.stage ≡ cond (nat_le 8 n) (returned (pos 0)) running
      first_stage n [] t e h = absurd (cc e)
      first_stage n (s ∷ ss) t e h = let same : s ≡ t = cc e in ap (λ (t : ThreadRecord). t.stage) (sym same) ∙ (let heads : s.stage ∷ map (λ (t : ThreadRecord). t.stage) ss ≡ cond (nat_le 8 n) (returned (pos 0)) running ∷ [] = h in cc heads)

  all_printed : (n : ℕ) → nat_le 8 n ≡ true → n ≤ 8 → printed n ≡ codes "42\n"
  all_printed n h few = let e : n ≡ 8 = grind (arith, nat_tests, h, few) in subst (λ n. printed n ≡ codes "42\n") (sym e) refl

  module _ (s : Settings) (limit : s.output ≡ 1048576) (meant : IsAsMeant P W depth log s f) where
    same : meant.reached ≡ u
    same = same_state meant.reached u (sym meant.reaches_it ∙ reached)

    quiet_u : (p : Pick) → IsQuiet 0 (picked P meant.reached p)
    quiet_u = quiet_whole meant.reached meant.reaches_it

    pub ended_so : (end : End) → f.end ≡ Some end → Ended end
    ended_so end is = by end is (meant.ends_as end is) (room.ends_so end is)
      where
        by : (end : End) → f.end ≡ Some end → EndsAs P W depth log s meant.reached end → NotFull end → Ended end
        by (ends.Done value) is h full =
            let r = returned_0 value (subst (λ (u : State Control). MainReturned u.world value) same h) in
            record {
              is = ap (λ z. ends.Done z) r.1;
              output = meant.output ∙ (ap (λ (u : State Control). u.world.output) same ∙ (well.after.output ∙ all_printed front.turns r.0 front.few));
            }
        by (ends.Trap word kind) is h full = absurd h
        by ends.AllBlocked is h full = absurd (subst (IsQuiet 0) (h.1 0 h.0) (quiet_u (pick 0 answers.Plain)))
        by ends.TurnLimit is h full = absurd full
        by ends.OutputLimit is h full = absurd (quiet_prints (next_turn P W depth log meant.reached (last_thread log)) s.output (quiet_u (pick (last_thread log) answers.Plain)) limit h.1)
        by (ends.StackLimit thread) is h full = absurd full
