-- A journal without a broken rule, and without an operation on a value of a kind that it doesn't take: its order comes to a state that stands for
-- the machine's, and no turn that is tried breaks a rule, or is such an operation.
use Rattle.std.proofs.Common.{◌≡◌, ℕ, ◌+◌, List, [], ◌∷◌, ◌++◌, length, map, Option, refl, sym, ap, ◌∙◌, subst, arith, append-nil}
use Rattle.std.specs.Prelude.{Any, take, ◌⊎◌}
use mathlib.Core.Logic.{inl, inr}
use Rattle.std.proofs.Math.Seq.{take-length}
use Rattle.std.proofs.lemmas.List.{map-append}
use Rattle.std.proofs.lemmas.List.Quantifiers.{Any-push}
use Rattle.ak_trace.specs.declared.entry.Entry.{Entry}
use Rattle.block_store.specs.declared.values.Answer.{Answer}
use Rattle.block_store.specs.declared.values.Answer.TheVariants as answers
use Rattle.block_store.specs.Runs as runs
use Rattle.block_store.specs.Runs.{Pick, Run, reaches, breaks, no_run, picked, run}
use Rattle.struct_ir.specs.Linear.{Spot}
use Rattle.struct_ir.specs.Nodes.{Ir}
use Rattle.struct_ir.specs.Structured.{Position}
use Rattle.struct_ir.specs.Threads.{Thread}
use Rattle.struct_ir.specs.meaning.Blocks.{Own}
use Rattle.struct_ir.specs.meaning.Start.{start}
use Rattle.struct_ir.specs.meaning.Threads.{program_of}
use Rattle.ak_trace.specs.declared.endings.End.{End}
use Rattle.flat_meaning.specs.Accesses.{Choice}
use Rattle.flat_meaning.specs.Events.{MachineState, Event, act, after_all, first_state}
use Rattle.flat_meaning.specs.Image.{Image}
use Rattle.flat_meaning.specs.Journals.{journal_picks}
use Rattle.flat_meaning.specs.Order.{Attempt, attempts_of, order_of, pick, picks_of, tried_by}
use Rattle.flat_meaning.specs.Reaching.{Broken}
use Rattle.flat_simulation.specs.Kinds.{TakesRightKinds, MeetsWrongKind, UpTo, UpToAKind}
use Rattle.flat_simulation.proofs.EventRuns.{attempts_of-append, order_of-append}
use Rattle.flat_replay.specs.Attempts.{attempts_from, placed}
use Rattle.flat_replay.specs.Kinds.{NeverStops, in_order, in_attempt}
use Rattle.flat_replay.specs.Meaning.{by_turn, by_attempt, tried_with}
use Rattle.flat_replay.proofs.GotBreaks.{got_tried, plain_with}

-- what a thread's turn comes to if it is tried
abbrev pub tries_turn : Ir → runs.State (Thread Position Own) → (thread : ℕ) → Option (runs.Turn (Thread Position Own))
tries_turn p u thread = tried_with (picked (program_of p) u (pick thread answers.Plain)) (picked (program_of p) u (pick thread answers.Got))

module _ (p : Ir) (log : List Entry) (end : Option End) (clean : NeverStops p log end) where
  -- ---- where the order comes to

  -- the run of all turns comes to a state of which this holds
  pub record Reaches (A : runs.State (Thread Position Own) → Type 0) : Type 0 where
    pub state : runs.State (Thread Position Own)
    pub is : run (program_of p) (start p) (journal_picks log) ≡ reaches state
    pub so : A state

  -- no turn breaks a rule, so the run comes to a state
  pub reached : (order : List Pick) → order ≡ journal_picks log → (A : runs.State (Thread Position Own) → Type 0) → UpToAKind p order A → Reaches A
  reached order same A up = by (run (program_of p) (start p) order) refl up where
    whole : run (program_of p) (start p) (journal_picks log) ≡ run (program_of p) (start p) order
    whole = ap (run (program_of p) (start p)) (sym same)

    by : (r : Run (Thread Position Own)) → run (program_of p) (start p) order ≡ r → UpTo r A (MeetsWrongKind p order 0 (runs.first_state (program_of p) (start p))) → Reaches A
    by (reaches u) is so = record { state = u; is = whole ∙ is; so = so }
    by (breaks rule k) is so = absurd (clean k (inl (by_turn rule (whole ∙ is))))
    by (no_run k) is so = absurd (clean k (inr (in_order (subst (λ (picks : List Pick). MeetsWrongKind p picks 0 (runs.first_state (program_of p) (start p)) k) same so))))

  -- and to one alone
  pub same_state : (u v : runs.State (Thread Position Own)) → run (program_of p) (start p) (journal_picks log) ≡ reaches u → run (program_of p) (start p) (journal_picks log) ≡ reaches v → u ≡ v
  same_state u v e f = let same : reaches u ≡ reaches v = sym e ∙ f in cc

  -- ---- what was tried last

  -- the first turns, as many as there are, are all
  all_turns : (u : runs.State (Thread Position Own)) → run (program_of p) (start p) (journal_picks log) ≡ reaches u → run (program_of p) (start p) (take (length (journal_picks log)) (journal_picks log)) ≡ reaches u
  all_turns u e = ap (run (program_of p) (start p)) (take-length (journal_picks log)) ∙ e

  -- it breaks no rule
  pub tried_whole : (u : runs.State (Thread Position Own)) → run (program_of p) (start p) (journal_picks log) ≡ reaches u → (thread : ℕ) → Any (λ (a : ℕ × ℕ). a ≡ (thread, length (journal_picks log))) (attempts_from 0 log)
      → Broken (tries_turn p u thread) → ⊥
  tried_whole u e thread any broken = clean (length (journal_picks log)) (inl (by_attempt thread u any (all_turns u e) broken))

  -- and takes the kinds that it is given
  pub tried_right : (u : runs.State (Thread Position Own)) → run (program_of p) (start p) (journal_picks log) ≡ reaches u → (thread : ℕ) → Any (λ (a : ℕ × ℕ). a ≡ (thread, length (journal_picks log))) (attempts_from 0 log)
      → TakesRightKinds p u thread
  tried_right u e thread any answer wrong = clean (length (journal_picks log)) (inr (in_attempt thread answer u any (all_turns u e) wrong))

  -- told Plain or Got
  pub told_broken : (u : runs.State (Thread Position Own)) (thread : ℕ) (answer : Answer) → (answer ≡ answers.Plain) ⊎ (answer ≡ answers.Got) → Broken (picked (program_of p) u (pick thread answer)) → Broken (tries_turn p u thread)
  told_broken u thread answer (inl plain) h = plain_with _ _ (subst (λ (a : Answer). Broken (picked (program_of p) u (pick thread a))) plain h)
  told_broken u thread answer (inr got) h = got_tried p thread u (subst (λ (a : Answer). Broken (picked (program_of p) u (pick thread a))) got h)

-- ---- the last event of a journal

module _ (y : Image Spot) (log : List Entry) (before : List Event) (thread : ℕ) (choice : Choice) where
  abbrev first : MachineState Spot
  first = first_state y

  abbrev there : MachineState Spot
  there = after_all y before first

  -- before an act that makes these turns
  pub order_before : (picks : List Pick) → picks_of y there (act thread choice) ≡ picks → order_of y (before ++ act thread choice ∷ []) first ≡ journal_picks log → order_of y before first ++ picks ≡ journal_picks log
  order_before picks is order =
      ap (λ (ps : List Pick). order_of y before first ++ ps) (sym is ∙ sym (append-nil (picks_of y there (act thread choice)))) ∙ sym (order_of-append y before (act thread choice ∷ []) first) ∙ order

  -- or none
  pub order_none : picks_of y there (act thread choice) ≡ [] → order_of y (before ++ act thread choice ∷ []) first ≡ journal_picks log → order_of y before first ≡ journal_picks log
  order_none is order = sym (append-nil (order_of y before first)) ∙ order_before [] is order

  -- the attempts with the one of the last act
  pub attempts_last : (answer : Answer) → tried_by y there (act thread choice) ≡ pick thread answer ∷ [] → map placed (attempts_of y (before ++ act thread choice ∷ []) 0 first) ≡ attempts_from 0 log
      → attempts_from 0 log ≡ map placed (attempts_of y before 0 first) ++ (thread, length (order_of y before first)) ∷ []
  attempts_last answer is all =
      let n : ℕ = 0 + length (order_of y before first) in
      let tried : List Pick → List Attempt = λ (ps : List Pick). map (λ (q : Pick). record { turn = q; position = n }) ps in
      let same : n ≡ length (order_of y before first) = omega arith in
      sym all
      ∙ ap (map placed) (attempts_of-append y before (act thread choice ∷ []) 0 first)
      ∙ ap (λ (ps : List Pick). map placed (attempts_of y before 0 first ++ (tried ps ++ []))) is
      ∙ map-append placed (attempts_of y before 0 first) (record { turn = pick thread answer; position = n } ∷ [])
      ∙ ap (λ (k : ℕ). map placed (attempts_of y before 0 first) ++ (thread, k) ∷ []) same

  -- so what it tried is an attempt of the journal, behind all turns
  pub is_tried : (answer : Answer) → tried_by y there (act thread choice) ≡ pick thread answer ∷ [] → map placed (attempts_of y (before ++ act thread choice ∷ []) 0 first) ≡ attempts_from 0 log → order_of y before first ≡ journal_picks log
      → Any (λ (a : ℕ × ℕ). a ≡ (thread, length (journal_picks log))) (attempts_from 0 log)
  is_tried answer is all order =
      subst (Any (λ (a : ℕ × ℕ). a ≡ (thread, length (journal_picks log)))) (sym (attempts_last answer is all))
      (Any-push (λ (a : ℕ × ℕ). a ≡ (thread, length (journal_picks log))) (map placed (attempts_of y before 0 first)) (thread, length (order_of y before first)) (ap (λ (ps : List Pick). (thread, length ps)) order))
