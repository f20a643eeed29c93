-- Where a turn of the source and the event that ends it come out alike, the state after both stands, or the turn breaks a rule, or it is an
-- operation on a value of a kind that it doesn't take.
use Rattle.std.proofs.Common.{◌≡◌, ℕ, suc, List, [], ◌∷◌, ◌++◌, Bool, true, ◌==◌, Option, Some, None, refl, sym, ap, subst, ◌∙◌, append-nil}
use Rattle.std.specs.Prelude.{slice_get, IsSome, if◌then◌else◌}
use Rattle.std.proofs.lemmas.Bool.{eq-eqb}
use Rattle.ak_words.specs.Prefix.{IsPrefix}
use Rattle.block_store.specs.declared.values.Answer.{Answer}
use Rattle.block_store.specs.Actions.{World}
use Rattle.block_store.specs.Runs as runs
use Rattle.block_store.specs.Runs.{own_at, picked, turn_if, goes_on, run_from}
use Rattle.struct_ir.specs.Nodes.{Ir}
use Rattle.struct_ir.specs.Structured.{Position}
use Rattle.struct_ir.specs.Threads.{Thread, Outcome, went, ended, blocked, broke, unfit}
use Rattle.struct_ir.specs.meaning.Blocks.{Own, Fault, broken, wrong_kind}
use Rattle.struct_ir.specs.meaning.Threads.{program_of, turned}
use Rattle.flat_meaning.specs.Image.{Limits, Image, structured_image}
use Rattle.flat_meaning.specs.Words.{Words}
use Rattle.flat_meaning.specs.Memory.{Memory}
use Rattle.flat_meaning.specs.Accesses as flat
use Rattle.flat_meaning.specs.Stages.{Stage, waiting}
use Rattle.flat_meaning.specs.Effects.{landing, exit_of, end_of, effect_of_outcome}
use Rattle.flat_meaning.specs.Events.{MachineState, put}
use Rattle.flat_meaning.specs.Order.{pick, pick_if}
use Rattle.flat_meaning.specs.Names.{Name, ids_in}
use Rattle.flat_simulation.specs.Kinds.{MeetsWrongKind, UpTo, UpToAKindFrom}
use Rattle.flat_simulation.specs.inner.Programs.{IsImage}
use Rattle.flat_simulation.specs.inner.Threads.{StageStands, StateStands, TurnsAlike}
use Rattle.flat_simulation.specs.inner.Kept.{source_turn}
use Rattle.flat_simulation.specs.inner.Next.{Next}
use Rattle.flat_simulation.proofs.KindRuns.{wrong_first, wrong_here}
use Rattle.flat_simulation.proofs.Numbering.{own_within}
use Rattle.flat_simulation.proofs.Putting.{still_stands, turn_stands}

-- the thread goes on
abbrev pub HasGone : {P : Type 0} → Outcome P Words flat.Fault Memory → Type 0
HasGone (went t m) = Unit {0}
HasGone (ended l m) = Unit {0}
HasGone blocked = ⊥
HasGone (broke f) = ⊥
HasGone unfit = ⊥

-- it has ended with a result, if it is main's thread
abbrev pub HasExit : {P : Type 0} → (thread : ℕ) → Outcome P Words flat.Fault Memory → Type 0
HasExit thread (went t m) = Unit {0}
HasExit thread (ended l m) = thread ≡ 0 → IsSome (exit_of (slice_get m.threads 0))
HasExit thread blocked = Unit {0}
HasExit thread (broke f) = Unit {0}
HasExit thread unfit = Unit {0}

pub still_first : (names : List Name) → IsPrefix names names
still_first names = ([], sym (append-nil names))

module _ (p : Ir) (limits : Limits) (image : IsImage (structured_image p limits) p) where
  abbrev x : Image Position
  x = structured_image p limits

  abbrev P : runs.Program (Thread Position Own)
  P = program_of p

  module _ (names : List Name) (u : runs.State (Thread Position Own)) (s : MachineState Position) (stand : StateStands x p names u s) where
    -- no turn
    pub stays : (thread : ℕ) (g h : Stage Position) (end : Option _) → own_at s.own thread ≡ Some g → StageStands x p thread names u.world.blocks s.memory.storage (own_at u.own thread) (Some h)
        → Next p limits names [] (put s thread (record { memory = s.memory; stage = Some h; end = end })) u
    stays thread g h end at z =
        record { all = names; stands = still_stands p limits image names u s stand thread (own_within s.own thread g at) h end z; ids = sym (append-nil (ids_in names)); first = still_first names }

    module _ (open_ : s.end ≡ None) (n : ℕ) where
      -- main runs
      main_there : (o : Option (Thread Position Own)) (g : Option (Stage Position)) → own_at u.own 0 ≡ o → IsSome g → StageStands x p 0 names u.world.blocks s.memory.storage o g → (main : Thread Position Own) × (own_at u.own 0 ≡ Some main)
      main_there (Some k) g e i z = (k, e)
      main_there None (Some g) e i z = absurd z
      main_there None None e i z = absurd cc

      main_runs : (main : Thread Position Own) × (own_at u.own 0 ≡ Some main)
      main_runs = main_there (own_at u.own 0) (own_at s.own 0) refl (stand.main open_) (stand.threads 0)

      module _ (thread : ℕ) (k : Thread Position Own) (g : Stage Position) (at : own_at u.own thread ≡ Some k) (at' : own_at s.own thread ≡ Some g) (answer : Answer) where
        turn_of : picked P u (pick thread answer) ≡ Some (turned (source_turn p thread answer k u.world))
        turn_of = λ i. turn_if P u (pick thread answer) (main_runs.1 i) (at i)

        one_turn : (o : Outcome Position Own Fault World) → source_turn p thread answer k u.world ≡ o → run_from P (pick thread answer ∷ []) n u ≡ goes_on P (run_from P [] (suc n)) u thread n (Some (turned o))
        one_turn o e = ap (goes_on P (run_from P [] (suc n)) u thread n) (turn_of ∙ ap (λ z. Some (turned z)) e)

        -- of what comes of its run
        abbrev After : runs.Run (Thread Position Own) → (runs.State (Thread Position Own) → Type 0) → Type 0
        After r R = UpTo r R (MeetsWrongKind p (pick thread answer ∷ []) n u)

        -- a value of a wrong kind ends the run
        wrong : (R : runs.State (Thread Position Own) → Type 0) → source_turn p thread answer k u.world ≡ broke wrong_kind → UpToAKindFrom p (pick thread answer ∷ []) n u R
        wrong R e = wrong_first p (pick thread answer) [] n u R (wrong_here p u (pick thread answer) main_runs.0 k main_runs.1 at e)

        abbrev stage_stands : StageStands x p thread names u.world.blocks s.memory.storage (own_at u.own thread) (Some g)
        stage_stands = subst (λ o. StageStands x p thread names u.world.blocks s.memory.storage (own_at u.own thread) o) at' (stand.threads thread)

        module _ (t : Thread Position Words) (given : List ℕ) (list : Option (List ℕ)) where
          abbrev Comes : Outcome Position Words flat.Fault Memory → Type 0
          Comes o' = UpToAKindFrom p (pick_if thread answer o') n u (Next p limits names given (put s thread (effect_of_outcome thread g t list s.memory o')))

          abbrev Alike : Outcome Position Own Fault World → Outcome Position Words flat.Fault Memory → Type 0
          Alike o o' = TurnsAlike x p thread names given list u.world s.memory o o'

          -- both go on
          pub both_went : (o : Outcome Position Own Fault World) (q : Thread Position Words) (m : Memory) → source_turn p thread answer k u.world ≡ o → Alike o (went q m) → Comes (went q m)
          both_went (went k2 later) q m e h =
              subst (λ r. After r (Next p limits names given (put s thread (record { memory = m; stage = Some (landing list q); end = None })))) (sym (one_turn (went k2 later) e)) (record {
                all = h.0;
                stands = turn_stands p limits image names u s stand thread (own_within s.own thread g at') h.0 given later m h.1 (Some k2) (Some (landing list q)) None h.2 (λ no zero_is. refl);
                ids = h.1.ids;
                first = h.1.aged.first;
              })
          both_went (ended l later) q m e h = absurd h
          both_went blocked q m e h = absurd h
          both_went (broke (broken rule place)) q m e h = subst (λ r. After r (Next p limits names given (put s thread (record { memory = m; stage = Some (landing list q); end = None })))) (sym (one_turn (broke (broken rule place)) e)) tt
          both_went (broke wrong_kind) q m e h = wrong (Next p limits names given (put s thread (record { memory = m; stage = Some (landing list q); end = None }))) e
          both_went unfit q m e h = absurd h

          exit_now : (m : Memory) → (thread ≡ 0 → IsSome (exit_of (slice_get m.threads 0))) → (if thread == 0 then exit_of (slice_get m.threads 0) else None) ≡ None → thread ≡ 0 → ⊥
          exit_now m exit e z =
              let zero_is : (thread == 0) ≡ true = eq-eqb thread 0 z in
              let none : exit_of (slice_get m.threads 0) ≡ None = sym (ap (λ (b : Bool). if b then exit_of (slice_get m.threads 0) else None) zero_is) ∙ e in
              not_some (exit_of (slice_get m.threads 0)) none (exit z)
            where
              not_some : {A : Type 0} (o : Option A) → o ≡ None → IsSome o → ⊥
              not_some None e i = cc
              not_some (Some a) e i = cc

          -- both end
          both_ended : (o : Outcome Position Own Fault World) (l : Words) (m : Memory) → source_turn p thread answer k u.world ≡ o → Alike o (ended l m) → (thread ≡ 0 → IsSome (exit_of (slice_get m.threads 0))) → Comes (ended l m)
          both_ended (ended l' later) l m e h exit =
              let end = if thread == 0 then exit_of (slice_get m.threads 0) else None in
              subst (λ r. After r (Next p limits names given (put s thread (record { memory = m; stage = None; end = end })))) (sym (one_turn (ended l' later) e)) (record {
                all = h.0;
                stands = turn_stands p limits image names u s stand thread (own_within s.own thread g at') h.0 given later m h.1 None None end tt (λ no zero_is. absurd (exit_now m exit no zero_is));
                ids = h.1.ids;
                first = h.1.aged.first;
              })
          both_ended (went k2 later) l m e h exit = absurd h
          both_ended blocked l m e h exit = absurd h
          both_ended (broke (broken rule place)) l m e h exit =
              subst (λ r. After r (Next p limits names given (put s thread (record { memory = m; stage = None; end = if thread == 0 then exit_of (slice_get m.threads 0) else None })))) (sym (one_turn (broke (broken rule place)) e)) tt
          both_ended (broke wrong_kind) l m e h exit = wrong (Next p limits names given (put s thread (record { memory = m; stage = None; end = if thread == 0 then exit_of (slice_get m.threads 0) else None }))) e
          both_ended unfit l m e h exit = absurd h

          nothing_given : (given ≡ []) → (later : MachineState Position) → Next p limits names [] later u → Next p limits names given later u
          nothing_given e later z = record { all = z.all; stands = z.stands; ids = z.ids ∙ ap (λ l. ids_in names ++ l) (sym e); first = z.first }

          -- whatever comes of it
          pub comes_out : (o : Outcome Position Own Fault World) (o' : Outcome Position Words flat.Fault Memory) → source_turn p thread answer k u.world ≡ o → (HasGone o' → Alike o o') → HasExit thread o' → ((HasGone o' → ⊥) → given ≡ [])
              → StageStands x p thread names u.world.blocks s.memory.storage (own_at u.own thread) (Some (waiting t)) → Comes o'
          comes_out o (went q m) e h exit none wait = both_went o q m e (h tt)
          comes_out o (ended l m) e h exit none wait = both_ended o l m e (h tt) exit
          comes_out o blocked e h exit none wait = nothing_given (none (λ z. z)) (put s thread (record { memory = s.memory; stage = Some (waiting t); end = None })) (stays thread g (waiting t) None at' wait)
          comes_out o (broke f) e h exit none wait = nothing_given (none (λ z. z)) (put s thread (record { memory = s.memory; stage = Some g; end = Some (end_of f) })) (stays thread g g (Some (end_of f)) at' stage_stands)
          comes_out o unfit e h exit none wait = nothing_given (none (λ z. z)) (put s thread (record { memory = s.memory; stage = Some g; end = None })) (stays thread g g None at' stage_stands)
