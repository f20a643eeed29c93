-- After events of linear code what threads share stands for the source's world, and whatever step may come next follows the source's turn.
use Rattle.std.proofs.Common.{◌≡◌, ℕ, List, [], ◌∷◌, ◌++◌, length, Option, Some, None, refl, sym, ap, subst, ◌∙◌, arith, append-nil}
use Rattle.std.specs.Prelude.{All}
use Rattle.std.proofs.lemmas.List.{length-append}
use Rattle.std.proofs.lemmas.List.Elements.{All-weaker}
use Rattle.ak_words.specs.Prefix.{IsPrefix}
use Rattle.block_store.specs.Runs as runs
use Rattle.block_store.specs.Runs.{Pick, own_at, picked}
use Rattle.sub_heaps.specs.SubHeaps.{IsShape}
use Rattle.struct_ir.specs.Nodes.{Ir}
use Rattle.struct_ir.specs.Flow.{Flow}
use Rattle.struct_ir.specs.Linear.{Spot}
use Rattle.struct_ir.specs.Structured.{Position, structured}
use Rattle.struct_ir.specs.Threads.{Thread}
use Rattle.struct_ir.specs.meaning.Blocks.{Own}
use Rattle.struct_ir.specs.meaning.Start.{start}
use Rattle.struct_ir.specs.meaning.Threads.{program_of, start_in}
use Rattle.flat_meaning.specs.Image.{Limits, Image, limits_for, structured_image}
use Rattle.flat_meaning.specs.Accesses.{Choice}
use Rattle.flat_meaning.specs.Stages.{Stage, steps, thread_at, before}
use Rattle.flat_meaning.specs.Events.{MachineState, Event, act, after, after_all, first_state}
use Rattle.flat_meaning.specs.Order.{picks_of, tried_by, order_of}
use Rattle.flat_meaning.specs.Allowed.{StandsBefore, IsAllowed, AreAllowed}
use Rattle.flat_meaning.specs.Emitted.{AreOne, ComeToTheSame, CallsAreGuarded}
use Rattle.flat_meaning.specs.Names.{Name}
use Rattle.flat_meaning.specs.Reaching.{Unbroken, Waits, Broken, StaysInBlocks, reached_by_turn}
use Rattle.flat_meaning.specs.Stands.{PointStands, WorldStands, StageStands}
use Rattle.flat_meaning.specs.Simulation.{AllComeOut, IsTrap}
use Rattle.flat_meaning.specs.Start.{ids_of, AreMadeBy}
use Rattle.flat_meaning.specs.Touched.{touched_at}
use Rattle.flat_simulation.specs.Kinds.{IsGuarded, TakesRightKinds, MeetsWrongKind, UpToAKind, UpToAKindFrom, StepFollows, LinearStandsAfter}
use Rattle.flat_simulation.specs.LinearSteps.{AllocationsFit, PrintsPast, Enters, StepTouches, TurnsTouch, LinearStepFollows, HasStack}
use Rattle.flat_simulation.specs.inner.EventRuns.{Leads}
use Rattle.flat_simulation.specs.inner.Kept.{EventsKeep}
use Rattle.flat_simulation.specs.inner.Level.{image, StagesMatch, StatesMatch}
use Rattle.flat_simulation.specs.inner.Next.{Next}
use Rattle.flat_simulation.specs.inner.Owning.{StepOwns}
use Rattle.flat_simulation.specs.inner.Programs.{IsImage}
use Rattle.flat_simulation.specs.inner.Threads.{StateStands}
use Rattle.flat_simulation.proofs.AllEvents.{Stood, all_stand, events_stand}
use Rattle.flat_simulation.proofs.EventKinds.{stands_begun, stands_at}
use Rattle.flat_simulation.proofs.First.{names, first_stands, first_ids}
use Rattle.flat_simulation.proofs.Followed.{step_follows, steps_own}
use Rattle.flat_simulation.proofs.Full.{act_enters}
use Rattle.flat_simulation.proofs.GoingAlike.{before_same}
use Rattle.flat_simulation.proofs.KindRuns.{up_to}
use Rattle.flat_simulation.proofs.LinearActs.{MeetsStage, ActAlike, act_alike}
use Rattle.flat_simulation.proofs.Made.{world_agrees}
use Rattle.flat_simulation.proofs.Public.{state_stands}
use Rattle.flat_simulation.proofs.Lying.{stage_lies}
use Rattle.flat_simulation.proofs.OneProgram.{have_matching}
use Rattle.flat_simulation.proofs.PastLimit.{act_prints}
use Rattle.flat_simulation.proofs.Programs.{guarded_image}
use Rattle.flat_simulation.proofs.Whole.{events_keep}
use Rattle.flat_simulation.proofs.WordsCome.{StateComes, after_comes, first_state_comes}

-- ---- names

empty : (rest : List Name) → length rest ≡ 0 → rest ≡ []
empty [] e = refl
empty (n ∷ rest) e = absurd (omega (arith, e))

-- names are the first of as many
same_names : (part all : List Name) → IsPrefix part all → length all ≡ length part → all ≡ part
same_names part all first each =
    let e : length all ≡ length (part ++ first.0) = ap (λ (l : List Name). length l) first.1 in
    let f = length-append part first.0 in
    let none : length first.0 ≡ 0 = omega (arith, each, e, f) in
    first.1 ∙ ap (λ l. part ++ l) (empty first.0 none) ∙ append-nil part

module _ (p : Ir) (limits : Limits) (its : IsImage (structured_image p limits) p) (keep : EventsKeep p limits) where
  abbrev x : Image Position
  x = structured_image p limits

  abbrev P : runs.Program (Thread Position Own)
  P = program_of p

  all_come : (es : List Event) (s : MachineState Position) → StateComes p limits s → StateComes p limits (after_all x es s)
  all_come [] s come = come
  all_come (e ∷ es) s come = all_come es (after x s e) (after_comes p limits s e come)

  module _ (names : List Name) (n : ℕ) (u : runs.State (Thread Position Own)) (s : MachineState Position) (now : Stood p limits its keep names u s) where
    -- events that make no turn leave the source where it is
    no_turn : (later : MachineState Position) (leads : Leads x s later [] [] []) → Next p limits names (ids_of leads.events) later u
    no_turn later leads =
        subst (λ (q : MachineState Position). Next p limits names (ids_of leads.events) q u) leads.ends
        (subst (λ picks. UpToAKindFrom p picks n u (Next p limits names (ids_of leads.events) (after_all x leads.events s))) leads.order
        (all_stand p limits its keep leads.events names n u s now leads.allowed))

    -- and the same names
    still_stands : (later : MachineState Position) → Leads x s later [] [] [] → StateStands x p names u later
    still_stands later leads =
        let next = no_turn later leads in
        let each : length next.all ≡ length names = next.stands.world.blocks.names_stand.each ∙ sym now.stand.world.blocks.names_stand.each in
        subst (λ l. StateStands x p l u later) (same_names names next.all next.first each) next.stands

    -- ---- beside linear code

    module _ (D : Flow Spot) (code' : ℕ → Spot) (R : Position → Spot → Type 0) (one : AreOne x (image D code' x.layout) R) (guarded : CallsAreGuarded (image D code' x.layout)) (r : MachineState Spot) (match : StatesMatch structured D R s r) where
      abbrev y : Image Spot
      y = image D code' x.layout

      abbrev Alike : (thread : ℕ) → Choice → Type 0
      Alike thread choice = ActAlike x.layout structured D (start_in p) code' R one guarded s r thread choice

      alike : (thread : ℕ) (choice : Choice) → IsAllowed y r (act thread choice) → Alike thread choice
      alike thread choice may = act_alike x.layout structured D (start_in p) code' R one guarded s r match thread choice may

      module _ (thread : ℕ) (right : TakesRightKinds p u thread) (choice : Choice) (a : Alike thread choice) where
        stands : StateStands x p names u a.came
        stands = still_stands a.came a.leads

        follow : StepFollows x p names u a.came thread
        follow = step_follows p limits its names u a.came stands thread right

        -- ---- what it touches

        module _ (t : Thread Position Own) (h : Stage Spot) (g : MeetsStage x.layout structured D (start_in p) code' R one guarded a.came thread h) where
          -- what the first touches the second does
          touches : (k : Pick) → StepOwns x p names u a.came.memory k t (thread_at x g.stage) → StepTouches y p names u r k t (thread_at y h)
          touches k owns = let z = owns.step in record {
            made = z.made;
            stop = z.stop;
            stops = z.stops;
            here = g.same.top.same.here ∙ ap structured.here z.stands.here;
            stands = subst (λ (T : Type 0). T) (λ i. PointStands x k.thread (names ++ z.made) (sym a.memory i).storage z.stop (record { at = z.stands.here i; own = sym g.same.top.own i })) z.stands;
            begun = owns.begun;
            reaches = subst (λ (T : Type 0). T)
                (λ i. StaysInBlocks (names ++ z.made) (sym a.memory i).storage (touched_at x.layout (sym g.same.top.own i) (sym a.memory i) (sym g.same.top.same.here i)) (reached_by_turn u.world z.stop.own (structured.here z.stop.at) (picked P u k))) z.reaches;
          }

          abbrev Reaching : Pick → Type 0
          Reaching k = Unbroken (picked P u k) → StepOwns x p names u a.came.memory k t (thread_at x g.stage)

          abbrev Touching : Pick → Type 0
          Touching k = Unbroken (picked P u k) → StepTouches y p names u r k t (thread_at y h)

          all_touch : own_at u.own thread ≡ Some t → before y (thread_at y h) ≡ steps → TurnsTouch y p names u r t (thread_at y h) (picks_of y r (act thread choice) ++ tried_by y r (act thread choice))
          all_touch i is =
              let is' : before x (thread_at x g.stage) ≡ steps = sym (before_same x.layout structured D (start_in p) code' R one (thread_at x g.stage) (thread_at y h) g.same) ∙ is in
              let at : StandsBefore x (own_at a.came.own thread) steps = subst (λ o. StandsBefore x o steps) (sym g.at) (stands_at x g.stage g.begun steps is') in
              let turns = picks_of x a.came (act thread choice) ++ tried_by x a.came (act thread choice) in
              subst (λ l. All Touching l) (λ i. a.picks i ++ a.tried i)
              (All-weaker Reaching Touching (λ k f unbroken. touches k (f unbroken)) turns (steps_own p limits its names u a.came stands thread right choice t g.stage i g.at a.allowed at))

      -- ---- whatever step of a thread may come next

      module _ (thread : ℕ) (right : TakesRightKinds p u thread) where
        linear_step_follows : LinearStepFollows y p names u r thread
        linear_step_follows choice t h i e may =
            let a = alike thread choice may in
            record {
              touches = λ at.
                  let b = stands_begun y h steps at in
                  all_touch thread right choice a t h (a.meets h e b.0) i b.1;
              waits = λ end. subst (λ l. AllComeOut p u Waits l) a.tried ((follow thread right choice a).waits choice a.allowed (a.end ∙ end));
              traps = λ trap. subst (λ l. AllComeOut p u Broken l) a.tried ((follow thread right choice a).traps choice a.allowed (subst IsTrap (sym a.end) trap));
              prints = λ end.
                  subst (λ l. AllComeOut p u (PrintsPast limits.output) l) a.tried
                  (act_prints p limits its names u a.came (stands thread right choice a) a.allowed.0 thread right choice a.allowed (a.end ∙ end));
              calls = λ number b end.
                  let g = a.meets h e b in
                  subst (λ l. AllComeOut p u (Enters t) l) a.tried
                  (act_enters p limits its names u a.came (stands thread right choice a) a.allowed.0 thread right number choice t g.stage i g.at g.begun a.allowed (a.end ∙ end));
            }

      lies : r.end ≡ None → (thread : ℕ) (h : Stage Spot) → own_at r.own thread ≡ Some h → HasStack y p thread names u h
      lies open_ thread h f = by (own_at u.own thread) refl (own_at s.own thread) ((state_stands x p its names u s now.stand).threads thread) (subst (λ o. StagesMatch structured D R (own_at s.own thread) o) f ((match.stages open_).each thread))
        where
          by : (o : Option (Thread Position Own)) → own_at u.own thread ≡ o → (g : Option (Stage Position)) → StageStands x p thread names u.world.blocks s.memory.storage o g → StagesMatch structured D R g (Some h) → HasStack y p thread names u h
          by (Some t) e g there alike_ = record { own = t; at = e; lies = stage_lies x.layout p D code' R thread names u.world.blocks s.memory.storage now.stand.world.blocks.names_stand.each t g h there alike_ }
          by None e (Some g) there alike_ = absurd there
          by None e None there alike_ = absurd alike_

      linear_follows : (ds : List Event) → AreMadeBy y ds names → LinearStandsAfter y p ds u r
      linear_follows ds made = record {
        names = names;
        made = made;
        stacks = lies;
        world = subst (λ m. WorldStands names u.world m) (sym match.memory) (world_agrees x.layout p names u.world s.memory now.stand.world);
        steps = λ thread right. linear_step_follows thread right;
      }

-- ---- all events

-- events of structured code that come to the same as linear code's, after which that follows the source
abbrev pub Found : (p : Ir) → Image Position → Image Spot → List Event → Type 0
Found p x y ds = (es : List Event) × ComeToTheSame x es y ds × UpToAKind p (order_of x es (first_state x)) (λ u. LinearStandsAfter y p ds u (after_all y ds (first_state y)))

module _ (p : Ir) (c : IsGuarded p) (output heaps heap ids : ℕ) (shape : IsShape heaps heap ids) where
  abbrev its_limits : Limits
  its_limits = limits_for output heaps heap ids

  abbrev first : Image Position
  first = structured_image p its_limits

  found_at : (D : Flow Spot) (code' : ℕ → Spot) (R : Position → Spot → Type 0) → AreOne first (image D code' first.layout) R → CallsAreGuarded (image D code' first.layout) → AllocationsFit D
      → (ds : List Event) → AreAllowed (image D code' first.layout) ds (first_state (image D code' first.layout)) → Found p first (image D code' first.layout) ds
  found_at D code' R one guarded fit ds may =
      let y = image D code' first.layout in
      let f = have_matching first.layout structured D (start_in p) code' R one guarded ds may in
      let es = f.0 in
      let its = guarded_image p c output heaps heap ids in
      let keep = events_keep p its_limits its in
      let begin = names p c output heaps heap ids shape in
      let order = order_of first es (first_state first) in
      let s = after_all first es (first_state first) in
      let r = after_all y ds (first_state y) in
      let come = all_come p its_limits its keep es (first_state first) (first_state_comes p its_limits) in
      let all = events_stand p its_limits its keep begin (first_state first) (first_stands p c output heaps heap ids shape) (first_state_comes p its_limits) es f.1.allowed in (
        es,
        f.1,
        up_to (runs.run (program_of p) (start p) order) (Next p its_limits begin (ids_of es) s) (λ u. LinearStandsAfter y p ds u r) (MeetsWrongKind p order 0 (runs.first_state (program_of p) (start p))) (λ u reached n.
            linear_follows p its_limits its keep n.all 0 u s (record { stand = n.stands; come = come }) D code' R one guarded r f.2 ds
            (record { loaded = n.first; ids = n.ids ∙ ap (λ l. l ++ ids_of es) (first_ids p c output heaps heap ids shape) ∙ f.3 fit })) all,
      )

  pub linear_found : (y : Image Spot) (R : Position → Spot → Type 0) → AreOne first y R → CallsAreGuarded y → AllocationsFit y.flow → (ds : List Event) → AreAllowed y ds (first_state y) → Found p first y ds
  linear_found y R one guarded fit =
      subst (λ (z : Image Spot). AreOne first z R → CallsAreGuarded z → AllocationsFit z.flow → (ds : List Event) → AreAllowed z ds (first_state z) → Found p first z ds) (λ i. record { flow = y.flow; start = y.start; layout = sym one.layout i })
      (λ (o : AreOne first (image y.flow y.start first.layout) R) (g : CallsAreGuarded (image y.flow y.start first.layout)). found_at y.flow y.start R o g) one guarded fit
