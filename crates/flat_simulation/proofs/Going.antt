-- A thread that goes on alone: it stands where it comes to, and where it ends a turn, that ends over named blocks, too.
use Rattle.std.proofs.Common.{◌≡◌, ℕ, List, [], ◌∷◌, length, Bool, true, false, Option, Some, None, Result, Ok, Err, refl, sym, ap, subst, ◌∙◌, arith, inl, inr}
use Rattle.std.specs.Prelude.{if◌then◌else◌}
use Rattle.block_store.specs.declared.values.Answer.TheVariants as answers
use Rattle.block_store.specs.Actions.{World, with_blocks}
use Rattle.arena_meaning.specs.Arena.{Storage}
use Rattle.struct_ir.specs.Nodes.{Act, Call, call, set, step, look, safepoint, begin_object, end_object, Ir}
use Rattle.struct_ir.specs.Flow.{Here, does, tests, passes, round, returns, entry}
use Rattle.struct_ir.specs.Machine.{Point, stops, breaks, after_act, stopped_or, ahead_at, ahead, run, IsRun}
use Rattle.struct_ir.specs.Threads.{Thread, Outcome, went, broke, alone, stop_event, stop_at, left_call, and_then, turn}
use Rattle.struct_ir.specs.Valid.{scope_of}
use Rattle.struct_ir.specs.ValidCode.{is_here}
use Rattle.struct_ir.proofs.Runs.{runs_are_steps}
use Rattle.struct_ir.specs.meaning.Blocks.{Fault, Own, ends_turn, own_act, blocks_machine}
use Rattle.struct_ir.specs.meaning.Threads.{first_own, blocks_world}
use Rattle.flat_meaning.specs.Image.{Image}
use Rattle.flat_meaning.specs.Words.{Words, none_used, used_with, has_room}
use Rattle.flat_meaning.specs.Memory.{Memory}
use Rattle.flat_meaning.specs.Accesses as flat
use Rattle.flat_meaning.specs.Machine as machine
use Rattle.flat_meaning.specs.Machine.{ends_event, words_machine, words_world}
use Rattle.flat_meaning.specs.Stages.{Stage, starts, going, waiting, landed, first_thread, thread_at, Before, safe, looks, steps, calls, turn_over, nothing, before_act, before_return, before_here, before, room_for, Advance, past_safepoint, at_next_stop, back, turn_done, ending_if, advanced_from, advanced, can_advance}
use Rattle.flat_meaning.specs.Effects as effects
use Rattle.flat_meaning.specs.Effects.{Effect, no_effect, own_list_of, step_effect}
use Rattle.flat_meaning.specs.Allowed.{StandsBefore}
use Rattle.flat_meaning.specs.Names.{Name}
use Rattle.flat_meaning.specs.Stands.{in_blocks}
use Rattle.flat_simulation.specs.inner.Values.{AnyBlock, KnownIn}
use Rattle.flat_simulation.specs.inner.Turns.{Far}
use Rattle.flat_simulation.specs.inner.Lags.{StandsIn, CatchesUpInTurn, comes, breaks}
use Rattle.flat_simulation.specs.inner.Programs.{IsImage}
use Rattle.flat_simulation.specs.inner.Worlds.{WorldStands}
use Rattle.flat_simulation.specs.inner.Threads.{CallersStand, ThreadStands, Fresh, StartStands, StageStands, TurnsAlike}
use Rattle.flat_simulation.proofs.Alone.{thread_goes, thread_looks, thread_safe}
use Rattle.flat_simulation.proofs.Blocks.{aged_still}
use Rattle.flat_simulation.proofs.Ends.{call_ends, round_ends}
use Rattle.flat_simulation.proofs.Entered.{first_call_stands, first_frame}
use Rattle.flat_simulation.proofs.Lands.{alike_then}
use Rattle.flat_simulation.proofs.Later.{fresh_thread}
use Rattle.flat_simulation.proofs.Points.{call_still, point_later}
use Rattle.flat_simulation.proofs.Programs.{in_range}
use Rattle.flat_simulation.proofs.Returns.{return_ends}
use Rattle.flat_simulation.proofs.Settled.{settled_world, settled, settled_clear, settled_callers}

-- ---- a run over words

module _ {P : Type 0} (x : Image P) (thread : ℕ) where
  -- it has no faults
  acted_no_fault : (k : P) (q : Words) (b : Bool) (f : flat.Fault) → stopped_or b (after_act k (Ok q)) ≡ breaks f → ⊥
  acted_no_fault k q true f e = absurd cc
  acted_no_fault k q false f e = absurd cc

  no_fault : (q : Point P Words) (h : Here) (f : flat.Fault) → ahead_at x.flow (words_machine x.layout thread) q h ≡ breaks f → ⊥
  no_fault q (does place a) f e = acted_no_fault (x.flow.next q.at true) (machine.own_act x.layout thread a q.own) (ends_event a) f e
  no_fault q (tests place temp) f e = absurd cc
  no_fault q passes f e = absurd cc
  no_fault q round f e = absurd cc
  no_fault q (returns temp) f e = absurd cc

-- ---- what a thread stands before

-- a turn ends there, over named blocks and over words
abbrev pub EndsTurn : Here → Type 0
EndsTurn (does place a) = ends_turn a ≡ true
EndsTurn (tests place temp) = ⊥
EndsTurn passes = ⊥
EndsTurn round = Unit {0}
EndsTurn (returns temp) = Unit {0}

pub stops_there : {P : Type 0} (x : Image P) (p : Ir) (y : Point P Own) (h : Here) → EndsTurn h → ahead_at x.flow (blocks_machine p) y h ≡ stops
stops_there x p y (does place a) e = ap (λ b. stopped_or b (after_act (x.flow.next y.at true) (own_act p place a y.own))) e
stops_there x p y (tests place temp) e = absurd e
stops_there x p y passes e = absurd e
stops_there x p y round e = refl
stops_there x p y (returns temp) e = refl

module _ {P : Type 0} (x : Image P) (p : Ir) (image : IsImage x p) (thread : ℕ) (names : List Name) (w : World) (m : Memory) (world : WorldStands x.layout p names w m) where
  abbrev s : Storage
  s = m.storage

  abbrev IsStanding : Thread P Own → Thread P Words → Type 0
  IsStanding k q = ThreadStands x p thread names w.blocks s k q

  abbrev is_run : IsRun x.flow (blocks_machine p)
  is_run = runs_are_steps P Own Fault x.flow image.shrinks (blocks_machine p)

  abbrev words_run : IsRun x.flow (words_machine x.layout thread)
  words_run = runs_are_steps P Words flat.Fault x.flow image.shrinks (words_machine x.layout thread)

  -- ---- up to its next stop

  -- where it has run to
  record HasRun (k : Thread P Own) (q r : Thread P Words) : Type 0 where
    pub stands : IsStanding k r
    pub stop : ahead x.flow (words_machine x.layout thread) r.top ≡ stops

  ran : (k : Thread P Own) (q : Thread P Words) → IsStanding k q → (o : Result (Point P Words) flat.Fault) → run x.flow (words_machine x.layout thread) q.top ≡ o → HasRun k q (at_next_stop q o)
  ran k q stand (Ok r) e = let path = words_run.stops_at q.top r e in record { stands = thread_goes x p image thread stand.stack names w m world k q stand r path.0; stop = path.1 }
  ran k q stand (Err f) e = let fault = words_run.breaks_at q.top f e in absurd (no_fault x thread fault.0 (x.flow.here fault.0.at) f fault.2)

  -- ---- the end of a turn

  module _ (k : Thread P Own) (q : Thread P Words) (stand : IsStanding k q) where
    -- the turn that the other thread has to do
    abbrev whole : Outcome P Own Fault World
    whole = turn x.flow (blocks_machine p) (blocks_world p thread) x.start answers.Plain k w

    abbrev Alike : Outcome P Own Fault World → Thread P Words → Type 0
    Alike o r = TurnsAlike x p thread names [] None w m o (went r m)

    -- a turn ends: a call with room is entered, or a round or a call is over
    abbrev IsOver : Before → Type 0
    IsOver safe = ⊥
    IsOver looks = ⊥
    IsOver steps = ⊥
    IsOver (calls function) = room_for x q function ≡ true
    IsOver turn_over = Unit {0}
    IsOver nothing = ⊥

    over_is : (qs : List (Point P Words)) → IsOver (before_return qs) → before_return qs ≡ turn_over
    over_is [] e = absurd e
    over_is (d ∷ ds) e = refl

    -- where it stops
    module _ (y : Point P Own) (n : List Name) (far : Far x.layout (length w.blocks) names w.blocks n thread y.own q.top.own) (at : StandsIn x p thread n (KnownIn (length w.blocks) (length w.blocks)) s y q.top) where
      abbrev at_stop : P → Outcome P Own Fault World
      at_stop z = stop_event x.flow (blocks_machine p) (blocks_world p thread) x.start answers.Plain (record { top = record { at = z; own = y.own }; callers = k.callers }) (with_blocks w y.own.blocks)

      -- with all blocks known
      point : StandsIn x p thread n AnyBlock s (record { at = q.top.at; own = y.own }) q.top
      point = subst (λ (z : P). StandsIn x p thread n AnyBlock s (record { at = z; own = y.own }) q.top) (sym at.here)
          (point_later x p thread n n (KnownIn (length w.blocks) (length w.blocks)) AnyBlock s s y q.top y.own.blocks (aged_still n y.own.blocks far.aged.each_later) (λ b lt kn. tt) (call_still x p thread n y.own.blocks y.own.blocks s q.top) at)

      abbrev stop_here : Here → Outcome P Own Fault World
      stop_here h = stop_at x.flow (blocks_machine p) (blocks_world p thread) x.start answers.Plain (record { top = record { at = q.top.at; own = y.own }; callers = k.callers }) (with_blocks w y.own.blocks) h

      abbrev Ends : Here → Type 0
      Ends h = Alike (stop_here h) (turn_done x q h)

      call_here : (place : ℕ) (c : Call) → x.flow.here q.top.at ≡ does place (call c) → has_room x.layout (used_with x.layout q.top.own) c.function ≡ true → Ends (does place (call c))
      call_here place c e room =
          alike_then x p thread names n [] None w y.own.blocks m (settled x p image thread stand.stack names w m world n y.own q.top.own stand.frame far at.call) (stop_here (does place (call c))) (went (turn_done x q (does place (call c))) m)
          (call_ends x p image thread stand.stack n w m y.own (settled_world x p image thread stand.stack names w m world n y.own q.top.own stand.frame far at.call) q.top.at q.top.own k.callers q.callers point stand.frame
          (settled_clear x p image thread stand.stack names w m world n y.own q.top.own stand.frame far at.call) (settled_callers x p image thread stand.stack names w m world n y.own q.top.own stand.frame far at.call k.callers q.callers stand.callers) place c e room)

      round_here : x.flow.here q.top.at ≡ round → Ends round
      round_here e =
          alike_then x p thread names n [] None w y.own.blocks m (settled x p image thread stand.stack names w m world n y.own q.top.own stand.frame far at.call) (stop_here round) (went (turn_done x q round) m)
          (round_ends x p image thread stand.stack n w m y.own (settled_world x p image thread stand.stack names w m world n y.own q.top.own stand.frame far at.call) q.top.at q.top.own k.callers q.callers point stand.frame
          (settled_clear x p image thread stand.stack names w m world n y.own q.top.own stand.frame far at.call) (settled_callers x p image thread stand.stack names w m world n y.own q.top.own stand.frame far at.call k.callers q.callers stand.callers) e)

      -- a call is left that has a caller
      return_here : (temp : Option ℕ) → x.flow.here q.top.at ≡ returns temp → (ks : List (Point P Own)) (qs : List (Point P Words)) → CallersStand x p thread names w.blocks s q.top.own.below.stack ks qs → before_return qs ≡ turn_over
          → Alike (left_call x.flow (blocks_world p thread) answers.Plain y.own temp (with_blocks w y.own.blocks) ks) (back x q temp qs)
      return_here temp e [] [] under over_ = absurd cc
      return_here temp e [] (d ∷ ds) under over_ = absurd under
      return_here temp e (c ∷ cs) [] under over_ = absurd under
      return_here temp e (c ∷ cs) (d ∷ ds) under over_ =
          let ok = subst (λ h. is_here (scope_of p stand.frame.func) h ≡ true) e (in_range x p image q.top.own stand.frame at.way q.top.at at.path) in
          return_ends x p image thread stand.stack names w m world n y.own q.top.own stand.frame far at.call temp ok c cs d ds under

      -- whatever stands there
      stop_ends : (h : Here) → x.flow.here q.top.at ≡ h → (b : Before) → before_here q.callers h ≡ b → IsOver b → Ends h
      stop_ends (does place (call c)) e b is over_ = call_here place c e (subst IsOver (sym is) over_)
      stop_ends (does place (set to calc)) e b is over_ = absurd (subst IsOver (sym is) over_)
      stop_ends (does place (step st)) e b is over_ = absurd (subst IsOver (sym is) over_)
      stop_ends (does place (look slot base)) e b is over_ = absurd (subst IsOver (sym is) over_)
      stop_ends (does place (safepoint slots)) e b is over_ = absurd (subst IsOver (sym is) over_)
      stop_ends (does place (begin_object i)) e b is over_ = absurd (subst IsOver (sym is) over_)
      stop_ends (does place (end_object i)) e b is over_ = absurd (subst IsOver (sym is) over_)
      stop_ends (tests place temp) e b is over_ = absurd (subst IsOver (sym is) over_)
      stop_ends passes e b is over_ = absurd (subst IsOver (sym is) over_)
      stop_ends round e b is over_ = round_here e
      stop_ends (returns temp) e b is over_ = return_here temp e k.callers q.callers stand.callers (over_is q.callers (subst IsOver (sym is) over_))

    over_ends : (h : Here) → IsOver (before_here q.callers h) → EndsTurn h
    over_ends (does place (call c)) o = refl
    over_ends (does place (set to calc)) o = absurd o
    over_ends (does place (step st)) o = absurd o
    over_ends (does place (look slot base)) o = absurd o
    over_ends (does place (safepoint slots)) o = absurd o
    over_ends (does place (begin_object i)) o = absurd o
    over_ends (does place (end_object i)) o = absurd o
    over_ends (tests place temp) o = absurd o
    over_ends passes o = absurd o
    over_ends round o = tt
    over_ends (returns temp) o = tt

    -- the whole turn
    turn_is : (y : Point P Own) → run x.flow (blocks_machine p) (in_blocks w.blocks k.top) ≡ Ok y
        → whole ≡ stop_event x.flow (blocks_machine p) (blocks_world p thread) x.start answers.Plain (record { top = y; callers = k.callers }) (with_blocks w y.own.blocks)
    turn_is y e = ap (λ z. and_then (alone (blocks_world p thread) k.callers w z) (stop_event x.flow (blocks_machine p) (blocks_world p thread) x.start answers.Plain)) e

    whole_ends : CatchesUpInTurn x p thread (length w.blocks) names w.blocks s k.top q.top → IsOver (before x q) → Alike whole (turn_done x q (x.flow.here q.top.at))
    whole_ends (breaks f e) over_ =
        let broken : whole ≡ broke f = ap (λ z. and_then (alone (blocks_world p thread) k.callers w z) (stop_event x.flow (blocks_machine p) (blocks_world p thread) x.start answers.Plain)) e in
        subst (λ o. Alike o (turn_done x q (x.flow.here q.top.at))) (sym broken) tt
    whole_ends (comes y n path far at) over_ =
        let stop : ahead x.flow (blocks_machine p) y ≡ stops = ap (λ (z : P). ahead_at x.flow (blocks_machine p) y (x.flow.here z)) (sym at.here) ∙ stops_there x p y (x.flow.here q.top.at) (over_ends (x.flow.here q.top.at) over_) in
        let there : run x.flow (blocks_machine p) (in_blocks w.blocks k.top) ≡ Ok y = is_run.stops_only (in_blocks w.blocks k.top) y path stop in
        let ends = stop_ends y n far at (x.flow.here q.top.at) refl (before x q) refl over_ in
        subst (λ o. Alike o (turn_done x q (x.flow.here q.top.at))) (sym (turn_is y there))
        (subst (λ (z : P). Alike (at_stop y n far at z) (turn_done x q (x.flow.here q.top.at))) at.here ends)

    pub turn_ends_here : IsOver (before x q) → Alike whole (turn_done x q (x.flow.here q.top.at))
    turn_ends_here over_ = whole_ends (stand.top names w.blocks (aged_still names w.blocks world.blocks.names_stand.each)) over_

    -- ---- a thread goes on

    -- the end of its turn, if there is room
    abbrev entered_if : Bool → Advance P
    entered_if c = if c then record { thread = turn_done x q (x.flow.here q.top.at); turns = 1 } else record { thread = q; turns = 0 }

    -- it stands still where no turn has ended
    still_stands : (b : Before) → (ending_if x q b).turns ≡ 0 → IsStanding k (ending_if x q b).thread
    still_stands safe e = stand
    still_stands looks e = stand
    still_stands steps e = stand
    still_stands (calls function) e = by_room (room_for x q function) e
      where
        by_room : (c : Bool) → (entered_if c).turns ≡ 0
            → IsStanding k (entered_if c).thread
        by_room true e = absurd cc
        by_room false e = stand
    still_stands turn_over e = absurd cc
    still_stands nothing e = stand

    one_ends : (b : Before) → before x q ≡ b → (ending_if x q b).turns ≡ 1 → Alike whole (ending_if x q b).thread
    one_ends safe is e = absurd cc
    one_ends looks is e = absurd cc
    one_ends steps is e = absurd cc
    one_ends (calls function) is e = by_room (room_for x q function) refl e
      where
        by_room : (c : Bool) → room_for x q function ≡ c → (entered_if c).turns ≡ 1
            → Alike whole (entered_if c).thread
        by_room true room e = turn_ends_here (subst IsOver (sym is) room)
        by_room false room e = absurd cc
    one_ends turn_over is e = turn_ends_here (subst IsOver (sym is) tt)
    one_ends nothing is e = absurd cc

  -- from where it stands, up to its next stop or the end of its turn
  gone_stands : (k : Thread P Own) (q : Thread P Words) → IsStanding k q → (advanced_from x thread q).turns ≡ 0 → IsStanding k (advanced_from x thread q).thread
  gone_stands k q stand e =
      let r = at_next_stop q (run x.flow (words_machine x.layout thread) q.top) in
      still_stands k r (ran k q stand (run x.flow (words_machine x.layout thread) q.top) refl).stands (before x r) e

  gone_ends : (k : Thread P Own) (q : Thread P Words) → IsStanding k q → (advanced_from x thread q).turns ≡ 1
      → TurnsAlike x p thread names [] None w m (turn x.flow (blocks_machine p) (blocks_world p thread) x.start answers.Plain k w) (went (advanced_from x thread q).thread m)
  gone_ends k q stand e =
      let r = at_next_stop q (run x.flow (words_machine x.layout thread) q.top) in
      one_ends k r (ran k q stand (run x.flow (words_machine x.layout thread) q.top) refl).stands (before x r) refl e

  -- ---- by its stage

  -- past a safepoint
  past_act : (k : Thread P Own) (q : Thread P Words) → IsStanding k q → (place : ℕ) (a : Act) → x.flow.here q.top.at ≡ does place a → IsStanding k (past_safepoint x q (before_act a))
  past_act k q stand place (safepoint slots) e = thread_safe x p image thread stand.stack names w m world k q stand place slots e
  past_act k q stand place (set to calc) e = stand
  past_act k q stand place (call c) e = stand
  past_act k q stand place (step st) e = stand
  past_act k q stand place (look slot base) e = stand
  past_act k q stand place (begin_object i) e = stand
  past_act k q stand place (end_object i) e = stand

  past_return : (k : Thread P Own) (q : Thread P Words) → IsStanding k q → (qs : List (Point P Words)) → IsStanding k (past_safepoint x q (before_return qs))
  past_return k q stand [] = stand
  past_return k q stand (c ∷ qs) = stand

  past_here : (k : Thread P Own) (q : Thread P Words) → IsStanding k q → (h : Here) → x.flow.here q.top.at ≡ h → IsStanding k (past_safepoint x q (before_here q.callers h))
  past_here k q stand (does place a) e = past_act k q stand place a e
  past_here k q stand (tests place temp) e = stand
  past_here k q stand passes e = stand
  past_here k q stand round e = stand
  past_here k q stand (returns temp) e = past_return k q stand q.callers

  -- a thread that begins
  pub begins_stands : (k : Thread P Own) (function argument : ℕ) → StartStands x p thread names w.blocks k function argument → has_room x.layout none_used function ≡ true → IsStanding k (first_thread x function argument)
  begins_stands k function argument stand room =
      let fresh : Fresh x p thread names w.blocks s (record { top = record { at = x.start function; own = first_own p function stand.pointer }; callers = [] }) (first_thread x function argument) = record {
        stack = stand.stack;
        frame = first_frame x p image function stand.func stand.there argument room;
        top = record { here = refl; call = first_call_stands x p image function stand.func stand.there thread names AnyBlock w.blocks stand.pointer argument stand.argument_stands; way = []; path = entry; slots = λ slot base i. absurd cc };
        clear = λ b a c kn v e. elim (stand.clear b a c kn v e) [ inl r ↦ inl (omega (arith, r)) | inr z ↦ inr z ];
        callers = tt;
      } in
      subst (λ (z : Thread P Own). IsStanding z (first_thread x function argument)) (sym stand.begins) (fresh_thread x p thread names w.blocks s _ (first_thread x function argument) world.blocks.names_stand.each fresh)

  -- one that stands at its stage stands within its turn
  abbrev Standing : Thread P Own → Stage P → Type 0
  Standing k g = StageStands x p thread names w.blocks s (Some k) (Some g)

  pub goes_on : (k : Thread P Own) (g : Stage P) → Standing k g → can_advance x g ≡ true → (advanced x thread g).turns ≡ 0 → IsStanding k (advanced x thread g).thread
  goes_on k (starts function argument) stand can e = gone_stands k (first_thread x function argument) (begins_stands k function argument stand can) e
  goes_on k (going q) stand can e = gone_stands k (past_safepoint x q (before x q)) (past_here k q stand (x.flow.here q.top.at) refl) e
  goes_on k (waiting q) stand can e = gone_stands k (past_safepoint x q (before x q)) (past_here k q stand (x.flow.here q.top.at) refl) e
  goes_on k (landed list q) stand can e =
      gone_stands k (past_safepoint x q (before x q)) (past_here k q (fresh_thread x p thread names w.blocks s k q world.blocks.names_stand.each stand.fresh) (x.flow.here q.top.at) refl) e

  pub ends : (k : Thread P Own) (g : Stage P) → Standing k g → can_advance x g ≡ true → (advanced x thread g).turns ≡ 1
      → TurnsAlike x p thread names [] None w m (turn x.flow (blocks_machine p) (blocks_world p thread) x.start answers.Plain k w) (went (advanced x thread g).thread m)
  ends k (starts function argument) stand can e = gone_ends k (first_thread x function argument) (begins_stands k function argument stand can) e
  ends k (going q) stand can e = gone_ends k (past_safepoint x q (before x q)) (past_here k q stand (x.flow.here q.top.at) refl) e
  ends k (waiting q) stand can e = gone_ends k (past_safepoint x q (before x q)) (past_here k q stand (x.flow.here q.top.at) refl) e
  ends k (landed list q) stand can e =
      gone_ends k (past_safepoint x q (before x q)) (past_here k q (fresh_thread x p thread names w.blocks s k q world.blocks.names_stand.each stand.fresh) (x.flow.here q.top.at) refl) e

  -- ---- a Look

  abbrev look_at : Stage P → Thread P Words → Here → Effect P
  look_at g q h = effects.effect_of_outcome thread g q (own_list_of h) m (stop_at x.flow (words_machine x.layout thread) (words_world x.layout thread) x.start flat.plain q m h)

  -- what a Look leaves
  abbrev Looked : Thread P Own → Stage P → Thread P Words → Here → Type 0
  Looked k g q h = (r : Thread P Words) × (look_at g q h ≡ no_effect m (going r)) × IsStanding k r

  look_act : (k : Thread P Own) (g : Stage P) (q : Thread P Words) → IsStanding k q → (place : ℕ) (a : Act) → x.flow.here q.top.at ≡ does place a → before_act a ≡ looks → Looked k g q (does place a)
  look_act k g q stand place (look slot base) e is = (_, refl, thread_looks x p image thread stand.stack names w m world k q stand place slot base e)
  look_act k g q stand place (set to calc) e is = absurd cc
  look_act k g q stand place (call c) e is = absurd cc
  look_act k g q stand place (step st) e is = absurd cc
  look_act k g q stand place (safepoint slots) e is = absurd cc
  look_act k g q stand place (begin_object i) e is = absurd cc
  look_act k g q stand place (end_object i) e is = absurd cc

  no_look : (qs : List (Point P Words)) → before_return qs ≡ looks → ⊥
  no_look [] e = absurd cc
  no_look (q ∷ qs) e = absurd cc

  look_here : (k : Thread P Own) (g : Stage P) (q : Thread P Words) → IsStanding k q → (h : Here) → x.flow.here q.top.at ≡ h → before_here q.callers h ≡ looks → Looked k g q h
  look_here k g q stand (does place a) e is = look_act k g q stand place a e is
  look_here k g q stand (tests place temp) e is = absurd cc
  look_here k g q stand passes e is = absurd cc
  look_here k g q stand round e is = absurd cc
  look_here k g q stand (returns temp) e is = absurd (no_look q.callers is)

  pub looks_on : (k : Thread P Own) (g : Stage P) → Standing k g → StandsBefore x (Some g) looks → (r : Thread P Words) × (step_effect x thread flat.plain g (thread_at x g) m ≡ no_effect m (going r)) × IsStanding k r
  looks_on k (starts function argument) stand is = absurd is
  looks_on k (going q) stand is = look_here k (going q) q stand (x.flow.here q.top.at) refl is
  looks_on k (waiting q) stand is = look_here k (waiting q) q stand (x.flow.here q.top.at) refl is
  looks_on k (landed list q) stand is = look_here k (landed list q) q (fresh_thread x p thread names w.blocks s k q world.blocks.names_stand.each stand.fresh) (x.flow.here q.top.at) refl is
