-- A thread goes on alone in the middle of a turn: over words, past Looks and safepoints; it stands there still for the thread that has the
-- whole turn to do.
use Rattle.std.proofs.Common.{◌≡◌, ℕ, ◌<◌, List, length, Bool, true, false, None, Ok, refl, sym, ap, subst, ◌∙◌, arith, length-set, inl}
use Rattle.std.specs.Prelude.{nat_lt, not, ◌==◌}
use Rattle.std.proofs.lemmas.Bool.{ltb-true, and_parts}
use Rattle.block_store.specs.Blocks.{Blocks}
use Rattle.block_store.specs.Actions.{World}
use Rattle.arena_meaning.specs.Arena.{Storage}
use Rattle.struct_ir.specs.Nodes.{Act, set, call, step, look, safepoint, begin_object, end_object, Ir}
use Rattle.struct_ir.specs.Flow.{Here, does, tests, passes, round, returns}
use Rattle.struct_ir.specs.Machine as steps
use Rattle.struct_ir.specs.Machine.{Point, Ahead, goes, stops, breaks, after_act, tested, stopped_or, ahead_at, ahead, Steps, more, IsRun}
use Rattle.struct_ir.specs.Threads.{Thread, behind}
use Rattle.struct_ir.specs.Valid.{scope_of}
use Rattle.struct_ir.specs.ValidCode.{is_here}
use Rattle.struct_ir.proofs.Runs.{runs_are_steps}
use Rattle.struct_ir.specs.meaning.Blocks as source
use Rattle.struct_ir.specs.meaning.Blocks.{Fault, Own, ends_turn, blocks_machine}
use Rattle.flat_meaning.specs.Image.{Image}
use Rattle.flat_meaning.specs.Words.{Words, word_at}
use Rattle.flat_meaning.specs.Words as words
use Rattle.flat_meaning.specs.Memory.{Memory}
use Rattle.flat_meaning.specs.Accesses as flat
use Rattle.flat_meaning.specs.Machine as machine
use Rattle.flat_meaning.specs.Machine.{ends_event, words_machine}
use Rattle.flat_meaning.specs.Names.{Name}
use Rattle.flat_meaning.specs.Stands.{in_blocks}
use Rattle.flat_simulation.specs.inner.Aged.{Aged}
use Rattle.flat_simulation.specs.inner.Frames.{FrameLies}
use Rattle.flat_simulation.specs.inner.Values.{KnownIn, AnyBlock, Sees}
use Rattle.flat_simulation.specs.inner.Calls.{LiesThere, DataStands}
use Rattle.flat_simulation.specs.inner.Turns.{Far}
use Rattle.flat_simulation.specs.inner.Lags.{CatchesUpInTurn, comes, breaks, InTurn}
use Rattle.flat_simulation.specs.inner.Programs.{IsImage, HasFrame}
use Rattle.flat_simulation.specs.inner.Worlds.{WorldStands}
use Rattle.flat_simulation.specs.inner.Threads.{CallersStand, ThreadStands}
use Rattle.flat_simulation.proofs.Blocks.{aged_still, aged_then, aged_name, aged_more}
use Rattle.flat_simulation.proofs.Points.{At, Goes, call_still, point_acts, point_looks}
use Rattle.flat_simulation.proofs.Programs.{lies_in_stack, in_range}
use Rattle.flat_simulation.proofs.Seen.{sees_in_turn}
use Rattle.flat_simulation.proofs.Within.{FollowsTo, far_words, step_to}

-- ---- frames

-- the same call, with other words in its registers and slots
pub record SameFrame (q r : Words) : Type 0 where
  pub function : r.function ≡ q.function
  pub below : r.below ≡ q.below
  pub temps : length r.temps ≡ length q.temps
  pub slots : length r.slots ≡ length q.slots

same_frame : (q : Words) → SameFrame q q
same_frame q = record { function = refl; below = refl; temps = refl; slots = refl }

pub frame_on : {P : Type 0} (x : Image P) (p : Ir) (q r : Words) → SameFrame q r → HasFrame x.layout p q → HasFrame x.layout p r
frame_on x p q r same frame = record {
  func = frame.func;
  there = rw same.function frame.there;
  temps = same.temps ∙ frame.temps;
  slots = same.slots ∙ frame.slots;
  room = rw same.below frame.room;
}

module _ {P : Type 0} (x : Image P) (thread : ℕ) where
  act_frame : (a : Act) (q : Words) → SameFrame q (machine.own_act x.layout thread a q)
  act_frame (set to calc) q = record { function = refl; below = refl; temps = length-set q.temps to (words.calculated x.layout thread q calc); slots = refl }
  act_frame (call c) q = same_frame q
  act_frame (step s) q = same_frame q
  act_frame (look slot base) q = same_frame q
  act_frame (safepoint slots) q = same_frame q
  act_frame (begin_object i) q = same_frame q
  act_frame (end_object i) q = same_frame q

  acted_frame : (k : P) (a : Act) (q : Words) (b : Bool) (r : Point P Words) → stopped_or b (after_act {F = flat.Fault} k (Ok (machine.own_act x.layout thread a q))) ≡ goes r → SameFrame q r.own
  acted_frame k a q true r e = absurd cc
  acted_frame k a q false r e = let is : record { at = k; own = machine.own_act x.layout thread a q } ≡ r = cc in subst (λ (z : Point P Words). SameFrame q z.own) is (act_frame a q)

  tested_frame : (q : Point P Words) (c : Bool) (r : Point P Words) → tested {F = flat.Fault} x.flow q (Ok c) ≡ goes r → SameFrame q.own r.own
  tested_frame q c r e = let is : record { at = x.flow.next q.at c; own = q.own } ≡ r = cc in subst (λ (z : Point P Words). SameFrame q.own z.own) is (same_frame q.own)

  ahead_frame : (q : Point P Words) (h : Here) (r : Point P Words) → ahead_at x.flow (words_machine x.layout thread) q h ≡ goes r → SameFrame q.own r.own
  ahead_frame q (does place a) r e = acted_frame (x.flow.next q.at true) a q.own (ends_event a) r e
  ahead_frame q (tests place temp) r e = tested_frame q (not (word_at q.own temp == 0)) r e
  ahead_frame q passes r e = let is : record { at = x.flow.next q.at true; own = q.own } ≡ r = cc in subst (λ (z : Point P Words). SameFrame q.own z.own) is (same_frame q.own)
  ahead_frame q round r e = absurd cc
  ahead_frame q (returns temp) r e = absurd cc

  pub steps_frame : (q r : Point P Words) → Steps x.flow (words_machine x.layout thread) q r → SameFrame q.own r.own
  steps_frame q r steps.still = same_frame q.own
  steps_frame q r (more y z before e) = then_frame (steps_frame q y before) (ahead_frame y (x.flow.here y.at) z e)
    where
      then_frame : SameFrame q.own y.own → SameFrame y.own z.own → SameFrame q.own z.own
      then_frame one two = record { function = two.function ∙ one.function; below = two.below ∙ one.below; temps = two.temps ∙ one.temps; slots = two.slots ∙ one.slots }

-- ---- the thread

module _ {P : Type 0} (x : Image P) (p : Ir) (image : IsImage x p) (thread : ℕ) (stack : thread < x.layout.limits.threads) (names : List Name) (w : World) (m : Memory) (world : WorldStands x.layout p names w m) where
  abbrev s : Storage
  s = m.storage

  abbrev is_run : IsRun x.flow (blocks_machine p)
  is_run = runs_are_steps P Own Fault x.flow image.shrinks (blocks_machine p)

  -- where the objects of a call lie
  pub lies : (q : Words) → HasFrame x.layout p q → (function : ℕ) → q.function ≡ function → FrameLies x.layout p thread s.start function q
  lies q frame function same = subst (λ f. FrameLies x.layout p thread s.start f q) same (subst (λ n. FrameLies x.layout p thread n q.function q) (sym world.start) (lies_in_stack x p image q frame thread stack))

  module _ (all : List Name) (later : Blocks) (since : Aged names all w.blocks later) where
    abbrev K : ℕ → Type 0
    K = KnownIn (length w.blocks) (length later)

    -- in a turn the loaded data is known
    there_still : (n : List Name) (l : Own) → Aged names n w.blocks l.blocks → (block address : ℕ) → LiesThere names AnyBlock w.blocks block address → LiesThere n K l.blocks block address
    there_still n l aged block address there = record { known = inl there.made; made = omega (arith, there.made, aged_more names n w.blocks l.blocks aged); at = aged_name names n w.blocks l.blocks aged block there.made ∙ there.at }

    data_still : (n : List Name) (l : Own) → Aged names n w.blocks l.blocks → DataStands x.layout p n K l.blocks
    data_still n l aged = record { globals = λ i below. there_still n l aged _ _ (world.data_stands.globals i below); literals = λ i below. there_still n l aged _ _ (world.data_stands.literals i below) }

    module _ (k : Point P Own) where
      abbrev Top : Point P Words → Type 0
      Top q = CatchesUpInTurn x p thread (length w.blocks) all later s k q

      abbrev FarTo : List Name → Own → Words → Type 0
      FarTo n l q = Far x.layout (length w.blocks) all later n thread l q

      pub sees : (y : Point P Own) (n : List Name) (q : Point P Words) → HasFrame x.layout p q.own → FarTo n y.own q.own → At x p thread n K s y q → Sees n K y.own.blocks
      sees y n q frame far at = sees_in_turn x.layout p thread names all n w.blocks later s y.own q.own world.blocks since at.call far (lies q.own frame y.own.function at.call.function)

      reach_on : (y : Point P Own) (r : Point P Words) → Steps x.flow (blocks_machine p) (in_blocks later k) y → (o : Ahead P Own Fault) → ahead x.flow (blocks_machine p) y ≡ o → FollowsTo x p image thread (length w.blocks) all later s o r → Top r
      reach_on y r path (goes z) e there = comes z there.names (more y z path e) there.far there.stands
      reach_on y r path stops e there = absurd there
      reach_on y r path (breaks f) e there = breaks f (is_run.breaks_only (in_blocks later k) y f path e)

      reach_step : (q r : Point P Words) → HasFrame x.layout p q.own → ahead x.flow (words_machine x.layout thread) q ≡ goes r → Top q → Top r
      reach_step q r frame g (comes y n path far at) =
          reach_on y r path (ahead x.flow (blocks_machine p) y) refl
          (step_to x p image thread (length w.blocks) all later s n y q (sees y n q frame far at) (data_still n y.own (aged_then names all n w.blocks later y.own.blocks since far.aged)) frame far at r g)
      reach_step q r frame g (breaks f e) = breaks f e

      pub reach_steps : (q r : Point P Words) → HasFrame x.layout p q.own → Steps x.flow (words_machine x.layout thread) q r → Top q → Top r
      reach_steps q r frame steps.still top = top
      reach_steps q r frame (more y z before e) top = reach_step y z (frame_on x p q.own y.own (steps_frame x thread q y before) frame) e (reach_steps q y frame before top)

      -- past a Look, or a safepoint: over named blocks nothing is done
      act_on : (y : Point P Own) (n : List Name) (r : Point P Words) (place : ℕ) (a : Act) → source.own_act p place a y.own ≡ Ok y.own → ends_turn a ≡ false → x.flow.here y.at ≡ does place a → Steps x.flow (blocks_machine p) (in_blocks later k) y
          → FarTo n y.own r.own → At x p thread n K s (record { at = x.flow.next y.at true; own = y.own }) r → Top r
      act_on y n r place a own alone here path far at =
          let e : ahead x.flow (blocks_machine p) y ≡ goes (record { at = x.flow.next y.at true; own = y.own })
          = ap (ahead_at x.flow (blocks_machine p) y) here ∙ (ap (λ b. stopped_or b (after_act (x.flow.next y.at true) (source.own_act p place a y.own))) alone ∙ ap (λ o. after_act (x.flow.next y.at true) o) own) in
          comes (record { at = x.flow.next y.at true; own = y.own }) n (more y (record { at = x.flow.next y.at true; own = y.own }) path e) far at

      pub look_on : (q : Point P Words) → HasFrame x.layout p q.own → (place slot base : ℕ) → x.flow.here q.at ≡ does place (look slot base) → Top q → Top (behind x.flow q (machine.looked s q.own slot (word_at q.own base)))
      look_on q frame place slot base e (comes y n path far at) =
          let ok = subst (λ h. is_here (scope_of p frame.func) h ≡ true) e (in_range x p image q.own frame at.way q.at at.path) in
          let both = and_parts (nat_lt slot frame.func.slots) (nat_lt base frame.func.temps) ok in
          let room : slot < length q.own.slots = rw frame.slots (ltb-true slot frame.func.slots both.0) in
          let below : base < length q.own.temps = rw frame.temps (ltb-true base frame.func.temps both.1) in
          let looks = point_looks x p thread n K s y q place slot base at e room below in
          act_on y n (behind x.flow q (machine.looked s q.own slot (word_at q.own base))) place (look slot base) refl refl (ap x.flow.here (sym at.here) ∙ e) path
          (far_words x p image thread (length w.blocks) all later s n y.own y.own q.own (machine.looked s q.own slot (word_at q.own base)) refl refl refl far)
          (subst (λ (z : P). At x p thread n K s (record { at = x.flow.next z true; own = y.own }) (behind x.flow q (machine.looked s q.own slot (word_at q.own base)))) at.here looks)
      look_on q frame place slot base e (breaks f b) = breaks f b

      pub safe_on : (q : Point P Words) (place : ℕ) (slots : List ℕ) → x.flow.here q.at ≡ does place (safepoint slots) → Top q → Top (behind x.flow q q.own)
      safe_on q place slots e (comes y n path far at) =
          let nothing : Goes x p thread None n n K y.own y.own q.own q.own = record { call = at.call; aged = aged_still n y.own.blocks far.aged.each_later; temps = λ base ne. refl; slots = refl; function = refl; as_many = refl } in
          let new = point_acts x p thread n n K s s y q place (safepoint slots) e tt at y.own q.own nothing (call_still x p thread n y.own.blocks y.own.blocks s q) in
          act_on y n (behind x.flow q q.own) place (safepoint slots) refl refl (ap x.flow.here (sym at.here) ∙ e) path far
          (subst (λ (z : P). At x p thread n K s (record { at = x.flow.next z true; own = y.own }) (behind x.flow q q.own)) at.here new)
      safe_on q place slots e (breaks f b) = breaks f b

  module _ (k : Thread P Own) (q : Thread P Words) (stands : ThreadStands x p thread names w.blocks s k q) where
    goes_to : (r : Point P Words) → SameFrame q.top.own r.own → InTurn x p thread names w.blocks s k.top r → ThreadStands x p thread names w.blocks s k (record { top = r; callers = q.callers })
    goes_to r same top = record {
      stack = stands.stack;
      frame = frame_on x p q.top.own r.own same stands.frame;
      top = top;
      callers = subst (λ b. CallersStand x p thread names w.blocks s b.stack k.callers q.callers) (sym same.below) stands.callers;
    }

    pub thread_goes : (r : Point P Words) → Steps x.flow (words_machine x.layout thread) q.top r → ThreadStands x p thread names w.blocks s k (record { top = r; callers = q.callers })
    thread_goes r path = goes_to r (steps_frame x thread q.top r path) (λ all later since. reach_steps all later since k.top q.top r stands.frame path (stands.top all later since))

    pub thread_looks : (place slot base : ℕ) → x.flow.here q.top.at ≡ does place (look slot base)
        → ThreadStands x p thread names w.blocks s k (record { top = behind x.flow q.top (machine.looked s q.top.own slot (word_at q.top.own base)); callers = q.callers })
    thread_looks place slot base e = goes_to (behind x.flow q.top (machine.looked s q.top.own slot (word_at q.top.own base))) (record { function = refl; below = refl; temps = refl; slots = length-set q.top.own.slots slot _ })
        (λ all later since. look_on all later since k.top q.top stands.frame place slot base e (stands.top all later since))

    pub thread_safe : (place : ℕ) (slots : List ℕ) → x.flow.here q.top.at ≡ does place (safepoint slots) → ThreadStands x p thread names w.blocks s k (record { top = behind x.flow q.top q.top.own; callers = q.callers })
    thread_safe place slots e = goes_to (behind x.flow q.top q.top.own) (same_frame q.top.own) (λ all later since. safe_on all later since k.top q.top place slots e (stands.top all later since))
