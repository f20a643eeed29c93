-- One step of a thread over words alone, within a turn: over named blocks its thread takes it too, or breaks a rule.
use Rattle.std.proofs.Common.{◌≡◌, ℕ, ◌<◌, List, length, Bool, true, false, Result, Ok, Err, refl, sym, ap, subst, length-set}
use Rattle.std.specs.Prelude.{nat_lt, not, ◌==◌}
use Rattle.std.proofs.lemmas.Bool.{ltb-true, and_parts}
use Rattle.block_store.specs.Blocks.{Blocks}
use Rattle.arena_meaning.specs.Arena.{Storage}
use Rattle.struct_ir.specs.Nodes.{Calc, Act, set, call, step, look, safepoint, begin_object, end_object, assigned_by, Ir}
use Rattle.struct_ir.specs.Flow.{Here, does, tests, passes, round, returns}
use Rattle.struct_ir.specs.Machine.{Point, Ahead, goes, stops, breaks, after_act, tested, stopped_or, ahead_at, ahead}
use Rattle.struct_ir.specs.Valid.{scope_of, is_calc}
use Rattle.struct_ir.specs.ValidCode.{is_here}
use Rattle.struct_ir.specs.meaning.Blocks as source
use Rattle.struct_ir.specs.meaning.Blocks.{Fault, Own, calculated, assigned, begun, object_ended, known, on_value, way_of, ends_turn, blocks_machine}
use Rattle.flat_meaning.specs.Image.{Image}
use Rattle.flat_meaning.specs.Words.{Words, word_at}
use Rattle.flat_meaning.specs.Words as words
use Rattle.flat_meaning.specs.Accesses as flat
use Rattle.flat_meaning.specs.Machine as machine
use Rattle.flat_meaning.specs.Machine.{ends_event, words_machine}
use Rattle.flat_meaning.specs.Names.{Name}
use Rattle.flat_simulation.specs.inner.Aged.{Aged}
use Rattle.flat_simulation.specs.inner.Values.{KnownIn, Sees}
use Rattle.flat_simulation.specs.inner.Calls.{objects_in, DataStands}
use Rattle.flat_simulation.specs.inner.Turns.{Far}
use Rattle.flat_simulation.specs.inner.Lags.{StandsIn}
use Rattle.flat_simulation.specs.inner.Programs.{IsImage, HasFrame}
use Rattle.flat_simulation.proofs.Acts.{was_assigned, set_stands, test_stands}
use Rattle.flat_simulation.proofs.Blocks.{aged_still}
use Rattle.flat_simulation.proofs.Objects.{set_other, object_begun_stands, object_ended_stands}
use Rattle.flat_simulation.proofs.Points.{NoLook, Goes, IsSilent, call_still, point_acts, point_silent}
use Rattle.flat_simulation.proofs.Programs.{its_objects, in_range}

-- where the thread over words goes on, the other does, and it is no Look
pub goes_too : (a : Act) → ends_event a ≡ false → (ends_turn a ≡ false) × NoLook a
goes_too (set to calc) e = (refl, tt)
goes_too (call c) e = absurd cc
goes_too (step s) e = absurd cc
goes_too (look slot base) e = absurd cc
goes_too (safepoint slots) e = absurd cc
goes_too (begin_object i) e = (refl, tt)
goes_too (end_object i) e = (refl, tt)

module _ {P : Type 0} (x : Image P) (p : Ir) (image : IsImage x p) (thread before : ℕ) (first : List Name) (blocks : Blocks) (s : Storage) where
  abbrev K : ℕ → Type 0
  K = KnownIn before (length blocks)

  abbrev pub FarTo : List Name → Own → Words → Type 0
  FarTo names l q = Far x.layout before first blocks names thread l q

  -- what a turn did so far says nothing of registers and slots
  pub far_words : (names : List Name) (l later : Own) (q r : Words) → later.blocks ≡ l.blocks → later.objects ≡ l.objects → r.below.stack ≡ q.below.stack → FarTo names l q → FarTo names later r
  far_words names l later q r same objects stack far =
      rw (same, objects, stack) (record { aged = far.aged; ids = far.ids; kept = far.kept; unwritten = far.unwritten; heaps = far.heaps; begun = far.begun; clear = far.clear })

  -- both stand there
  pub record There (k : Point P Own) (q : Point P Words) : Type 0 where
    pub names : List Name
    pub far : FarTo names k.own q.own
    pub stands : StandsIn x p thread names K s k q

  abbrev pub FollowsTo : Ahead P Own Fault → Point P Words → Type 0
  FollowsTo (goes k) r = There k r
  FollowsTo stops r = ⊥
  FollowsTo (breaks f) r = Unit {0}

  module _ (names : List Name) (k : Point P Own) (q : Point P Words) (sees : Sees names K k.own.blocks) (data_stands : DataStands x.layout p names K k.own.blocks) (frame : HasFrame x.layout p q.own) (far : FarTo names k.own q.own)
      (at : StandsIn x p thread names K s k q) where
    -- what an act does within a turn
    record Does (a : Act) (later : Own) (r : Words) : Type 0 where
      pub all : List Name
      pub goes : Goes x p thread (assigned_by a) names all K k.own later q.own r
      pub so_far : FarTo all later r

    does_set : (place to : ℕ) (calc : Calc) (later : Own) → is_here (scope_of p frame.func) (does place (set to calc)) ≡ true → x.flow.here q.at ≡ does place (set to calc) → assigned k.own to (calculated p place k.own calc) ≡ Ok later
        → Does (set to calc) later (machine.own_act x.layout thread (set to calc) q.own)
    does_set place to calc later ok e done =
        let valid = and_parts (nat_lt to frame.func.temps) (is_calc (scope_of p frame.func) calc) ok in
        let h = was_assigned x.layout p thread names K k.own q.own at.call (scope_of p frame.func) place sees data_stands frame.temps refl refl to (calculated p place k.own calc) later done in
        let new = set_stands x.layout p thread names K k.own q.own at.call (scope_of p frame.func) place sees data_stands frame.temps refl refl to calc later valid.1 done in
        record {
          all = names;
          goes = record {
            call = new;
            aged = subst (λ (l : Own). Aged names names k.own.blocks l.blocks) h.2 (aged_still names k.own.blocks far.aged.each_later);
            temps = λ base ne. subst (λ (l : Own). l.temps base ≡ k.own.temps base) h.2 (set_other k.own.temps to h.0 base ne);
            slots = refl;
            function = refl;
            as_many = length-set q.own.temps to (words.calculated x.layout thread q.own calc);
          };
          so_far = far_words names k.own later q.own (machine.own_act x.layout thread (set to calc) q.own) (ap (λ (l : Own). l.blocks) (sym h.2)) (ap (λ (l : Own). l.objects) (sym h.2)) refl far;
        }

    does_begin : (place i : ℕ) → is_here (scope_of p frame.func) (does place (begin_object i)) ≡ true → Does (begin_object i) (begun p k.own i) q.own
    does_begin place i ok =
        let within : i < length (objects_in p q.own.function) = subst (λ os. i < length os) (sym (its_objects x p image q.own frame)) (ltb-true i (length frame.func.objects) ok) in
        let w = object_begun_stands x.layout p before first blocks thread names k.own q.own at.call far i (subst (λ f. i < length (objects_in p f)) at.call.function within) in
        record { all = _; goes = record { call = w.call; aged = w.aged; temps = λ base ne. refl; slots = refl; function = refl; as_many = refl }; so_far = w.far }

    does_end : (i : ℕ) → Does (end_object i) (object_ended k.own i) q.own
    does_end i =
        let w = object_ended_stands x.layout p before first blocks thread names k.own q.own at.call far i in
        record { all = names; goes = record { call = w.call; aged = w.aged; temps = λ base ne. refl; slots = refl; function = refl; as_many = refl }; so_far = w.far }

    does_act : (place : ℕ) (a : Act) → ends_event a ≡ false → is_here (scope_of p frame.func) (does place a) ≡ true → x.flow.here q.at ≡ does place a → (later : Own) → source.own_act p place a k.own ≡ Ok later → Does a later (machine.own_act x.layout thread a q.own)
    does_act place (set to calc) alone ok e later done = does_set place to calc later ok e done
    does_act place (begin_object i) alone ok e later done = let is : begun p k.own i ≡ later = cc in subst (λ l. Does (begin_object i) l q.own) is (does_begin place i ok)
    does_act place (end_object i) alone ok e later done = let is : object_ended k.own i ≡ later = cc in subst (λ l. Does (end_object i) l q.own) is (does_end i)
    does_act place (call c) alone ok e later done = absurd cc
    does_act place (step st) alone ok e later done = absurd cc
    does_act place (look slot base) alone ok e later done = absurd cc
    does_act place (safepoint slots) alone ok e later done = absurd cc

    acts_to : (r : Point P Words) (place : ℕ) (a : Act) → x.flow.here q.at ≡ does place a → ends_event a ≡ false → is_here (scope_of p frame.func) (does place a) ≡ true → (o : Result Own Fault) → source.own_act p place a k.own ≡ o
        → record { at = x.flow.next q.at true; own = machine.own_act x.layout thread a q.own } ≡ r → FollowsTo (after_act (x.flow.next q.at true) o) r
    acts_to r place a e alone ok (Err f) done there = tt
    acts_to r place a e alone ok (Ok later) done there =
        let d = does_act place a alone ok e later done in
        subst (λ (z : Point P Words). There (record { at = x.flow.next q.at true; own = later }) z) there
        (record { names = d.all; far = d.so_far; stands = point_acts x p thread names d.all K s s k q place a e (goes_too a alone).1 at later (machine.own_act x.layout thread a q.own) d.goes (call_still x p thread d.all k.own.blocks later.blocks s q) })

    silent_to : (c : Bool) → IsSilent x p thread (x.flow.here q.at) → There (record { at = x.flow.next q.at c; own = k.own }) (record { at = x.flow.next q.at c; own = q.own })
    silent_to c i = record { names = names; far = far; stands = point_silent x p thread names K s k q c i at }

    tests_to : (r : Point P Words) (place temp : ℕ) → x.flow.here q.at ≡ tests place temp → is_here (scope_of p frame.func) (tests place temp) ≡ true → (o : Result Bool Fault) → on_value (known place (k.own.temps temp)) (way_of place k.own) ≡ o
        → tested {F = flat.Fault} x.flow q (Ok (not (word_at q.own temp == 0))) ≡ goes r → FollowsTo (tested x.flow (record { at = q.at; own = k.own }) o) r
    tests_to r place temp e ok (Err f) way g = tt
    tests_to r place temp e ok (Ok c) way g =
        let same : not (word_at q.own temp == 0) ≡ c = test_stands x.layout p thread names K k.own q.own at.call (scope_of p frame.func) place sees data_stands frame.temps refl refl temp c ok way in
        let there : record { at = x.flow.next q.at c; own = q.own } ≡ r = cc in
        subst (λ (z : Point P Words). There (record { at = x.flow.next q.at c; own = k.own }) z) there (silent_to c (subst (IsSilent x p thread) (sym e) tt))

    here_to : (r : Point P Words) (h : Here) → x.flow.here q.at ≡ h → is_here (scope_of p frame.func) h ≡ true → ahead_at x.flow (words_machine x.layout thread) q h ≡ goes r → FollowsTo (ahead_at x.flow (blocks_machine p) (record { at = q.at; own = k.own }) h) r
    here_to r (does place a) e ok g = stopped (ends_event a) refl g
      where
        stopped : (b : Bool) → ends_event a ≡ b → stopped_or b (after_act {F = flat.Fault} (x.flow.next q.at true) (Ok (machine.own_act x.layout thread a q.own))) ≡ goes r
            → FollowsTo (stopped_or (ends_turn a) (after_act (x.flow.next q.at true) (source.own_act p place a k.own))) r
        stopped true alone g = absurd cc
        stopped false alone g =
            let too = goes_too a alone in
            let there : record { at = x.flow.next q.at true; own = machine.own_act x.layout thread a q.own } ≡ r = cc in
            subst (λ b. FollowsTo (stopped_or b (after_act (x.flow.next q.at true) (source.own_act p place a k.own))) r) (sym too.0)
            (acts_to r place a e alone ok (source.own_act p place a k.own) refl there)
    here_to r (tests place temp) e ok g = tests_to r place temp e ok _ refl g
    here_to r passes e ok g =
        let there : record { at = x.flow.next q.at true; own = q.own } ≡ r = cc in
        subst (λ (z : Point P Words). There (record { at = x.flow.next q.at true; own = k.own }) z) there (silent_to true (subst (IsSilent x p thread) (sym e) tt))
    here_to r round e ok g = absurd cc
    here_to r (returns temp) e ok g = absurd cc

    pub step_to : (r : Point P Words) → ahead x.flow (words_machine x.layout thread) q ≡ goes r → FollowsTo (ahead x.flow (blocks_machine p) k) r
    step_to r g =
        subst (λ (z : P). FollowsTo (ahead_at x.flow (blocks_machine p) (record { at = z; own = k.own }) (x.flow.here z)) r) at.here (here_to r (x.flow.here q.at) refl (in_range x p image q.own frame at.way q.at at.path) g)
