-- A step is done: its thread stands behind it, at the start of its next turn.
use Rattle.std.proofs.Common.{◌≡◌, ℕ, ◌+◌, ◌<◌, ◌≤◌, List, [], ◌∷◌, ◌++◌, length, true, false, Option, Some, None, refl, sym, ap, subst, ◌∙◌, arith, inl, inr, length-set}
use Rattle.std.proofs.lemmas.Bool.{cases_lt}
use Rattle.block_store.specs.declared.values.Value.{Value}
use Rattle.block_store.specs.Blocks.{Blocks}
use Rattle.block_store.specs.Actions as actions
use Rattle.block_store.specs.Actions.{World, with_blocks}
use Rattle.c_tree.specs.TypedForm.{taken}
use Rattle.struct_ir.specs.Nodes.{Step, step, own_list, Ir}
use Rattle.struct_ir.specs.Flow.{does}
use Rattle.struct_ir.specs.Machine.{Point}
use Rattle.struct_ir.specs.Threads.{Outcome, went, ended, blocked, broke, unfit, served}
use Rattle.struct_ir.specs.Pins.{looked, lacks, lacks_if, listing, passing, facts}
use Rattle.struct_ir.specs.meaning.Blocks as blocks
use Rattle.struct_ir.specs.meaning.Blocks.{value, Own}
use Rattle.struct_ir.specs.meaning.Threads as source
use Rattle.flat_meaning.specs.Image.{Layout, Image, stack_address, objects_bytes}
use Rattle.flat_meaning.specs.Words.{Words}
use Rattle.flat_meaning.specs.Words as words
use Rattle.flat_meaning.specs.Memory.{Memory}
use Rattle.flat_meaning.specs.Accesses as flat
use Rattle.flat_meaning.specs.Machine as machine
use Rattle.flat_meaning.specs.Effects.{landing}
use Rattle.flat_meaning.specs.Names.{Name, ids_in}
use Rattle.flat_simulation.specs.inner.Aged.{Aged}
use Rattle.flat_simulation.specs.inner.Values.{AnyBlock}
use Rattle.flat_simulation.specs.inner.Calls.{CallStands}
use Rattle.flat_simulation.specs.inner.Turns.{IsClear}
use Rattle.flat_simulation.specs.inner.Lags.{StandsIn, IsAside, KeepCalls}
use Rattle.flat_simulation.specs.inner.Programs.{IsImage, HasFrame}
use Rattle.flat_simulation.specs.inner.Worlds.{WorldStands, Acted, TurnEnded, GivenAlike, DoneAlike}
use Rattle.flat_simulation.specs.inner.Threads.{CallersStand, Fresh, StageStands, TurnsAlike}
use Rattle.flat_simulation.proofs.Acts.{taken_stands}
use Rattle.flat_simulation.proofs.Blocks.{aged_then, aged_name}
use Rattle.flat_simulation.proofs.Facts.{listed_fact, assigned_fact}
use Rattle.flat_simulation.proofs.Later.{clear_on, calls_kept, callers_later, fresh_thread}
use Rattle.flat_simulation.proofs.Objects.{set_other, call_later}
use Rattle.flat_simulation.proofs.Points.{Goes, point_acts, acts_way}

-- ---- an action within a turn

-- what an action made is no object of a stack
pub acted_ends : (y : Layout) (p : Ir) (thread : ℕ) (names all : List Name) (given : List ℕ) (w later : World) (m now : Memory) → Acted y p names all given w later m now → TurnEnded y p thread names all given w later m now
acted_ends y p thread names all given w later m now a = record { aged = a.aged; world = a.world; keeps = a.keeps; ids = a.ids; inside = λ n b c ge e at. absurd (a.heap n b c ge e at); born = a.born }

-- a turn that has come to its stop, and what it then does
pub ended_then : (y : Layout) (p : Ir) (thread : ℕ) (names n all : List Name) (given : List ℕ) (w later : World) (bs : Blocks) (m now : Memory) → TurnEnded y p thread names n [] w (with_blocks w bs) m m → TurnEnded y p thread n all given (with_blocks w bs) later m now
    → TurnEnded y p thread names all given w later m now
ended_then y p thread names n all given w later bs m now one two = record {
  aged = aged_then names n all w.blocks bs later.blocks one.aged two.aged;
  world = two.world;
  keeps = λ k o b below lives within. two.keeps k o b (let more = one.aged.ages.more in omega (arith, below, more)) lives within;
  ids = two.ids ∙ ap (λ z. z ++ given) (one.ids ∙ nothing (ids_in names));
  inside = λ k a b ge e at. elim (cases_lt k (length bs)) [
    | inl lt ↦
        let c = two.aged.ages.lives k b lt e in
        let size = ap taken c.3 in
        let there = one.inside k a c.0 ge c.1 (sym (aged_name n all bs later.blocks two.aged k lt) ∙ at) in
        (there.0, omega (arith, there.1, size))
    | inr le ↦ two.inside k a b le e at
  ];
  born = elim two.born [ inl e ↦ inl e | inr b ↦ inr (record { born = b.born; last = b.last; func = b.func; there = b.there; stack = b.stack }) ];
}
  where
    nothing : (xs : List ℕ) → xs ++ [] ≡ xs
    nothing [] = refl
    nothing (z ∷ xs) = ap (λ y. z ∷ y) (nothing xs)

-- so is what comes of it alike, told from the turn's start
pub alike_then : {P : Type 0} (x : Image P) (p : Ir) (thread : ℕ) (names n : List Name) (given : List ℕ) (list : Option (List ℕ)) (w : World) (bs : Blocks) (m : Memory) → TurnEnded x.layout p thread names n [] w (with_blocks w bs) m m
    → (o : Outcome P Own blocks.Fault World) (r : Outcome P Words flat.Fault Memory) → TurnsAlike x p thread n given list (with_blocks w bs) m o r → TurnsAlike x p thread names given list w m o r
alike_then x p thread names n given list w bs m one (went k later) (went q now) a = (a.0, ended_then x.layout p thread names n a.0 given w later bs m now one a.1, a.2)
alike_then x p thread names n given list w bs m one (went k later) (ended l now) a = absurd a
alike_then x p thread names n given list w bs m one (went k later) blocked a = absurd a
alike_then x p thread names n given list w bs m one (went k later) (broke flat.output_limit) a = a
alike_then x p thread names n given list w bs m one (went k later) (broke (flat.trap word kind)) a = absurd a
alike_then x p thread names n given list w bs m one (went k later) unfit a = absurd a
alike_then x p thread names n given list w bs m one (ended l later) (ended r now) a = (a.0, ended_then x.layout p thread names n a.0 given w later bs m now one a.1)
alike_then x p thread names n given list w bs m one (ended l later) (went q now) a = absurd a
alike_then x p thread names n given list w bs m one (ended l later) blocked a = absurd a
alike_then x p thread names n given list w bs m one (ended l later) (broke f) a = absurd a
alike_then x p thread names n given list w bs m one (ended l later) unfit a = absurd a
alike_then x p thread names n given list w bs m one blocked blocked a = tt
alike_then x p thread names n given list w bs m one blocked (went q now) a = absurd a
alike_then x p thread names n given list w bs m one blocked (ended l now) a = absurd a
alike_then x p thread names n given list w bs m one blocked (broke f) a = absurd a
alike_then x p thread names n given list w bs m one blocked unfit a = absurd a
alike_then x p thread names n given list w bs m one (broke f) r a = tt
alike_then x p thread names n given list w bs m one unfit r a = absurd a

-- ---- the registers behind a step

-- over named blocks
abbrev after_ : Own → Option ℕ → Option Value → Own
after_ l to v = blocks.with_temps l (source.set_if l.temps to v)

-- and over words
abbrev word_after : Words → Option ℕ → Option ℕ → Words
word_after q to None = q
word_after q to (Some word) = words.with_temps q (words.set_if q.temps to word)

module _ {P : Type 0} (x : Image P) (p : Ir) (thread : ℕ) (names all : List Name) (old later : Blocks) (aged : Aged names all old later) where
  seen_later : (l : Own) (q : Words) → l.blocks ≡ old → CallStands x.layout p thread names AnyBlock l q → CallStands x.layout p thread all AnyBlock (blocks.with_blocks l later) q
  seen_later l q same stand = call_later names all old later aged AnyBlock AnyBlock (λ n lt kn. tt) x.layout p thread l q same stand

  abbrev GoesTo_ : Option ℕ → Own → Own → Words → Words → Type 0
  GoesTo_ to l r q after = Goes x p thread to names all AnyBlock l r q after

  goes_same : (to : Option ℕ) (l r : Own) (q : Words) → l.blocks ≡ old → r.blocks ≡ later → r.temps ≡ l.temps → CallStands x.layout p thread all AnyBlock r q → GoesTo_ to l r q q
  goes_same to l r q same new temps stand = record {
    call = stand;
    aged = rw (same, new) aged;
    temps = λ base ne. ap (λ f. f base) temps;
    slots = refl;
    function = refl;
    as_many = refl;
  }

  pub goes_behind : (to : Option ℕ) (l : Own) (q : Words) (v : Option Value) (word : Option ℕ) → l.blocks ≡ old → CallStands x.layout p thread names AnyBlock l q → GivenAlike all later v word → GoesTo_ to l (blocks.with_blocks (after_ l to v) later) q (word_after q to word)
  goes_behind None l q None None same stand alike = goes_same None l (blocks.with_blocks l later) q same refl refl (seen_later l q same stand)
  goes_behind (Some to) l q None None same stand alike = goes_same (Some to) l (blocks.with_blocks l later) q same refl refl (seen_later l q same stand)
  goes_behind to l q None (Some word) same stand alike = absurd alike
  goes_behind to l q (Some v) None same stand alike = absurd alike
  goes_behind None l q (Some v) (Some word) same stand alike = goes_same None l (blocks.with_blocks l later) q same refl refl (seen_later l q same stand)
  goes_behind (Some to) l q (Some v) (Some word) same stand alike = record {
    call = taken_stands x.layout p thread all AnyBlock (blocks.with_blocks l later) q (seen_later l q same stand) to (value v) word alike;
    aged = rw same aged;
    temps = λ base ne. set_other l.temps to (value v) base ne;
    slots = refl;
    function = refl;
    as_many = length-set q.temps to word;
  }

-- ---- behind a step

module _ {P : Type 0} (x : Image P) (p : Ir) (image : IsImage x p) (thread : ℕ) (stack : thread < x.layout.limits.threads) (n : List Name) (w0 : World) (m : Memory) (l : Own) (world : WorldStands x.layout p n (with_blocks w0 l.blocks) m) (k : P) (q : Words) (ks : List (Point P Own)) (qs : List (Point P Words))
    (stands : StandsIn x p thread n AnyBlock m.storage (record { at = k; own = l }) (record { at = k; own = q })) (frame : HasFrame x.layout p q)
    (clear : IsClear n AnyBlock l.blocks (stack_address x.layout thread + q.below.stack) (stack_address x.layout thread + x.layout.limits.stack) l.objects) (under : CallersStand x p thread n l.blocks m.storage q.below.stack ks qs) (place : ℕ) (st : Step)
    (here : x.flow.here k ≡ does place (step st)) where
  abbrev w : World
  w = with_blocks w0 l.blocks

  -- what is intact behind a list is in it
  in_list : (list : List ℕ) → own_list st ≡ Some list → (slot base : ℕ) → facts x.flow slot (k ∷ stands.way) ≡ looked base false false → lacks slot list ≡ false
  in_list list e slot base f =
      let g = assigned_fact st.to (listing (lacks_if slot (own_list st)) (facts x.flow slot stands.way)) base (subst (λ h. passing slot h (facts x.flow slot stands.way) ≡ looked base false false) here f) in
      subst (λ o. lacks_if slot o ≡ false) e (listed_fact (lacks_if slot (own_list st)) (facts x.flow slot stands.way) base g.1).0

  lands : (all : List Name) (later : World) (now : Memory) (r : Own) (after : Words) (each : length all ≡ length later.blocks)
      (fresh : Fresh x p thread all later.blocks now.storage (record { top = record { at = x.flow.next k true; own = r }; callers = ks }) (record { top = record { at = x.flow.next k true; own = after }; callers = qs })) → fresh.top.way ≡ k ∷ stands.way
      → (list : Option (List ℕ)) → own_list st ≡ list
      → StageStands x p thread all later.blocks now.storage (Some (record { top = record { at = x.flow.next k true; own = r }; callers = ks })) (Some (landing list (record { top = record { at = x.flow.next k true; own = after }; callers = qs })))
  lands all later now r after each fresh way None e = fresh_thread x p thread all later.blocks now.storage _ _ each fresh
  lands all later now r after each fresh way (Some list) e = record {
    fresh = fresh;
    listed = λ slot base f. in_list list e slot base (subst (λ (v : List P). facts x.flow slot v ≡ looked base false false) way f);
  }

  went_on : (given : List ℕ) (v : Option Value) (later : World) (word : Option ℕ) (now : Memory) (all : List Name) → Acted x.layout p n all given w later m now → GivenAlike all later.blocks v word
      → TurnsAlike x p thread n given (own_list st) w m (went (record { top = record { at = x.flow.next k true; own = after_ l st.to v }; callers = ks }) later) (went (record { top = record { at = x.flow.next k true; own = word_after q st.to word }; callers = qs }) now)
  went_on given v later word now all a alike =
      let r : Own = blocks.with_blocks (after_ l st.to v) later.blocks in
      let after : Words = word_after q st.to word in
      let goes : Goes x p thread st.to n all AnyBlock l r q after = goes_behind x p thread n all l.blocks later.blocks a.aged st.to l q v word refl stands.call alike in
      let keeps = calls_kept x.flow all l.blocks later.blocks m.storage now.storage a.keeps (record { at = k; own = q } ∷ qs) in
      let aside : (low high : ℕ) → IsAside all l.blocks later.blocks low high = λ low high b c e ge v at. absurd (a.heap b c e ge v at) in
      let top : StandsIn x p thread all AnyBlock now.storage (record { at = x.flow.next k true; own = r }) (record { at = x.flow.next k true; own = after })
      = point_acts x p thread n all AnyBlock m.storage now.storage (record { at = k; own = l }) (record { at = k; own = q }) place (step st) here tt stands r after goes keeps.0 in
      let fresh : Fresh x p thread all later.blocks now.storage (record { top = record { at = x.flow.next k true; own = after_ l st.to v }; callers = ks }) (record { top = record { at = x.flow.next k true; own = after }; callers = qs }) = record {
        stack = stack;
        frame = record { func = frame.func; there = rw goes.function frame.there; temps = goes.as_many ∙ frame.temps; slots = ap (λ z. length z) goes.slots ∙ frame.slots; room = its_room word };
        top = top;
        clear = its_clear word all later a (aside (stack_address x.layout thread) (stack_address x.layout thread + x.layout.limits.stack));
        callers = its_callers word all later now a (aside (stack_address x.layout thread) (stack_address x.layout thread + q.below.stack)) keeps.1;
      } in (
        all,
        acted_ends x.layout p thread n all given w later m now a,
        lands all later now (after_ l st.to v) after a.aged.each_later fresh (acts_way x p thread n all AnyBlock m.storage now.storage (record { at = k; own = l }) (record { at = k; own = q }) place (step st) here tt stands r after goes keeps.0) (own_list st) refl,
      )
    where
      its_room : (word : Option ℕ) → (word_after q st.to word).below.stack + objects_bytes frame.func.objects ≤ x.layout.limits.stack
      its_room None = frame.room
      its_room (Some word) = frame.room

      its_clear : (word : Option ℕ) (all : List Name) (later : World) → Acted x.layout p n all given w later m now → IsAside all l.blocks later.blocks (stack_address x.layout thread) (stack_address x.layout thread + x.layout.limits.stack)
          → IsClear all AnyBlock later.blocks (stack_address x.layout thread + (word_after q st.to word).below.stack) (stack_address x.layout thread + x.layout.limits.stack) l.objects
      its_clear None all later a aside = clear_on n all AnyBlock AnyBlock l.blocks later.blocks _ _ _ _ l.objects a.aged (λ b lt kn. tt) aside (omega arith) (omega arith) clear
      its_clear (Some word) all later a aside = clear_on n all AnyBlock AnyBlock l.blocks later.blocks _ _ _ _ l.objects a.aged (λ b lt kn. tt) aside (omega arith) (omega arith) clear

      its_callers : (word : Option ℕ) (all : List Name) (later : World) (now : Memory) → Acted x.layout p n all given w later m now → IsAside all l.blocks later.blocks (stack_address x.layout thread) (stack_address x.layout thread + q.below.stack)
          → KeepCalls x.flow all l.blocks later.blocks m.storage now.storage qs → CallersStand x p thread all later.blocks now.storage (word_after q st.to word).below.stack ks qs
      its_callers None all later now a aside keeps = callers_later x p thread n all l.blocks later.blocks m.storage now.storage a.aged q.below.stack ks qs aside keeps under
      its_callers (Some word) all later now a aside keeps = callers_later x p thread n all l.blocks later.blocks m.storage now.storage a.aged q.below.stack ks qs aside keeps under

  -- what comes of the action on both sides
  pub step_lands : (given : List ℕ) (d : actions.Done) (e : flat.Done) → DoneAlike x.layout p n given w m d e
      → TurnsAlike x p thread n given (own_list st) w m (served x.flow (record { top = record { at = k; own = l }; callers = ks }) (source.served_by place l st.to d)) (served x.flow (record { top = record { at = k; own = q }; callers = qs }) (machine.served_by q st.to e))
  step_lands given (actions.went v later) (flat.went None now) alike = went_on given v later None now alike.0 alike.1 alike.2
  step_lands given (actions.went v later) (flat.went (Some word) now) alike = went_on given v later (Some word) now alike.0 alike.1 alike.2
  step_lands given (actions.went v later) flat.waits alike = absurd alike
  step_lands given (actions.went v later) flat.unfit alike = absurd alike
  step_lands given (actions.went v later) (flat.over flat.output_limit) alike = alike
  step_lands given (actions.went v later) (flat.over (flat.trap word kind)) alike = absurd alike
  step_lands given actions.blocked flat.waits alike = tt
  step_lands given actions.blocked (flat.went word now) alike = absurd alike
  step_lands given actions.blocked flat.unfit alike = absurd alike
  step_lands given actions.blocked (flat.over f) alike = absurd alike
  step_lands given actions.unfit e alike = absurd alike
  step_lands given (actions.broke rule) e alike = tt
