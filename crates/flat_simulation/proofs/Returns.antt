-- A turn ends where a call is left: its objects end, and the caller goes on behind its call.
use Rattle.std.proofs.Common.{◌≡◌, ◌≢◌, ℕ, zero, suc, ◌+◌, ◌<◌, List, [], ◌∷◌, length, true, Option, Some, None, refl, sym, ap, subst, ◌∙◌, arith, inl, inr, length-set}
use Rattle.std.specs.Prelude.{slice_get}
use Rattle.std.proofs.lemmas.Bool.{cases_lt, cases_eq, ltb-true}
use Rattle.block_store.specs.Blocks.{Blocks}
use Rattle.block_store.specs.Actions.{World, with_blocks}
use Rattle.arena_meaning.specs.Arena.{Storage}
use Rattle.struct_ir.specs.Nodes.{Call, call, set, step, look, safepoint, begin_object, end_object, Ir}
use Rattle.struct_ir.specs.Flow.{Here, does, tests, passes, round, returns, IsCall}
use Rattle.struct_ir.specs.Machine.{Point}
use Rattle.struct_ir.specs.Threads.{went, behind, result_to}
use Rattle.struct_ir.specs.Valid.{is_below_if}
use Rattle.struct_ir.specs.meaning.Blocks as blocks
use Rattle.struct_ir.specs.meaning.Blocks.{Held, Own, set_at, objects_of, object_ended, all_ended}
use Rattle.struct_ir.specs.meaning.Threads as source
use Rattle.struct_ir.specs.meaning.Threads.{over, given, set_given}
use Rattle.flat_meaning.specs.Image.{Layout, Image, stack_address}
use Rattle.flat_meaning.specs.Words.{Words, word_at, set_if}
use Rattle.flat_meaning.specs.Words as words
use Rattle.flat_meaning.specs.Memory.{Memory}
use Rattle.flat_meaning.specs.Machine as machine
use Rattle.flat_meaning.specs.Names.{Name}
use Rattle.flat_meaning.specs.Stands.{in_blocks}
use Rattle.flat_simulation.specs.inner.Values.{AnyBlock, KnownIn, Stands}
use Rattle.flat_simulation.specs.inner.Calls.{objects_in, CallStands}
use Rattle.flat_simulation.specs.inner.Turns.{IsClear, Far}
use Rattle.flat_simulation.specs.inner.Lags.{StandsIn}
use Rattle.flat_simulation.specs.inner.Programs.{IsImage, HasFrame}
use Rattle.flat_simulation.specs.inner.Worlds.{WorldStands}
use Rattle.flat_simulation.specs.inner.Threads.{CallerStands, CallersStand, Fresh, TurnsAlike}
use Rattle.flat_simulation.proofs.Acts.{taken_stands}
use Rattle.flat_simulation.proofs.Blocks.{aged_still}
use Rattle.flat_simulation.proofs.Facts.{IsOther}
use Rattle.flat_simulation.proofs.Later.{fresh_thread}
use Rattle.flat_simulation.proofs.Objects.{set_same, set_other, object_ended_stands}
use Rattle.flat_simulation.proofs.Points.{Goes, call_still, point_acts}
use Rattle.flat_simulation.proofs.Settled.{settled, settled_call, settled_clear, settled_callers}

-- ---- the objects of a call end

module _ (y : Layout) (p : Ir) (before : ℕ) (first : List Name) (start : Blocks) (thread : ℕ) (names : List Name) (q : Words) where
  -- the first of them have
  pub record HaveEnded (l later : Own) (count : ℕ) : Type 0 where
    pub call : CallStands y p thread names (KnownIn before (length start)) later q
    pub far : Far y before first start names thread later q
    pub temps : later.temps ≡ l.temps
    pub none : (i : ℕ) → i < count → later.objects i ≡ None

  pub objects_end : (l : Own) → CallStands y p thread names (KnownIn before (length start)) l q → Far y before first start names thread l q → (count : ℕ) → HaveEnded l (all_ended l count) count
  objects_end l stand far zero = record { call = stand; far = far; temps = refl; none = λ i lt. absurd (omega (arith, lt)) }
  objects_end l stand far (suc count) = one_more (objects_end l stand far count)
    where
      one_more : HaveEnded l (all_ended l count) count → HaveEnded l (object_ended (all_ended l count) count) (suc count)
      one_more h =
          let w = object_ended_stands y p before first start thread names (all_ended l count) q h.call h.far count in
          record {
            call = w.call;
            far = w.far;
            temps = h.temps;
            none = λ i lt. elim (cases_eq i count) [
              | inl same ↦ ap (set_at (all_ended l count).objects count None) same ∙ set_same (all_ended l count).objects count None
              | inr ne ↦ set_other (all_ended l count).objects count None i ne ∙ h.none i (smaller i lt ne)
            ];
          }
        where
          smaller : (i : ℕ) → i < suc count → i ≢ count → i < count
          smaller i lt ne = elim (cases_lt i count) [ inl less ↦ less | inr ge ↦ absurd (ne (omega (arith, lt, ge))) ]

-- ---- the caller

-- a call stands there
pub call_is : (h : Here) → IsCall h → (place : ℕ) × (c : Call) × (h ≡ does place (call c))
call_is (does place (call c)) i = (place, c, refl)
call_is (does place (set to calc)) i = absurd cc
call_is (does place (step s)) i = absurd cc
call_is (does place (look slot base)) i = absurd cc
call_is (does place (safepoint slots)) i = absurd cc
call_is (does place (begin_object i)) j = absurd cc
call_is (does place (end_object i)) j = absurd cc
call_is (tests place temp) i = absurd i
call_is passes i = absurd i
call_is round i = absurd i
call_is (returns temp) i = absurd i

module _ {P : Type 0} (x : Image P) (p : Ir) (thread : ℕ) (names : List Name) where
  -- it takes what its call gives
  taken_given : (c : Own) (d : Words) → CallStands x.layout p thread names AnyBlock c d → (to : Option ℕ) (h : Held) (word : ℕ) → Stands names AnyBlock c.blocks h word
      → CallStands x.layout p thread names AnyBlock (record { function = c.function; temps = set_given c.temps to h; objects = c.objects; blocks = c.blocks }) (words.with_temps d (set_if d.temps to word))
  taken_given c d stand None h word new = record { function = stand.function; temps = stand.temps; objects = stand.objects }
  taken_given c d stand (Some to) h word new = taken_stands x.layout p thread names AnyBlock c d stand to h word new

  given_other : (temps : ℕ → Held) (to : Option ℕ) (h : Held) (base : ℕ) → IsOther to base → set_given temps to h base ≡ temps base
  given_other temps None h base ne = refl
  given_other temps (Some to) h base ne = set_other temps to h base ne

  as_many_set : (temps : List ℕ) (to : Option ℕ) (word : ℕ) → length (set_if temps to word) ≡ length temps
  as_many_set temps None word = refl
  as_many_set temps (Some to) word = length-set temps to word

  pub goes_given : (c : Own) (d : Words) → length names ≡ length c.blocks → CallStands x.layout p thread names AnyBlock c d → (to : Option ℕ) (h : Held) (word : ℕ) → Stands names AnyBlock c.blocks h word
      → Goes x p thread to names names AnyBlock c (record { function = c.function; temps = set_given c.temps to h; objects = c.objects; blocks = c.blocks }) d (words.with_temps d (set_if d.temps to word))
  goes_given c d each stand to h word new = record {
    call = taken_given c d stand to h word new;
    aged = aged_still names c.blocks each;
    temps = λ base ne. given_other c.temps to h base ne;
    slots = refl;
    function = refl;
    as_many = as_many_set d.temps to word;
  }

-- ---- a call is left

module _ {P : Type 0} (x : Image P) (p : Ir) (image : IsImage x p) (thread : ℕ) (stack : thread < x.layout.limits.threads) (names : List Name) (w : World) (m : Memory) (world : WorldStands x.layout p names w m) (n : List Name) (l : Own) (q : Words) (frame : HasFrame x.layout p q)
    (far : Far x.layout (length w.blocks) names w.blocks n thread l q) (stand : CallStands x.layout p thread n (KnownIn (length w.blocks) (length w.blocks)) l q) where
  abbrev s : Storage
  s = m.storage

  abbrev pub later : Own
  later = over p l

  pub its_end : HaveEnded x.layout p (length w.blocks) names w.blocks thread n q l later (length (objects_of (slice_get p.funcs l.function)))
  its_end = objects_end x.layout p (length w.blocks) names w.blocks thread n q l stand far (length (objects_of (slice_get p.funcs l.function)))

  -- what it gives
  given_stands : (temp : Option ℕ) → is_below_if frame.func.temps temp ≡ true → Stands n AnyBlock later.blocks (given l temp) (machine.given q temp)
  given_stands None ok = tt
  given_stands (Some t) ok =
      let now = settled_call x p image thread stack names w m world n later q frame its_end.far its_end.call in
      subst (λ f. Stands n AnyBlock later.blocks (f t) (word_at q t)) its_end.temps (now.temps t (subst (λ z. t < z) (sym frame.temps) (ltb-true t frame.func.temps ok)))

  -- the call's objects have ended
  nothing_left : (i block : ℕ) → later.objects i ≡ Some block → ⊥
  nothing_left i block e =
      let o = its_end.call.objects i block e in
      let index : i < length (objects_in p l.function) = subst (λ f. i < length (objects_in p f)) (same_function (length (objects_of (slice_get p.funcs l.function)))) o.index in
      let none : None ≡ Some block = sym (its_end.none i index) ∙ e in
      absurd cc
    where
      same_function : (count : ℕ) → (all_ended l count).function ≡ l.function
      same_function zero = refl
      same_function (suc count) = same_function count

  -- the stack above the caller's frame is free
  back_clear : (above from : ℕ) (objects : ℕ → Option ℕ) → above ≡ q.below.stack → IsClear n AnyBlock later.blocks (stack_address x.layout thread + from) (stack_address x.layout thread + above) objects
      → IsClear n AnyBlock later.blocks (stack_address x.layout thread + from) (stack_address x.layout thread + x.layout.limits.stack) objects
  back_clear above from objects is clear block a b kn v e = elim (settled_clear x p image thread stack names w m world n later q frame its_end.far its_end.call block a b kn v e) [
    | inl r ↦ elim (clear block a b kn v e) [ inl z ↦ inl z | inr z ↦ elim z [ inl u ↦ absurd (omega (arith, u, r, is)) | inr o ↦ inr (inr o) ] ]
    | inr r ↦ elim r [ inl z ↦ inr (inl z) | inr o ↦ absurd (nothing_left o.0 block o.1) ]
  ]

  pub return_ends : (temp : Option ℕ) → is_below_if frame.func.temps temp ≡ true → (c : Point P Own) (cs : List (Point P Own)) (d : Point P Words) (ds : List (Point P Words)) → CallersStand x p thread names w.blocks s q.below.stack (c ∷ cs) (d ∷ ds)
      → TurnsAlike x p thread names [] None w m (went (record { top = behind x.flow c (source.left p l temp c.own (result_to (x.flow.here c.at))); callers = cs }) (with_blocks w later.blocks))
      (went (record { top = behind x.flow d (machine.left q temp d.own (result_to (x.flow.here d.at))); callers = ds }) m)
  return_ends temp ok c cs d ds under =
      let all = settled_callers x p image thread stack names w m world n later q frame its_end.far its_end.call (c ∷ cs) (d ∷ ds) under in
      let g : CallerStands x p thread n later.blocks s q.below.stack c d = all.0 in
      let is = call_is (x.flow.here d.at) g.call in
      let to = (is.1).to in
      let one : result_to (x.flow.here d.at) ≡ to = ap result_to is.2 in
      let other : result_to (x.flow.here c.at) ≡ to = ap (λ z. result_to (x.flow.here z)) (sym g.point.here) ∙ one in
      let each : length n ≡ length later.blocks = its_end.far.aged.each_later in
      let goes = goes_given x p thread n (blocks.with_blocks c.own later.blocks) d.own each g.point.call to (given l temp) (machine.given q temp) (given_stands temp ok) in
      let new : StandsIn x p thread n AnyBlock s (record { at = x.flow.next d.at true; own = source.left p l temp c.own to }) (record { at = x.flow.next d.at true; own = machine.left q temp d.own to })
      = point_acts x p thread n n AnyBlock s s (in_blocks later.blocks c) d is.0 (call is.1) is.2 tt g.point (source.left p l temp c.own to) (machine.left q temp d.own to) goes (call_still x p thread n later.blocks later.blocks s d) in
      let moved : StandsIn x p thread n AnyBlock s (behind x.flow c (source.left p l temp c.own to)) (behind x.flow d (machine.left q temp d.own to))
      = subst (λ (z : P). StandsIn x p thread n AnyBlock s (record { at = x.flow.next z true; own = source.left p l temp c.own to }) (behind x.flow d (machine.left q temp d.own to))) g.point.here new in
      let fresh : Fresh x p thread n later.blocks s (record { top = behind x.flow c (source.left p l temp c.own to); callers = cs }) (record { top = behind x.flow d (machine.left q temp d.own to); callers = ds }) = record {
        stack = stack;
        frame = record { func = g.frame.func; there = g.frame.there; temps = goes.as_many ∙ g.frame.temps; slots = g.frame.slots; room = g.frame.room };
        top = moved;
        clear = back_clear q.below.stack d.own.below.stack c.own.objects refl g.clear;
        callers = all.1;
      } in
      let whole : TurnsAlike x p thread names [] None w m (went (record { top = behind x.flow c (source.left p l temp c.own to); callers = cs }) (with_blocks w later.blocks)) (went (record { top = behind x.flow d (machine.left q temp d.own to); callers = ds }) m)
      = (n, settled x p image thread stack names w m world n later q frame its_end.far its_end.call, fresh_thread x p thread n later.blocks s _ _ each fresh) in
      rw (one, other) whole
