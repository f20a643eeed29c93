-- What others do, their turns and barriers alike, leaves a thread standing at its stage.
use Rattle.std.proofs.Common.{◌≡◌, ◌≢◌, ℕ, ◌+◌, ◌*◌, ◌<◌, ◌≤◌, List, [], ◌∷◌, length, false, Option, Some, None, refl, sym, ap, subst, ◌∙◌, arith, ◌⊎◌, inl, inr}
use Rattle.std.proofs.lemmas.Bool.{cases_lt}
use Rattle.std.proofs.lemmas.Nat.{mul-le}
use Rattle.block_store.specs.Blocks.{Blocks}
use Rattle.block_store.specs.Actions.{World}
use Rattle.c_tree.specs.TypedForm.{taken}
use Rattle.handle_table.specs.declared.frame.PinSlot.{PinSlot}
use Rattle.handle_table.specs.Table.{translated}
use Rattle.handle_table.specs.Frame.{slot_at}
use Rattle.arena_meaning.specs.Arena.{Storage}
use Rattle.struct_ir.specs.Nodes.{Ir}
use Rattle.struct_ir.specs.Flow.{Flow}
use Rattle.struct_ir.specs.Machine as steps
use Rattle.struct_ir.specs.Machine.{Point}
use Rattle.struct_ir.specs.Threads.{Thread}
use Rattle.struct_ir.specs.Pins.{looked, lacks, facts}
use Rattle.struct_ir.specs.meaning.Blocks.{Own}
use Rattle.flat_meaning.specs.Image.{Image, stack_address}
use Rattle.flat_meaning.specs.Words.{Words}
use Rattle.flat_meaning.specs.Memory.{Memory}
use Rattle.flat_meaning.specs.Stages.{Stage, starts, going, waiting, landed}
use Rattle.flat_meaning.specs.Names.{Name}
use Rattle.flat_meaning.specs.Stands.{in_blocks}
use Rattle.flat_simulation.specs.inner.Aged.{Aged}
use Rattle.flat_simulation.specs.inner.Values.{AnyBlock, KnownIn}
use Rattle.flat_simulation.specs.inner.Turns.{IsClear}
use Rattle.flat_simulation.specs.inner.Lags.{comes, IsAside, KeepsAddresses, KeepsSlot, KeepCalls}
use Rattle.flat_simulation.specs.inner.Programs.{IsImage, HasFrame}
use Rattle.flat_simulation.specs.inner.Worlds.{WorldStands, TurnEnded}
use Rattle.flat_simulation.specs.inner.Threads.{CallersStand, ThreadStands, Fresh, StartStands, IsFree, LandedStands, StageStands}
use Rattle.flat_simulation.proofs.Blocks.{live_in, aged_still, aged_name}
use Rattle.flat_simulation.proofs.Facts.{listed_fact}
use Rattle.flat_simulation.proofs.Others.{others_leave_turns}
use Rattle.flat_simulation.proofs.Points.{IsIntact, call_still, point_aged, point_later, aged_way}
use Rattle.flat_simulation.proofs.Programs.{lies_low}
use Rattle.flat_simulation.proofs.Values.{pointer_later}

-- ---- stretches of a stack

-- a stretch stays clear, where what was made since lies aside
pub clear_on : (names all : List Name) (K J : ℕ → Type 0) (blocks later : Blocks) (from to low high : ℕ) (objects : ℕ → Option ℕ) → Aged names all blocks later → ((block : ℕ) → block < length blocks → J block → K block) → IsAside all blocks later low high → low ≤ from → to ≤ high
    → IsClear names K blocks from to objects → IsClear all J later from to objects
clear_on names all K J blocks later from to low high objects aged known aside above below clear n a b kn v e = elim (cases_lt n (length blocks)) [
  | inl lt ↦
      let c = aged.ages.lives n b lt v in
      let size = ap taken c.3 in
      elim (clear n a c.0 (known n lt kn) c.1 (sym (aged_name names all blocks later aged n lt) ∙ e)) [ inl r ↦ inl (omega (arith, r, size)) | inr r ↦ inr r ]
  | inr ge ↦ elim (aside n a b ge v e) [ inl r ↦ inl (omega (arith, r, above)) | inr r ↦ inr (inl (omega (arith, r, below))) ]
]

-- nothing was made
pub aside_still : (names : List Name) (blocks : Blocks) (low high : ℕ) → IsAside names blocks blocks low high
aside_still names blocks low high n a b ge v e = let lt = live_in blocks n b v in absurd (omega (arith, ge, lt))

-- ---- where all addresses are kept

module _ {P : Type 0} (C : Flow P) (all : List Name) (blocks later : Blocks) (s new : Storage) where
  -- what is asked of a thread's slots
  abbrev pub KeepsStage : Option (Stage P) → Type 0
  KeepsStage None = Unit {0}
  KeepsStage (Some (starts function argument)) = Unit {0}
  KeepsStage (Some (going q)) = KeepCalls C all blocks later s new (q.top ∷ q.callers)
  KeepsStage (Some (waiting q)) = KeepCalls C all blocks later s new (q.top ∷ q.callers)
  KeepsStage (Some (landed list q)) = ((slot : ℕ) → lacks slot list ≡ false → KeepsSlot all blocks later s new (slot_at q.top.own.slots slot)) × KeepCalls C all blocks later s new q.callers

  module _ (keeps : KeepsAddresses all blocks later s new) where
    slot_kept : (v : PinSlot) → KeepsSlot all blocks later s new v
    slot_kept v n o b below lives within e = ap (λ w. translated new.table w) e ∙ keeps n o b below lives within ∙ ap (λ w. translated s.table w) (sym e)

    pub calls_kept : (qs : List (Point P Words)) → KeepCalls C all blocks later s new qs
    calls_kept [] = tt
    calls_kept (q ∷ qs) = (λ slot listed. slot_kept (slot_at q.own.slots slot), calls_kept qs)

    pub stage_kept : (g : Option (Stage P)) → KeepsStage g
    stage_kept None = tt
    stage_kept (Some (starts function argument)) = tt
    stage_kept (Some (going q)) = calls_kept (q.top ∷ q.callers)
    stage_kept (Some (waiting q)) = calls_kept (q.top ∷ q.callers)
    stage_kept (Some (landed list q)) = (λ slot listed. slot_kept (slot_at q.top.own.slots slot), calls_kept q.callers)

-- ---- the calls that wait

-- below so much of a stack
pub aside_below : (all : List Name) (blocks later : Blocks) (low high less : ℕ) → less ≤ high → IsAside all blocks later low high → IsAside all blocks later low less
aside_below all blocks later low high less le aside n a b ge v e = elim (aside n a b ge v e) [ inl r ↦ inl r | inr r ↦ inr (omega (arith, r, le)) ]

module _ {P : Type 0} (x : Image P) (p : Ir) (thread : ℕ) (names all : List Name) (blocks later : Blocks) (s new : Storage) (aged : Aged names all blocks later) where
  pub callers_later : (above : ℕ) (ks : List (Point P Own)) (qs : List (Point P Words)) → IsAside all blocks later (stack_address x.layout thread) (stack_address x.layout thread + above) → KeepCalls x.flow all blocks later s new qs
      → CallersStand x p thread names blocks s above ks qs → CallersStand x p thread all later new above ks qs
  callers_later above [] [] aside keeps stand = tt
  callers_later above [] (q ∷ qs) aside keeps stand = absurd stand
  callers_later above (k ∷ ks) [] aside keeps stand = absurd stand
  callers_later above (k ∷ ks) (q ∷ qs) aside keeps stand =
      let c = stand.0 in
      let is = c.above_it in (
        record {
          point = point_later x p thread names all AnyBlock AnyBlock s new (in_blocks blocks k) q later aged (λ n lt kn. tt) keeps.0 c.point;
          frame = c.frame;
          call = c.call;
          above_it = c.above_it;
          clear = clear_on names all AnyBlock AnyBlock blocks later (stack_address x.layout thread + q.own.below.stack) (stack_address x.layout thread + above) (stack_address x.layout thread) (stack_address x.layout thread + above) k.own.objects aged (λ n lt kn. tt) aside
              (omega arith) (omega arith) c.clear;
        },
        callers_later q.own.below.stack ks qs (aside_below all blocks later (stack_address x.layout thread) (stack_address x.layout thread + above) (stack_address x.layout thread + q.own.below.stack) (omega (arith, is)) aside) keeps.1 stand.1,
      )

-- ---- a thread, later

module _ {P : Type 0} (x : Image P) (p : Ir) (image : IsImage x p) (thread : ℕ) (names all : List Name) (w : World) (m : Memory) (world : WorldStands x.layout p names w m) (later : Blocks) (new : Storage) (aged : Aged names all w.blocks later)
    (aside : IsAside all w.blocks later (stack_address x.layout thread) (stack_address x.layout thread + x.layout.limits.stack)) where
  abbrev s : Storage
  s = m.storage

  -- the calls of a call with a frame
  callers_stay : (q : Words) → HasFrame x.layout p q → (ks : List (Point P Own)) (qs : List (Point P Words)) → KeepCalls x.flow all w.blocks later s new qs → CallersStand x p thread names w.blocks s q.below.stack ks qs → CallersStand x p thread all later new q.below.stack ks qs
  callers_stay q frame ks qs =
      let room = frame.room in
      callers_later x p thread names all w.blocks later s new aged q.below.stack ks qs
      (aside_below all w.blocks later (stack_address x.layout thread) (stack_address x.layout thread + x.layout.limits.stack) (stack_address x.layout thread + q.below.stack) (omega (arith, room)) aside)

  -- in the middle of a turn
  pub thread_later : (k : Thread P Own) (q : Thread P Words) → KeepCalls x.flow all w.blocks later s new (q.top ∷ q.callers) → ThreadStands x p thread names w.blocks s k q → ThreadStands x p thread all later new k q
  thread_later k q keeps stand = record {
    stack = stand.stack;
    frame = stand.frame;
    top = others_leave_turns x p thread names all w.blocks later s new aged aside k.top q.top (lies_low x p image q.top.own stand.frame thread s stand.stack world.blocks.consistent world.start) keeps.0 stand.top;
    callers = callers_stay q.top.own stand.frame k.callers q.callers keeps.1 stand.callers;
  }

  -- at a turn's start
  pub fresh_later : (k : Thread P Own) (q : Thread P Words) (stand : Fresh x p thread names w.blocks s k q) → ((slot base : ℕ) → IsIntact x p thread stand.top.way (x.flow.here q.top.at) slot base → KeepsSlot all w.blocks later s new (slot_at q.top.own.slots slot))
      → KeepCalls x.flow all w.blocks later s new q.callers → Fresh x p thread all later new k q
  fresh_later k q stand keeps under = record {
    stack = stand.stack;
    frame = stand.frame;
    top = point_aged x p thread names all AnyBlock AnyBlock s new (in_blocks w.blocks k.top) q.top later aged (λ n lt kn. tt) stand.top keeps;
    clear = clear_on names all AnyBlock AnyBlock w.blocks later (stack_address x.layout thread + q.top.own.below.stack) (stack_address x.layout thread + x.layout.limits.stack) (stack_address x.layout thread)
        (stack_address x.layout thread + x.layout.limits.stack) k.top.own.objects aged (λ n lt kn. tt) aside (omega arith) (omega arith) stand.clear;
    callers = callers_stay q.top.own stand.frame k.callers q.callers under stand.callers;
  }

  fresh_way : (k : Thread P Own) (q : Thread P Words) (stand : Fresh x p thread names w.blocks s k q) (keeps : (slot base : ℕ) → IsIntact x p thread stand.top.way (x.flow.here q.top.at) slot base → KeepsSlot all w.blocks later s new (slot_at q.top.own.slots slot))
      (under : KeepCalls x.flow all w.blocks later s new q.callers) → (fresh_later k q stand keeps under).top.way ≡ stand.top.way
  unfolding fresh_later
  fresh_way k q stand keeps under = aged_way x p thread names all AnyBlock AnyBlock s new (in_blocks w.blocks k.top) q.top later aged (λ n lt kn. tt) stand.top keeps

  -- behind a step with a list
  pub landed_later : (list : List ℕ) (k : Thread P Own) (q : Thread P Words) → ((slot : ℕ) → lacks slot list ≡ false → KeepsSlot all w.blocks later s new (slot_at q.top.own.slots slot)) → KeepCalls x.flow all w.blocks later s new q.callers
      → LandedStands x p thread names w.blocks s list k q → LandedStands x p thread all later new list k q
  landed_later list k q keeps under stand =
      let kept : (slot base : ℕ) → IsIntact x p thread stand.fresh.top.way (x.flow.here q.top.at) slot base → KeepsSlot all w.blocks later s new (slot_at q.top.own.slots slot) = λ slot base e. keeps slot (stand.listed slot base (listed_fact _ _ base e).1) in
      record {
        fresh = fresh_later k q stand.fresh kept under;
        listed = λ slot base e. stand.listed slot base (subst (λ (way : List P). facts x.flow slot way ≡ looked base false false) (fresh_way k q stand.fresh kept under) e);
      }

  -- before its first function
  pub free_later : IsFree x thread names w.blocks → IsFree x thread all later
  free_later free = clear_on names all AnyBlock AnyBlock w.blocks later (stack_address x.layout thread) (stack_address x.layout thread + x.layout.limits.stack) (stack_address x.layout thread) (stack_address x.layout thread + x.layout.limits.stack) (λ i. None) aged
      (λ n lt kn. tt) aside (omega arith) (omega arith) free

  start_later : (k : Thread P Own) (function argument : ℕ) → StartStands x p thread names w.blocks k function argument → StartStands x p thread all later k function argument
  start_later k function argument stand = record {
    stack = stand.stack;
    func = stand.func;
    there = stand.there;
    pointer = stand.pointer;
    begins = stand.begins;
    argument_stands = pointer_later names all w.blocks later aged AnyBlock AnyBlock (λ n lt kn. tt) stand.pointer argument stand.argument_stands;
    clear = free_later stand.clear;
  }

  -- at any stage
  pub stage_later : (k : Option (Thread P Own)) (g : Option (Stage P)) → KeepsStage x.flow all w.blocks later s new g → StageStands x p thread names w.blocks s k g → StageStands x p thread all later new k g
  stage_later (Some k) (Some (starts function argument)) keeps stand = start_later k function argument stand
  stage_later (Some k) (Some (going q)) keeps stand = thread_later k q keeps stand
  stage_later (Some k) (Some (waiting q)) keeps stand = thread_later k q keeps stand
  stage_later (Some k) (Some (landed list q)) keeps stand = landed_later list k q keeps.0 keeps.1 stand
  stage_later (Some k) None keeps stand = absurd stand
  stage_later None (Some g) keeps stand = absurd stand
  stage_later None None keeps stand = tt

-- ---- another's turn

-- what is in one thread's stack is outside another's
pub stacks_apart : (t u room : ℕ) → t ≢ u → (t * room + room ≤ u * room) ⊎ (u * room + room ≤ t * room)
stacks_apart t u room ne = elim (cases_lt t u) [
  | inl lt ↦ let all : (t + 1) * room ≤ u * room = mul-le (t + 1) room u room (omega (arith, lt)) (omega arith) in inl (omega (arith, all))
  | inr ge ↦ elim (cases_lt u t) [
    | inl lt ↦ let all : (u + 1) * room ≤ t * room = mul-le (u + 1) room t room (omega (arith, lt)) (omega arith) in inr (omega (arith, all))
    | inr le ↦ absurd (ne (omega (arith, ge, le)))
  ]
]

module _ {P : Type 0} (x : Image P) (p : Ir) (image : IsImage x p) (thread other : ℕ) (ne : thread ≢ other) (names all : List Name) (given : List ℕ) (w later : World) (m now : Memory) (world : WorldStands x.layout p names w m)
    (ended : TurnEnded x.layout p thread names all given w later m now) where
  pub turn_aside : IsAside all w.blocks later.blocks (stack_address x.layout other) (stack_address x.layout other + x.layout.limits.stack)
  turn_aside n a b ge v e =
      let in_ = ended.inside n a b ge v e in
      elim (stacks_apart thread other x.layout.limits.stack ne) [ inl r ↦ inl (omega (arith, r, in_.1)) | inr r ↦ inr (omega (arith, r, in_.0)) ]

  -- the others stand where they stood
  pub others_stay : (k : Option (Thread P Own)) (g : Option (Stage P)) → StageStands x p other names w.blocks m.storage k g → StageStands x p other all later.blocks now.storage k g
  others_stay k g stand = stage_later x p image other names all w m world later.blocks now.storage ended.aged turn_aside k g (stage_kept x.flow all w.blocks later.blocks m.storage now.storage ended.keeps g) stand

  -- and stacks of threads that weren't made are free
  pub stacks_stay : IsFree x other names w.blocks → IsFree x other all later.blocks
  stacks_stay free = free_later x p image other names all w m world later.blocks now.storage ended.aged turn_aside free

-- ---- a thread at a turn's start stands in the middle of it, too

module _ {P : Type 0} (x : Image P) (p : Ir) (thread : ℕ) (names : List Name) (blocks : Blocks) (s : Storage) where
  pub fresh_thread : (k : Thread P Own) (q : Thread P Words) → length names ≡ length blocks → Fresh x p thread names blocks s k q → ThreadStands x p thread names blocks s k q
  fresh_thread k q each stand = record {
    stack = stand.stack;
    frame = stand.frame;
    top = λ all later since. comes (in_blocks later k.top) all steps.still (record {
      aged = aged_still all later since.each_later;
      ids = refl;
      kept = λ n b lt v. v;
      unwritten = λ n b ge v. (let lt = live_in later n b v in absurd (omega (arith, ge, lt)));
      heaps = λ n id b e v. v;
      begun = λ n b ge v. (let lt = live_in later n b v in absurd (omega (arith, ge, lt)));
      clear = clear_in all later since;
    }) (point_later x p thread names all AnyBlock (KnownIn (length blocks) (length later)) s s (in_blocks blocks k.top) q.top later since (λ n lt kn. inl lt) (call_still x p thread all blocks later s q.top) stand.top);
    callers = stand.callers;
  }
    where
      clear_in : (all : List Name) (later : Blocks) → Aged names all blocks later
          → IsClear all (KnownIn (length blocks) (length later)) later (stack_address x.layout thread + q.top.own.below.stack) (stack_address x.layout thread + x.layout.limits.stack) k.top.own.objects
      clear_in all later since n a b (inl lt) v e =
          let c = since.ages.lives n b lt v in
          let size = ap taken c.3 in
          elim (stand.clear n a c.0 tt c.1 (sym (aged_name names all blocks later since n lt) ∙ e)) [ inl r ↦ inl (omega (arith, r, size)) | inr r ↦ inr r ]
      clear_in all later since n a b (inr ge) v e = let lt = live_in later n b v in absurd (omega (arith, ge, lt))
