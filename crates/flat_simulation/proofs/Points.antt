-- A call goes on, over named blocks and over words alike: what its position and its slots are then.
use Rattle.std.proofs.Common.{◌≡◌, ◌≢◌, ℕ, ◌<◌, eqb, List, ◌∷◌, length, Bool, true, false, Option, Some, None, refl, sym, ap, subst, ◌∙◌, arith}
use Rattle.std.specs.Prelude.{if◌then◌else◌, slice_set}
use Rattle.std.proofs.lemmas.Bool.{eqb-true, eqb-false}
use Rattle.block_store.specs.declared.values.Ptr.TheVariants.{Null, To}
use Rattle.block_store.specs.declared.values.Value.TheVariants as values
use Rattle.block_store.specs.Blocks.{Block, Blocks, live}
use Rattle.handle_table.specs.declared.frame.PinSlot.{PinSlot}
use Rattle.handle_table.specs.Table.{translated}
use Rattle.handle_table.specs.Frame.{slot_at}
use Rattle.arena_meaning.specs.Arena.{Storage}
use Rattle.struct_ir.specs.Nodes.{Act, set, call, step, look, safepoint, begin_object, end_object, list_of, assigned_by, Ir}
use Rattle.struct_ir.specs.Flow.{Here, does, tests, passes, round, returns, Stays, Path, on}
use Rattle.struct_ir.specs.Machine.{Point}
use Rattle.struct_ir.specs.Pins.{Fact, looked, lacks_if, listing, doing, passing, facts}
use Rattle.struct_ir.specs.meaning.Blocks.{Held, value, unset, missing, Own}
use Rattle.flat_meaning.specs.Image.{Image}
use Rattle.flat_meaning.specs.Words.{Words, word_at}
use Rattle.flat_meaning.specs.Machine as machine
use Rattle.flat_meaning.specs.Allowed.{list_at}
use Rattle.flat_meaning.specs.Names.{Name, name_of, word_for, SlotAgrees}
use Rattle.flat_meaning.specs.Stands.{in_blocks}
use Rattle.flat_simulation.specs.inner.Aged.{Aged}
use Rattle.flat_simulation.specs.inner.Values.{Stands}
use Rattle.flat_simulation.specs.inner.Calls.{CallStands}
use Rattle.flat_simulation.specs.inner.Lags.{StandsIn, KeepsSlot, KeepsCall}
use Rattle.flat_simulation.proofs.Acts.{look_agrees, looked_slot, other_slot}
use Rattle.flat_simulation.proofs.Blocks.{aged_name}
use Rattle.flat_simulation.proofs.Facts.{IsOther, listed_fact, assigned_fact}
use Rattle.flat_simulation.proofs.Names.{lives_there}
use Rattle.flat_simulation.proofs.Objects.{call_later}

-- ---- slots

-- a slot agrees still, where the blocks have aged and its word leads where it led
pub slot_on : (names all : List Name) (blocks later : Blocks) (s new : Storage) (K : ℕ → Type 0) → Aged names all blocks later → (h : Held) (word : ℕ) (v : PinSlot) → KeepsSlot all blocks later s new v → Stands names K blocks h word
    → SlotAgrees names blocks s h v → SlotAgrees all later new h v
slot_on names all blocks later s new K aged (value (values.Num n)) word v keeps stands agrees = tt
slot_on names all blocks later s new K aged (value (values.Pointer Null)) word v keeps stands agrees = tt
slot_on names all blocks later s new K aged (value (values.Pointer (To k o))) word v keeps points agrees = λ lives.
    let b = lives_there (live later k) lives in
    let c = aged.ages.lives k b.0 points.made b.1 in
    let old = agrees (lives_still c.0 c.1) in
    let is : v.word ≡ word_for (name_of all k) o = old.0 ∙ ap (λ n. word_for n o) (sym (aged_name names all blocks later aged k points.made)) in
    let within = points.within c.0 c.1 in
    (is, old.1 ∙ sym (keeps k o b.0 points.made b.1 (omega (arith, within, c.3)) is))
  where
    lives_still : (c : Block) → live blocks k ≡ Some c → Rattle.flat_meaning.specs.Names.Lives blocks k
    lives_still c e = rw e refl
slot_on names all blocks later s new K aged unset word v keeps stands agrees = tt
slot_on names all blocks later s new K aged missing word v keeps stands agrees = tt

-- ---- acts that are no Looks

abbrev pub NoLook : Act → Type 0
NoLook (set to calc) = Unit {0}
NoLook (call c) = Unit {0}
NoLook (step s) = Unit {0}
NoLook (look slot base) = ⊥
NoLook (safepoint slots) = Unit {0}
NoLook (begin_object i) = Unit {0}
NoLook (end_object i) = Unit {0}

-- what is intact behind one was so at its list, and its base wasn't assigned
pub act_fact : (slot : ℕ) (a : Act) → NoLook a → (f : Fact) (base : ℕ) → doing slot a f ≡ looked base false false → IsOther (assigned_by a) base × (listing (lacks_if slot (list_of a)) f ≡ looked base false false)
act_fact slot (set to calc) idle f base e = let x = assigned_fact (Some to) f base e in (x.0, ap (listing false) x.1)
act_fact slot (call c) idle f base e = assigned_fact c.to _ base e
act_fact slot (step s) idle f base e = assigned_fact s.to _ base e
act_fact slot (look r base) idle f b e = absurd idle
act_fact slot (safepoint slots) idle f base e = (tt, e)
act_fact slot (begin_object i) idle f base e = (tt, ap (listing false) e)
act_fact slot (end_object i) idle f base e = (tt, ap (listing false) e)

-- ---- a point, later

module _ {P : Type 0} (x : Image P) (p : Ir) (thread : ℕ) where
  abbrev pub At : List Name → (ℕ → Type 0) → Storage → Point P Own → Point P Words → Type 0
  At names K s k q = StandsIn x p thread names K s k q

  -- what is intact on a way where a call stands
  abbrev pub IsIntact : List P → Here → (slot base : ℕ) → Type 0
  IsIntact way h slot base = listing (lacks_if slot (list_at h)) (facts x.flow slot way) ≡ looked base false false

  -- where nothing moved
  pub call_still : (all : List Name) (blocks later : Blocks) (s : Storage) (q : Point P Words) → KeepsCall x.flow all blocks later s s q
  call_still all blocks later s q slot listed k o b below lives within is = refl

  -- others change blocks and storage
  pub point_aged : (names all : List Name) (K J : ℕ → Type 0) (s new : Storage) (k : Point P Own) (q : Point P Words) (later : Blocks) → Aged names all k.own.blocks later → ((block : ℕ) → block < length k.own.blocks → K block → J block)
      → (a : At names K s k q) → ((slot base : ℕ) → IsIntact a.way (x.flow.here q.at) slot base → KeepsSlot all k.own.blocks later s new (slot_at q.own.slots slot)) → At all J new (in_blocks later k) q
  point_aged names all K J s new k q later aged more a keeps = record {
    here = a.here;
    call = call_later names all k.own.blocks later aged K J more x.layout p thread k.own q.own refl a.call;
    way = a.way;
    path = a.path;
    slots = λ slot base e.
        let old = a.slots slot base e in
        (old.0, slot_on names all k.own.blocks later s new K aged (k.own.temps base) (word_at q.own base) (slot_at q.own.slots slot) (keeps slot base e) (a.call.temps base old.0) old.1);
  }

  pub point_later : (names all : List Name) (K J : ℕ → Type 0) (s new : Storage) (k : Point P Own) (q : Point P Words) (later : Blocks) → Aged names all k.own.blocks later → ((block : ℕ) → block < length k.own.blocks → K block → J block)
      → KeepsCall x.flow all k.own.blocks later s new q → At names K s k q → At all J new (in_blocks later k) q
  point_later names all K J s new k q later aged more keeps a = point_aged names all K J s new k q later aged more a (λ slot base e. keeps slot (listed_fact _ _ base e).0)

  -- its way is the same
  pub aged_way : (names all : List Name) (K J : ℕ → Type 0) (s new : Storage) (k : Point P Own) (q : Point P Words) (later : Blocks) (aged : Aged names all k.own.blocks later) (more : (block : ℕ) → block < length k.own.blocks → K block → J block)
      (a : At names K s k q) (keeps : (slot base : ℕ) → IsIntact a.way (x.flow.here q.at) slot base → KeepsSlot all k.own.blocks later s new (slot_at q.own.slots slot)) → (point_aged names all K J s new k q later aged more a keeps).way ≡ a.way
  unfolding point_aged
  aged_way names all K J s new k q later aged more a keeps = refl

  -- ---- a point, one on

  -- behind what stands there
  pub point_on : (names all : List Name) (K : ℕ → Type 0) (s new : Storage) (k : Point P Own) (q : Point P Words) (c : Bool) → Stays (x.flow.here q.at) → (a : At names K s k q) → (l : Own) (r : Words) → r.function ≡ q.own.function → CallStands x.layout p thread all K l r
      → ((slot base : ℕ) → passing slot (x.flow.here q.at) (facts x.flow slot a.way) ≡ looked base false false → (base < length r.temps) × SlotAgrees all l.blocks new (l.temps base) (slot_at r.slots slot))
      → At all K new (record { at = x.flow.next q.at c; own = l }) (record { at = x.flow.next q.at c; own = r })
  point_on names all K s new k q c stays a l r same stands slots = record {
    here = refl;
    call = stands;
    way = q.at ∷ a.way;
    path = subst (λ f. Path x.flow (x.start f) (q.at ∷ a.way) (x.flow.next q.at c)) (sym same) (on a.way q.at c stays a.path);
    slots = λ slot base e. slots slot base (listed_fact _ _ base e).1;
  }

  -- what an act does to a call: no register but the one that it assigns, and no slot
  pub record Goes (to : Option ℕ) (names all : List Name) (K : ℕ → Type 0) (l later : Own) (q r : Words) : Type 0 where
    pub call : CallStands x.layout p thread all K later r
    pub aged : Aged names all l.blocks later.blocks
    pub temps : (base : ℕ) → IsOther to base → later.temps base ≡ l.temps base
    pub slots : r.slots ≡ q.slots
    pub function : r.function ≡ q.function
    pub as_many : length r.temps ≡ length q.temps

  pub point_acts : (names all : List Name) (K : ℕ → Type 0) (s new : Storage) (k : Point P Own) (q : Point P Words) (place : ℕ) (a : Act) → x.flow.here q.at ≡ does place a → NoLook a → At names K s k q → (l : Own) (r : Words) → Goes (assigned_by a) names all K k.own l q.own r
      → KeepsCall x.flow all k.own.blocks l.blocks s new q → At all K new (record { at = x.flow.next q.at true; own = l }) (record { at = x.flow.next q.at true; own = r })
  point_acts names all K s new k q place a e idle at l r goes keeps =
      point_on names all K s new k q true (subst Stays (sym e) tt) at l r goes.function goes.call (λ slot base i. behind slot base (act_fact slot a idle (facts x.flow slot at.way) base (subst (λ h. passing slot h (facts x.flow slot at.way) ≡ looked base false false) e i)))
    where
      behind : (slot base : ℕ) → IsOther (assigned_by a) base × (listing (lacks_if slot (list_of a)) (facts x.flow slot at.way) ≡ looked base false false) → (base < length r.temps) × SlotAgrees all l.blocks new (l.temps base) (slot_at r.slots slot)
      behind slot base i =
          let intact : IsIntact at.way (x.flow.here q.at) slot base = subst (λ h. IsIntact at.way h slot base) (sym e) i.1 in
          let old = at.slots slot base intact in
          let on_ = slot_on names all k.own.blocks l.blocks s new K goes.aged (k.own.temps base) (word_at q.own base) (slot_at q.own.slots slot) (keeps slot (listed_fact _ _ base intact).0) (at.call.temps base old.0) old.1 in
          let many = goes.as_many in
          (omega (arith, old.0, many), subst (λ h. SlotAgrees all l.blocks new h (slot_at r.slots slot)) (sym (goes.temps base i.0)) (subst (λ vs. SlotAgrees all l.blocks new (k.own.temps base) (slot_at vs slot)) (sym goes.slots) on_))

  -- its way is longer by one
  pub acts_way : (names all : List Name) (K : ℕ → Type 0) (s new : Storage) (k : Point P Own) (q : Point P Words) (place : ℕ) (a : Act) (e : x.flow.here q.at ≡ does place a) (idle : NoLook a) (at : At names K s k q) (l : Own) (r : Words) (goes : Goes (assigned_by a) names all K k.own l q.own r)
      (keeps : KeepsCall x.flow all k.own.blocks l.blocks s new q) → (point_acts names all K s new k q place a e idle at l r goes keeps).way ≡ q.at ∷ at.way
  unfolding point_acts point_on
  acts_way names all K s new k q place a e idle at l r goes keeps = refl

  -- ---- where nothing is done

  abbrev pub IsSilent : Here → Type 0
  IsSilent (does place a) = ⊥
  IsSilent (tests place temp) = Unit {0}
  IsSilent passes = Unit {0}
  IsSilent round = Unit {0}
  IsSilent (returns temp) = ⊥

  silent_fact : (slot : ℕ) (h : Here) → IsSilent h → (f : Fact) → passing slot h f ≡ f
  silent_fact slot (does place a) i f = absurd i
  silent_fact slot (tests place temp) i f = refl
  silent_fact slot passes i f = refl
  silent_fact slot round i f = refl
  silent_fact slot (returns temp) i f = absurd i

  silent_stays : (h : Here) → IsSilent h → Stays h
  silent_stays (does place a) i = absurd i
  silent_stays (tests place temp) i = tt
  silent_stays passes i = tt
  silent_stays round i = tt
  silent_stays (returns temp) i = absurd i

  silent_list : (h : Here) → IsSilent h → list_at h ≡ None
  silent_list (does place a) i = absurd i
  silent_list (tests place temp) i = refl
  silent_list passes i = refl
  silent_list round i = refl
  silent_list (returns temp) i = absurd i

  pub point_silent : (names : List Name) (K : ℕ → Type 0) (s : Storage) (k : Point P Own) (q : Point P Words) (c : Bool) → IsSilent (x.flow.here q.at) → At names K s k q → At names K s (record { at = x.flow.next q.at c; own = k.own }) (record { at = x.flow.next q.at c; own = q.own })
  point_silent names K s k q c i a = point_on names names K s s k q c (silent_stays (x.flow.here q.at) i) a k.own q.own refl a.call (λ slot base e.
      let f : facts x.flow slot a.way ≡ looked base false false = sym (silent_fact slot (x.flow.here q.at) i (facts x.flow slot a.way)) ∙ e in
      a.slots slot base (ap (λ o. listing (lacks_if slot o) (facts x.flow slot a.way)) (silent_list (x.flow.here q.at) i) ∙ ap (listing false) f))

  -- ---- a Look

  look_slots : (names : List Name) (K : ℕ → Type 0) (s : Storage) (k : Point P Own) (q : Point P Words) (place slot base : ℕ) (a : At names K s k q) → x.flow.here q.at ≡ does place (look slot base) → slot < length q.own.slots → base < length q.own.temps
      → (t b : ℕ) → (c : Bool) → eqb slot t ≡ c → (if c then looked base false false else facts x.flow t a.way) ≡ looked b false false
      → (b < length q.own.temps) × SlotAgrees names k.own.blocks s (k.own.temps b) (slot_at (slice_set q.own.slots slot (record { word = word_at q.own base; address = translated s.table (word_at q.own base) })) t)
  look_slots names K s k q place slot base a e room below t b true d i =
      let same : base ≡ b = cc in
      let here : slot ≡ t = eqb-true slot t d in
      let v : PinSlot = record { word = word_at q.own base; address = translated s.table (word_at q.own base) } in
      let z = look_agrees names K k.own.blocks s (k.own.temps base) (word_at q.own base) (a.call.temps base below) in (
        subst (λ r. r < length q.own.temps) same below,
        subst (λ r. SlotAgrees names k.own.blocks s (k.own.temps r) (slot_at (slice_set q.own.slots slot v) t)) same
            (subst (λ r. SlotAgrees names k.own.blocks s (k.own.temps base) (slot_at (slice_set q.own.slots slot v) r)) here (subst (λ r. SlotAgrees names k.own.blocks s (k.own.temps base) r) (sym (looked_slot q.own.slots slot v room)) z)),
      )
  look_slots names K s k q place slot base a e room below t b false d i =
      let v : PinSlot = record { word = word_at q.own base; address = translated s.table (word_at q.own base) } in
      let ne : t ≢ slot = λ same. eqb-false slot t d (sym same) in
      let old = a.slots t b (subst (λ h. IsIntact a.way h t b) (sym e) (ap (listing false) i)) in
      (old.0, subst (λ r. SlotAgrees names k.own.blocks s (k.own.temps b) r) (sym (other_slot q.own.slots slot t v ne)) old.1)

  pub point_looks : (names : List Name) (K : ℕ → Type 0) (s : Storage) (k : Point P Own) (q : Point P Words) (place slot base : ℕ) → At names K s k q → x.flow.here q.at ≡ does place (look slot base) → slot < length q.own.slots → base < length q.own.temps
      → At names K s (record { at = x.flow.next q.at true; own = k.own }) (record { at = x.flow.next q.at true; own = machine.looked s q.own slot (word_at q.own base) })
  point_looks names K s k q place slot base a e room below =
      point_on names names K s s k q true (subst Stays (sym e) tt) a k.own (machine.looked s q.own slot (word_at q.own base)) refl (record { function = a.call.function; temps = a.call.temps; objects = a.call.objects })
      (λ t b i. look_slots names K s k q place slot base a e room below t b (eqb slot t) refl (subst (λ h. passing t h (facts x.flow t a.way) ≡ looked b false false) e i))
