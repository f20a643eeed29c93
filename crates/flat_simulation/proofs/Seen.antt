-- What a thread sees in the middle of a turn: the known blocks that live are placed and lie apart, whatever others have made meanwhile.
use Rattle.std.proofs.Common.{◌≡◌, ◌≢◌, ℕ, ◌<◌, List, length, Some, refl, sym, ap, subst, ◌∙◌, arith, inl, inr}
use Rattle.block_store.specs.Blocks.{Block, Blocks, live}
use Rattle.c_tree.specs.TypedForm.{taken}
use Rattle.arena_meaning.specs.Arena.{Storage}
use Rattle.struct_ir.specs.Nodes.{Ir}
use Rattle.struct_ir.specs.meaning.Blocks.{Own}
use Rattle.flat_meaning.specs.Image.{Layout}
use Rattle.flat_meaning.specs.Words.{Words, object_address}
use Rattle.flat_meaning.specs.Names.{Name, heap, plain, name_of, Apart}
use Rattle.flat_simulation.specs.inner.Aged.{Aged}
use Rattle.flat_simulation.specs.inner.Calls.{IsObject, CallStands}
use Rattle.flat_simulation.specs.inner.Frames.{FrameLies}
use Rattle.flat_simulation.specs.inner.Turns.{Far}
use Rattle.flat_simulation.specs.inner.Values.{IsPlaced, LieApart, Sees, AnyBlock, KnownIn}
use Rattle.flat_simulation.specs.inner.World.{BlocksStand}
use Rattle.flat_simulation.proofs.Blocks.{aged_then, aged_name}
use Rattle.flat_simulation.proofs.Placed.{sees_all}

-- apart both ways
other_way : (n m : Name) (size many : ℕ) → LieApart n size m many → LieApart m many n size
other_way (heap id) (heap key) size many h = λ same. h (sym same)
other_way (heap id) (plain c) size many h = tt
other_way (plain a) (heap key) size many h = tt
other_way (plain a) (plain c) size many (inl h) = inr h
other_way (plain a) (plain c) size many (inr h) = inl h

module _ (y : Layout) (p : Ir) (thread : ℕ) (before first names : List Name) (blocks start : Blocks) (s : Storage) (l : Own) (q : Words) (stand : BlocksStand before blocks s) (since : Aged before first blocks start)
    (call : CallStands y p thread names (KnownIn (length blocks) (length start)) l q) (far : Far y (length blocks) first start names thread l q) (frame : FrameLies y p thread s.start l.function q) where
  abbrev K : ℕ → Type 0
  K = KnownIn (length blocks) (length start)

  whole : Aged before names blocks l.blocks
  whole = aged_then before first names blocks start l.blocks since far.aged

  all : Sees before AnyBlock blocks
  all = sees_all before blocks s stand.consistent stand.names_stand

  -- a block from before
  lived : (n : ℕ) (b : Block) → n < length blocks → live l.blocks n ≡ Some b → (c : Block) × (live blocks n ≡ Some c) × (length c.cells ≡ length b.cells)
  lived n b lt e = let c = whole.ages.lives n b lt e in (c.0, c.1, c.3)

  its_name : (n : ℕ) → n < length blocks → name_of names n ≡ name_of before n
  its_name n lt = aged_name before names blocks l.blocks whole n lt

  -- an object of the call that the turn began
  object : (n i : ℕ) → l.objects i ≡ Some n → IsObject p names K l.blocks l.function i n (object_address y thread q i)
  object n i e = call.objects i n e

  seen_placed : (n : ℕ) (b : Block) → K n → live l.blocks n ≡ Some b → IsPlaced (name_of names n) (length b.cells)
  seen_placed n b (inl lt) e =
      let c = lived n b lt e in
      subst (λ m. IsPlaced m (length b.cells)) (sym (its_name n lt)) (subst (λ k. IsPlaced (name_of before n) k) c.2 (all.placed n c.0 tt c.1))
  seen_placed n b (inr ge) e =
      let i = far.begun n b ge e in
      let o = object n i.0 i.1 in
      let same = ap taken (o.size b e) in
      subst (λ m. IsPlaced m (length b.cells)) (sym o.there.at) (omega (arith, frame.low, frame.above i.0 o.index), omega (arith, same, frame.inside i.0 o.index, frame.below, stand.consistent.small))

  -- two objects
  objects_apart : (n m i j : ℕ) (b d : Block) → n ≢ m → live l.blocks n ≡ Some b → live l.blocks m ≡ Some d → l.objects i ≡ Some n → l.objects j ≡ Some m
      → Apart (object_address y thread q i) (taken (length b.cells)) (object_address y thread q j) (taken (length d.cells))
  objects_apart n m i j b d ne u v at there =
      let differs : i ≢ j = λ same. ne (let both : Some n ≡ Some m = sym at ∙ ap l.objects same ∙ there in cc) in
      let o = object n i at in
      let r = object m j there in
      let size = ap taken (o.size b u) in
      let room = ap taken (r.size d v) in
      elim (frame.apart i j differs o.index r.index) [ inl x ↦ inl (omega (arith, x, size, room)) | inr x ↦ inr (omega (arith, x, size, room)) ]

  -- a known block, and an object that the turn began
  beside : (n m i : ℕ) (b d : Block) → n ≢ m → K n → live l.blocks n ≡ Some b → live l.blocks m ≡ Some d → l.objects i ≡ Some m → (w : Name) → name_of names n ≡ w
      → LieApart w (length b.cells) (plain (object_address y thread q i)) (length d.cells)
  beside n m i b d ne known u v at (heap id) e = tt
  beside n m i b d ne known u v at (plain a) e =
      let o = object m i at in
      let room = ap taken (o.size d v) in
      elim (far.clear n a b known u e) [
        | inl x ↦ inl (omega (arith, x, frame.above i o.index))
        | inr z ↦ elim z [
          | inl x ↦ inr (omega (arith, x, frame.inside i o.index, room))
          | inr x ↦
              let both : plain a ≡ plain (object_address y thread q x.0) = sym e ∙ (object n x.0 x.1).there.at in
              let is : object_address y thread q x.0 ≡ a = cc in
              subst (λ k. Apart k (taken (length b.cells)) (object_address y thread q i) (taken (length d.cells))) is (objects_apart n m x.0 i b d ne u v x.1 at)
        ]
      ]

  seen_apart : (n m : ℕ) (b d : Block) → n ≢ m → K n → K m → live l.blocks n ≡ Some b → live l.blocks m ≡ Some d → LieApart (name_of names n) (length b.cells) (name_of names m) (length d.cells)
  seen_apart n m b d ne known (inr ge) u v =
      let i = far.begun m d ge v in
      subst (λ w. LieApart (name_of names n) (length b.cells) w (length d.cells)) (sym (object m i.0 i.1).there.at) (beside n m i.0 b d ne known u v i.1 (name_of names n) refl)
  seen_apart n m b d ne (inr ge) (inl lt) u v =
      let i = far.begun n b ge u in
      subst (λ w. LieApart w (length b.cells) (name_of names m) (length d.cells)) (sym (object n i.0 i.1).there.at)
      (other_way (name_of names m) (plain (object_address y thread q i.0)) (length d.cells) (length b.cells) (beside m n i.0 d b (λ same. ne (sym same)) (inl lt) v u i.1 (name_of names m) refl))
  seen_apart n m b d ne (inl lt) (inl le) u v =
      let c = lived n b lt u in
      let e = lived m d le v in
      subst (λ w. LieApart w (length b.cells) (name_of names m) (length d.cells)) (sym (its_name n lt))
      (subst (λ w. LieApart (name_of before n) (length b.cells) w (length d.cells)) (sym (its_name m le))
      (subst (λ k. LieApart (name_of before n) k (name_of before m) (length d.cells)) c.2 (subst (λ k. LieApart (name_of before n) (length c.0.cells) (name_of before m) k) e.2 (all.apart n m c.0 e.0 ne tt tt c.1 e.1))))

  pub sees_in_turn : Sees names K l.blocks
  sees_in_turn = record { placed = seen_placed; apart = seen_apart }
