-- Where a turn comes among the blocks as they are, memory stands for the blocks that it leaves.
use Rattle.std.proofs.Common.{◌≡◌, ◌≢◌, ℕ, ◌+◌, ◌<◌, ◌≤◌, List, length, replicate, slice_get, Some, is_some, sym, ap, subst, ◌∙◌, arith, ◌⊎◌, inl, inr}
use Rattle.std.proofs.lemmas.Bool.{cases_lt}
use Rattle.std.proofs.lemmas.List.{length-replicate, get_or-replicate}
use Rattle.std.proofs.lemmas.Option.{slice_get_within, get_or_from_slice_get}
use Rattle.block_store.specs.declared.values.Cell.{Cell}
use Rattle.block_store.specs.declared.values.Cell.TheVariants.{Unknown}
use Rattle.block_store.specs.Blocks.{Block, Blocks, live, is_heap}
use Rattle.c_tree.specs.TypedForm.{taken}
use Rattle.flat_store.specs.Flat.{byte_at}
use Rattle.arena_meaning.specs.Arena.{Storage}
use Rattle.struct_ir.specs.Nodes.{Ir}
use Rattle.struct_ir.specs.meaning.Blocks.{Own}
use Rattle.flat_meaning.specs.Image.{Layout}
use Rattle.flat_meaning.specs.Words.{Words, object_address}
use Rattle.flat_meaning.specs.Names.{Name, heap, plain, name_of, address_for, Apart, Owns, LiesAt}
use Rattle.flat_simulation.specs.inner.Cells.{CellStands}
use Rattle.flat_simulation.specs.inner.Calls.{IsObject, CallStands}
use Rattle.flat_simulation.specs.inner.Frames.{FrameLies}
use Rattle.flat_simulation.specs.inner.Turns.{Far}
use Rattle.flat_simulation.specs.inner.Values.{KnownIn}
use Rattle.flat_simulation.specs.inner.World.{BlocksStand}
use Rattle.flat_simulation.proofs.Blocks.{live_in, aged_name}
use Rattle.flat_simulation.proofs.Names.{lives_there}
use Rattle.flat_simulation.proofs.Values.{cell_later}

module _ (y : Layout) (p : Ir) (thread : ℕ) (first names : List Name) (blocks : Blocks) (s : Storage) (l : Own) (q : Words) (stand : BlocksStand first blocks s) (call : CallStands y p thread names (KnownIn (length blocks) (length blocks)) l q)
    (far : Far y (length blocks) first blocks names thread l q) (frame : FrameLies y p thread s.start l.function q) where
  -- a block from before, or an object that the turn began
  abbrev Which : (n : ℕ) (b : Block) → Type 0
  Which n b = (live blocks n ≡ Some b) ⊎ ((length blocks ≤ n) × ((i : ℕ) × (l.objects i ≡ Some n)))

  which : (n : ℕ) (b : Block) → live l.blocks n ≡ Some b → Which n b
  which n b e = elim (cases_lt n (length blocks)) [ inl lt ↦ inl (far.kept n b lt e) | inr ge ↦ inr (ge, far.begun n b ge e) ]

  old_name : (n : ℕ) (b : Block) → live blocks n ≡ Some b → name_of names n ≡ name_of first n
  old_name n b e = aged_name first names blocks l.blocks far.aged n (live_in blocks n b e)

  object_of : (n i : ℕ) → l.objects i ≡ Some n → IsObject p names (KnownIn (length blocks) (length blocks)) l.blocks l.function i n (object_address y thread q i)
  object_of n i e = call.objects i n e

  -- ---- names

  ends_lie : (n : ℕ) (b : Block) → live l.blocks n ≡ Some b → Which n b → LiesAt s (name_of names n) (is_heap b.kind) (length b.cells)
  ends_lie n b e (inl old) = subst (λ m. LiesAt s m (is_heap b.kind) (length b.cells)) (sym (old_name n b old)) (stand.names_stand.lies n b old)
  ends_lie n b e (inr (ge, (i, at))) =
      let o = object_of n i at in
      let size = o.size b e in
      subst (λ h. LiesAt s (name_of names n) h (length b.cells)) (sym (o.kind b e)) (record {
        address = object_address y thread q i;
        named = o.there.at;
        above = omega (arith, frame.low, frame.above i o.index);
        below = (let same = ap taken size in omega (arith, frame.inside i o.index, frame.below, same));
      })

  not_heap : (n i id : ℕ) → l.objects i ≡ Some n → name_of names n ≡ heap id → ⊥
  not_heap n i id at e = let both : heap id ≡ plain (object_address y thread q i) = sym e ∙ (object_of n i at).there.at in cc

  ends_one : (n m id : ℕ) (b d : Block) → Which n b → Which m d → name_of names n ≡ heap id → name_of names m ≡ heap id → n ≡ m
  ends_one n m id b d (inl x) (inl z) e f = stand.names_stand.one n m id (ap is_some x) (ap is_some z) (sym (old_name n b x) ∙ e) (sym (old_name m d z) ∙ f)
  ends_one n m id b d (inl x) (inr (ge, (i, at))) e f = absurd (not_heap m i id at f)
  ends_one n m id b d (inr (ge, (i, at))) z e f = absurd (not_heap n i id at e)

  -- an object's address is its name's
  its_address : (n i a : ℕ) → l.objects i ≡ Some n → name_of names n ≡ plain a → a ≡ object_address y thread q i
  its_address n i a at e = let both : plain a ≡ plain (object_address y thread q i) = sym e ∙ (object_of n i at).there.at in cc

  -- two objects
  two_apart : (n m i j a c : ℕ) (b d : Block) → n ≢ m → live l.blocks n ≡ Some b → live l.blocks m ≡ Some d → l.objects i ≡ Some n → l.objects j ≡ Some m → name_of names n ≡ plain a → name_of names m ≡ plain c
      → Apart a (taken (length b.cells)) c (taken (length d.cells))
  two_apart n m i j a c b d ne u v at there e f =
      let differs : i ≢ j = λ same. ne (let both : Some n ≡ Some m = sym at ∙ ap l.objects same ∙ there in cc) in
      let o = object_of n i at in
      let r = object_of m j there in
      let one = its_address n i a at e in
      let two = its_address m j c there f in
      let size = ap taken (o.size b u) in
      let room = ap taken (r.size d v) in
      elim (frame.apart i j differs o.index r.index) [ inl x ↦ inl (omega (arith, x, one, two, size, room)) | inr x ↦ inr (omega (arith, x, one, two, size, room)) ]

  -- a block from before, and an object that the turn began
  old_apart : (n m i a c : ℕ) (b d : Block) → n ≢ m → live l.blocks n ≡ Some b → live l.blocks m ≡ Some d → live blocks n ≡ Some b → l.objects i ≡ Some m → name_of names n ≡ plain a → name_of names m ≡ plain c
      → Apart a (taken (length b.cells)) c (taken (length d.cells))
  old_apart n m i a c b d ne u v old at e f =
      let o = object_of m i at in
      let two = its_address m i c at f in
      let room = ap taken (o.size d v) in
      elim (far.clear n a b (inl (live_in blocks n b old)) u e) [
        | inl x ↦ inl (omega (arith, x, two, frame.above i o.index))
        | inr z ↦ elim z [
          | inl x ↦ inr (omega (arith, x, two, frame.inside i o.index, room))
          | inr x ↦ two_apart n m x.0 i a c b d ne u v x.1 at e f
        ]
      ]

  swapped : (a u c v : ℕ) → Apart a u c v → Apart c v a u
  swapped a u c v (inl x) = inr x
  swapped a u c v (inr x) = inl x

  ends_apart : (n m a c : ℕ) (b d : Block) → n ≢ m → live l.blocks n ≡ Some b → live l.blocks m ≡ Some d → Which n b → Which m d → name_of names n ≡ plain a → name_of names m ≡ plain c
      → Apart a (taken (length b.cells)) c (taken (length d.cells))
  ends_apart n m a c b d ne u v (inl x) (inl z) e f = stand.names_stand.apart n m a c b d ne x z (sym (old_name n b x) ∙ e) (sym (old_name m d z) ∙ f)
  ends_apart n m a c b d ne u v (inl x) (inr (ge, (i, at))) e f = old_apart n m i a c b d ne u v x at e f
  ends_apart n m a c b d ne u v (inr (ge, (i, at))) (inl z) e f = swapped c (taken (length d.cells)) a (taken (length b.cells)) (old_apart m n i c a d b (λ same. ne (sym same)) v u z at f e)
  ends_apart n m a c b d ne u v (inr (ge, (i, at))) (inr (le, (j, there))) e f = two_apart n m i j a c b d ne u v at there e f

  ends_only : (id : ℕ) → Owns first blocks id → Owns names l.blocks id
  ends_only id o =
      let b = lives_there (live blocks o.block) o.lives in
      record { block = o.block; lives = ap is_some (far.heaps o.block id b.0 o.named b.1); named = old_name o.block b.0 b.1 ∙ o.named }

  -- ---- cells

  ends_cell : (n index : ℕ) (b : Block) (c : Cell) → live l.blocks n ≡ Some b → Which n b → slice_get b.cells index ≡ Some c → CellStands names l.blocks c (byte_at s.bytes (address_for s (name_of names n) + index))
  ends_cell n index b c e (inl old) f = subst (λ m. CellStands names l.blocks c (byte_at s.bytes (address_for s m + index))) (sym (old_name n b old)) (cell_later first names blocks l.blocks far.aged c _ (stand.memory n index b c old f))
  ends_cell n index b c e (inr (ge, object)) f =
      let fresh = far.unwritten n b ge e in
      let cells : slice_get (replicate fresh.0 Unknown) index ≡ Some c = ap (λ (z : Block). slice_get z.cells index) (sym fresh.1) ∙ f in
      let below : index < fresh.0 = omega (arith, slice_get_within (replicate fresh.0 Unknown) index c cells, length-replicate fresh.0 Unknown) in
      let is : Unknown ≡ c = sym (get_or-replicate fresh.0 index Unknown Unknown below) ∙ get_or_from_slice_get (replicate fresh.0 Unknown) index c Unknown cells in
      subst (λ d. CellStands names l.blocks d (byte_at s.bytes (address_for s (name_of names n) + index))) is tt

  -- so does all memory
  pub turn_ends : BlocksStand names l.blocks s
  turn_ends = record {
    consistent = stand.consistent;
    names_stand = record {
      each = far.aged.each_later;
      lies = λ n b e. ends_lie n b e (which n b e);
      one = λ n m id e f u v. (let b = lives_there (live l.blocks n) e in let d = lives_there (live l.blocks m) f in ends_one n m id b.0 d.0 (which n b.0 b.1) (which m d.0 d.1) u v);
      only = λ id used. ends_only id (stand.names_stand.only id used);
      apart = λ n m a c b d ne e f u v. ends_apart n m a c b d ne e f (which n b e) (which m d f) u v;
    };
    memory = λ n index b c e f. ends_cell n index b c e (which n b e) f;
  }
