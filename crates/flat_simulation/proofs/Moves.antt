-- Moves of objects: memory stands for the same blocks, by the same names.
use Rattle.std.proofs.Common.{◌≡◌, ℕ, ◌+◌, ◌-◌, ◌<◌, ◌≤◌, Bool, true, false, List, length, get_or, Some, sym, ap, subst, ◌∙◌, inl, inr, arith}
use Rattle.std.proofs.lemmas.Option.{slice_get_within}
use Rattle.block_store.specs.Blocks.{Block, Blocks, live, is_heap}
use Rattle.handle_table.specs.Table.{address_of}
use Rattle.flat_store.specs.Flat.{first_address, byte_at, bytes_from}
use Rattle.sub_heaps.specs.declared.objects.Object.{Object}
use Rattle.sub_heaps.specs.declared.moves.Move.{Move}
use Rattle.sub_heaps.specs.Moving.{destination}
use Rattle.arena_meaning.specs.Arena.{IsConsistent, Storage, object_of}
use Rattle.arena_meaning.specs.Moves.{IsCarried, KeepsObjects}
use Rattle.defrag_move.proofs.Kept.{matches}
use Rattle.defrag_move.proofs.Owners.{owner_found}
use Rattle.flat_meaning.specs.Names.{Name, name_of, address_if, address_for, LiesAt}
use Rattle.flat_simulation.specs.inner.Cells.{CellStands}
use Rattle.flat_simulation.specs.inner.World.{BlocksStand}
use Rattle.flat_simulation.proofs.Rows.{part_at}
use Rattle.flat_simulation.proofs.Placed.{lies, here_address, outside_address}

-- a byte of so many from an address on
byte_of : (bytes : List ℕ) (at n i : ℕ) → first_address ≤ at → i < n → get_or (bytes_from bytes at n) i 0 ≡ byte_at bytes (at + i)
byte_of bytes at n i low below =
    let same : at - first_address + i ≡ at + i - first_address = omega arith in
    part_at bytes (at - first_address) n 0 i below ∙ ap (λ k. get_or bytes k 0) same

module _ (names : List Name) (blocks : Blocks) (s new : Storage) (pinned : ℕ → Bool) (moves : List Move) (stand : BlocksStand names blocks s) (consistent : IsConsistent new) (kept : KeepsObjects pinned moves s new) where
  carried : (id : ℕ) (o : Object) → object_of id s.heaps.objects ≡ Some o → (o.owner ≡ id) × IsCarried s new o (destination moves o.at)
  carried id o e = ((owner_found s.start s.table s.heaps.objects (matches s stand.consistent) id o e).0, kept.carried id o e)

  moved_lies : (h : Bool) (n : Name) (size : ℕ) → LiesAt s n h size → LiesAt new n h size
  moved_lies true n size on =
      let c = carried on.id on.object on.owned in
      record { id = on.id; named = on.named; object = record on.object { at = destination moves on.object.at }; owned = ap (λ k. object_of k new.heaps.objects) (sym c.0) ∙ c.1.object; rounded_size = on.rounded_size }
  moved_lies false n size on = record { address = on.address; named = on.named; above = on.above; below = omega (arith, on.below, kept.start) }

  -- a byte of a block, where that was and where it is
  moved_byte : (block : ℕ) (b : Block) → live blocks block ≡ Some b → (index : ℕ) → index < length b.cells
      → byte_at s.bytes (address_for s (name_of names block) + index) ≡ byte_at new.bytes (address_for new (name_of names block) + index)
  moved_byte block b e index below = elim (lies names blocks s stand.consistent stand.names_stand block b e) [
    | inl h ↦
        let c = carried h.id h.object h.owned in
        let o = h.object in
        let to = destination moves o.at in
        let was : address_for s (name_of names block) ≡ s.start + o.at = here_address names blocks s stand.consistent stand.names_stand (name_of names block) (length b.cells) h in
        let is : address_for new (name_of names block) ≡ new.start + to = ap (address_for new) h.named ∙ ap address_if (ap (address_of new.table) (sym c.0) ∙ c.1.address) in
        let inside : index < o.size = omega (arith, below, h.room) in
        ap (λ a. byte_at s.bytes (a + index)) was
        ∙ sym (byte_of s.bytes (s.start + o.at) o.size index (omega (arith, stand.consistent.above)) inside)
        ∙ ap (λ bs. get_or bs index 0) (sym c.1.bytes)
        ∙ byte_of new.bytes (new.start + to) o.size index (omega (arith, consistent.above)) inside
        ∙ ap (λ a. byte_at new.bytes (a + index)) (sym is)
    | inr h ↦
        let was : address_for s (name_of names block) ≡ h.address = outside_address names blocks s stand.consistent stand.names_stand (name_of names block) (length b.cells) h in
        let is : address_for new (name_of names block) ≡ h.address = ap (address_for new) h.named in
        ap (λ a. byte_at s.bytes (a + index)) was
        ∙ sym (kept.outside (h.address + index) (omega (arith, h.above), omega (arith, h.below, below, stand.consistent.whole)) (omega (arith, h.below, below)))
        ∙ ap (λ a. byte_at new.bytes (a + index)) (sym is)
  ]

  -- what stood for blocks still does
  pub moved_stands : BlocksStand names blocks new
  moved_stands = record {
    consistent = consistent;
    names_stand = record {
      each = stand.names_stand.each;
      lies = λ block b e. moved_lies (is_heap b.kind) (name_of names block) (length b.cells) (stand.names_stand.lies block b e);
      one = stand.names_stand.one;
      only = λ id used. stand.names_stand.only id ((kept.ids id).0 used);
      apart = stand.names_stand.apart;
    };
    memory = λ block index b c e f. subst (λ x. CellStands names blocks c x) (moved_byte block b e index (slice_get_within b.cells index c f)) (stand.memory block index b c e f);
  }

  -- an id whose object is pinned leads where it led
  pub pinned_address : (id : ℕ) (o : Object) → object_of id s.heaps.objects ≡ Some o → pinned o.at ≡ true → address_of new.table id ≡ address_of s.table id
  pinned_address id o e is =
      let c = carried id o e in
      let at = (owner_found s.start s.table s.heaps.objects (matches s stand.consistent) id o e).1 in
      ap (address_of new.table) (sym c.0) ∙ c.1.address ∙ (λ i. Some (kept.start i + kept.unpinned o.at is i)) ∙ sym at
