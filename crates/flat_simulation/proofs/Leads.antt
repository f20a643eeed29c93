-- Each access of a step goes through a slot that has its base's address: so its address is where the pointer in its base points.
use Rattle.std.proofs.Common.{◌≡◌, ℕ, ◌+◌, false, List, length, Some, is_some, sym, ap, subst, ◌∙◌, inl, inr}
use Rattle.block_store.specs.declared.values.Ptr.{Ptr}
use Rattle.block_store.specs.declared.values.Ptr.TheVariants.{Null, To}
use Rattle.block_store.specs.declared.values.Value.TheVariants as values
use Rattle.block_store.specs.Blocks.{Block, Blocks, live}
use Rattle.handle_table.specs.declared.frame.PinSlot.{PinSlot}
use Rattle.handle_table.specs.Table.{address_of, translated}
use Rattle.handle_table.specs.Frame.{slot_at}
use Rattle.arena_meaning.specs.Arena.{Storage}
use Rattle.struct_ir.specs.Nodes.{Place, Step, step, Ir}
use Rattle.struct_ir.specs.Flow.{does}
use Rattle.struct_ir.specs.Machine.{Point}
use Rattle.struct_ir.specs.Pins.{looked, lacks_if, listing, facts, Among}
use Rattle.struct_ir.specs.meaning.Blocks.{value, Own}
use Rattle.flat_meaning.specs.Image.{Image}
use Rattle.flat_meaning.specs.Words.{Words, word_at, base_address}
use Rattle.flat_meaning.specs.Allowed.{list_at}
use Rattle.flat_meaning.specs.Names.{Name, heap, plain, name_of, SlotAgrees}
use Rattle.flat_simulation.specs.inner.Values.{AnyBlock, PointerStands, Stands, IsPlaced}
use Rattle.flat_simulation.specs.inner.Lags.{StandsIn}
use Rattle.flat_simulation.specs.inner.Programs.{IsImage}
use Rattle.flat_simulation.specs.inner.World.{BlocksStand, GoesTo}
use Rattle.flat_simulation.proofs.Placed.{lies, sees_all}
use Rattle.flat_simulation.proofs.Places.{translated_word}

module _ (names : List Name) (blocks : Blocks) (s : Storage) (stand : BlocksStand names blocks s) where
  -- the id of a live block is in use
  in_use : (block : ℕ) (b : Block) → live blocks block ≡ Some b → (id : ℕ) → name_of names block ≡ heap id → (at : ℕ) × (address_of s.table id ≡ Some at)
  in_use block b e id named = elim (lies names blocks s stand.consistent stand.names_stand block b e) [
    | inl h ↦
        let both : heap h.id ≡ heap id = sym h.named ∙ named in
        let is : h.id ≡ id = cc in
        (s.start + h.object.at, ap (address_of s.table) (sym is) ∙ h.in_use)
    | inr h ↦ let both : plain h.address ≡ heap id = sym h.named ∙ named in absurd cc
  ]

  pub slot_goes : (from : Ptr) (word : ℕ) (slot : PinSlot) → PointerStands names AnyBlock blocks from word → SlotAgrees names blocks s (value (values.Pointer from)) slot → GoesTo names blocks s from slot.address
  slot_goes Null word slot points agrees = tt
  slot_goes (To block offset) word slot points agrees = λ b e.
      let both = agrees (ap is_some e) in
      let placed : IsPlaced (name_of names block) (length b.cells) = (sees_all names blocks s stand.consistent stand.names_stand).placed block b tt e in
      both.1 ∙ ap (translated s.table) both.0 ∙ translated_word s (name_of names block) (length b.cells) offset placed (in_use block b e) (points.within b e)

-- each access of a step
module _ {P : Type 0} (x : Image P) (p : Ir) (image : IsImage x p) (thread : ℕ) (names : List Name) (s : Storage) (k : Point P Own) (q : Point P Words) (stand : BlocksStand names k.own.blocks s) (stands : StandsIn x p thread names AnyBlock s k q) where
  pub leads_there : (place : ℕ) (st : Step) → x.flow.here q.at ≡ does place (step st) → (a : Place) → Among st.places a → (from : Ptr) → k.own.temps a.base ≡ value (values.Pointer from)
      → GoesTo names k.own.blocks s from (base_address q.own a.base a.slot)
  leads_there place st here a among from is =
      let pinned = (image.safe q.own.function).each stands.way q.at stands.path place (step st) here a among in
      let listed : listing (lacks_if pinned.slot (list_at (x.flow.here q.at))) (facts x.flow pinned.slot stands.way) ≡ looked a.base false false =
      ap (λ h. listing (lacks_if pinned.slot (list_at h)) (facts x.flow pinned.slot stands.way)) here ∙ ap (λ b. listing b (facts x.flow pinned.slot stands.way)) pinned.held ∙ ap (listing false) pinned.looked_for in
      let slot = stands.slots pinned.slot a.base listed in
      let points : PointerStands names AnyBlock k.own.blocks from (word_at q.own a.base) = subst (λ h. Stands names AnyBlock k.own.blocks h (word_at q.own a.base)) is (stands.call.temps a.base slot.0) in
      let agrees : SlotAgrees names k.own.blocks s (value (values.Pointer from)) (slot_at q.own.slots pinned.slot) = subst (λ h. SlotAgrees names k.own.blocks s h (slot_at q.own.slots pinned.slot)) is slot.1 in
      subst (λ o. GoesTo names k.own.blocks s from (base_address q.own a.base o)) (sym pinned.named) (slot_goes names k.own.blocks s stand from (word_at q.own a.base) (slot_at q.own.slots pinned.slot) points agrees)
