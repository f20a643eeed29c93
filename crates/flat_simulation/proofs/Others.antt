-- Others' turns leave a thread in the middle of its own where it is.
use Rattle.std.proofs.Common.{◌≡◌, ℕ, ◌+◌, ◌<◌, ◌≤◌, ◌^◌, false, leb, List, length, Option, Some, refl, sym, ap, subst, ◌∙◌, arith, inl, inr}
use Rattle.std.proofs.lemmas.Bool.{cases_lt}
use Rattle.std.proofs.lemmas.Bool.Decides.{nat_tests}
use Rattle.block_store.specs.declared.values.Ptr.TheVariants.{Null, To}
use Rattle.block_store.specs.declared.values.Value.TheVariants as values
use Rattle.block_store.specs.Blocks.{Block, Blocks, live}
use Rattle.c_tree.specs.TypedForm.{taken}
use Rattle.handle_table.specs.declared.frame.PinSlot.{PinSlot}
use Rattle.handle_table.specs.Table.{translated}
use Rattle.handle_table.specs.Frame.{slot_at}
use Rattle.arena_meaning.specs.Arena.{Storage}
use Rattle.struct_ir.specs.Nodes.{Ir}
use Rattle.struct_ir.specs.Machine.{Point}
use Rattle.struct_ir.specs.meaning.Blocks.{Held, value, unset, missing, Own}
use Rattle.flat_meaning.specs.Image.{Image, stack_address}
use Rattle.flat_meaning.specs.Words.{Words, word_at, object_address}
use Rattle.flat_meaning.specs.Names.{Name, name_of, word_for, SlotAgrees}
use Rattle.flat_simulation.specs.inner.Aged.{Aged}
use Rattle.flat_simulation.specs.inner.Values.{KnownIn, Points, Stands}
use Rattle.flat_simulation.specs.inner.Calls.{CallStands, objects_in, object_size}
use Rattle.flat_simulation.specs.inner.Turns.{IsClear, Far}
use Rattle.flat_simulation.specs.inner.Lags.{CatchesUpInTurn, comes, breaks, InTurn, IsAside, KeepsSlot, KeepsCall, LieLow}
use Rattle.flat_simulation.proofs.Facts.{listed_fact}
use Rattle.flat_simulation.proofs.Blocks.{aged_still, aged_then, aged_name}
use Rattle.flat_simulation.proofs.Names.{lives_there}
use Rattle.flat_simulation.proofs.Objects.{call_later}

-- more blocks are known once others' are, too
known_more : (before later after block : ℕ) → before ≤ later → KnownIn before after block → KnownIn later after block
known_more before later after block le (inl lt) = inl (omega (arith, lt, le))
known_more before later after block le (inr ge) = inr ge

-- a low word is its own translation
low_word : (table : List (Option ℕ)) (w : ℕ) → w < 2 ^ 63 → translated table w ≡ w
low_word table w low = let fails : leb (2 ^ 63) w ≡ false = grind (arith, nat_tests) in rw fails refl

module _ {P : Type 0} (x : Image P) (p : Ir) (thread : ℕ) (names all : List Name) (blocks later : Blocks) (s new : Storage) (since : Aged names all blocks later)
    (aside : IsAside all blocks later (stack_address x.layout thread) (stack_address x.layout thread + x.layout.limits.stack)) (first : List Name) (start : Blocks) (then_ : Aged all first later start) where
  abbrev K : ℕ → Type 0
  K = KnownIn (length blocks) (length start)

  abbrev J : ℕ → Type 0
  J = KnownIn (length later) (length start)

  module _ (n : List Name) (l : Own) (q : Words) (call : CallStands x.layout p thread n K l q) (far : Far x.layout (length blocks) first start n thread l q) (low : LieLow x.layout p thread q) where
    -- a block of those before this turn that lives lived after others' turns, too
    lived : (k : ℕ) (b : Block) → k < length later → live l.blocks k ≡ Some b → (c : Block) × (live later k ≡ Some c) × (length c.cells ≡ length b.cells)
    lived k b below e =
        let within : k < length start = omega (arith, below, then_.ages.more) in
        let c = far.aged.ages.lives k b within e in
        let d = then_.ages.lives k c.0 below c.1 in
        (d.0, d.1, d.3 ∙ c.3)

    its_name : (k : ℕ) → k < length later → name_of n k ≡ name_of all k
    its_name k below = aged_name first n start l.blocks far.aged k (omega (arith, below, then_.ages.more)) ∙ aged_name all first later start then_ k below

    clear : IsClear n J l.blocks (stack_address x.layout thread + q.below.stack) (stack_address x.layout thread + x.layout.limits.stack) l.objects
    clear k a b (inr ge) v e = far.clear k a b (inr ge) v e
    clear k a b (inl lt) v e = elim (cases_lt k (length blocks)) [
      | inl old ↦ far.clear k a b (inl old) v e
      | inr fresh ↦
          let c = lived k b lt v in
          elim (aside k a c.0 fresh c.1 (sym (its_name k lt) ∙ e)) [
            | inl r ↦ let size = ap taken c.2 in inl (omega (arith, r, size))
            | inr r ↦ inr (inl r)
          ]
    ]

    far_later : Far x.layout (length later) first start n thread l q
    far_later = record { aged = far.aged; ids = far.ids; kept = far.kept; unwritten = far.unwritten; heaps = far.heaps; begun = far.begun; clear = clear }

    -- the word of a pointer that is known leads where it led
    same_translation : (k o word : ℕ) (b : Block) (v : PinSlot) → KeepsSlot all blocks later s new v → Points n K l.blocks k o word → live l.blocks k ≡ Some b → v.word ≡ word_for (name_of n k) o → translated new.table v.word ≡ translated s.table v.word
    same_translation k o word b v keeps points e is = by_known points.known
      where
        by_known : K k → translated new.table v.word ≡ translated s.table v.word
        by_known (inl lt) =
            let below : k < length later = omega (arith, lt, since.ages.more) in
            let c = lived k b below e in
            let within : o ≤ length c.0.cells = omega (arith, points.within b e, c.2) in
            keeps k o c.0 lt c.1 within (is ∙ ap (λ m. word_for m o) (its_name k below))
        by_known (inr ge) =
            let i = far.begun k b ge e in
            let object = call.objects i.0 k i.1 in
            let size : length b.cells ≡ object_size p l.function i.0 = object.size b e in
            let bound = low i.0 (subst (λ f. i.0 < length (objects_in p f)) (sym call.function) object.index) in
            let same : object_size p q.function i.0 ≡ object_size p l.function i.0 = ap (λ f. object_size p f i.0) call.function in
            let there : word_for (name_of n k) o ≡ object_address x.layout thread q i.0 + o = ap (λ m. word_for m o) object.there.at in
            let small : v.word < 2 ^ 63 = omega (arith, is, there, bound, same, size, points.within b e) in
            low_word new.table v.word small ∙ sym (low_word s.table v.word small)

    slot_later : (h : Held) (word : ℕ) (v : PinSlot) → KeepsSlot all blocks later s new v → Stands n K l.blocks h word → SlotAgrees n l.blocks s h v → SlotAgrees n l.blocks new h v
    slot_later (value (values.Num z)) word v keeps stands agrees = tt
    slot_later (value (values.Pointer Null)) word v keeps stands agrees = tt
    slot_later (value (values.Pointer (To k o))) word v keeps points agrees = λ lives.
        let b = lives_there (live l.blocks k) lives in
        let old = agrees lives in
        (old.0, old.1 ∙ sym (same_translation k o word b.0 v keeps points b.1 old.0))
    slot_later unset word v keeps stands agrees = tt
    slot_later missing word v keeps stands agrees = tt

  reaches_later : (k : Point P Own) (q : Point P Words) → LieLow x.layout p thread q.own → KeepsCall x.flow all blocks later s new q → CatchesUpInTurn x p thread (length blocks) first start s k q → CatchesUpInTurn x p thread (length later) first start new k q
  reaches_later k q low keeps (breaks f e) = breaks f e
  reaches_later k q low keeps (comes y n steps far stands) =
      comes y n steps (far_later n y.own q.own stands.call far low) (record {
        here = stands.here;
        call = call_later n n y.own.blocks y.own.blocks (aged_still n y.own.blocks far.aged.each_later) K J (λ b lt known. known_more (length blocks) (length later) (length start) b since.ages.more known) x.layout p thread y.own q.own refl stands.call;
        way = stands.way;
        path = stands.path;
        slots = λ slot base e. (let old = stands.slots slot base e in
            (old.0, slot_later n y.own q.own stands.call far low (y.own.temps base) (word_at q.own base) (slot_at q.own.slots slot) (keeps slot (listed_fact _ _ base e).0) (stands.call.temps base old.0) old.1));
      })

-- no run is done again
pub others_leave_turns : {P : Type 0} (x : Image P) (p : Ir) (thread : ℕ) (names all : List Name) (blocks later : Blocks) (s new : Storage) → Aged names all blocks later
    → IsAside all blocks later (stack_address x.layout thread) (stack_address x.layout thread + x.layout.limits.stack)
    → (k : Point P Own) (q : Point P Words) → LieLow x.layout p thread q.own → KeepsCall x.flow all blocks later s new q → InTurn x p thread names blocks s k q → InTurn x p thread all later new k q
others_leave_turns x p thread names all blocks later s new since aside k q low keeps turn first start then_ =
    reaches_later x p thread names all blocks later s new since aside first start then_ k q low keeps (turn first start (aged_then names all first blocks later start since then_))
