-- A free that breaks no rule: a heap block ends, and its object is gone.
use Rattle.std.proofs.Common.{◌≡◌, ◌≢◌, ℕ, ◌+◌, Bool, true, false, ◌&&◌, ◌==◌, List, length, Option, Some, None, Ok, Err, is_some, refl, sym, ap, subst, ◌∙◌, arith, get_or-set_other, length-set}
use Rattle.std.specs.Prelude.{if◌then◌else◌}
use Rattle.std.proofs.lemmas.Bool.{eq-eqb, ne_eqb, eqb-true}
use Rattle.ak_words.specs.declared.rule.Rule.TheVariants.{C10}
use Rattle.block_store.specs.declared.values.Ptr.{Ptr}
use Rattle.block_store.specs.declared.values.Ptr.TheVariants.{Null, To}
use Rattle.block_store.specs.Blocks as source
use Rattle.block_store.specs.Blocks.{Block, Blocks, live, ended, is_heap, is_freeable}
use Rattle.handle_words.specs.Handle.{handle_of, id_of}
use Rattle.handle_table.specs.Table.{IsInUse, address_of}
use Rattle.flat_store.specs.Flat.{byte_at}
use Rattle.arena_meaning.specs.Arena.{Storage}
use Rattle.arena_meaning.specs.Changes.{without_id}
use Rattle.defrag_move.proofs.Choices.{chosen_free}
use Rattle.defrag_move.proofs.Owners.{object_of-without_owner, freed_unused}
use Rattle.ak_trace.specs.declared.endings.TrapKind.TheVariants as kinds
use Rattle.flat_meaning.specs.Accesses as words
use Rattle.flat_meaning.specs.Accesses.{went, is_live_start}
use Rattle.flat_meaning.specs.Memory.{Memory, with_storage}
use Rattle.flat_meaning.proofs.LiveStarts.{live_starts_are_told}
use Rattle.flat_meaning.specs.Names.{Name, heap, plain, name_of, word_for, address_if, address_for, Lives, Owns, LiesAt, IsOnHeap}
use Rattle.flat_simulation.specs.inner.Aged.{Aged}
use Rattle.flat_simulation.specs.inner.Values.{AnyBlock, PointerStands}
use Rattle.flat_simulation.specs.inner.Cells.{CellStands}
use Rattle.flat_simulation.specs.inner.World.{BlocksStand}
use Rattle.flat_simulation.proofs.Blocks.{ended_other, ended_live, aged_still, aged_ended}
use Rattle.flat_simulation.proofs.Names.{lives_there}
use Rattle.flat_simulation.proofs.Values.{cell_later}
use Rattle.flat_simulation.proofs.Placed.{is_here}
use Rattle.flat_simulation.proofs.Pointers.{if_ok}

module _ (names : List Name) (blocks : Blocks) (s : Storage) (stand : BlocksStand names blocks s) (gone id : ℕ) (b : Block) (here : live blocks gone ≡ Some b) (named : name_of names gone ≡ heap id) where
  abbrev pub now : Storage
  now = without_id s id

  abbrev pub later : Blocks
  later = ended blocks gone

  pub gone_ages : Aged names names blocks later
  gone_ages = aged_ended names blocks gone stand.names_stand.each

  pub was : (block : ℕ) (d : Block) → live later block ≡ Some d → (block ≢ gone) × (live blocks block ≡ Some d)
  was block d e = ended_live blocks gone block d e

  lived : (block : ℕ) → Lives later block → Lives blocks block
  lived block e = let d = lives_there (live later block) e in ap is_some (was block d.0 d.1).1

  -- no other block has its id
  pub other_id : (block key : ℕ) (d : Block) → live later block ≡ Some d → name_of names block ≡ heap key → key ≢ id
  other_id block key d e n same = let w = was block d e in w.0 (stand.names_stand.one block gone key (ap is_some w.1) (ap is_some here) n (named ∙ ap heap (sym same)))

  gone_lies : (h : Bool) (n : Name) (size : ℕ) → ((key : ℕ) → n ≡ heap key → key ≢ id) → LiesAt s n h size → LiesAt now n h size
  gone_lies true n size ne on = record { id = on.id; named = on.named; object = on.object; owned = object_of-without_owner on.id id s.heaps.objects (ne on.id on.named) ∙ on.owned; rounded_size = on.rounded_size }
  gone_lies false n size ne on = record { address = on.address; named = on.named; above = on.above; below = on.below }

  gone_only : (key : ℕ) → IsInUse now.table key → Owns names later key
  gone_only key used =
      let ne : key ≢ id = freed_unused s.table id key used in
      let before : IsInUse s.table key = ap is_some (sym (get_or-set_other s.table id key None None ne)) ∙ used in
      let o = stand.names_stand.only key before in
      let other : o.block ≢ gone = λ same. ne (let both : heap key ≡ heap id = sym o.named ∙ ap (name_of names) same ∙ named in cc) in
      record { block = o.block; lives = ap is_some (ended_other blocks gone o.block other) ∙ o.lives; named = o.named }

  kept_address : (n : Name) → ((key : ℕ) → n ≡ heap key → key ≢ id) → address_for now n ≡ address_for s n
  kept_address (heap key) ne = ap address_if (get_or-set_other s.table id key None None (ne key refl))
  kept_address (plain a) ne = refl

  -- the other blocks stand for the other objects
  pub gone_stands : BlocksStand names later now
  gone_stands = record {
    consistent = chosen_free s stand.consistent id;
    names_stand = record {
      each = stand.names_stand.each ∙ sym (length-set blocks gone None);
      lies = λ block d e. gone_lies (is_heap d.kind) (name_of names block) (length d.cells) (λ key n. other_id block key d e n) (stand.names_stand.lies block d (was block d e).1);
      one = λ block other key e f n m. stand.names_stand.one block other key (lived block e) (lived other f) n m;
      only = gone_only;
      apart = λ block other a c d x ne e f n m. stand.names_stand.apart block other a c d x ne (was block d e).1 (was other x f).1 n m;
    };
    memory = λ block index d c e f.
        let same : address_for s (name_of names block) ≡ address_for now (name_of names block) = sym (kept_address (name_of names block) (λ key n. other_id block key d e n)) in
        subst (λ a. CellStands names later c (byte_at s.bytes (a + index))) same (cell_later names names blocks later gone_ages c _ (stand.memory block index d c (was block d e).1 f));
  }

-- ---- the action

module _ (names : List Name) (blocks : Blocks) (m : Memory) (stand : BlocksStand names blocks m.storage) where
  -- what a free leaves
  pub record IsFreed (word : ℕ) (later : Blocks) : Type 0 where
    pub storage : Storage
    pub went : words.freed word m ≡ went None (with_storage m storage)
    pub stands : BlocksStand names later storage
    pub ages : Aged names names blocks later
    pub start : storage.start ≡ m.storage.start
    -- the ids of the others lead where they led
    pub others : (block key : ℕ) (b : Block) → live later block ≡ Some b → name_of names block ≡ heap key → address_of storage.table key ≡ address_of m.storage.table key

  null_freed : (word : ℕ) → word ≡ 0 → IsFreed word blocks
  null_freed word is = record {
    storage = m.storage;
    went = ap (λ b. if b then went None m else (if is_live_start m.storage word then went None (with_storage m (without_id m.storage (id_of word))) else words.over (words.trap word kinds.Free))) (eq-eqb word 0 is);
    stands = stand;
    ages = aged_still names blocks stand.names_stand.each;
    start = refl;
    others = λ block key b e n. refl;
  }

  heap_freed : (gone id word : ℕ) (b : Block) → live blocks gone ≡ Some b → name_of names gone ≡ heap id → word ≡ handle_of id 0 → IsInUse m.storage.table id → IsFreed word (ended blocks gone)
  heap_freed gone id word b here named is used =
      let key : id_of word ≡ id = omega (arith, is) in
      let some : (word == 0) ≡ false = ne_eqb word 0 (λ z. omega (arith, is, z)) in
      let start : is_live_start m.storage word ≡ true =
      (live_starts_are_told m.storage word).1 (record { handle = omega (arith, is); start = omega (arith, is); in_use = subst (λ k. IsInUse m.storage.table k) (sym key) used }) in
      record {
        storage = without_id m.storage id;
        went = λ i. if some i then went None m else (if start i then went None (with_storage m (without_id m.storage (key i))) else words.over (words.trap word kinds.Free));
        stands = gone_stands names blocks m.storage stand gone id b here named;
        ages = gone_ages names blocks m.storage stand gone id b here named;
        start = refl;
        others = λ block k d e n. get_or-set_other m.storage.table id k None None (other_id names blocks m.storage stand gone id b here named block k d e n);
      }

  both_true : (a b : Bool) → (a && b) ≡ true → (a ≡ true) × (b ≡ true)
  both_true true b e = (refl, e)
  both_true false b e = absurd cc

  pub free_stands : (p : Ptr) (word : ℕ) (later : Blocks) → PointerStands names AnyBlock blocks p word → source.freed blocks p ≡ Ok later → IsFreed word later
  free_stands Null word later s e = let is : blocks ≡ later = cc in subst (IsFreed word) is (null_freed word s)
  free_stands (To name offset) word later points e = by_block (live blocks name) refl e
    where
      by_block : (o : Option Block) → live blocks name ≡ o → (if is_freeable offset o then Ok (ended blocks name) else Err C10) ≡ Ok later → IsFreed word later
      by_block None lives e = absurd cc
      by_block (Some b) lives e =
          let fits = if_ok (is_freeable offset (Some b)) (ended blocks name) later C10 e in
          let both = both_true (offset == 0) (is_heap b.kind) fits.0 in
          let on : IsOnHeap m.storage (name_of names name) (length b.cells) = subst (λ h. LiesAt m.storage (name_of names name) h (length b.cells)) both.1 (stand.names_stand.lies name b lives) in
          let at = is_here names blocks m.storage stand.consistent stand.names_stand (name_of names name) (length b.cells) on in
          let zero : offset ≡ 0 = eqb-true offset 0 both.0 in
          let word_is : word ≡ handle_of at.id 0 = points.agrees b lives ∙ (λ i. word_for (at.named i) (zero i)) in
          subst (IsFreed word) fits.1 (heap_freed name at.id word b lives at.named word_is (ap is_some at.in_use))
