-- What a thread does alone, over named blocks and over words: a register is set, an If is tested, and a Look is done.
use Rattle.std.proofs.Common.{◌≡◌, ◌≢◌, ℕ, ◌<◌, pos, Bool, true, not, ◌==◌, eqb, List, length, Result, Ok, Err, refl, sym, ap, subst, ◌∙◌, arith, inl, inr, get_or-set_same, get_or-set_other, length-set}
use Rattle.std.specs.Prelude.{if◌then◌else◌, nat_lt, slice_set}
use Rattle.std.specs.Ordering.{int_eq}
use Rattle.std.proofs.lemmas.Bool.{ltb-true, cases_eq, eq-eqb, ne_eqb}
use Rattle.block_store.specs.declared.values.Ptr.TheVariants.{Null, To}
use Rattle.block_store.specs.declared.values.Value.{Value}
use Rattle.block_store.specs.declared.values.Value.TheVariants as values
use Rattle.block_store.specs.Blocks.{Blocks, live}
use Rattle.block_store.specs.Pointers.{tested}
use Rattle.handle_table.specs.declared.frame.PinSlot.{PinSlot}
use Rattle.handle_table.specs.Table.{translated}
use Rattle.handle_table.specs.Frame.{blank_slot, slot_at}
use Rattle.arena_meaning.specs.Arena.{Storage}
use Rattle.struct_ir.specs.Nodes.{Calc, Ir}
use Rattle.struct_ir.specs.Valid.{Scope, is_calc}
use Rattle.struct_ir.specs.meaning.Blocks.{Held, value, unset, missing, Fault, Own, set_at, with_temps, known, on_value, calculated, assigned, way_of}
use Rattle.flat_meaning.specs.Image.{Layout}
use Rattle.flat_meaning.specs.Words as words
use Rattle.flat_meaning.specs.Words.{Words, word_at}
use Rattle.flat_meaning.specs.Names.{Name, SlotAgrees}
use Rattle.flat_simulation.specs.inner.Values.{Sees, Stands}
use Rattle.flat_simulation.specs.inner.Calls.{DataStands, CallStands}
use Rattle.flat_simulation.proofs.Numbers.{zero_word}
use Rattle.flat_simulation.proofs.Compared.{tested_stands}
use Rattle.flat_simulation.proofs.Names.{lives_there}
use Rattle.flat_simulation.proofs.Registers.{was_value, unbroken, calculated_stands}

-- ---- a register takes a value

module _ (y : Layout) (p : Ir) (thread : ℕ) (names : List Name) (K : ℕ → Type 0) (l : Own) (q : Words) (stands : CallStands y p thread names K l q) where
  -- and so do their registers
  set_temp : (to : ℕ) (h : Held) (word : ℕ) → Stands names K l.blocks h word → (r : ℕ) → r < length (slice_set q.temps to word) → Stands names K l.blocks (set_at l.temps to h r) (words.word_at (words.with_temps q (slice_set q.temps to word)) r)
  set_temp to h word new r below =
      let within : r < length q.temps = omega (arith, below, length-set q.temps to word) in
      elim (cases_eq r to) [
        | inl same ↦
            let one : (if eqb r to then h else l.temps r) ≡ h = rw (eq-eqb r to same) refl in
            let two : word_at (words.with_temps q (slice_set q.temps to word)) r ≡ word = ap (λ k. word_at (words.with_temps q (slice_set q.temps to word)) k) same ∙ get_or-set_same q.temps to word 0 (subst (λ k. k < length q.temps) same within) in
            subst (λ g. Stands names K l.blocks g (word_at (words.with_temps q (slice_set q.temps to word)) r)) (sym one) (subst (λ w. Stands names K l.blocks h w) (sym two) new)
        | inr ne ↦
            let one : (if eqb r to then h else l.temps r) ≡ l.temps r = rw (ne_eqb r to ne) refl in
            let two : word_at (words.with_temps q (slice_set q.temps to word)) r ≡ word_at q r = get_or-set_other q.temps to r word 0 ne in
            subst (λ g. Stands names K l.blocks g (word_at (words.with_temps q (slice_set q.temps to word)) r)) (sym one) (subst (λ w. Stands names K l.blocks (l.temps r) w) (sym two) (stands.temps r within))
      ]

  pub taken_stands : (to : ℕ) (h : Held) (word : ℕ) → Stands names K l.blocks h word → CallStands y p thread names K (with_temps l (set_at l.temps to h)) (words.with_temps q (slice_set q.temps to word))
  taken_stands to h word new = record { function = stands.function; temps = set_temp to h word new; objects = λ i block e. stands.objects i block e }

  -- a register is set
  module _ (x : Scope) (place : ℕ) (sees : Sees names K l.blocks) (data_stands : DataStands y p names K l.blocks) (temps : length q.temps ≡ x.temps) (globals : length p.globals ≡ x.globals) (literals : length p.literals ≡ x.literals) where
    pub was_assigned : (to : ℕ) (r : Result Held Fault) (later : Own) → assigned l to r ≡ Ok later → (h : Held) × (r ≡ Ok h) × (with_temps l (set_at l.temps to h) ≡ later)
    was_assigned to (Ok h) later e = (h, refl, cc)
    was_assigned to (Err f) later e = absurd cc

    pub set_stands : (to : ℕ) (calc : Calc) (later : Own) → is_calc x calc ≡ true → assigned l to (calculated p place l calc) ≡ Ok later
        → CallStands y p thread names K later (words.with_temps q (slice_set q.temps to (words.calculated y thread q calc)))
    set_stands to calc later ok e =
        let h = was_assigned to (calculated p place l calc) later e in
        subst (λ (k : Own). CallStands y p thread names K k (words.with_temps q (slice_set q.temps to (words.calculated y thread q calc)))) h.2
        (taken_stands to h.0 (words.calculated y thread q calc) (calculated_stands y p x thread place names K l q stands sees data_stands temps globals literals calc h.0 ok h.1))

    -- ---- an If

    way_stands : (v : Value) (word : ℕ) (c : Bool) → Stands names K l.blocks (value v) word → way_of place l v ≡ Ok c → not (word == 0) ≡ c
    way_stands (values.Num n) word c s e =
        let is : not (int_eq n.value (pos 0)) ≡ c = cc in
        ap (λ w. not (w == 0)) s ∙ ap not (zero_word n) ∙ is
    way_stands (values.Pointer a) word c s e =
        let b = unbroken place (λ b. b) (tested l.blocks a) c e in
        tested_stands names K l.blocks sees a word b.0 s b.1 ∙ b.2

    -- it goes by whether a register holds 0
    pub test_stands : (t : ℕ) (c : Bool) → nat_lt t x.temps ≡ true → on_value (known place (l.temps t)) (way_of place l) ≡ Ok c → not (word_at q t == 0) ≡ c
    test_stands t c below e =
        let v = was_value place (l.temps t) (way_of place l) c e in
        way_stands v.0 (word_at q t) c (subst (λ h. Stands names K l.blocks h (word_at q t)) v.1 (stands.temps t (subst (λ n. t < n) (sym temps) (ltb-true t x.temps below)))) v.2

-- ---- a Look

-- a slot that takes a register's word, and that word's translation
pub look_agrees : (names : List Name) (K : ℕ → Type 0) (blocks : Blocks) (s : Storage) (h : Held) (word : ℕ) → Stands names K blocks h word → SlotAgrees names blocks s h (record { word = word; address = translated s.table word })
look_agrees names K blocks s (value (values.Num n)) word stands = tt
look_agrees names K blocks s (value (values.Pointer Null)) word stands = tt
look_agrees names K blocks s (value (values.Pointer (To block offset))) word points = λ lives. (let b = lives_there (live blocks block) lives in (points.agrees b.0 b.1, refl))
look_agrees names K blocks s unset word stands = tt
look_agrees names K blocks s missing word stands = tt

-- it is in the slot then
pub looked_slot : (slots : List PinSlot) (slot : ℕ) (new : PinSlot) → slot < length slots → slot_at (slice_set slots slot new) slot ≡ new
looked_slot slots slot new below = get_or-set_same slots slot new blank_slot below

-- and the others are as they were
pub other_slot : (slots : List PinSlot) (slot other : ℕ) (new : PinSlot) → other ≢ slot → slot_at (slice_set slots slot new) other ≡ slot_at slots other
other_slot slots slot other new ne = get_or-set_other slots slot other new blank_slot ne
