-- Stack objects that begin and end within a turn, over named blocks; over words nothing happens.
use Rattle.std.proofs.Common.{◌≡◌, ◌≢◌, ℕ, ◌<◌, ◌≤◌, List, [], ◌∷◌, ◌++◌, length, Option, Some, None, refl, sym, ap, subst, ◌∙◌, arith, ◌⊎◌, inl, inr}
use Rattle.std.proofs.lemmas.Bool.{cases_eq, eq-eqb, ne_eqb}
use Rattle.std.proofs.lemmas.List.{length-replicate}
use Rattle.block_store.specs.declared.values.BlockKind.TheVariants as block_kinds
use Rattle.block_store.specs.declared.values.Cell.TheVariants.{Unknown}
use Rattle.block_store.specs.Blocks.{Block, Blocks, live, made, ended, is_heap}
use Rattle.struct_ir.specs.Nodes.{Ir}
use Rattle.struct_ir.specs.meaning.Blocks.{Own, set_at, with_blocks, without, begun, object_ended}
use Rattle.flat_meaning.specs.Image.{Layout}
use Rattle.flat_meaning.specs.Words.{Words, word_at, object_address}
use Rattle.flat_meaning.specs.Names.{Name, heap, plain, name_of, ids_in}
use Rattle.flat_simulation.specs.inner.Aged.{Aged}
use Rattle.flat_simulation.specs.inner.Blocks.{new_block}
use Rattle.flat_simulation.specs.inner.Values.{KnownIn, Stands}
use Rattle.flat_simulation.specs.inner.Calls.{objects_in, object_size, IsObject, CallStands}
use Rattle.flat_simulation.specs.inner.Turns.{Far}
use Rattle.flat_simulation.proofs.Blocks.{live_in, length-made, made_live, made_still, ended_other, ended_live, aged_still, aged_then, aged_made, aged_ended, aged_name, aged_more, name_new}
use Rattle.flat_simulation.proofs.Values.{stands_later}

-- ---- functions with another value in one place

pub set_same : {A : Type 0} (f : ℕ → A) (k : ℕ) (v : A) → set_at f k v k ≡ v
set_same f k v = let e = eq-eqb k k refl in rw e refl

pub set_other : {A : Type 0} (f : ℕ → A) (k : ℕ) (v : A) (x : ℕ) → x ≢ k → set_at f k v x ≡ f x
set_other f k v x ne = let e = ne_eqb x k ne in rw e refl

-- ---- names

-- a plain name has no id
ids_plain : (names : List Name) (a : ℕ) → ids_in (names ++ plain a ∷ []) ≡ ids_in names
ids_plain [] a = refl
ids_plain (heap id ∷ names) a = ap (λ ids. id ∷ ids) (ids_plain names a)
ids_plain (plain c ∷ names) a = ids_plain names a

-- ---- a call, later

module _ (names all : List Name) (blocks later : Blocks) (aged : Aged names all blocks later) (K J : ℕ → Type 0) (more : (block : ℕ) → block < length blocks → K block → J block) where
  pub object_later : (p : Ir) (function i block address : ℕ) → IsObject p names K blocks function i block address → IsObject p all J later function i block address
  object_later p function i block address o = record {
    index = o.index;
    there = record { known = more block o.there.made o.there.known; made = omega (arith, o.there.made, aged_more names all blocks later aged); at = aged_name names all blocks later aged block o.there.made ∙ o.there.at };
    size = λ b e. (let c = aged.ages.lives block b o.there.made e in sym c.3 ∙ o.size c.0 c.1);
    kind = λ b e. (let c = aged.ages.lives block b o.there.made e in ap is_heap (sym c.2) ∙ o.kind c.0 c.1);
  }

  pub call_later : (y : Layout) (p : Ir) (thread : ℕ) (l : Own) (q : Words) → l.blocks ≡ blocks → CallStands y p thread names K l q → CallStands y p thread all J (with_blocks l later) q
  call_later y p thread l q same stands = record {
    function = stands.function;
    temps = λ r below. stands_later names all blocks later aged K J more (l.temps r) (word_at q r) (subst (λ z. Stands names K z (l.temps r) (word_at q r)) same (stands.temps r below));
    objects = λ i block e. object_later p l.function i block (object_address y thread q i) (subst (λ z. IsObject p names K z l.function i block (object_address y thread q i)) same (stands.objects i block e));
  }

-- ---- objects

module _ (y : Layout) (p : Ir) (before : ℕ) (first : List Name) (blocks : Blocks) (thread : ℕ) where
  abbrev K : ℕ → Type 0
  K = KnownIn before (length blocks)

  abbrev CallTo : List Name → Own → Words → Type 0
  CallTo names l q = CallStands y p thread names K l q

  abbrev FarTo : List Name → Own → Words → Type 0
  FarTo names l q = Far y before first blocks names thread l q

  -- what an act leaves
  pub record Went (names all : List Name) (l later : Own) (q : Words) : Type 0 where
    pub call : CallTo all later q
    pub far : FarTo all later q
    pub aged : Aged names all l.blocks later.blocks

  -- an object other than the one that ended
  other_object : (l : Own) (i n : ℕ) → (l.objects i ≡ Some n → ⊥) → (j : ℕ) × (l.objects j ≡ Some n) → (j : ℕ) × (set_at l.objects i None j ≡ Some n)
  other_object l i n ne (j, e) = (j, set_other l.objects i None j (λ (q : j ≡ i). ne (sym (ap l.objects q) ∙ e)) ∙ e)

  -- this block, and no object with it, is the one that ended
  no_object : (names : List Name) (l : Own) (q : Words) (later : Blocks) (i : ℕ) → CallTo names (with_blocks l later) q → CallTo names (record { function = l.function; temps = l.temps; objects = set_at l.objects i None; blocks = later }) q
  no_object names l q later i stands = record {
    function = stands.function;
    temps = stands.temps;
    objects = λ j n e. elim (cases_eq j i) [
      | inl same ↦ let x : None ≡ Some n = sym (set_same l.objects i None) ∙ ap (set_at l.objects i None) (sym same) ∙ e in absurd cc
      | inr ne ↦ stands.objects j n (sym (set_other l.objects i None j ne) ∙ e)
    ];
  }

  ended_with : (names : List Name) (l : Own) (q : Words) → CallTo names l q → FarTo names l q → (i : ℕ) (o : Option ℕ) → l.objects i ≡ o
      → Went names names l (record { function = l.function; temps = l.temps; objects = set_at l.objects i None; blocks = without l.blocks o }) q
  ended_with names l q stands far i None e =
      let none : (n : ℕ) → l.objects i ≡ Some n → ⊥ = λ n f. (let x : None ≡ Some n = sym e ∙ f in absurd cc) in
      record {
        call = no_object names l q l.blocks i stands;
        far = record {
          aged = far.aged;
          ids = far.ids;
          kept = far.kept;
          unwritten = far.unwritten;
          heaps = far.heaps;
          begun = λ n b ge v. other_object l i n (none n) (far.begun n b ge v);
          clear = λ n a b k v f. elim (far.clear n a b k v f) [ inl x ↦ inl x | inr z ↦ elim z [ inl x ↦ inr (inl x) | inr x ↦ inr (inr (other_object l i n (none n) x)) ] ];
        };
        aged = aged_still names l.blocks far.aged.each_later;
      }
  ended_with names l q stands far i (Some c) e =
      let later = ended l.blocks c in
      let aged : Aged names names l.blocks later = aged_ended names l.blocks c far.aged.each_later in
      let not_c : (n : ℕ) → n ≢ c → l.objects i ≡ Some n → ⊥ = λ n ne f. (let x : Some c ≡ Some n = sym e ∙ f in let z : c ≡ n = cc in ne (sym z)) in
      record {
        call = no_object names l q later i (call_later names names l.blocks later aged K K (λ n lt k. k) y p thread l q refl stands);
        far = record {
          aged = aged_then first names names blocks l.blocks later far.aged aged;
          ids = far.ids;
          kept = λ n b lt v. far.kept n b lt (ended_live l.blocks c n b v).1;
          unwritten = λ n b ge v. far.unwritten n b ge (ended_live l.blocks c n b v).1;
          heaps = λ n id b f v.
              let not_it : n ≢ c = λ r. (let one = aged_name first names blocks l.blocks far.aged n (live_in blocks n b v) ∙ f in let two = ap (name_of names) r ∙ (stands.objects i c e).there.at in let x : heap id ≡ plain (object_address y thread q i) = sym one ∙ two in cc) in
              ended_other l.blocks c n not_it ∙ far.heaps n id b f v;
          begun = λ n b ge v. (let x = ended_live l.blocks c n b v in other_object l i n (not_c n x.0) (far.begun n b ge x.1));
          clear = λ n a b k v f. (let z = ended_live l.blocks c n b v in elim (far.clear n a b k z.1 f) [ inl x ↦ inl x | inr w ↦ elim w [ inl x ↦ inr (inl x) | inr x ↦ inr (inr (other_object l i n (not_c n z.0) x)) ] ]);
        };
        aged = aged;
      }

  pub object_ended_stands : (names : List Name) (l : Own) (q : Words) → CallTo names l q → FarTo names l q → (i : ℕ) → Went names names l (object_ended l i) q
  object_ended_stands names l q stands far i = ended_with names l q stands far i (l.objects i) refl

  -- ---- an object begins

  -- its name
  abbrev named : List Name → Words → ℕ → List Name
  named names q i = names ++ plain (object_address y thread q i) ∷ []

  module _ (names : List Name) (l : Own) (q : Words) (stands : CallTo names l q) (far : FarTo names l q) (i : ℕ) (within : i < length (objects_in p l.function)) (none : l.objects i ≡ None) (after : ℕ → Option ℕ)
      (here : after i ≡ Some (length l.blocks)) (there : (j : ℕ) → j ≢ i → after j ≡ l.objects j) where
    abbrev size : ℕ
    size = object_size p l.function i

    abbrev later : Blocks
    later = made l.blocks size block_kinds.Local Unknown

    abbrev own : Own
    own = record { function = l.function; temps = l.temps; objects = after; blocks = later }

    aged : Aged names (named names q i) l.blocks later
    aged = aged_made names (plain (object_address y thread q i)) l.blocks size block_kinds.Local Unknown far.aged.each_later

    grown : length blocks ≤ length l.blocks
    grown = aged_more first names blocks l.blocks far.aged

    which : (n : ℕ) (b : Block) → live later n ≡ Some b → ((n ≡ length l.blocks) × (b ≡ new_block size block_kinds.Local Unknown)) ⊎ (live l.blocks n ≡ Some b)
    which n b e = made_live l.blocks size block_kinds.Local Unknown n b e

    in_after : (n : ℕ) → (j : ℕ) × (l.objects j ≡ Some n) → (j : ℕ) × (after j ≡ Some n)
    in_after n (j, e) = (j, there j (λ same. (let x : None ≡ Some n = sym none ∙ ap l.objects (sym same) ∙ e in absurd cc)) ∙ e)

    new_object : (n : ℕ) → n ≡ length l.blocks → IsObject p (named names q i) K later l.function i n (object_address y thread q i)
    new_object n is = record {
      index = within;
      there = record {
        known = inr (omega (arith, is, grown));
        made = omega (arith, is, length-made l.blocks size block_kinds.Local Unknown);
        at = ap (name_of (named names q i)) (is ∙ sym far.aged.each_later) ∙ name_new names (plain (object_address y thread q i));
      };
      size = λ b e. elim (which n b e) [
        | inl x ↦ ap (λ (z : Block). length z.cells) x.1 ∙ length-replicate size Unknown
        | inr x ↦ let below = live_in l.blocks n b x in absurd (omega (arith, is, below))
      ];
      kind = λ b e. elim (which n b e) [
        | inl x ↦ ap (λ (z : Block). is_heap z.kind) x.1
        | inr x ↦ let below = live_in l.blocks n b x in absurd (omega (arith, is, below))
      ];
    }

    object_after : (j n : ℕ) → after j ≡ Some n → IsObject p (named names q i) K later l.function j n (object_address y thread q j)
    object_after j n e = elim (cases_eq j i) [
      | inl same ↦
          let both : Some (length l.blocks) ≡ Some n = sym here ∙ ap after (sym same) ∙ e in
          let is : length l.blocks ≡ n = cc in
          subst (λ k. IsObject p (named names q i) K later l.function k n (object_address y thread q k)) (sym same) (new_object n (sym is))
      | inr ne ↦ object_later names (named names q i) l.blocks later aged K K (λ m lt k. k) p l.function j n (object_address y thread q j) (stands.objects j n (sym (there j ne) ∙ e))
    ]

    new_stands : Went names (named names q i) l own q
    new_stands = record {
      call = record {
        function = stands.function;
        temps = (call_later names (named names q i) l.blocks later aged K K (λ n lt k. k) y p thread l q refl stands).temps;
        objects = object_after;
      };
      far = record {
        aged = aged_then first names (named names q i) blocks l.blocks later far.aged aged;
        ids = ids_plain names (object_address y thread q i) ∙ far.ids;
        kept = λ n b lt v. elim (which n b v) [ inl e ↦ absurd (omega (arith, e.0, lt, grown)) | inr x ↦ far.kept n b lt x ];
        unwritten = λ n b ge v. elim (which n b v) [ inl e ↦ (size, e.1) | inr x ↦ far.unwritten n b ge x ];
        heaps = λ n id b f v. made_still l.blocks size block_kinds.Local Unknown n b (far.heaps n id b f v);
        begun = λ n b ge v. elim (which n b v) [ inl e ↦ (i, here ∙ ap (λ (u : ℕ). Some u) (sym e.0)) | inr x ↦ in_after n (far.begun n b ge x) ];
        clear = λ n a b k v f. elim (which n b v) [
          | inl e ↦ inr (inr (i, here ∙ ap (λ (u : ℕ). Some u) (sym e.0)))
          | inr x ↦ elim (far.clear n a b k x (sym (aged_name names (named names q i) l.blocks later aged n (live_in l.blocks n b x)) ∙ f)) [ inl r ↦ inl r | inr s ↦ elim s [ inl r ↦ inr (inl r) | inr r ↦ inr (inr (in_after n r)) ] ]
        ];
      };
      aged = aged;
    }

  -- the earlier block of the object ends first
  pub object_begun_stands : (names : List Name) (l : Own) (q : Words) → CallTo names l q → FarTo names l q → (i : ℕ) → i < length (objects_in p l.function) → Went names (named names q i) l (begun p l i) q
  object_begun_stands names l q stands far i within =
      let old = object_ended_stands names l q stands far i in
      let ended_own : Own = object_ended l i in
      let new = new_stands names ended_own q old.call old.far i within (set_same l.objects i None) (set_at l.objects i (Some (length ended_own.blocks))) (set_same l.objects i (Some (length ended_own.blocks)))
      (λ j ne. set_other l.objects i (Some (length ended_own.blocks)) j ne ∙ sym (set_other l.objects i None j ne)) in
      record { call = new.call; far = new.far; aged = aged_then names names (named names q i) l.blocks ended_own.blocks _ old.aged new.aged }
