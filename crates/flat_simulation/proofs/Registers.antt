-- What a register is set to, over named blocks and over words.
use borrow.Author.Differences.{up, down}
use Rattle.std.proofs.Common.{◌≡◌, ℕ, ◌+◌, ◌*◌, ◌^◌, ◌<◌, ℤ, pos, ◌+ℤ◌, ◌*ℤ◌, Bool, true, false, ◌&&◌, List, length, Option, Some, None, Result, Ok, Err, refl, sym, ap, subst, ◌∙◌, arith}
use Rattle.std.specs.Prelude.{neg_ℤ, nat_lt}
use Rattle.std.proofs.lemmas.Int.{ints}
use Rattle.std.proofs.lemmas.Bool.{ltb-true}
use Rattle.ak_words.specs.declared.number.Num.{Num}
use Rattle.ak_words.specs.declared.rule.Rule.{Rule}
use Rattle.ak_words.specs.IntType.{int, long}
use Rattle.ak_words.specs.Num.{num}
use Rattle.ak_words.specs.Op.{result_of}
use Rattle.ak_words.specs.Op as operations
use Rattle.c_tree.specs.TypedForm.{is_comparison}
use Rattle.handle_words.specs.Handle.{added}
use Rattle.block_store.specs.declared.values.Ptr.{Ptr}
use Rattle.block_store.specs.declared.values.Ptr.TheVariants.{Null, To}
use Rattle.block_store.specs.declared.values.Value.{Value}
use Rattle.block_store.specs.declared.values.Value.TheVariants as values
use Rattle.block_store.specs.Pointers.{indexed, tested, compared, difference}
use Rattle.struct_ir.specs.Nodes.{Calc, constant, null, global, literal, object, copy, convert, apply, pointer_add, pointer_sub, pointer_diff, pointer_compare, pointer_test, Ir}
use Rattle.struct_ir.specs.Nodes as calcs
use Rattle.struct_ir.specs.Valid.{Scope, is_promoted, is_calc}
use Rattle.struct_ir.specs.meaning.Blocks.{Held, value, unset, missing, Fault, Own, known, on_value, on_number, on_pointer, or_broken, number, pointer, takes, if_taken, truth, start_of, calculated}
use Rattle.flat_words.specs.Words.{word_of, number_word, word_in, applied}
use Rattle.flat_meaning.specs.Image.{Layout, global_address, literal_address}
use Rattle.flat_meaning.specs.Words as words
use Rattle.flat_meaning.specs.Words.{Words, word_at}
use Rattle.flat_meaning.specs.Names.{Name, word_for}
use Rattle.flat_simulation.specs.inner.Values.{Sees, PointerStands, Stands}
use Rattle.flat_simulation.specs.inner.Calls.{LiesThere, DataStands, CallStands}
use Rattle.flat_simulation.proofs.Numbers.{word_apart, word_same, converted_word, applied_word}
use Rattle.flat_simulation.proofs.Pointers.{moved_stands}
use Rattle.flat_simulation.proofs.Compared.{tested_stands, compared_stands, difference_stands}

-- ---- what was read, where a result is there

-- a value
pub was_value : {A : Type 0} (place : ℕ) (h : Held) (go : Value → Result A Fault) (r : A) → on_value (known place h) go ≡ Ok r → (v : Value) × (h ≡ value v) × (go v ≡ Ok r)
was_value place (value v) go r e = (v, refl, e)
was_value place unset go r e = absurd cc
was_value place missing go r e = absurd cc

-- a number
pub was_number : {A : Type 0} (go : Num → Result A Fault) (v : Value) (r : A) → on_number go v ≡ Ok r → (n : Num) × (v ≡ values.Num n) × (go n ≡ Ok r)
was_number go (values.Num n) r e = (n, refl, e)
was_number go (values.Pointer p) r e = absurd cc

-- a pointer
pub was_pointer : {A : Type 0} (go : Ptr → Result A Fault) (v : Value) (r : A) → on_pointer go v ≡ Ok r → (p : Ptr) × (v ≡ values.Pointer p) × (go p ≡ Ok r)
was_pointer go (values.Num n) r e = absurd cc
was_pointer go (values.Pointer p) r e = (p, refl, e)

-- no rule was broken
pub unbroken : {A B : Type 0} (place : ℕ) (f : A → B) (result : Result A Rule) (r : B) → or_broken place f result ≡ Ok r → (x : A) × (result ≡ Ok x) × (f x ≡ r)
unbroken place f (Ok x) r e = (x, refl, cc)
unbroken place f (Err rule) r e = absurd cc

was_taken : {A : Type 0} (b : Bool) (x : Result A Fault) (r : A) → if_taken b x ≡ Ok r → (b ≡ true) × (x ≡ Ok r)
was_taken true x r e = (refl, e)
was_taken false x r e = absurd cc

both : (a b : Bool) → (a && b) ≡ true → (a ≡ true) × (b ≡ true)
both true b e = (refl, e)
both false b e = absurd cc

-- ---- products

-- a number times a size, and its word times it
pub scaled : (x : ℤ) (a m j k c : ℕ) → x +ℤ pos (j * m) ≡ pos a +ℤ pos (k * m) → x *ℤ pos c +ℤ pos (j * c * m) ≡ pos (a * c) +ℤ pos (k * c * m)
scaled x a m j k c e =
    let p : up x + j * m ≡ down x + (a + k * m) = omega (arith, ints, e) in
    let times = ap (λ v. v * c) p in
    omega (arith, ints, times)

scaled_word : (z : ℤ) (size : ℕ) → word_of (pos (word_of z * size)) ≡ word_of (z *ℤ pos size)
scaled_word z size = let x = word_apart z in sym (word_same (z *ℤ pos size) (pos (word_of z * size)) (x.0 * size) (x.1 * size) (scaled z (word_of z) (2 ^ 64) x.0 x.1 size x.2))

backwards : (x : ℤ) (a m j k c : ℕ) → x +ℤ pos (j * m) ≡ pos a +ℤ pos (k * m) → neg_ℤ x *ℤ pos c +ℤ pos (k * c * m) ≡ neg_ℤ (pos (a * c)) +ℤ pos (j * c * m)
backwards x a m j k c e =
    let y = neg_ℤ x in
    let p : up x + j * m ≡ down x + (a + k * m) = omega (arith, ints, e) in
    let times = ap (λ v. v * c) p in
    let none : up y + up x ≡ down y + down x = omega (arith, ints) in
    let nothing = ap (λ v. v * c) none in
    omega (arith, ints, times, nothing)

scaled_back : (z : ℤ) (size : ℕ) → word_of (neg_ℤ (pos (word_of z * size))) ≡ word_of (neg_ℤ z *ℤ pos size)
scaled_back z size = let x = word_apart z in sym (word_same (neg_ℤ z *ℤ pos size) (neg_ℤ (pos (word_of z * size))) (x.1 * size) (x.0 * size) (backwards z (word_of z) (2 ^ 64) x.0 x.1 size x.2))

module _ (y : Layout) (p : Ir) (x : Scope) (thread place : ℕ) (names : List Name) (K : ℕ → Type 0) (l : Own) (q : Words) (stands : CallStands y p thread names K l q) (sees : Sees names K l.blocks)
    (data_stands : DataStands y p names K l.blocks) (temps : length q.temps ≡ x.temps) (globals : length p.globals ≡ x.globals) (literals : length p.literals ≡ x.literals) where
  -- a register that is read
  read_stands : (r : ℕ) (v : Value) → nat_lt r x.temps ≡ true → l.temps r ≡ value v → Stands names K l.blocks (value v) (word_at q r)
  read_stands r v below e = subst (λ h. Stands names K l.blocks h (word_at q r)) e (stands.temps r (subst (λ n. r < n) (sym temps) (ltb-true r x.temps below)))

  read_number : (r : ℕ) (n : Num) (v : Value) → nat_lt r x.temps ≡ true → l.temps r ≡ value v → v ≡ values.Num n → word_at q r ≡ number_word n
  read_number r n v below e f = subst (λ u. Stands names K l.blocks (value u) (word_at q r)) f (read_stands r v below e)

  read_pointer : (r : ℕ) (a : Ptr) (v : Value) → nat_lt r x.temps ≡ true → l.temps r ≡ value v → v ≡ values.Pointer a → PointerStands names K l.blocks a (word_at q r)
  read_pointer r a v below e f = subst (λ u. Stands names K l.blocks (value u) (word_at q r)) f (read_stands r v below e)

  -- the start of a block at an address
  start_stands : (block address : ℕ) → LiesThere names K l.blocks block address → PointerStands names K l.blocks (To block 0) address
  start_stands block address there = record {
    known = there.known;
    made = there.made;
    within = λ b lives. omega arith;
    agrees = λ b lives. omega arith ∙ ap (λ n. word_for n 0) (sym there.at);
  }

  object_stands : (i : ℕ) (o : Option ℕ) → l.objects i ≡ o → Stands names K l.blocks (start_of o) (words.object_address y thread q i)
  object_stands i None e = tt
  object_stands i (Some block) e = start_stands block (words.object_address y thread q i) (stands.objects i block e).there

  -- a register takes over words what it takes over named blocks
  pub calculated_stands : (calc : Calc) (h : Held) → is_calc x calc ≡ true → calculated p place l calc ≡ Ok h → Stands names K l.blocks h (words.calculated y thread q calc)
  calculated_stands (constant t z) h ok e = let is : number (num t z) ≡ h = cc in subst (λ u. Stands names K l.blocks u (number_word (num t z))) is refl
  calculated_stands calcs.unset h ok e = let is : unset ≡ h = cc in subst (λ u. Stands names K l.blocks u 0) is tt
  calculated_stands null h ok e = let is : pointer Null ≡ h = cc in subst (λ u. Stands names K l.blocks u 0) is refl
  calculated_stands (global n) h ok e =
      let is : pointer (To n 0) ≡ h = cc in
      subst (λ u. Stands names K l.blocks u (global_address y n)) is (start_stands n (global_address y n) (data_stands.globals n (subst (λ k. n < k) (sym globals) (ltb-true n x.globals ok))))
  calculated_stands (literal n) h ok e =
      let is : pointer (To (length p.globals + n) 0) ≡ h = cc in
      subst (λ u. Stands names K l.blocks u (literal_address y n)) is
      (start_stands (length p.globals + n) (literal_address y n) (data_stands.literals n (subst (λ k. n < k) (sym literals) (ltb-true n x.literals ok))))
  calculated_stands (object i) h ok e =
      let is : start_of (l.objects i) ≡ h = cc in
      subst (λ u. Stands names K l.blocks u (words.object_address y thread q i)) is (object_stands i (l.objects i) refl)
  calculated_stands (copy t) h ok e =
      let v = was_value place (l.temps t) (λ v. Ok (value v)) h e in
      let is : value v.0 ≡ h = let f = v.2 in cc in
      subst (λ u. Stands names K l.blocks u (word_at q t)) is (read_stands t v.0 ok v.1)
  calculated_stands (convert to t) h ok e =
      let v = was_value place (l.temps t) (on_number (λ n. Ok (number (num to n.value)))) h e in
      let n = was_number (λ n. Ok (number (num to n.value))) v.0 h v.2 in
      let is : number (num to n.0.value) ≡ h = let f = n.2 in cc in
      subst (λ u. Stands names K l.blocks u (word_in to (word_at q t))) is (ap (word_in to) (read_number t n.0 v.0 ok v.1 n.1) ∙ converted_word to n.0)
  calculated_stands (apply op t a b) h ok e =
      let below = both (nat_lt a x.temps) (nat_lt b x.temps) (both (is_promoted t) _ ok).1 in
      let v = was_value place (l.temps a) _ h e in
      let m = was_number _ v.0 h v.2 in
      let u = was_value place (l.temps b) _ h m.2 in
      let n = was_number _ u.0 h u.2 in
      let taken = was_taken (takes op t m.0.ty n.0.ty) (or_broken place number (result_of op m.0 n.0)) h n.2 in
      let r = unbroken place number (result_of op m.0 n.0) h taken.1 in
      subst (λ z. Stands names K l.blocks z (applied op t (word_at q a) (word_at q b))) r.2
      ((λ i. applied op t (read_number a m.0 v.0 below.0 v.1 m.1 i) (read_number b n.0 u.0 below.1 u.1 n.1 i)) ∙ applied_word op t m.0 n.0 r.0 taken.0 r.1)
  calculated_stands (pointer_add a b scale) h ok e =
      let below = both (nat_lt a x.temps) (nat_lt b x.temps) ok in
      let v = was_value place (l.temps a) _ h e in
      let m = was_pointer _ v.0 h v.2 in
      let u = was_value place (l.temps b) _ h m.2 in
      let n = was_number _ u.0 h u.2 in
      let r = unbroken place pointer (indexed l.blocks m.0 n.0.value scale) h n.2 in
      subst (λ z. Stands names K l.blocks z (added (word_at q a) (word_of (pos (word_at q b * scale))))) r.2
      (subst (λ k. PointerStands names K l.blocks r.0 (added (word_at q a) k)) (sym (ap (λ w. word_of (pos (w * scale))) (read_number b n.0 u.0 below.1 u.1 n.1) ∙ scaled_word n.0.value scale))
      (moved_stands names K l.blocks sees m.0 r.0 (n.0.value *ℤ pos scale) (word_at q a) (read_pointer a m.0 v.0 below.0 v.1 m.1) r.1))
  calculated_stands (pointer_sub a b scale) h ok e =
      let below = both (nat_lt a x.temps) (nat_lt b x.temps) ok in
      let v = was_value place (l.temps a) _ h e in
      let m = was_pointer _ v.0 h v.2 in
      let u = was_value place (l.temps b) _ h m.2 in
      let n = was_number _ u.0 h u.2 in
      let r = unbroken place pointer (indexed l.blocks m.0 (neg_ℤ n.0.value) scale) h n.2 in
      subst (λ z. Stands names K l.blocks z (added (word_at q a) (word_of (neg_ℤ (pos (word_at q b * scale)))))) r.2
      (subst (λ k. PointerStands names K l.blocks r.0 (added (word_at q a) k)) (sym (ap (λ w. word_of (neg_ℤ (pos (w * scale)))) (read_number b n.0 u.0 below.1 u.1 n.1) ∙ scaled_back n.0.value scale))
      (moved_stands names K l.blocks sees m.0 r.0 (neg_ℤ n.0.value *ℤ pos scale) (word_at q a) (read_pointer a m.0 v.0 below.0 v.1 m.1) r.1))
  calculated_stands (pointer_diff a b scale) h ok e =
      let below = both (nat_lt a x.temps) (nat_lt b x.temps) ok in
      let v = was_value place (l.temps a) _ h e in
      let m = was_pointer _ v.0 h v.2 in
      let u = was_value place (l.temps b) _ h m.2 in
      let n = was_pointer _ u.0 h u.2 in
      let r = unbroken place (λ z. number (num long z)) (difference l.blocks m.0 n.0 scale) h n.2 in
      subst (λ z. Stands names K l.blocks z (words.calculated y thread q (pointer_diff a b scale))) r.2
      (difference_stands names K l.blocks sees m.0 n.0 (word_at q a) (word_at q b) scale r.0 (read_pointer a m.0 v.0 below.0 v.1 m.1) (read_pointer b n.0 u.0 below.1 u.1 n.1) r.1)
  calculated_stands (pointer_compare op a b) h ok e =
      let below = both (nat_lt a x.temps) (nat_lt b x.temps) (both (is_comparison op) _ ok).1 in
      let v = was_value place (l.temps a) _ h e in
      let m = was_pointer _ v.0 h v.2 in
      let u = was_value place (l.temps b) _ h m.2 in
      let n = was_pointer _ u.0 h u.2 in
      let r = unbroken place truth (compared l.blocks op m.0 n.0) h n.2 in
      subst (λ z. Stands names K l.blocks z (words.calculated y thread q (pointer_compare op a b))) r.2
      (compared_stands names K l.blocks sees op m.0 n.0 (word_at q a) (word_at q b) r.0 (read_pointer a m.0 v.0 below.0 v.1 m.1) (read_pointer b n.0 u.0 below.1 u.1 n.1) r.1)
  calculated_stands (pointer_test a) h ok e =
      let v = was_value place (l.temps a) _ h e in
      let m = was_pointer _ v.0 h v.2 in
      let r = unbroken place truth (tested l.blocks m.0) h m.2 in
      subst (λ z. Stands names K l.blocks z (words.calculated y thread q (pointer_test a))) r.2
      (ap (λ b. number_word (num int (operations.truth b))) (tested_stands names K l.blocks sees m.0 (word_at q a) r.0 (read_pointer a m.0 v.0 ok v.1 m.1) r.1))
