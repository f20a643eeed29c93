-- An atomic number is changed: what is added to it, and the step that does it.
use Rattle.std.proofs.Common.{◌≡◌, ◌≢◌, ℕ, suc, ◌*◌, ◌^◌, Bool, true, false, if◌then◌else◌, [], ◌∷◌, Option, Ok, Err, ℤ, pos, ◌+ℤ◌, ◌-ℤ◌, ◌*ℤ◌, refl, ap, subst, ◌∙◌, arith}
use Rattle.std.proofs.lemmas.Int.{ints}
use borrow.Author.Differences.{up, down, product_is}
use Rattle.ak_words.specs.declared.int_type.IntType.{IntType}
use Rattle.ak_words.specs.declared.number.Num.{Num}
use Rattle.ak_words.specs.declared.operation.Op.TheVariants as ops
use Rattle.ak_words.specs.Num.{num}
use Rattle.ak_words.specs.Op.{exact_result, rule_of, result_of}
use Rattle.ak_words.specs.Wrapped.{AreCongruent, wrapped_value}
use Rattle.ak_words.proofs.Numbers.{num_is}
use Rattle.ak_words.proofs.Wraps.{wrapped_value-same, wrapped_value-congruent}
use Rattle.block_store.specs.declared.values.Change.{Change}
use Rattle.block_store.specs.declared.values.Change.TheVariants.{Add}
use Rattle.block_store.specs.declared.values.Ptr.{Ptr}
use Rattle.block_store.specs.declared.values.Value.TheVariants as values
use Rattle.block_store.specs.Actions as actions
use Rattle.block_store.specs.Blocks.{Blocks}
use Rattle.block_store.specs.Runs.{Turn}
use Rattle.c_meaning.specs.Control.{Control}
use Rattle.c_meaning.specs.Values.{opposite_of}
use Rattle.c_meaning.specs.Library.{addend}
use Rattle.struct_ir.specs.Nodes as ir
use Rattle.struct_ir.specs.Nodes.{Nodes, Place}
use Rattle.struct_ir.specs.Structured.{Position, then_}
use Rattle.struct_ir.specs.meaning.Blocks.{Held, number, set_at, wrong_kind, known, on_value, on_number, or_broken, calculated, takes, if_taken}
use Rattle.struct_ir.specs.meaning.Threads.{action_with}
use Rattle.lower_forms.specs.Forms as forms
use Rattle.lower_forms.specs.Forms.{unsigned_of, change_nodes}
use Rattle.lower_forms.specs.Programs.{lowered}
use Rattle.lower_turns.proofs.Relation.{Below}
use Rattle.lower_turns.proofs.Registers.{set_here, set_there, below_same, below_set}
use Rattle.lower_turns.proofs.Values.{taken_is, type_itself}
use Rattle.lower_turns.proofs.Operands.{one_type}
use Rattle.lower_turns.proofs.Steps.{set_then}
use Rattle.lower_turns.proofs.Setting.{Setting, own, Alike}

-- ---- 0 minus a number

moved : (m : ℕ) (a b k : ℤ) → a ≡ b +ℤ k *ℤ pos m → a +ℤ pos (down k * m) ≡ b +ℤ pos (up k * m)
moved m a b k e = omega (arith, ints, product_is k (pos m))

-- numbers that differ by a multiple of 2^bits become the same
wrapped_as : (t : IntType) (a b : ℤ) → AreCongruent (2 ^ t.bits) a b → wrapped_value t a ≡ wrapped_value t b
wrapped_as t a b h = wrapped_value-same t a b (down h.0) (up h.0) (moved (2 ^ t.bits) a b h.0 h.1)

less_left : (m : ℕ) (a b c k : ℤ) → a ≡ b +ℤ k *ℤ pos m → (a -ℤ c) +ℤ pos (down k * m) ≡ (b -ℤ c) +ℤ pos (up k * m)
less_left m a b c k e = omega (arith, ints, product_is k (pos m))

less_right : (m : ℕ) (a b c k : ℤ) → a ≡ b +ℤ k *ℤ pos m → (c -ℤ a) +ℤ pos (up k * m) ≡ (c -ℤ b) +ℤ pos (down k * m)
less_right m a b c k e = omega (arith, ints, product_is k (pos m))

-- in the unsigned type and then in the other one it's what it is there at once
opposite_value : (t : IntType) (z : ℤ) → wrapped_value t (wrapped_value (unsigned_of t) (wrapped_value (unsigned_of t) (pos 0) -ℤ wrapped_value (unsigned_of t) z)) ≡ wrapped_value t (pos 0 -ℤ z)
opposite_value t z =
    let u = unsigned_of t in
    let zero_ : ℤ = wrapped_value u (pos 0) in
    let other : ℤ = wrapped_value u z in
    let k = wrapped_value-congruent u (pos 0) in
    let j = wrapped_value-congruent u z in
    wrapped_as t (wrapped_value u (zero_ -ℤ other)) (zero_ -ℤ other) (wrapped_value-congruent u (zero_ -ℤ other))
    ∙ wrapped_value-same t (zero_ -ℤ other) (pos 0 -ℤ other) (down k.0) (up k.0) (less_left (2 ^ t.bits) zero_ (pos 0) other k.0 k.1)
    ∙ wrapped_value-same t (pos 0 -ℤ other) (pos 0 -ℤ z) (up j.0) (down j.0) (less_right (2 ^ t.bits) other z (pos 0) j.0 j.1)

-- what the code takes for it
abbrev taken_away : IntType → ℤ → Num
taken_away s z = num (unsigned_of s) ((num (unsigned_of s) (pos 0)).value -ℤ (num (unsigned_of s) z).value)

opposite_is : (n : Num) (s : IntType) → n.ty ≡ s → num s (taken_away s n.value).value ≡ opposite_of n
opposite_is n s e =
    let P : IntType → Type 0 = λ z. num z (taken_away z n.value).value ≡ opposite_of n in
    subst P e (num_is (num n.ty (taken_away n.ty n.value).value) n.ty (pos 0 -ℤ n.value) refl (opposite_value n.ty n.value))

-- an unsigned difference breaks nothing
difference_is : (s : IntType) (z : ℤ) → result_of ops.Sub (num (unsigned_of s) (pos 0)) (num (unsigned_of s) z) ≡ Ok (taken_away s z)
unfolding exact_result rule_of
difference_is s z = refl

pub addend_type : (away : Bool) (n : Num) (s : IntType) → n.ty ≡ s → (addend away n).ty ≡ s
addend_type false n s e = e
addend_type true n s e = e

-- ---- the step

-- a number of the type that the step has is added, or put there
pub change_fits : (how : Change) (s : IntType) (p : Ptr) (n : Num) → n.ty ≡ s → action_with (ir.change how s) (p ∷ []) (values.Num n ∷ []) ≡ Ok (actions.change p n.ty how n.value)
change_fits how s p n e =
    let P : IntType → Type 0 = λ z. action_with (ir.change how z) (p ∷ []) (values.Num n ∷ []) ≡ Ok (actions.change p n.ty how n.value) in
    subst P e (ap (λ b. if b then Ok (actions.change p n.ty how n.value) else Err wrong_kind) (type_itself n.ty))

pub compare_fits : (s : IntType) (p o : Ptr) (n : Num) → n.ty ≡ s → action_with (ir.compare s) (p ∷ o ∷ []) (values.Num n ∷ []) ≡ Ok (actions.compare p o n.ty n.value)
compare_fits s p o n e =
    let P : IntType → Type 0 = λ z. action_with (ir.compare z) (p ∷ o ∷ []) (values.Num n ∷ []) ≡ Ok (actions.compare p o n.ty n.value) in
    subst P e (ap (λ b. if b then Ok (actions.compare p o n.ty n.value) else Err wrong_kind) (type_itself n.ty))

module _ (g : Setting) (ob : ℕ → Option ℕ) (b : Blocks) (x : Turn Control) (place : ℕ) (s : IntType) (at : Place) (u : ℕ) (to : Option ℕ) (n : Num) (r : Nodes) (q : Position) (a : ℕ → Held)
    (holds : a u ≡ number n) (is_type : n.ty ≡ s) where
  converts_to : (c : ℕ → Held) (t : IntType) (m : Num) → c u ≡ number m → calculated (lowered g.t) place (own g ob c b) (ir.convert t u) ≡ Ok (number (num t m.value))
  converts_to c t m e = ap (λ (h : Held). on_value (known place h) (on_number (λ (z : Num). Ok (number (num t z.value))))) e

  -- what is added comes to the register, and nothing below it changes
  pub addend_alike : (away : Bool) → ((c : ℕ → Held) → Below u a c → c u ≡ number (addend away n) → Alike g x (then_ (forms.acts place (ir.change Add s) (at ∷ []) to (u ∷ []) r) q) (own g ob c b))
      → Alike g x (then_ (change_nodes place away s at u to r) q) (own g ob a b)
  addend_alike false leads = leads a (below_same u a) holds
  addend_alike true leads =
      let t : IntType = unsigned_of s in
      let one : Num = num t n.value in
      let none : Num = num t (pos 0) in
      let left : Num = taken_away s n.value in
      let last : Num = num s left.value in
      let c1 : ℕ → Held = set_at a u (number one) in
      let c2 : ℕ → Held = set_at c1 (suc u) (number none) in
      let c3 : ℕ → Held = set_at c2 u (number left) in
      let ne : u ≢ suc u = λ y. absurd (omega (arith, y)) in
      set_then (lowered g.t) g.thread g.answer g.cs' g.s g.t x place u (ir.convert t u) _ q (own g ob a b) (number one) (converts_to a t n holds)
      (set_then (lowered g.t) g.thread g.answer g.cs' g.s g.t x place (suc u) (ir.constant t (pos 0)) _ q (own g ob c1 b) (number none) refl
      (set_then (lowered g.t) g.thread g.answer g.cs' g.s g.t x place u (ir.apply ops.Sub t (suc u) u) _ q (own g ob c2 b) (number left)
      (apply_is c2 (set_here c1 (suc u) (number none)) (set_there c1 (suc u) (number none) u ne ∙ set_here a u (number one)))
      (set_then (lowered g.t) g.thread g.answer g.cs' g.s g.t x place u (ir.convert s u) _ q (own g ob c3 b) (number last) (converts_to c3 s left (set_here c2 u (number left)))
      (leads (set_at c3 u (number last))
      (below_set u u a c3 (number last) (omega arith) (below_set u u a c2 (number left) (omega arith) (below_set u (suc u) a c1 (number none) (omega arith) (below_set u u a a (number one) (omega arith) (below_same u a)))))
      (set_here c3 u (number last) ∙ ap number (opposite_is n s is_type))))))
    where
      apply_is : (c : ℕ → Held) → c (suc u) ≡ number (num (unsigned_of s) (pos 0)) → c u ≡ number (num (unsigned_of s) n.value)
          → calculated (lowered g.t) place (own g ob c b) (ir.apply ops.Sub (unsigned_of s) (suc u) u) ≡ Ok (number (taken_away s n.value))
      apply_is c e d =
          let t : IntType = unsigned_of s in
          ap (λ (h : Held). on_value (known place h) (on_number (λ (z : Num). on_value (known place (c u)) (on_number (λ (o : Num). if_taken (takes ops.Sub t z.ty o.ty) (or_broken place number (result_of ops.Sub z o))))))) e
          ∙ ap (λ (h : Held). on_value (known place h) (on_number (λ (o : Num). if_taken (takes ops.Sub t t o.ty) (or_broken place number (result_of ops.Sub (num t (pos 0)) o))))) d
          ∙ taken_is (takes ops.Sub t t t) (or_broken place number (result_of ops.Sub (num t (pos 0)) (num t n.value))) (one_type ops.Sub t t refl)
          ∙ ap (or_broken place number) (difference_is s n.value)
