-- What wraps at a type is a number of the type, which `num` in Num.antt carries. Told in terms, with no tactic.
use Rattle.std.specs.Prelude.{ℕ, suc, ◌+◌, ◌-◌, ◌<◌, ◌≤◌, ◌^◌, Bool, true, false, not, cond, ltb, T, ℤ, pos, negsuc, ◌+ℤ◌, ◌-ℤ◌, ◌≤ℤ◌, ◌<ℤ◌, int_lt, int_le}
use Rattle.std.proofs.Common.{sym, subst}
use Rattle.std.proofs.Math.Dec.{T_not, le→leb, lt→ltb, ltb→lt, nltb→le}
use Rattle.std.proofs.Math.Nat.{sub-le, mod-lt, le-add_right, add-lt-add_of_le_of_lt, add-lt-add_of_lt_of_le, add-sub_of_le, le_refl, le_trans, lt_trans, le_of_suc-le, sub-lt_left_of_lt-add, suc-sub-suc, suc-le-suc_iff, sub-one-sub-lt_of_lt}
use Rattle.std.proofs.Math.Pow.{pow_pos}
use Rattle.ak_words.specs.declared.int_type.IntType.{IntType}
use Rattle.ak_words.specs.IntType.{least, IsInRange}
use Rattle.ak_words.specs.Wrapped.{residue, wrapped_value}

-- a residue lies below its modulus
pub residue-below : (z : ℤ) (m : ℕ) → 0 < m → residue m z < m
unfolding residue
residue-below (pos n) m h = mod-lt n h
residue-below (negsuc n) m h = sub-one-sub-lt_of_lt (mod-lt n h)

-- a sum of a negative number and a natural one is not below the first, by the sign of the sum
not_below : (a x y : ℕ) (sign : Bool) → x ≤ a → T (int_le (negsuc a) (cond sign (negsuc x) (pos y)))
not_below a x y true h = le→leb x a h
not_below a x y false h = tt

-- r places from l on
not_below_least : (l : ℤ) (r : ℕ) → l ≤ℤ (l +ℤ pos r)
not_below_least (pos a) r = record { le = le→leb a (a + r) (le-add_right a r) }
not_below_least (negsuc a) r = record { le = not_below a (suc a - suc r) (r - suc a) (ltb r (suc a)) (subst (λ x. x ≤ a) (sym (suc-sub-suc a r)) (sub-le a r)) }

-- two such sums, by their signs
below : (s t : Bool) (x y u v : ℕ) → (T s → T t → u < x) → (T (not s) → T t → ⊥) → (T (not s) → T (not t) → y < v) → T (int_lt (cond s (negsuc x) (pos y)) (cond t (negsuc u) (pos v)))
below true true x y u v both cross neither = lt→ltb u x (both tt tt)
below true false x y u v both cross neither = tt
below false true x y u v both cross neither = absurd (cross tt tt)
below false false x y u v both cross neither = lt→ltb y v (neither tt tt)

negative_sums : (a r m : ℕ) → r < m → suc m ≤ suc a → suc a - suc m < suc a - suc r
negative_sums a r m h small =
    let all = add-sub_of_le {n = suc a} {m = suc r} (le_trans (suc-le-suc_iff.1 (le_of_suc-le h)) small) in
    let more = add-lt-add_of_lt_of_le {a = suc r} {b = suc m} {c = suc a - suc r} {d = suc a - suc r} (suc-le-suc_iff.1 h) (le_refl (suc a - suc r)) in
    sub-lt_left_of_lt-add {n = suc m} {k = suc a} {m = suc a - suc r} small (subst (λ x. x < suc m + (suc a - suc r)) all more)

natural_sums : (a r m : ℕ) → r < m → suc a ≤ r → suc a ≤ m → r - suc a < m - suc a
natural_sums a r m h small within = sub-lt_left_of_lt-add {n = suc a} {k = r} {m = m - suc a} small (subst (λ x. r < x) (sym (add-sub_of_le within)) h)

-- r places from l on, where r is below m
below_end : (l : ℤ) (r m : ℕ) → r < m → (l +ℤ pos r) <ℤ (l +ℤ pos m)
below_end (pos a) r m h = record { lt = lt→ltb (a + r) (a + m) (add-lt-add_of_le_of_lt (le_refl a) h) }
below_end (negsuc a) r m h =
    record {
      lt = below (ltb r (suc a)) (ltb m (suc a)) (suc a - suc r) (r - suc a) (suc a - suc m) (m - suc a)
          (λ _ t. negative_sums a r m h (ltb→lt m (suc a) t))
          (λ s t. T_not (ltb r (suc a)) s (lt→ltb r (suc a) (lt_trans h (ltb→lt m (suc a) t))))
          (λ s t. natural_sums a r m h (nltb→le r (suc a) s) (nltb→le m (suc a) t));
    }

pub wrapped_value-in_range : (t : IntType) (z : ℤ) → IsInRange t (wrapped_value t z)
unfolding wrapped_value
wrapped_value-in_range t z =
    let r = residue (2 ^ t.bits) (z -ℤ least t) in
    (not_below_least (least t) r, below_end (least t) r (2 ^ t.bits) (residue-below (z -ℤ least t) (2 ^ t.bits) (pow_pos t.bits)))
