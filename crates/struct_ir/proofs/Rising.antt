-- Numbers that rise stand once each.
use Rattle.std.proofs.Common.{◌≡◌, ℕ, ◌≤◌, ◌-◌, List, [], ◌∷◌, Bool, true, false, length, get_or, take, drop, refl, sym, ap, ◌∙◌, arith}
use Rattle.std.specs.Prelude.{nat_lt, not, ◌&&◌, ◌||◌, ◌==◌}
use Rattle.std.specs.List.{list_any}
use Rattle.std.proofs.lemmas.Bool.{and_parts, ltb-true, ne_eqb}
use Rattle.std.proofs.lemmas.List.{take_all}
use Rattle.struct_ir.specs.Valid.{is_distinct}
use Rattle.struct_ir.specs.inner.Rising.{rises_from}

-- what is not above where they begin is none of them
none_of : (low y : ℕ) (xs : List ℕ) → y ≤ low → rises_from low xs ≡ true → list_any (λ z. z == y) xs ≡ false
none_of low y [] le e = refl
none_of low y (x ∷ xs) le e =
    let p = and_parts (nat_lt low x) (rises_from x xs) e in
    let above = ltb-true low x p.0 in
    ap (λ b. b || list_any (λ z. z == y) xs) (ne_eqb x y (λ h. omega (arith, le, above, h))) ∙ none_of x y xs (omega (arith, le, above)) p.1

-- they stand once each
rising : (low : ℕ) (xs : List ℕ) → rises_from low xs ≡ true → is_distinct xs ≡ true
rising low [] e = refl
rising low (x ∷ xs) e =
    let p = and_parts (nat_lt low x) (rises_from x xs) e in
    ap (λ b. not b && is_distinct xs) (none_of x x xs (omega arith) p.1) ∙ rising x xs p.1

-- and with the one from which they rise
rising_is_distinct : (low : ℕ) (xs : List ℕ) → rises_from low xs ≡ true → is_distinct (low ∷ xs) ≡ true
rising_is_distinct low xs e = ap (λ b. not b && is_distinct xs) (none_of low low xs (omega arith) e) ∙ rising low xs e

-- so the look from the first number over the rest tells it
pub rising_list : (xs : List ℕ) (d : ℕ) (b : Bool) → 1 ≤ length xs → b ≡ rises_from (get_or xs 0 d) (take (length xs - 1) (drop 1 xs)) → b ≡ true → b ≡ is_distinct xs
rising_list [] d b h is holds = absurd (omega arith)
rising_list (x ∷ xs) d b h is holds =
    let same : take (length (x ∷ xs) - 1) xs ≡ xs = take_all (length (x ∷ xs) - 1) xs (omega arith) in
    let rises : rises_from x xs ≡ true = sym (ap (λ l. rises_from x l) same) ∙ (sym is ∙ holds) in
    holds ∙ sym (rising_is_distinct x xs rises)
