-- The place of the argument past a limit, if there is one.
use Rattle.std.proofs.Common.{◌≡◌, ℕ, zero, suc, ◌<◌, ◌≤◌, length, get_or, map, arith, List, [], ◌∷◌, Option, Some, refl, ap, sym, subst}
use Rattle.c_lex.specs.declared.refusal.Kind.TheVariants.{TooMany}
use Rattle.c_tree.specs.Syntax as source
use Rattle.c_typing.specs.Faults.{first, typed}
use Rattle.c_typing.specs.Judgement.{none_past, place_past, node_place}

pub none_behind : {Y : Type 0} (v : Y → source.Expr) (n : ℕ) (xs : List Y) → length xs ≤ n → none_past 7 (place_past n (source.exprs_of (map v xs))) ≡ typed tt
none_behind v zero [] h = refl
none_behind v (suc n) [] h = refl
none_behind v zero (x ∷ xs) h = absurd (omega arith)
none_behind v (suc n) (x ∷ xs) h = none_behind v n xs (omega arith)

pub one_behind : {Y : Type 0} (v : Y → source.Expr) (n : ℕ) (xs : List Y) (y : Y) → n < length xs → y ≡ get_or xs n y → place_past n (source.exprs_of (map v xs)) ≡ Some (node_place (v y))
one_behind v n [] y h is = absurd (omega arith)
one_behind v zero (x ∷ xs) y h is = ap (λ z. Some (node_place (v z))) (sym is)
one_behind v (suc n) (x ∷ xs) y h is = one_behind v n xs y (omega arith) is

pub too_many : (p q : ℕ) (o : Option ℕ) → p ≡ q → o ≡ Some q → first (none_past 7 o) ≡ Some (record { place = p; kind = TooMany 7 })
too_many p q o is_p is_o =
    subst (λ x. first (none_past 7 x) ≡ Some (record { place = p; kind = TooMany 7 })) (sym is_o) (ap (λ (i : ℕ). Some (record { place = i; kind = TooMany 7 })) (sym is_p))
