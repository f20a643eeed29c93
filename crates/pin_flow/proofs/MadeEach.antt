-- Lists of which each item is made into another, as the program makes them.
use Rattle.std.proofs.Common.{◌≡◌, List, [], ◌∷◌, ◌++◌, map, length, append-nil, arith, sym, ap, ◌∙◌}

one_put : {B D : Type 0} (v : B → D) (out : List B) (y : B) (rest : List D) → map v (out ++ (y ∷ [])) ++ rest ≡ map v out ++ (v y ∷ rest)
one_put v [] y rest = λ i. v y ∷ rest
one_put v (x ∷ out) y rest = ap (λ l. v x ∷ l) (one_put v out y rest)

-- one item more: seen as w they are given, and seen as v they are made
pub made_step : {A B C D : Type 0} (w : A → C) (v : B → D) (f : C → D) (old : List B) (x : A) (y : B) (left rest : List A) (all : List D) → left ≡ x ∷ rest → v y ≡ f (w x)
    → map v old ++ map f (map w left) ≡ all → map v (old ++ (y ∷ [])) ++ map f (map w rest) ≡ all
made_step w v f old x y left rest all is e inv =
    one_put v old y (map f (map w rest)) ∙ (ap (λ z. map v old ++ (z ∷ map f (map w rest))) e ∙ (ap (λ l. map v old ++ map f (map w l)) (sym is) ∙ inv))

-- no item more
pub made_end : {A B C D : Type 0} (w : A → C) (v : B → D) (f : C → D) (out : List B) (rest : List A) (all : List D) → length rest ≡ 0 → map v out ++ map f (map w rest) ≡ all → map v out ≡ all
made_end w v f out [] all e inv = sym (append-nil (map v out)) ∙ inv
made_end w v f out (x ∷ rest) all e inv = absurd (omega (arith, e))
