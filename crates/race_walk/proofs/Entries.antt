-- What `retain` leaves of the entries of a cell.
use Rattle.std.proofs.Common.{◌≡◌, Bool, cond, List, [], ◌∷◌, ap, subst, ◌∙◌}
use Rattle.std.specs.List.{filter}
use Rattle.std.specs.List.Retain.{RetainsInTurn}

-- a closure that says a test of each element, and leaves itself and the element as they were
module _ {X F : Type 0} (R : F → X → Bool → F → X → Type 0) (test : X → Bool) (f : F) (h : (x : X) (b : Bool) (g : F) (y : X) → R f x b g y → (b ≡ test x) × (g ≡ f) × (y ≡ x)) where
  pub retained : (xs ys : List X) → RetainsInTurn R f xs ys → ys ≡ filter test xs
  retained [] ys k = k
  retained (x ∷ xs) ys (b, g, y, r, zs, more, e) =
      let one = h x b g y r in
      let G : F → Type 0 = λ z. RetainsInTurn R z xs zs in
      let rest = retained xs zs (subst G one.1 more) in
      let C : Bool → List X = λ t. cond t (x ∷ zs) zs in
      let D : List X → List X = λ l. cond (test x) (x ∷ l) l in
      let E : X → List X = λ z. cond b (z ∷ zs) zs in
      e ∙ ap E one.2 ∙ ap C one.0 ∙ ap D rest
