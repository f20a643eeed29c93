-- Each access's pair is among those that are looked for.
use Rattle.std.proofs.Common.{◌≡◌, ℕ, List, [], ◌∷◌, ◌++◌, Option, Some, None, true, inl, inr, refl, ap, ◌∙◌}
use Rattle.std.specs.Prelude.{◌&&◌, ◌==◌, if◌then◌else◌}
use Rattle.std.proofs.lemmas.Bool.{or_cases, or_left, or_right, and_parts, and_from, eqb-true, eq-eqb}
use Rattle.struct_ir.specs.Nodes.{Place, Act, Node, plain, if_, loop, break_, next_, ret, Nodes, no_nodes, more_nodes, places_of}
use Rattle.pin_flow.specs.Marks.{AllPaths, Each, EachIn}
use Rattle.pin_flow.specs.Held.{held}
use Rattle.pin_flow.specs.Live.{is_slot, has, uses}
use Rattle.pin_flow.proofs.Live.{slot_is}
use Rattle.pin_flow.proofs.Strip.{by_bool}
use Rattle.pin_checker.specs.declared.pair.Pair.{Pair}
use Rattle.pin_checker.specs.inner.Reports.{is_pair, has_pair, with_pair, with_slot, with_places, pairs_of, pairs_in}

abbrev pub pair : (slot b : ℕ) → Pair
pair slot b = record { slot = slot; base = b }

-- what is in the one list is in the other
abbrev pub IsWithin : List Pair → List Pair → Type 0
IsWithin l m = (q : Pair) → has_pair q l ≡ true → has_pair q m ≡ true

in_longer : (q : Pair) (l m : List Pair) → has_pair q l ≡ true → has_pair q (l ++ m) ≡ true
in_longer q [] m e = absurd cc
in_longer q (r ∷ l) m e = elim (or_cases (is_pair r q) (has_pair q l) e) [ inl i ↦ or_left _ _ i | inr i ↦ or_right (is_pair r q) _ (in_longer q l m i) ]

in_end : (q : Pair) (l : List Pair) → has_pair q (l ++ (q ∷ [])) ≡ true
in_end q [] = or_left _ _ (and_from _ _ (eq-eqb q.slot q.slot refl) (eq-eqb q.base q.base refl))
in_end q (r ∷ l) = or_right (is_pair r q) _ (in_end q l)

pair_keeps : (r : Pair) (l : List Pair) → IsWithin l (with_pair r l)
pair_keeps r l q e = by_bool (λ x. has_pair q (if x then l else l ++ (r ∷ [])) ≡ true) (has_pair r l) (λ g. e) (λ g. in_longer q l (r ∷ []) e)

pair_adds : (q : Pair) (l : List Pair) → has_pair q (with_pair q l) ≡ true
pair_adds q l = by_bool (λ x. has_pair q (if x then l else l ++ (q ∷ [])) ≡ true) (has_pair q l) (λ g. g) (λ g. in_end q l)

slot_keeps : (b : ℕ) (o : Option ℕ) (l : List Pair) → IsWithin l (with_slot b o l)
slot_keeps b None l q e = e
slot_keeps b (Some s) l q e = pair_keeps (pair s b) l q e

places_keep : (places : List Place) (l : List Pair) → IsWithin l (with_places places l)
places_keep [] l q e = e
places_keep (a ∷ rest) l q e = places_keep rest (with_slot a.base a.slot l) q (slot_keeps a.base a.slot l q e)

places_add : (slot b : ℕ) (places : List Place) (l : List Pair) → has slot b places ≡ true → has_pair (pair slot b) (with_places places l) ≡ true
places_add slot b [] l e = absurd cc
places_add slot b (a ∷ rest) l e = elim (or_cases ((a.base == b) && is_slot slot a.slot) (has slot b rest) e) [
  | inl i ↦ (
      let p = and_parts (a.base == b) (is_slot slot a.slot) i in
      let f = eqb-true a.base b p.0 in
      let g = slot_is slot a.slot p.1 in
      let x : has_pair (pair slot b) (with_slot a.base a.slot l) ≡ true = ap (λ m. has_pair (pair slot b) m) (λ j. with_slot (f j) (g j) l) ∙ pair_adds (pair slot b) l in
      places_keep rest (with_slot a.base a.slot l) (pair slot b) x
      )
  | inr i ↦ places_add slot b rest (with_slot a.base a.slot l) i
]

mutual
  unfolding pairs_of pairs_in

  pairs_keep : (ns : Nodes) (l : List Pair) → IsWithin l (pairs_of ns l)
  pairs_keep no_nodes l q e = e
  pairs_keep (more_nodes n rest) l q e = pairs_keep rest (pairs_in n l) q (in_keeps n l q e)

  in_keeps : (n : Node) (l : List Pair) → IsWithin l (pairs_in n l)
  in_keeps (plain p a) l q e = places_keep (places_of a) l q e
  in_keeps (if_ p x one other) l q e = pairs_keep other (pairs_of one l) q (pairs_keep one l q e)
  in_keeps (loop p body latch) l q e = pairs_keep latch (pairs_of body l) q (pairs_keep body l q e)
  in_keeps (break_ p) l q e = e
  in_keeps (next_ p) l q e = e
  in_keeps (ret p x) l q e = e

-- an access of the pair is in the list
module _ (slot b : ℕ) (all : List Pair) where
  abbrev pub IsListed : Act → AllPaths → Type 0
  IsListed a t = uses slot b a ≡ true → has_pair (pair slot b) all ≡ true

  mutual
    unfolding pairs_of pairs_in

    each_listed : (ns : Nodes) (l : List Pair) (t : AllPaths) → IsWithin (pairs_of ns l) all → Each IsListed (held 0) ns t
    each_listed no_nodes l t w = tt
    each_listed (more_nodes n rest) l t w = (in_listed n l t (λ q e. w q (pairs_keep rest (pairs_in n l) q e)), each_listed rest (pairs_in n l) _ w)

    in_listed : (n : Node) (l : List Pair) (t : AllPaths) → IsWithin (pairs_in n l) all → EachIn IsListed (held 0) n t
    in_listed (plain p a) l t w = λ e. w (pair slot b) (places_add slot b (places_of a) l e)
    in_listed (if_ p x one other) l t w = (each_listed one l t (λ q e. w q (pairs_keep other (pairs_of one l) q e)), each_listed other (pairs_of one l) t w)
    in_listed (loop p body latch) l t w = (each_listed body l _ (λ q e. w q (pairs_keep latch (pairs_of body l) q e)), each_listed latch (pairs_of body l) _ w)
    in_listed (break_ p) l t w = tt
    in_listed (next_ p) l t w = tt
    in_listed (ret p x) l t w = tt

pub all_listed : (slot b : ℕ) (ns : Nodes) (t : AllPaths) → Each (IsListed slot b (pairs_of ns [])) (held 0) ns t
all_listed slot b ns t = each_listed slot b (pairs_of ns []) ns [] t (λ q e. e)
