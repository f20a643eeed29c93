-- Where sliding puts each object, the list that it leaves, and the moves that it makes: `below` is the end of the object before.
use Rattle.std.proofs.Common.{◌≡◌, ℕ, ◌+◌, ◌-◌, ◌*◌, ◌/◌, ◌%◌, ◌<◌, ◌≤◌, max, Bool, true, false, cond, eqb, List, [], ◌∷◌, ◌++◌, length, arith}
use Rattle.std.proofs.lemmas.Bool.{cond_both}
use Rattle.sub_heaps.specs.declared.objects.Object.{Object}
use Rattle.sub_heaps.specs.ByPlace.{end_of}
use Rattle.sub_heaps.specs.SubHeaps.{LiesInOne, StandFrom}
use Rattle.sub_heaps.proofs.Blocks.{place_parts, mod_below, number_is}
use Rattle.sub_heaps.specs.declared.moves.Move.{Move}
use Rattle.move_plan.specs.Sliding.{slid_place}

-- the objects after they have slid
abbrev pub slid_objects : (pinned : ℕ → Bool) → (size below : ℕ) → List Object → List Object
slid_objects pinned size below [] = []
slid_objects pinned size below (o ∷ os) = record o { at = slid_place pinned size below o } ∷ slid_objects pinned size (slid_place pinned size below o + o.size) os

-- the move of an object to a place, unless it stands there
abbrev pub move_to : Object → ℕ → List Move
move_to o to = cond (eqb to o.at) [] (record { from = o.at; to = to; size = o.size } ∷ [])

pub length-move_to-le : (o : Object) (to : ℕ) → length (move_to o to) ≤ 1
length-move_to-le o to =
    let m : Move = record { from = o.at; to = to; size = o.size } in
    elim (eqb to o.at) as (λ t. length (cond t [] (m ∷ [])) ≤ 1) [ true ↦ omega arith | false ↦ omega arith ]

-- the moves that slide objects
abbrev pub slide_moves : (pinned : ℕ → Bool) → (size below : ℕ) → List Object → List Move
slide_moves pinned size below [] = []
slide_moves pinned size below (o ∷ os) = move_to o (slid_place pinned size below o) ++ slide_moves pinned size (slid_place pinned size below o + o.size) os

module _ (pinned : ℕ → Bool) (count size : ℕ) (some : 0 < size) where
  pub slid_place-le : (below : ℕ) (o : Object) → below ≤ o.at → slid_place pinned size below o ≤ o.at
  slid_place-le below o le = cond_both (pinned o.at) o.at (max (o.at - o.at % size) below) (λ t. t ≤ o.at) (λ _. omega arith) (λ _. omega arith)

  pub le-slid_place : (below : ℕ) (o : Object) → below ≤ o.at → below ≤ slid_place pinned size below o
  le-slid_place below o le = cond_both (pinned o.at) o.at (max (o.at - o.at % size) below) (λ t. below ≤ t) (λ _. le) (λ _. omega arith)

  pub start-le-slid_place : (below : ℕ) (o : Object) → o.at - o.at % size ≤ slid_place pinned size below o
  start-le-slid_place below o = cond_both (pinned o.at) o.at (max (o.at - o.at % size) below) (λ t. o.at - o.at % size ≤ t) (λ _. omega arith) (λ _. omega arith)

  -- it stays in its sub-heap
  pub slid_place-number : (below : ℕ) (o : Object) → below ≤ o.at → slid_place pinned size below o / size ≡ o.at / size
  slid_place-number below o le =
      number_is size some (o.at / size) (slid_place pinned size below o) (omega (arith, start-le-slid_place below o, place_parts size some o.at)) (omega (arith, slid_place-le below o le, place_parts size some o.at, mod_below size some o.at))

  pub slid_place_lies : (below : ℕ) (o : Object) → below ≤ o.at → LiesInOne count size o.size o.at → LiesInOne count size o.size (slid_place pinned size below o)
  slid_place_lies below o le lies =
      let t = slid_place pinned size below o in
      let parts : o.at / size * size + t % size ≡ t = rw (slid_place-number below o le) at (place_parts size some t) in
      (omega (arith, slid_place-le below o le, lies.0), omega (arith, slid_place-le below o le, parts, place_parts size some o.at, lies.1))

  -- the list that sliding leaves stands in order
  pub stand_slid : (below low : ℕ) (xs : List Object) → below ≤ low → StandFrom count size low xs → StandFrom count size below (slid_objects pinned size below xs)
  stand_slid below low [] le stand = tt
  stand_slid below low (o ∷ os) le stand =
      let high : below ≤ o.at = omega (arith, stand.0) in
      (le-slid_place below o high, slid_place_lies below o high stand.1, stand.2, stand_slid (slid_place pinned size below o + o.size) (end_of o) os (omega (arith, slid_place-le below o high)) stand.3)
