-- In code with one slot for each base each place that is accessed has its slot.
use Rattle.std.proofs.Common.{◌≡◌, ℕ, Bool, true, false, List, [], ◌∷◌, Option, Some, None, refl}
use Rattle.std.proofs.lemmas.Bool.{and_from, and_parts}
use Rattle.std.specs.Prelude.{◌||◌, not, is_some}
use Rattle.std.specs.List.{AllByRecursion, list_all}
use Rattle.struct_ir.specs.Nodes.{Place, Act, places_of, Node, plain, if_, loop, break_, next_, ret, Nodes, no_nodes, more_nodes, Func}
use Rattle.pin_flow.specs.Live.{is_slot}
use Rattle.pin_flow.specs.Looks.{some_act, some_in}
use Rattle.pin_flow.specs.Slots.{bases_of, slot_in, all_own, look_own, own, HasOwnSlots}
use Rattle.code_save.specs.Saves.{act_is_seated, node_is_seated, are_seated}

neither : (x y : Bool) → (x || y) ≡ false → (x ≡ false) × (y ≡ false)
neither true y h = absurd cc
neither false y h = (refl, h)

held : (x : Bool) → not x ≡ false → x ≡ true
held true h = refl
held false h = absurd cc

slot_there : (slot : ℕ) (o : Option ℕ) → is_slot slot o ≡ true → is_some o ≡ true
slot_there slot None h = absurd cc
slot_there slot (Some s) h = refl

module _ (slot_of : ℕ → ℕ) where
  -- an act that isn't through its base's slot
  abbrev strays : Act → Bool
  strays a = not (own slot_of a)

  places_seated : (places : List Place) → all_own slot_of places ≡ true → list_all (λ (x : Place). is_some x.slot) places ≡ true
  places_seated [] h = refl
  places_seated (a ∷ rest) h =
      let both = and_parts (is_slot (slot_of a.base) a.slot) (all_own slot_of rest) h in
      and_from _ _ (slot_there (slot_of a.base) a.slot both.0) (places_seated rest both.1)

  act_seated : (a : Act) → strays a ≡ false → act_is_seated a ≡ true
  act_seated a h = places_seated (places_of a) (and_parts (look_own slot_of a) (all_own slot_of (places_of a)) (held (own slot_of a) h)).1

  mutual
    node_seated : (n : Node) → some_in strays n ≡ false → node_is_seated n ≡ true
    node_seated (plain place a) h = act_seated a h
    node_seated (if_ place temp one other) h =
        let both = neither (some_act strays one) (some_act strays other) h in
        and_from _ _ (nodes_seated one both.0) (nodes_seated other both.1)
    node_seated (loop place body latch) h =
        let both = neither (some_act strays body) (some_act strays latch) h in
        and_from _ _ (nodes_seated body both.0) (nodes_seated latch both.1)
    node_seated (break_ place) h = refl
    node_seated (next_ place) h = refl
    node_seated (ret place temp) h = refl

    nodes_seated : (ns : Nodes) → some_act strays ns ≡ false → are_seated ns ≡ true
    nodes_seated no_nodes h = refl
    nodes_seated (more_nodes n rest) h =
        let both = neither (some_in strays n) (some_act strays rest) h in
        and_from _ _ (node_seated n both.0) (nodes_seated rest both.1)

pub funcs_seated : (fs : List Func) → AllByRecursion HasOwnSlots fs → list_all (λ f. are_seated f.nodes) fs ≡ true
funcs_seated [] h = refl
funcs_seated (f ∷ fs) h = and_from _ _ (nodes_seated (slot_in (bases_of f)) f.nodes h.0.own) (funcs_seated fs h.1)
