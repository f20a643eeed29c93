-- Registers and their slots, and sets of slots.
use Rattle.std.proofs.Common.{◌≡◌, ◌<◌, ◌≤◌, ◌+◌, ◌/◌, ◌%◌, nat_eq, ℕ, zero, suc, List, [], ◌∷◌, ◌++◌, length, get_or, drop, map, Option, Some, None, Bool, true, false, ◌==◌, ◌||◌, ◌&&◌, if◌then◌else◌, inl, inr, refl, sym, ap, subst, ◌∙◌, arith}
use Rattle.std.specs.Prelude.{not}
use Rattle.std.proofs.lemmas.Bool.{eqb-true, ne_eqb, cases_eq, cases_lt}
use Rattle.std.proofs.lemmas.Nat.Bits.{bit_at-zero}
use Rattle.std.specs.Int.{bit_at}
use Rattle.std.proofs.lemmas.List.{at_drop_more}
use Rattle.struct_ir.specs.declared.code.Place.{Place as CodePlace}
use Rattle.struct_ir.specs.Views.{place_view}
use Rattle.pin_flow.specs.Slots.{slot_if, one_more, IsIn}
use Rattle.pin_flow.specs.Live.{is_slot, has as has_use}
use Rattle.pin_flow.proofs.Strip.{by_bool}
use Rattle.mark_sets.specs.Words.{has}
use Rattle.pin_flow.specs.Looks.{some_act}
use Rattle.struct_ir.specs.Nodes.{Nodes}
use Rattle.pin_flow.specs.Slots.{accesses, bases_below}
use Rattle.pin_flow.proofs.Registers.{in_parts, base_below}
use Rattle.mark_sets.specs.declared.homes.Homes.{Homes}
use Rattle.mark_sets.specs.Homes.{AreOnce, IsHome, AreHomes}

pub home_of : {x : Homes} → AreHomes x → IsHome x
unfolding AreHomes
home_of h = h

more_some : (o : Option ℕ) (i : ℕ) → one_more o ≡ Some i → (j : ℕ) × (o ≡ Some j) × (i ≡ suc j)
more_some None i e = absurd cc
more_some (Some j) i e = (j, refl, cc)

-- a register's slot is its place among them
pub slot_found : (bs : List ℕ) (c s d : ℕ) → slot_if bs c ≡ Some s → (s < length bs) × (get_or bs s d ≡ c)
slot_found [] c s d e = absurd cc
slot_found (x ∷ rest) c s d e =
    by_bool (λ t. (if t then Some 0 else one_more (slot_if rest c)) ≡ Some s → (s < length (x ∷ rest)) × (get_or (x ∷ rest) s d ≡ c)) (c == x)
    (λ g f. let z : 0 ≡ s = cc in subst (λ y. (y < length (x ∷ rest)) × (get_or (x ∷ rest) y d ≡ c)) z (omega arith, sym (eqb-true c x g)))
    (λ g f.
    let m = more_some (slot_if rest c) s f in
    let r = slot_found rest c m.0 d m.1 in
    let lt : suc m.0 < length (x ∷ rest) = (let w = r.0 in omega (arith, w)) in
    subst (λ y. (y < length (x ∷ rest)) × (get_or (x ∷ rest) y d ≡ c)) (sym m.2) (lt, r.1)) e

-- ---- each base stands once among the bases

once_more : (bs : List ℕ) (c : ℕ) → AreOnce bs → (IsIn bs c → ⊥) → AreOnce (bs ++ (c ∷ []))
once_more [] c o h = ((λ i. i), tt)
once_more (b ∷ bs) c o h = (
  (λ i. elim (in_parts bs c b i) [ inl e ↦ h (inl (sym e)) | inr j ↦ o.0 j ]),
  once_more bs c o.1 (λ i. h (inr i)),
)

pub bases_once : (n : ℕ) (ns : Nodes) → AreOnce (bases_below n ns)
bases_once zero ns = tt
bases_once (suc n) ns =
    by_bool (λ x. AreOnce (if x then bases_below n ns ++ (n ∷ []) else bases_below n ns)) (some_act (accesses n) ns)
    (λ e. once_more (bases_below n ns) n (bases_once n ns) (λ i. let h = base_below n ns n i in absurd (omega (arith, h))))
    (λ e. bases_once n ns)

-- ---- accesses

or_turn : (p r s : Bool) → (r || (p || s)) ≡ ((p || r) || s)
or_turn true true s = refl
or_turn true false s = refl
or_turn false true s = refl
or_turn false false s = refl

-- one access more
pub use_more : (slot b : ℕ) (places : List CodePlace) (k : ℕ) (d : CodePlace) (old new : Bool) (all : Bool) → k < length places
    → (has_use slot b (map place_view (drop k places)) || old) ≡ all → new ≡ ((((place_view (get_or places k d)).base == b) && is_slot slot (place_view (get_or places k d)).slot) || old)
    → (has_use slot b (map place_view (drop (k + 1) places)) || new) ≡ all
use_more slot b places k d old new all lt inv e =
    let a = place_view (get_or places k d) in
    let p = (a.base == b) && is_slot slot a.slot in
    let r = has_use slot b (map place_view (drop (k + 1) places)) in
    let at : drop k places ≡ get_or places k d ∷ drop (k + 1) places = at_drop_more (λ z. z) places k d lt in
    ap (λ y. r || y) e ∙ (or_turn p r old ∙ (ap (λ l. has_use slot b (map place_view l) || old) (sym at) ∙ inv))

-- ---- registers that are not in a set

pub unused_some : (bs set : List ℕ) (b j d i : ℕ) (y : Bool) → slot_if bs b ≡ Some j → y ≡ has set j → not y ≡ true → slot_if bs d ≡ Some i → has set i ≡ true → (d == b) ≡ false
unused_some bs set b j d i y f yj r e h = elim (cases_eq d b) [
  | inl g ↦ (let s : Some i ≡ Some j = sym e ∙ (ap (slot_if bs) g ∙ f) in
      let k : i ≡ j = cc in
      let t : y ≡ true = yj ∙ (ap (has set) (sym k) ∙ h) in
      absurd (let z : false ≡ true = ap not (sym t) ∙ r in cc))
  | inr ne ↦ ne_eqb d b ne
]

pub unused_none : (bs : List ℕ) (b d i : ℕ) → slot_if bs b ≡ None → slot_if bs d ≡ Some i → (d == b) ≡ false
unused_none bs b d i f e = elim (cases_eq d b) [
  | inl g ↦ (let s : Some i ≡ None = sym e ∙ (ap (slot_if bs) g ∙ f) in absurd cc)
  | inr ne ↦ ne_eqb d b ne
]

-- ---- no words

beyond : (xs : List ℕ) (k : ℕ) → length xs ≤ k → get_or xs k 0 ≡ 0
beyond [] k h = refl
beyond (x ∷ xs) zero h = absurd (omega arith)
beyond (x ∷ xs) (suc k) h = beyond xs k (omega arith)

pub none_in : (set : List ℕ) (n : ℕ) → ((k : ℕ) → k < n → get_or set k 0 ≡ 0) → length set ≤ n → (i : ℕ) → has set i ≡ false
unfolding has
none_in set n h le i =
    let z : get_or set (i / 64) 0 ≡ 0 = elim (cases_lt (i / 64) n) [ inl lt ↦ h (i / 64) lt | inr ge ↦ beyond set (i / 64) (omega arith) ] in
    ap (λ w. nat_eq (bit_at w (i % 64)) 1) z ∙ ap (λ x. nat_eq x 1) (bit_at-zero (i % 64))

-- an empty set has no numbers
pub has_nothing : (i : ℕ) → has [] i ≡ false
unfolding has
has_nothing i = ap (λ x. nat_eq x 1) (bit_at-zero (i % 64))
