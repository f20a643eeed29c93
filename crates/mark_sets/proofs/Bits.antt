-- The bits of registers, and what acts make of them.
use Rattle.std.proofs.Common.{◌≡◌, ◌≢◌, ◌<◌, ◌+◌, ℕ, zero, suc, List, [], ◌∷◌, ◌++◌, length, take, get_or, Option, Some, None, Bool, true, false, ◌==◌, ◌||◌, ◌&&◌, if◌then◌else◌, refl, sym, ap, ◌∙◌, arith, inl, inr}
use Rattle.std.specs.Prelude.{not}
use Rattle.std.proofs.lemmas.Bool.{eqb-true, eq-eqb, ne_eqb, cases_eq}
use Rattle.std.proofs.lemmas.List.{take_more, length-take-le}
use Rattle.struct_ir.specs.Nodes.{Node, plain, if_, loop, break_, next_, ret}
use Rattle.pin_flow.specs.declared.mark.Mark.{Mark as CodeMark}
use Rattle.pin_flow.specs.declared.mark.Mark.TheVariants as kinds
use Rattle.pin_flow.specs.Slots.{slot_if, one_more}
use Rattle.pin_flow.specs.Views.{mark_view, node_marked, looks_at, assigns_at}
use Rattle.pin_flow.proofs.Marked.{held_at}
use Rattle.pin_flow.proofs.Strip.{by_bool}
use Rattle.mark_sets.specs.declared.marks.Marks.{Marks}
use Rattle.std.specs.Prelude.{Result, Ok, Err, OnOk}
use Rattle.pin_flow.specs.Marks.{AllPaths, state_of, at, after}
use Rattle.pin_flow.specs.Marks as flows
use Rattle.pin_flow.specs.Views.{leaf}
use Rattle.pin_flow.proofs.FlowRows.{is_plain}
use Rattle.mark_sets.specs.Words.{has}
use Rattle.mark_sets.specs.Views.{bit_of, OwnBits, HaveOwnBits, first_of}
use Rattle.mark_sets.proofs.Exact.{not_not, after_state}

-- ---- places in a list

-- a register more without a bit
pub none_more : (held : List (Option ℕ)) (b : ℕ) → get_or (held ++ (None ∷ [])) b None ≡ get_or held b None
none_more [] zero = refl
none_more [] (suc b) = refl
none_more (o ∷ held) zero = refl
none_more (o ∷ held) (suc b) = none_more held b

more_first : (o : Option ℕ) (t : Bool) (n : ℕ) → one_more (first_of o (if t then Some n else None)) ≡ first_of (one_more o) (if t then Some (suc n) else None)
more_first None true n = refl
more_first None false n = refl
more_first (Some i) t n = refl

slot_last : (xs : List ℕ) (x c : ℕ) → slot_if (xs ++ (x ∷ [])) c ≡ first_of (slot_if xs c) (if c == x then Some (length xs) else None)
slot_last [] x c = refl
slot_last (y ∷ xs) x c =
    by_bool (λ t. (if t then Some 0 else one_more (slot_if (xs ++ (x ∷ [])) c)) ≡ first_of (if t then Some 0 else one_more (slot_if xs c)) (if c == x then Some (suc (length xs)) else None)) (c == y)
    (λ e. refl)
    (λ e. ap one_more (slot_last xs x c) ∙ more_first (slot_if xs c) (c == x) (length xs))

-- one register more
pub slot_more : (bases : List ℕ) (i x c : ℕ) (before now : Option ℕ) → i < length bases → x ≡ get_or bases i 0 → before ≡ slot_if (take i bases) c
    → now ≡ first_of before (if c == x then Some i else None) → now ≡ slot_if (take (i + 1) bases) c
slot_more bases i x c before now le is e f =
    let n : length (take i bases) ≡ i = length-take-le i bases (omega arith) in
    f
    ∙ ((λ j. first_of (e j) (if c == is j then Some (sym n j) else None))
    ∙ (sym (slot_last (take i bases) (get_or bases i 0) c) ∙ ap (λ l. slot_if l c) (sym (take_more bases i 0 le))))

more_some : (o : Option ℕ) (i : ℕ) → one_more o ≡ Some i → (j : ℕ) × (o ≡ Some j) × (i ≡ suc j)
more_some None i e = absurd cc
more_some (Some j) i e = (j, refl, cc)

slots_apart : (xs : List ℕ) (b c i : ℕ) → slot_if xs b ≡ Some i → slot_if xs c ≡ Some i → b ≡ c
slots_apart [] b c i e f = absurd cc
slots_apart (y ∷ xs) b c i e f =
    by_bool (λ t. (b == y) ≡ t → (if t then Some 0 else one_more (slot_if xs b)) ≡ Some i → b ≡ c) (b == y)
    (λ g k e. by_bool (λ t. (c == y) ≡ t → (if t then Some 0 else one_more (slot_if xs c)) ≡ Some i → b ≡ c) (c == y)
    (λ h l f. eqb-true b y g ∙ sym (eqb-true c y h))
    (λ h l f. let m = more_some (slot_if xs c) i f in let z : i ≡ 0 = cc in absurd (let w = m.2 in omega (arith, z, w))) refl f)
    (λ g k e. let m = more_some (slot_if xs b) i e in
    by_bool (λ t. (c == y) ≡ t → (if t then Some 0 else one_more (slot_if xs c)) ≡ Some i → b ≡ c) (c == y)
    (λ h l f. let z : i ≡ 0 = cc in absurd (let w = m.2 in omega (arith, z, w)))
    (λ h l f. let o = more_some (slot_if xs c) i f in let same : m.0 ≡ o.0 = (let v = m.2 in let w = o.2 in omega (arith, v, w)) in slots_apart xs b c o.0 (m.1 ∙ ap Some same) o.1) refl f)
    refl e

slots_few : (xs : List ℕ) (b i : ℕ) → slot_if xs b ≡ Some i → i < length xs
slots_few [] b i e = absurd cc
slots_few (y ∷ xs) b i e =
    by_bool (λ t. (if t then Some 0 else one_more (slot_if xs b)) ≡ Some i → i < suc (length xs)) (b == y)
    (λ g e. let z : i ≡ 0 = cc in omega (arith, z))
    (λ g e. let m = more_some (slot_if xs b) i e in let w = m.2 in let h = slots_few xs b m.0 m.1 in omega (arith, w, h)) e

-- of each register whether it is held
module _ (x : Marks) (bases : List ℕ) (bits : (b : ℕ) → bit_of x (kinds.Held b) ≡ slot_if bases b) (all : x.count ≡ length bases) where
  own_apart : (k l : CodeMark) (i : ℕ) → bit_of x k ≡ Some i → bit_of x l ≡ Some i → k ≡ l
  own_apart (kinds.Held b) (kinds.Held c) i e f = ap kinds.Held (slots_apart bases b c i (sym (bits b) ∙ e) (sym (bits c) ∙ f))
  own_apart (kinds.Held b) l i e f = absurd cc
  own_apart k l i e f = absurd cc

  own_few : (k : CodeMark) (i : ℕ) → bit_of x k ≡ Some i → i < x.count
  own_few (kinds.Held b) i e = let h = slots_few bases b i (sym (bits b) ∙ e) in omega (arith, h, all)
  own_few k i e = absurd cc

  pub own_bits : HaveOwnBits x
  unfolding HaveOwnBits
  own_bits = record { apart = own_apart; few = own_few }

pub bits_of : {x : Marks} → HaveOwnBits x → OwnBits x
unfolding HaveOwnBits
bits_of h = h

-- ---- acts

look_bit : (x y : Bool) → (not x && y) ≡ not (x || not y)
look_bit true y = refl
look_bit false true = refl
look_bit false false = refl

assign_bit : (x y : Bool) → (x || y) ≡ not (not x && not y)
assign_bit true y = refl
assign_bit false true = refl
assign_bit false false = refl

same_bit : (y : Bool) → y ≡ not (not y)
same_bit true = refl
same_bit false = refl

-- what a node that looks up and assigns so makes of a bit
pub bit_behind : (x : Marks) (n : Node) (i : ℕ) (old new : Bool) (looks assigns : ℕ → Bool) → ((c : ℕ) → looks_at c n ≡ looks c) → ((c : ℕ) → assigns_at c n ≡ assigns c)
    → ((c : ℕ) → bit_of x (kinds.Held c) ≡ Some i → new ≡ not (looks c || (not old && not (assigns c)))) → (k : CodeMark) → bit_of x k ≡ Some i → new ≡ not (node_marked (mark_view k) n (not old))
bit_behind x n i old new looks assigns l a e (kinds.Held c) h = e c h ∙ ((λ j. not (sym (l c) j || (not old && not (sym (a c) j)))) ∙ ap not (sym (held_at c n (not old))))
bit_behind x n i old new looks assigns l a e k h = absurd cc

pub look_behind : (b : Bool) (old new : Bool) → new ≡ (not b && old) → new ≡ not (b || (not old && not false))
look_behind true old new e = e
look_behind false true new e = e
look_behind false false new e = e

pub assign_behind : (b : Bool) (old new : Bool) → new ≡ (b || old) → new ≡ not (false || (not old && not b))
assign_behind true true new e = e
assign_behind true false new e = e
assign_behind false true new e = e
assign_behind false false new e = e

pub same_behind : (old new : Bool) → new ≡ old → new ≡ not (false || (not old && not false))
same_behind true new e = e
same_behind false new e = e

-- ---- one bit that is changed

module _ (x : Marks) (own : HaveOwnBits x) (b j : ℕ) (old new : List ℕ) (has_it : bit_of x (kinds.Held b) ≡ Some j) (others : (i : ℕ) → i ≢ j → has new i ≡ has old i) where
  same_place : (c i : ℕ) → bit_of x (kinds.Held c) ≡ Some i → c ≡ b → i ≡ j
  same_place c i e h = let g : bit_of x (kinds.Held c) ≡ bit_of x (kinds.Held b) = ap (λ d. bit_of x (kinds.Held d)) h in cc

  other_place : (c i : ℕ) → bit_of x (kinds.Held c) ≡ Some i → (c ≡ b → ⊥) → i ≢ j
  other_place c i e ne h =
      let g : kinds.Held c ≡ kinds.Held b = (bits_of own).apart (kinds.Held c) (kinds.Held b) i e (has_it ∙ ap Some (sym h)) in
      ne cc

  pub looked : has new j ≡ false → (c i : ℕ) → bit_of x (kinds.Held c) ≡ Some i → has new i ≡ (not (b == c) && has old i)
  looked gone c i e = elim (cases_eq b c) [
    | inl h ↦ ap (λ k. has new k) (same_place c i e (sym h)) ∙ (gone ∙ sym (ap (λ y. not y && has old i) (eq-eqb b c h)))
    | inr h ↦ others i (other_place c i e (λ g. h (sym g))) ∙ sym (ap (λ y. not y && has old i) (ne_eqb b c h))
  ]

  pub assigned : has new j ≡ true → (c i : ℕ) → bit_of x (kinds.Held c) ≡ Some i → has new i ≡ ((c == b) || has old i)
  assigned there c i e = elim (cases_eq c b) [
    | inl h ↦ ap (λ k. has new k) (same_place c i e h) ∙ (there ∙ sym (ap (λ y. y || has old i) (eq-eqb c b h)))
    | inr h ↦ others i (other_place c i e h) ∙ sym (ap (λ y. y || has old i) (ne_eqb c b h))
  ]

pub on_both : {T E P Q R : Type 0} (r : Result T E) → OnOk r P → OnOk r Q → (P → Q → R) → OnOk r R
on_both (Ok x) p q f = f p q
on_both (Err e) p q f = tt

-- ---- states behind acts

pub changed_state : (f : Bool → Bool) (old new : Bool) → new ≡ not (f (not old)) → state_of (not new) ≡ after f (state_of (not old))
changed_state f old new e = ap (λ x. state_of (not x)) e ∙ (ap state_of (not_not (f (not old))) ∙ after_state f (not old))

-- an act leads on alone
pub leaf_marked : (m : flows.Mark) (n : Node) → is_plain n ≡ true → (t : AllPaths) → at (after (λ (w : Bool). node_marked m n w) t) ≡ leaf m n t
leaf_marked m (plain p a) e t = refl
leaf_marked m (if_ p x one other) e t = absurd (let h : false ≡ true = e in cc)
leaf_marked m (loop p body latch) e t = absurd (let h : false ≡ true = e in cc)
leaf_marked m (break_ p) e t = absurd (let h : false ≡ true = e in cc)
leaf_marked m (next_ p) e t = absurd (let h : false ≡ true = e in cc)
leaf_marked m (ret p x) e t = absurd (let h : false ≡ true = e in cc)
