-- The bases of a function's accesses, and their slots.
use Rattle.std.proofs.Common.{◌≡◌, ℕ, zero, suc, ◌+◌, ◌<◌, ◌≤◌, List, [], ◌∷◌, ◌++◌, length, map, Some, true, false, ◌==◌, ◌||◌, inl, inr, if◌then◌else◌, refl, sym, ap, ◌∙◌, arith}
use Rattle.std.proofs.lemmas.Bool.{eqb-true, eq-eqb, cases_lt}
use Rattle.struct_ir.specs.Nodes.{Place, Act, set, call, step, look, safepoint, begin_object, end_object, Node, plain, if_, loop, break_, next_, ret, Nodes, no_nodes, more_nodes}
use Rattle.struct_ir.specs.Lists.{bare_place, bare_act}
use Rattle.struct_ir.specs.Erased.{is_kept, put, node_erased, erased}
use Rattle.pin_flow.specs.Looks.{some_act, some_in}
use Rattle.pin_flow.specs.Slots.{has_base, accesses, bases_below, slot_in, slot_if, one_more, IsIn, AreApart}
use Rattle.pin_flow.proofs.Strip.{by_bool}

-- ---- code and the code without its Looks, safepoints and slots have the same bases

has_bare : (b : ℕ) (list : List Place) → has_base b (map bare_place list) ≡ has_base b list
has_bare b [] = refl
has_bare b (a ∷ rest) = ap (λ x. (a.base == b) || x) (has_bare b rest)

accesses_bare : (b : ℕ) (a : Act) → accesses b (bare_act a) ≡ accesses b a
accesses_bare b (set to calc) = refl
accesses_bare b (call c) = refl
accesses_bare b (step x) = has_bare b x.places
accesses_bare b (look slot base) = refl
accesses_bare b (safepoint slots) = refl
accesses_bare b (begin_object i) = refl
accesses_bare b (end_object i) = refl

accesses_gone : (b : ℕ) (a : Act) → is_kept a ≡ false → accesses b a ≡ false
accesses_gone b (set to calc) e = refl
accesses_gone b (call c) e = refl
accesses_gone b (step x) e = absurd cc
accesses_gone b (look slot base) e = refl
accesses_gone b (safepoint slots) e = refl
accesses_gone b (begin_object i) e = refl
accesses_gone b (end_object i) e = refl

mutual
  pub some_erased : (b : ℕ) (ns : Nodes) → some_act (accesses b) (erased ns) ≡ some_act (accesses b) ns
  some_erased b no_nodes = refl
  some_erased b (more_nodes (plain p a) rest) =
      by_bool (λ x. some_act (accesses b) (put x (plain p (bare_act a)) (erased rest)) ≡ (accesses b a || some_act (accesses b) rest)) (is_kept a)
      (λ e i. accesses_bare b a i || some_erased b rest i)
      (λ e. rw (accesses_gone b a e) (some_erased b rest))
  some_erased b (more_nodes (if_ p x one other) rest) = λ i. in_erased b (if_ p x one other) i || some_erased b rest i
  some_erased b (more_nodes (loop p body latch) rest) = λ i. in_erased b (loop p body latch) i || some_erased b rest i
  some_erased b (more_nodes (break_ p) rest) = some_erased b rest
  some_erased b (more_nodes (next_ p) rest) = some_erased b rest
  some_erased b (more_nodes (ret p x) rest) = some_erased b rest

  in_erased : (b : ℕ) (n : Node) → some_in (accesses b) (node_erased n) ≡ some_in (accesses b) n
  in_erased b (plain p a) = accesses_bare b a
  in_erased b (if_ p x one other) = λ i. some_erased b one i || some_erased b other i
  in_erased b (loop p body latch) = λ i. some_erased b body i || some_erased b latch i
  in_erased b (break_ p) = refl
  in_erased b (next_ p) = refl
  in_erased b (ret p x) = refl

pub bases_erased : (n : ℕ) (ns : Nodes) → bases_below n (erased ns) ≡ bases_below n ns
bases_erased zero ns = refl
bases_erased (suc b) ns = λ i. if some_erased b ns i then bases_erased b ns i ++ (b ∷ []) else bases_erased b ns i

-- code that is the same without those has the same bases
pub same_bases : (n : ℕ) (ns out : Nodes) → erased out ≡ erased ns → bases_below n out ≡ bases_below n ns
same_bases n ns out e = sym (bases_erased n out) ∙ (ap (bases_below n) e ∙ bases_erased n ns)

-- ---- each base is among them

in_append : (xs : List ℕ) (b c : ℕ) → IsIn xs b → IsIn (xs ++ (c ∷ [])) b
in_append [] b c i = absurd i
in_append (x ∷ xs) b c (inl e) = inl e
in_append (x ∷ xs) b c (inr i) = inr (in_append xs b c i)

in_last : (xs : List ℕ) (c : ℕ) → IsIn (xs ++ (c ∷ [])) c
in_last [] c = inl refl
in_last (x ∷ xs) c = inr (in_last xs c)

pub base_in : (n : ℕ) (ns : Nodes) (b : ℕ) → b < n → some_act (accesses b) ns ≡ true → IsIn (bases_below n ns) b
base_in zero ns b h e = absurd (omega arith)
base_in (suc n) ns b h e = elim (cases_lt b n) [
  | inl le ↦ by_bool (λ x. IsIn (if x then bases_below n ns ++ (n ∷ []) else bases_below n ns) b) (some_act (accesses n) ns) (λ g. in_append (bases_below n ns) b n (base_in n ns b le e)) (λ g. base_in n ns b le e)
  | inr ge ↦ (let same : b ≡ n = omega arith in let g : some_act (accesses n) ns ≡ true = ap (λ x. some_act (accesses x) ns) (sym same) ∙ e in rw (g, same) (in_last (bases_below n ns) n))
]

pub bases_few : (n : ℕ) (ns : Nodes) → length (bases_below n ns) ≤ n
bases_few zero ns = omega arith
bases_few (suc n) ns =
    let h = bases_few n ns in
    by_bool (λ x. length (if x then bases_below n ns ++ (n ∷ []) else bases_below n ns) ≤ suc n) (some_act (accesses n) ns) (λ g. grind (arith, Rattle.std.proofs.Common.length-append)) (λ g. omega arith)

-- ---- slots

pub slot_known : (bs : List ℕ) (b : ℕ) → IsIn bs b → slot_if bs b ≡ Some (slot_in bs b)
slot_known [] b i = absurd i
slot_known (c ∷ rest) b (inl e) = let x : (b == c) ≡ true = eq-eqb b c e in rw x refl
slot_known (c ∷ rest) b (inr i) =
    by_bool (λ x. (if x then Some 0 else one_more (slot_if rest b)) ≡ Some (if x then 0 else suc (slot_in rest b))) (b == c) (λ e. refl) (λ e. ap one_more (slot_known rest b i))

pub slots_are_few : (bs : List ℕ) (b : ℕ) → IsIn bs b → slot_in bs b < length bs
slots_are_few [] b i = absurd i
slots_are_few (c ∷ rest) b (inl e) = let x : (b == c) ≡ true = eq-eqb b c e in rw x (omega arith)
slots_are_few (c ∷ rest) b (inr i) =
    let h = slots_are_few rest b i in
    by_bool (λ x. (if x then 0 else suc (slot_in rest b)) < length (c ∷ rest)) (b == c) (λ e. omega arith) (λ e. omega arith)

pub slots_are_apart : (bs : List ℕ) → AreApart (slot_in bs)
slots_are_apart [] b c e = e
slots_are_apart (d ∷ rest) b c e =
    by_bool (λ x. (if x then 0 else suc (slot_in rest b)) ≡ slot_in (d ∷ rest) c → b ≡ c) (b == d)
    (λ g e. by_bool (λ y. 0 ≡ (if y then 0 else suc (slot_in rest c)) → b ≡ c) (c == d)
    (λ h e. eqb-true b d g ∙ sym (eqb-true c d h)) (λ h e. absurd (omega arith)) e)
    (λ g e. by_bool (λ y. suc (slot_in rest b) ≡ (if y then 0 else suc (slot_in rest c)) → b ≡ c) (c == d)
    (λ h e. absurd (omega arith)) (λ h e. slots_are_apart rest b c (omega arith)) e) e
