-- The bases of a function's accesses are registers of the function.
use Rattle.std.proofs.Common.{◌≡◌, ℕ, zero, suc, ◌<◌, List, [], ◌∷◌, ◌++◌, true, false, ◌==◌, ◌⊎◌, inl, inr, if◌then◌else◌, subst, arith}
use Rattle.std.proofs.lemmas.Bool.{and_parts, or_cases, eqb-true, ltb-true}
use Rattle.std.specs.Prelude.{nat_lt}
use Rattle.std.specs.List.{list_all}
use Rattle.struct_ir.specs.Nodes.{Place, Act, set, call, step, look, safepoint, begin_object, end_object, Node, plain, if_, loop, break_, next_, ret, Nodes, no_nodes, more_nodes}
use Rattle.struct_ir.specs.Valid.{Scope, Around, body_of, latch_of, is_place, is_node, are_nodes}
use Rattle.pin_flow.specs.Looks.{some_act, some_in}
use Rattle.pin_flow.specs.Slots.{has_base, accesses, bases_below, IsIn}
use Rattle.pin_flow.proofs.Strip.{by_bool}

-- ---- the bases that are listed are below the number of registers

pub in_parts : (bs : List ℕ) (c b : ℕ) → IsIn (bs ++ (c ∷ [])) b → (b ≡ c) ⊎ IsIn bs b
in_parts [] c b (inl e) = inl e
in_parts [] c b (inr i) = absurd i
in_parts (x ∷ bs) c b (inl e) = inr (inl e)
in_parts (x ∷ bs) c b (inr i) = elim (in_parts bs c b i) [ inl e ↦ inl e | inr j ↦ inr (inr j) ]

pub base_below : (n : ℕ) (ns : Nodes) (b : ℕ) → IsIn (bases_below n ns) b → b < n
base_below zero ns b i = absurd i
base_below (suc n) ns b i =
    by_bool (λ x. IsIn (if x then bases_below n ns ++ (n ∷ []) else bases_below n ns) b → b < suc n) (some_act (accesses n) ns)
    (λ e i. elim (in_parts (bases_below n ns) n b i) [ inl g ↦ omega (arith, g) | inr j ↦ (let h = base_below n ns b j in omega (arith, h)) ])
    (λ e i. let h = base_below n ns b i in omega (arith, h)) i

-- ---- in valid code the base of each access is a register

module _ (b : ℕ) where
  place_below : (x : Scope) (list : List Place) → list_all (is_place x) list ≡ true → has_base b list ≡ true → b < x.temps
  place_below x [] e h = absurd (let z : false ≡ true = h in cc)
  place_below x (a ∷ rest) e h =
      let p = and_parts (is_place x a) (list_all (is_place x) rest) e in
      elim (or_cases (a.base == b) (has_base b rest) h) [
        | inl g ↦ (let q = and_parts (nat_lt a.base x.temps) _ p.0 in subst (λ y. y < x.temps) (eqb-true a.base b g) (ltb-true a.base x.temps q.0))
        | inr g ↦ place_below x rest p.1 g
      ]

  act_below : (x : Scope) (a : Act) → Rattle.struct_ir.specs.Valid.is_act x a ≡ true → accesses b a ≡ true → b < x.temps
  act_below x (set to calc) e h = absurd (let z : false ≡ true = h in cc)
  act_below x (call c) e h = absurd (let z : false ≡ true = h in cc)
  act_below x (step s) e h = place_below x s.places ((and_parts _ _ ((and_parts _ _ e).0)).0) h
  act_below x (look slot base) e h = absurd (let z : false ≡ true = h in cc)
  act_below x (safepoint slots) e h = absurd (let z : false ≡ true = h in cc)
  act_below x (begin_object i) e h = absurd (let z : false ≡ true = h in cc)
  act_below x (end_object i) e h = absurd (let z : false ≡ true = h in cc)

  mutual
    pub some_below : (x : Scope) (w : Around) (ns : Nodes) → are_nodes x w ns ≡ true → some_act (accesses b) ns ≡ true → b < x.temps
    some_below x w no_nodes e h = absurd (let z : false ≡ true = h in cc)
    some_below x w (more_nodes n rest) e h =
        let p = and_parts (is_node x w n) (are_nodes x w rest) e in
        elim (or_cases (some_in (accesses b) n) (some_act (accesses b) rest) h) [ inl g ↦ in_below x w n p.0 g | inr g ↦ some_below x w rest p.1 g ]

    in_below : (x : Scope) (w : Around) (n : Node) → is_node x w n ≡ true → some_in (accesses b) n ≡ true → b < x.temps
    in_below x w (plain p a) e h = act_below x a e h
    in_below x w (if_ p t one other) e h =
        let q = and_parts (are_nodes x w one) (are_nodes x w other) ((and_parts _ _ e).1) in
        elim (or_cases (some_act (accesses b) one) (some_act (accesses b) other) h) [ inl g ↦ some_below x w one q.0 g | inr g ↦ some_below x w other q.1 g ]
    in_below x w (loop p body latch) e h =
        let q = and_parts (are_nodes x body_of body) (are_nodes x latch_of latch) e in
        elim (or_cases (some_act (accesses b) body) (some_act (accesses b) latch) h) [ inl g ↦ some_below x body_of body q.0 g | inr g ↦ some_below x latch_of latch q.1 g ]
    in_below x w (break_ p) e h = absurd (let z : false ≡ true = h in cc)
    in_below x w (next_ p) e h = absurd (let z : false ≡ true = h in cc)
    in_below x w (ret p t) e h = absurd (let z : false ≡ true = h in cc)
