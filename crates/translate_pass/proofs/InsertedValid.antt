-- Code with its Looks is valid, if the code before was, and had no slots.
use Rattle.std.proofs.Common.{◌≡◌, ℕ, ◌≤◌, List, [], ◌∷◌, map, length, Option, Some, None, true, ◌==◌, ◌&&◌, ◌||◌, refl, ◌∙◌, arith}
use Rattle.std.proofs.lemmas.Bool.{and_parts, and_from, or_right, ltb-true, lt-ltb}
use Rattle.std.proofs.lemmas.List.{length-map}
use Rattle.std.specs.Prelude.{nat_lt, is_none}
use Rattle.std.specs.List.{list_all}
use Rattle.struct_ir.specs.Nodes.{Calc, constant, unset, null, global, literal, object, copy, convert, apply, pointer_add, pointer_sub, pointer_diff, pointer_compare, pointer_test, Place, node_place}
use Rattle.struct_ir.specs.Nodes.{Action, load, store, copy_bytes, malloc, calloc, realloc, free, change, compare, print, lock, unlock, destroy, start, join, may_wait, Step, Act, set, call, step, look, safepoint, begin_object, end_object}
use Rattle.struct_ir.specs.Nodes.{Node, plain, if_, loop, break_, next_, ret, Nodes, no_nodes, more_nodes, places_of}
use Rattle.struct_ir.specs.Lists.{bare_place, bare_step, bare_act}
use Rattle.struct_ir.specs.Erased.{is_kept, put, erased}
use Rattle.struct_ir.specs.Valid.{Scope, Around, Counts, body_of, latch_of, is_below_if, are_below, is_list, is_calc, is_place, is_action, counts_of, has_counts, is_step, is_act, is_node, are_nodes}
use Rattle.pin_flow.proofs.Strip.{by_bool}
use Rattle.translate_pass.specs.inner.Insert.{place_through, step_through, act_through, with_look, with_looks, places_in, inserted, inserted_in}

-- the same with so many slots
abbrev pub with_slots : Scope → ℕ → Scope
with_slots x n = record { temps = x.temps; slots = n; objects = x.objects; globals = x.globals; literals = x.literals; params = x.params }

module _ (x : Scope) (n : ℕ) where
  calc_same : (c : Calc) → is_calc (with_slots x n) c ≡ is_calc x c
  calc_same (constant t value) = refl
  calc_same unset = refl
  calc_same null = refl
  calc_same (global k) = refl
  calc_same (literal k) = refl
  calc_same (object k) = refl
  calc_same (copy t) = refl
  calc_same (convert to t) = refl
  calc_same (apply op t a b) = refl
  calc_same (pointer_add p k scale) = refl
  calc_same (pointer_sub p k scale) = refl
  calc_same (pointer_diff p q scale) = refl
  calc_same (pointer_compare op p q) = refl
  calc_same (pointer_test p) = refl

  action_same : (a : Action) → is_action (with_slots x n) a ≡ is_action x a
  action_same (load how) = refl
  action_same (store how) = refl
  action_same (copy_bytes align same) = refl
  action_same malloc = refl
  action_same calloc = refl
  action_same realloc = refl
  action_same free = refl
  action_same (change how t) = refl
  action_same (compare t) = refl
  action_same (print pieces) = refl
  action_same lock = refl
  action_same unlock = refl
  action_same destroy = refl
  action_same (start function) = refl
  action_same join = refl

-- a step counts as many places after a change of each
counts_same : (f : Place → Place) (n : Counts) (s : Step) (slots : List ℕ) → has_counts n s ≡ true
    → has_counts n (record { action = s.action; places = map f s.places; to = s.to; temps = s.temps; slots = slots }) ≡ true
counts_same f n s slots e = (λ i. (length-map s.places f i == n.places) && ((length s.temps == n.temps) && (n.gives || is_none s.to))) ∙ e

-- ---- erased code is valid without slots

module _ (x : Scope) where
  abbrev bare : Scope
  bare = with_slots x 0

  places_bare : (list : List Place) → list_all (is_place x) list ≡ true → list_all (is_place bare) (map bare_place list) ≡ true
  places_bare [] e = refl
  places_bare (a ∷ rest) e =
      let p = and_parts (is_place x a) (list_all (is_place x) rest) e in
      let q = and_parts (nat_lt a.base x.temps) (is_below_if x.temps a.index && is_below_if x.slots a.slot) p.0 in
      let r = and_parts (is_below_if x.temps a.index) (is_below_if x.slots a.slot) q.1 in
      and_from _ _ (and_from _ _ q.0 (and_from _ _ r.0 refl)) (places_bare rest p.1)

  step_bare : (s : Step) → is_step x s ≡ true → is_step bare (bare_step s) ≡ true
  step_bare s e =
      let p = and_parts _ _ e in
      let q = and_parts _ _ p.0 in
      let r = and_parts _ _ p.1 in
      let t = and_parts _ _ r.1 in
      let list : (may_wait s.action || (0 == 0)) ≡ true = or_right (may_wait s.action) (0 == 0) refl in
      and_from _ _ (and_from _ _ (places_bare s.places q.0) q.1) (and_from _ _ (counts_same bare_place (counts_of s.action) s [] r.0) (and_from _ _ (action_same x 0 s.action ∙ t.0) list))

  act_bare : (a : Act) → is_kept a ≡ true → is_act x a ≡ true → is_act bare (bare_act a) ≡ true
  act_bare (set to calc) g e = let p = and_parts _ _ e in and_from _ _ p.0 (calc_same x 0 calc ∙ p.1)
  act_bare (call c) g e = let p = and_parts _ _ e in let q = and_parts _ _ p.1 in and_from _ _ p.0 (and_from _ _ q.0 refl)
  act_bare (step s) g e = step_bare s e
  act_bare (look slot base) g e = absurd cc
  act_bare (safepoint slots) g e = absurd cc
  act_bare (begin_object i) g e = e
  act_bare (end_object i) g e = e

  pub erased_valid : (w : Around) (ns : Nodes) → are_nodes x w ns ≡ true → are_nodes bare w (erased ns) ≡ true
  erased_valid w no_nodes e = refl
  erased_valid w (more_nodes (plain p a) rest) e =
      let q = and_parts (is_act x a) (are_nodes x w rest) e in
      by_bool (λ k. are_nodes bare w (put k (plain p (bare_act a)) (erased rest)) ≡ true) (is_kept a)
      (λ g. and_from _ _ (act_bare a g q.0) (erased_valid w rest q.1)) (λ g. erased_valid w rest q.1)
  erased_valid w (more_nodes (if_ p t one other) rest) e =
      let q = and_parts (is_node x w (if_ p t one other)) (are_nodes x w rest) e in
      let r = and_parts (nat_lt t x.temps) (are_nodes x w one && are_nodes x w other) q.0 in
      let u = and_parts (are_nodes x w one) (are_nodes x w other) r.1 in
      and_from _ _ (and_from _ _ r.0 (and_from _ _ (erased_valid w one u.0) (erased_valid w other u.1))) (erased_valid w rest q.1)
  erased_valid w (more_nodes (loop p body latch) rest) e =
      let q = and_parts (is_node x w (loop p body latch)) (are_nodes x w rest) e in
      let u = and_parts (are_nodes x body_of body) (are_nodes x latch_of latch) q.0 in
      and_from _ _ (and_from _ _ (erased_valid body_of body u.0) (erased_valid latch_of latch u.1)) (erased_valid w rest q.1)
  erased_valid w (more_nodes (break_ p) rest) e =
      let q = and_parts (is_node x w (break_ p)) (are_nodes x w rest) e in and_from _ _ q.0 (erased_valid w rest q.1)
  erased_valid w (more_nodes (next_ p) rest) e =
      let q = and_parts (is_node x w (next_ p)) (are_nodes x w rest) e in and_from _ _ q.0 (erased_valid w rest q.1)
  erased_valid w (more_nodes (ret p t) rest) e =
      let q = and_parts (is_node x w (ret p t)) (are_nodes x w rest) e in and_from _ _ q.0 (erased_valid w rest q.1)

-- ---- with no fewer slots, and slots in range, code with its Looks is valid

module _ (x : Scope) (n : ℕ) (few : x.slots ≤ n) (s : ℕ → Option ℕ) (below : (b : ℕ) → is_below_if n (s b) ≡ true) where
  abbrev y : Scope
  y = with_slots x n

  slot_below : (slot : ℕ) → nat_lt slot x.slots ≡ true → nat_lt slot n ≡ true
  slot_below slot e = let h = ltb-true slot x.slots e in lt-ltb slot n (omega arith)

  list_below : (list : List ℕ) → are_below x.slots list ≡ true → are_below n list ≡ true
  list_below [] e = refl
  list_below (k ∷ rest) e = let p = and_parts (nat_lt k x.slots) (are_below x.slots rest) e in and_from _ _ (slot_below k p.0) (list_below rest p.1)

  list_still : (list : List ℕ) → is_list x list ≡ true → is_list y list ≡ true
  list_still list e = let p = and_parts _ _ e in and_from _ _ (list_below list p.0) p.1

  places_still : (list : List Place) → list_all (is_place x) list ≡ true → list_all (is_place y) (map (place_through s) list) ≡ true
  places_still [] e = refl
  places_still (a ∷ rest) e =
      let p = and_parts (is_place x a) (list_all (is_place x) rest) e in
      let q = and_parts (nat_lt a.base x.temps) (is_below_if x.temps a.index && is_below_if x.slots a.slot) p.0 in
      let r = and_parts (is_below_if x.temps a.index) (is_below_if x.slots a.slot) q.1 in
      and_from _ _ (and_from _ _ q.0 (and_from _ _ r.0 (below a.base))) (places_still rest p.1)

  step_still : (s' : Step) → is_step x s' ≡ true → is_step y (step_through s s') ≡ true
  step_still s' e =
      let p = and_parts _ _ e in
      let q = and_parts _ _ p.0 in
      let r = and_parts _ _ p.1 in
      let t = and_parts _ _ r.1 in
      let u = and_parts _ _ t.1 in
      and_from _ _ (and_from _ _ (places_still s'.places q.0) q.1)
      (and_from _ _ (counts_same (place_through s) (counts_of s'.action) s' s'.slots r.0) (and_from _ _ (action_same x n s'.action ∙ t.0) (and_from _ _ (list_still s'.slots u.0) u.1)))

  act_still : (a : Act) → is_act x a ≡ true → is_act y (act_through s a) ≡ true
  act_still (set to calc) e = let p = and_parts _ _ e in and_from _ _ p.0 (calc_same x n calc ∙ p.1)
  act_still (call c) e = let p = and_parts _ _ e in let q = and_parts _ _ p.1 in and_from _ _ p.0 (and_from _ _ q.0 (list_still c.slots q.1))
  act_still (step s') e = step_still s' e
  act_still (look slot base) e = let p = and_parts _ _ e in and_from _ _ (slot_below slot p.0) p.1
  act_still (safepoint slots) e = list_still slots e
  act_still (begin_object i) e = e
  act_still (end_object i) e = e

  look_still : (w : Around) (o : Option ℕ) (p base : ℕ) (rest : Nodes) → is_below_if n o ≡ true → nat_lt base x.temps ≡ true → are_nodes y w rest ≡ true → are_nodes y w (with_look o p base rest) ≡ true
  look_still w None p base rest e g h = h
  look_still w (Some slot) p base rest e g h = and_from _ _ (and_from _ _ e g) h

  looks_still : (w : Around) (p : ℕ) (list : List Place) (rest : Nodes) → list_all (is_place x) list ≡ true → are_nodes y w rest ≡ true → are_nodes y w (with_looks s p list rest) ≡ true
  looks_still w p [] rest e h = h
  looks_still w p (a ∷ others) rest e h =
      let q = and_parts (is_place x a) (list_all (is_place x) others) e in
      look_still w (s a.base) p a.base (with_looks s p others rest) (below a.base) ((and_parts _ _ q.0).0) (looks_still w p others rest q.1 h)

  act_places : (a : Act) → is_act x a ≡ true → list_all (is_place x) (places_of a) ≡ true
  act_places (set to calc) e = refl
  act_places (call c) e = refl
  act_places (step s') e = (and_parts _ _ ((and_parts _ _ e).0)).0
  act_places (look slot base) e = refl
  act_places (safepoint slots) e = refl
  act_places (begin_object i) e = refl
  act_places (end_object i) e = refl

  places_valid : (w : Around) (m : Node) → is_node x w m ≡ true → list_all (is_place x) (places_in m) ≡ true
  places_valid w (plain p a) e = act_places a e
  places_valid w (if_ p t one other) e = refl
  places_valid w (loop p body latch) e = refl
  places_valid w (break_ p) e = refl
  places_valid w (next_ p) e = refl
  places_valid w (ret p t) e = refl

  mutual
    pub inserted_valid : (w : Around) (ns : Nodes) → are_nodes x w ns ≡ true → are_nodes y w (inserted s ns) ≡ true
    inserted_valid w no_nodes e = refl
    inserted_valid w (more_nodes m rest) e =
        let q = and_parts (is_node x w m) (are_nodes x w rest) e in
        looks_still w (node_place m) (places_in m) (more_nodes (inserted_in s m) (inserted s rest)) (places_valid w m q.0) (and_from _ _ (in_valid w m q.0) (inserted_valid w rest q.1))

    in_valid : (w : Around) (m : Node) → is_node x w m ≡ true → is_node y w (inserted_in s m) ≡ true
    in_valid w (plain p a) e = act_still a e
    in_valid w (if_ p t one other) e =
        let r = and_parts (nat_lt t x.temps) (are_nodes x w one && are_nodes x w other) e in
        let u = and_parts (are_nodes x w one) (are_nodes x w other) r.1 in
        and_from _ _ r.0 (and_from _ _ (inserted_valid w one u.0) (inserted_valid w other u.1))
    in_valid w (loop p body latch) e =
        let u = and_parts (are_nodes x body_of body) (are_nodes x latch_of latch) e in
        and_from _ _ (inserted_valid body_of body u.0) (inserted_valid latch_of latch u.1)
    in_valid w (break_ p) e = e
    in_valid w (next_ p) e = e
    in_valid w (ret p t) e = e
