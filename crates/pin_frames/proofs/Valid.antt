-- Code with safepoints and lists is valid where the code without them is.
use Rattle.std.proofs.Common.{◌≡◌, ℕ, ◌<◌, List, [], ◌∷◌, length, Bool, true, ◌==◌, ◌||◌, ◌&&◌, if◌then◌else◌, inl, inr, refl, sym, subst}
use Rattle.std.proofs.lemmas.Bool.{and_from, and_parts, lt-ltb}
use Rattle.struct_ir.specs.Nodes.{Act, set, call, step, look, safepoint, begin_object, end_object, may_wait, Node, plain, if_, loop, break_, next_, ret, Nodes, no_nodes, more_nodes}
use Rattle.std.specs.List.{list_all}
use Rattle.struct_ir.specs.Pins.{lacks}
use Rattle.struct_ir.specs.Valid.{Scope, Around, body_of, latch_of, are_below, is_distinct, is_list, is_own_list, is_place, is_below_if, has_counts, counts_of, is_action, is_act, is_node, are_nodes}
use Rattle.pin_flow.specs.Marks.{AllPaths}
use Rattle.pin_flow.specs.Live.{Live, live_act, body_lives, latch_lives}
use Rattle.pin_flow.specs.Slots.{IsIn, AreApart}
use Rattle.pin_flow.proofs.Strip.{by_bool}
use Rattle.pin_frames.specs.inner.Place.{stop, act_seats, seats, seated, seated_in, wanted, act_listing, list_for, heads, turns, on_states, rest_lives, listed, listed_in}
use Rattle.mark_sets.specs.Homes.{AreOnce}
use Rattle.pin_frames.proofs.Exact.{list_only}

-- ---- lists

module _ (x : Scope) (slot_of : ℕ → ℕ) (apart : AreApart slot_of) where
  -- each has a slot
  abbrev pub AreSlots : List ℕ → Type 0
  AreSlots bs = (b : ℕ) → IsIn bs b → slot_of b < x.slots

  list_below : (a : Act) (ts : ℕ → AllPaths) (later : ℕ → Bool) (bs : List ℕ) → AreSlots bs → are_below x.slots (list_for slot_of bs a ts later) ≡ true
  list_below a ts later [] h = refl
  list_below a ts later (b ∷ bs) h =
      let l = list_for slot_of bs a ts later in
      let r = list_below a ts later bs (λ c i. h c (inr i)) in
      by_bool (λ y. are_below x.slots (if y then slot_of b ∷ l else l) ≡ true) (wanted slot_of b a (ts b) (later b)) (λ e. and_from _ _ (lt-ltb (slot_of b) x.slots (h b (inl refl))) r) (λ e. r)

  list_once : (a : Act) (ts : ℕ → AllPaths) (later : ℕ → Bool) (bs : List ℕ) → AreOnce bs → is_distinct (list_for slot_of bs a ts later) ≡ true
  list_once a ts later [] o = refl
  list_once a ts later (b ∷ bs) o =
      let l = list_for slot_of bs a ts later in
      let r = list_once a ts later bs o.1 in
      let new : lacks (slot_of b) l ≡ true = by_bool (λ y. lacks (slot_of b) l ≡ y → y ≡ true) (lacks (slot_of b) l) (λ e g. refl)
      (λ e g. let q = list_only slot_of a ts later (slot_of b) bs g in absurd (o.0 (subst (λ y. IsIn bs y) (sym (apart b q.0 q.2)) q.1))) refl in
      by_bool (λ y. is_distinct (if y then slot_of b ∷ l else l) ≡ true) (wanted slot_of b a (ts b) (later b)) (λ e. and_from _ _ new r) (λ e. r)

  module _ (bs : List ℕ) (once : AreOnce bs) (slots : AreSlots bs) where
    list_fine : (a : Act) (ts : ℕ → AllPaths) (later : ℕ → Bool) → is_list x (list_for slot_of bs a ts later) ≡ true
    list_fine a ts later = and_from _ _ (list_below a ts later bs slots) (list_once a ts later bs once)

    own_fine : (action : Rattle.struct_ir.specs.Nodes.Action) (l : List ℕ) → is_list x l ≡ true → is_own_list x action (if may_wait action then l else []) ≡ true
    own_fine action l e = by_bool (λ y. (is_list x (if y then l else []) && (y || (length (if y then l else []) == 0))) ≡ true) (may_wait action) (λ g. and_from _ _ e refl) (λ g. refl)

    act_fine : (a : Act) (l : List ℕ) → is_list x l ≡ true → is_act x a ≡ true → is_act x (act_listing a l) ≡ true
    act_fine (set to calc) l e h = h
    act_fine (call c) l e h = let p = and_parts _ _ h in let q = and_parts _ _ p.1 in and_from _ _ p.0 (and_from _ _ q.0 e)
    act_fine (step s) l e h =
        let shaped : Bool = list_all (is_place x) s.places && (are_below x.temps s.temps && is_below_if x.temps s.to) in
        let counted : Bool = has_counts (counts_of s.action) s in
        let started : Bool = is_action x s.action in
        let old : Bool = is_own_list x s.action s.slots in
        let new : Bool = is_own_list x s.action (if may_wait s.action then l else []) in
        let p = and_parts shaped (counted && (started && old)) h in
        let q = and_parts counted (started && old) p.1 in
        let r = and_parts started old q.1 in
        and_from shaped (counted && (started && new)) p.0 (and_from counted (started && new) q.0 (and_from started new r.0 (own_fine s.action l e)))
    act_fine (look s base) l e h = h
    act_fine (safepoint old) l e h = e
    act_fine (begin_object i) l e h = h
    act_fine (end_object i) l e h = h

    mutual
      pub valid_listed : (w : Around) (ns : Nodes) (ts : ℕ → AllPaths) (ls : ℕ → Live) → are_nodes x w ns ≡ true → are_nodes x w (listed slot_of bs ns ts ls) ≡ true
      valid_listed w no_nodes ts ls e = refl
      valid_listed w (more_nodes n rest) ts ls e =
          let p = and_parts (is_node x w n) (are_nodes x w rest) e in
          and_from _ _ (in_valid_listed w n ts (rest_lives slot_of rest ls) p.0) (valid_listed w rest (on_states n ts) ls p.1)

      in_valid_listed : (w : Around) (n : Node) (ts : ℕ → AllPaths) (ls : ℕ → Live) → is_node x w n ≡ true → is_node x w (listed_in slot_of bs n ts ls) ≡ true
      in_valid_listed w (plain p a) ts ls e =
          let later : ℕ → Bool = λ b. live_act (slot_of b) b a (ls b).on in
          act_fine a (list_for slot_of bs a ts later) (list_fine a ts later) e
      in_valid_listed w (if_ p t one other) ts ls e =
          let q = and_parts _ _ e in let r = and_parts (are_nodes x w one) (are_nodes x w other) q.1 in
          and_from _ _ q.0 (and_from _ _ (valid_listed w one ts ls r.0) (valid_listed w other ts ls r.1))
      in_valid_listed w (loop p body latch) ts ls e =
          let r = and_parts (are_nodes x body_of body) (are_nodes x latch_of latch) e in
          and_from _ _ (valid_listed body_of body (heads body latch ts) (λ b. body_lives (slot_of b) b body latch (ls b).on) r.0)
          (valid_listed latch_of latch (turns body latch ts) (λ b. latch_lives (slot_of b) b body latch (ls b).on) r.1)
      in_valid_listed w (break_ p) ts ls e = e
      in_valid_listed w (next_ p) ts ls e = e
      in_valid_listed w (ret p t) ts ls e = e

-- ---- safepoints

module _ (x : Scope) where
  act_seats_valid : (w : Around) (p : ℕ) (a : Act) (rest : Nodes) → is_act x a ≡ true → are_nodes x w rest ≡ true → are_nodes x w (act_seats p a rest) ≡ true
  act_seats_valid w p (set to calc) rest e h = and_from _ _ e h
  act_seats_valid w p (call c) rest e h = and_from (is_act x (call c)) (are_nodes x w rest) e h
  act_seats_valid w p (step s) rest e h = and_from (is_act x (step s)) (are_nodes x w rest) e h
  act_seats_valid w p (look slot base) rest e h = and_from _ _ e h
  act_seats_valid w p (safepoint slots) rest e h = h
  act_seats_valid w p (begin_object i) rest e h = and_from _ _ e h
  act_seats_valid w p (end_object i) rest e h = and_from _ _ e h

  valid_seats : (w : Around) (n : Node) (rest : Nodes) → is_node x w n ≡ true → are_nodes x w rest ≡ true → are_nodes x w (seats n rest) ≡ true
  valid_seats w (plain p a) rest e h = act_seats_valid w p a rest e h
  valid_seats w (if_ p t one other) rest e h = and_from _ _ e h
  valid_seats w (loop p body latch) rest e h = and_from _ _ e h
  valid_seats w (break_ p) rest e h = and_from _ _ e h
  valid_seats w (next_ p) rest e h = and_from _ _ e h
  valid_seats w (ret p t) rest e h = and_from _ _ e h

  mutual
    pub valid_seated : (w : Around) (ns tail : Nodes) → are_nodes x w ns ≡ true → are_nodes x w tail ≡ true → are_nodes x w (seated ns tail) ≡ true
    valid_seated w no_nodes tail e t = t
    valid_seated w (more_nodes n rest) tail e t =
        let p = and_parts (is_node x w n) (are_nodes x w rest) e in
        valid_seats w (seated_in n) (seated rest tail) (in_valid_seated w n p.0) (valid_seated w rest tail p.1 t)

    in_valid_seated : (w : Around) (n : Node) → is_node x w n ≡ true → is_node x w (seated_in n) ≡ true
    in_valid_seated w (plain p a) e = e
    in_valid_seated w (if_ p t one other) e =
        let q = and_parts _ _ e in let r = and_parts (are_nodes x w one) (are_nodes x w other) q.1 in
        and_from _ _ q.0 (and_from _ _ (valid_seated w one no_nodes r.0 refl) (valid_seated w other no_nodes r.1 refl))
    in_valid_seated w (loop p body latch) e =
        let r = and_parts (are_nodes x body_of body) (are_nodes x latch_of latch) e in
        and_from _ _ (valid_seated body_of body no_nodes r.0 refl) (valid_seated latch_of latch (more_nodes (stop p) no_nodes) r.1 refl)
    in_valid_seated w (break_ p) e = e
    in_valid_seated w (next_ p) e = e
    in_valid_seated w (ret p t) e = e
