-- Listing one register after the other lists them all.
use Rattle.std.proofs.Common.{◌≡◌, ℕ, List, [], ◌∷◌, ◌++◌, append_assoc, append-nil, Bool, true, false, ◌||◌, ◌&&◌, if◌then◌else◌, inl, inr, refl, sym, ap, ◌∙◌}
use Rattle.std.specs.Prelude.{not}
use Rattle.struct_ir.specs.Nodes.{Act, set, call, step, look, safepoint, begin_object, end_object, may_wait, Node, plain, if_, loop, break_, next_, ret, Nodes, no_nodes, more_nodes}
use Rattle.pin_flow.specs.Marks.{Mark, AllPaths, head_of, end_state, flow, flow_node}
use Rattle.pin_flow.specs.Held.{held}
use Rattle.pin_flow.specs.Slots.{slot_in, slot_if, IsIn}
use Rattle.pin_flow.specs.Live.{Live, lives, live_act, live, head_live, latch_live, body_lives, latch_lives}
use Rattle.pin_flow.proofs.Strip.{by_bool}
use Rattle.pin_flow.proofs.Bases.{slot_known}
use Rattle.pin_frames.specs.inner.Place.{is_bad, wanted, stop, seated, act_listing, list_for, heads, turns, on_states, rest_lives, listed, listed_in, none_held, none_later, placed, cleared, cleared_in, added, act_adding, wants, listed_one, listed_one_in, listed_for, listed_each}
use Rattle.pin_frames.proofs.Listed.{uses_listing, live_listing, flow_listed, node_listed, live_listed}
use Rattle.pin_frames.proofs.Exact.{held_listing, head_same, latch_same}

where_it_waits : (slot : ℕ) (y w : Bool) (l : List ℕ) → added slot (y && w) (if w then l else []) ≡ (if w then added slot y l else [])
where_it_waits slot true true l = refl
where_it_waits slot true false l = refl
where_it_waits slot false true l = refl
where_it_waits slot false false l = refl

adding_listed : (slot : ℕ) (y : Bool) (a : Act) (l : List ℕ) → act_adding slot y (act_listing a l) ≡ act_listing a (added slot y l)
adding_listed slot y (set to calc) l = refl
adding_listed slot y (call c) l = refl
adding_listed slot y (step x) l = ap (λ z. step (record { action = x.action; places = x.places; to = x.to; temps = x.temps; slots = z })) (where_it_waits slot y (may_wait x.action) l)
adding_listed slot y (look s base) l = refl
adding_listed slot y (safepoint old) l = refl
adding_listed slot y (begin_object i) l = refl
adding_listed slot y (end_object i) l = refl

module _ (slot_of : ℕ → ℕ) where
  list_more : (b : ℕ) (a : Act) (ts : ℕ → AllPaths) (later : ℕ → Bool) (bs : List ℕ)
      → list_for slot_of (bs ++ (b ∷ [])) a ts later ≡ added (slot_of b) (wanted slot_of b a (ts b) (later b)) (list_for slot_of bs a ts later)
  list_more b a ts later [] = refl
  list_more b a ts later (c ∷ bs) =
      by_bool (λ x. (if x then slot_of c ∷ list_for slot_of (bs ++ (b ∷ [])) a ts later else list_for slot_of (bs ++ (b ∷ [])) a ts later)
      ≡ added (slot_of b) (wanted slot_of b a (ts b) (later b)) (if x then slot_of c ∷ list_for slot_of bs a ts later else list_for slot_of bs a ts later)) (wanted slot_of c a (ts c) (later c))
      (λ e. ap (λ l. slot_of c ∷ l) (list_more b a ts later bs) ∙ under (wanted slot_of b a (ts b) (later b)) (slot_of b) (slot_of c) (list_for slot_of bs a ts later))
      (λ e. list_more b a ts later bs)
    where
      under : (y : Bool) (s x : ℕ) (l : List ℕ) → x ∷ added s y l ≡ added s y (x ∷ l)
      under true s x l = refl
      under false s x l = refl

  module _ (bs : List ℕ) (b : ℕ) where
    abbrev s : ℕ
    s = slot_of b

    abbrev m : Mark
    m = held b

    act_more : (a : Act) (ts : ℕ → AllPaths) (ls : ℕ → Live) → let later : ℕ → Bool = λ c. live_act (slot_of c) c a (ls c).on in
        act_adding s (wants s b (act_listing a (list_for slot_of bs a ts later)) (ts b) (ls b).on) (act_listing a (list_for slot_of bs a ts later)) ≡ act_listing a (list_for slot_of (bs ++ (b ∷ [])) a ts later)
    act_more a ts ls =
        let later : ℕ → Bool = λ c. live_act (slot_of c) c a (ls c).on in
        let l = list_for slot_of bs a ts later in
        let e : wants s b (act_listing a l) (ts b) (ls b).on ≡ wanted slot_of b a (ts b) (later b) = λ i. (not (is_bad (ts b)) && live_listing s b a l (ls b).on i) || uses_listing s b a l i in
        ap (λ y. act_adding s y (act_listing a l)) e ∙ (adding_listed s (wanted slot_of b a (ts b) (later b)) a l ∙ ap (act_listing a) (sym (list_more b a ts later bs)))

    mutual
      pub listed_more : (ns : Nodes) (ts : ℕ → AllPaths) (ls : ℕ → Live) → listed_one s b (listed slot_of bs ns ts ls) (ts b) (ls b) ≡ listed slot_of (bs ++ (b ∷ [])) ns ts ls
      listed_more no_nodes ts ls = refl
      listed_more (more_nodes n rest) ts ls =
          let rl = rest_lives slot_of rest ls in
          let rest' = listed slot_of bs rest (on_states n ts) ls in
          let lv : live s b rest' (ls b) ≡ live s b rest (ls b) = live_listed slot_of bs s b rest (on_states n ts) ls (ls b) in
          let st : flow_node m (listed_in slot_of bs n ts rl) (ts b) ≡ flow_node m n (ts b) = node_listed slot_of bs m (held_listing b) n ts rl (ts b) in
          (λ i. more_nodes (listed_one_in s b (listed_in slot_of bs n ts rl) (ts b) (lives (lv i) (ls b).out (ls b).end)) (listed_one s b rest' (st i).on (ls b)))
          ∙ (λ i. more_nodes (in_more n ts rl i) (listed_more rest (on_states n ts) ls i))

      in_more : (n : Node) (ts : ℕ → AllPaths) (ls : ℕ → Live) → listed_one_in s b (listed_in slot_of bs n ts ls) (ts b) (ls b) ≡ listed_in slot_of (bs ++ (b ∷ [])) n ts ls
      in_more (plain p a) ts ls = ap (plain p) (act_more a ts ls)
      in_more (if_ p x one other) ts ls = λ i. if_ p x (listed_more one ts ls i) (listed_more other ts ls i)
      in_more (loop p body latch) ts ls =
          let bl : ℕ → Live = λ c. body_lives (slot_of c) c body latch (ls c).on in
          let tl : ℕ → Live = λ c. latch_lives (slot_of c) c body latch (ls c).on in
          let hs = heads body latch ts in
          let us = turns body latch ts in
          let body' = listed slot_of bs body hs bl in
          let latch' = listed slot_of bs latch us tl in
          let lb : (l : Live) → live s b body' l ≡ live s b body l = live_listed slot_of bs s b body hs bl in
          let lt : (l : Live) → live s b latch' l ≡ live s b latch l = live_listed slot_of bs s b latch us tl in
          let h : head_live s b body' latch' (ls b).on ≡ head_live s b body latch (ls b).on = head_same s b body latch body' latch' lb lt (ls b).on in
          let u : latch_live s b body' latch' (ls b).on ≡ latch_live s b body latch (ls b).on = latch_same s b body latch body' latch' lb lt (ls b).on in
          let f : flow m body' ≡ flow m body = λ i v. flow_listed slot_of bs m (held_listing b) body hs bl v i in
          let g : flow m latch' ≡ flow m latch = λ i v. flow_listed slot_of bs m (held_listing b) latch us tl v i in
          (λ i. loop p (listed_one s b body' (head_of (f i) (g i) (ts b)) (lives (u i) (ls b).on (u i))) (listed_one s b latch' (end_state (f i (head_of (f i) (g i) (ts b)))) (lives (h i) (ls b).on (h i))))
          ∙ (λ i. loop p (listed_more body hs bl i) (listed_more latch us tl i))
      in_more (break_ p) ts ls = refl
      in_more (next_ p) ts ls = refl
      in_more (ret p x) ts ls = refl

  -- empty lists
  mutual
    pub cleared_is : (ns : Nodes) (ts : ℕ → AllPaths) (ls : ℕ → Live) → listed slot_of [] ns ts ls ≡ cleared ns
    cleared_is no_nodes ts ls = refl
    cleared_is (more_nodes n rest) ts ls = λ i. more_nodes (cleared_in_is n ts (rest_lives slot_of rest ls) i) (cleared_is rest (on_states n ts) ls i)

    cleared_in_is : (n : Node) (ts : ℕ → AllPaths) (ls : ℕ → Live) → listed_in slot_of [] n ts ls ≡ cleared_in n
    cleared_in_is (plain p a) ts ls = refl
    cleared_in_is (if_ p x one other) ts ls = λ i. if_ p x (cleared_is one ts ls i) (cleared_is other ts ls i)
    cleared_in_is (loop p body latch) ts ls =
        λ i. loop p (cleared_is body (heads body latch ts) (λ c. body_lives (slot_of c) c body latch (ls c).on) i) (cleared_is latch (turns body latch ts) (λ c. latch_lives (slot_of c) c body latch (ls c).on) i)
    cleared_in_is (break_ p) ts ls = refl
    cleared_in_is (next_ p) ts ls = refl
    cleared_in_is (ret p x) ts ls = refl

-- clearing twice changes nothing more, also with safepoints
again : (a : Act) → act_listing (act_listing a []) [] ≡ act_listing a []
again (set to calc) = refl
again (call c) = refl
again (step x) = refl
again (look s base) = refl
again (safepoint old) = refl
again (begin_object i) = refl
again (end_object i) = refl

pub clear_seated : (ns tail : Nodes) → cleared tail ≡ tail → cleared (seated (cleared ns) tail) ≡ seated (cleared ns) tail
clear_seated no_nodes tail h = h
clear_seated (more_nodes (plain p (set to calc)) rest) tail h = ap (more_nodes (plain p (set to calc))) (clear_seated rest tail h)
clear_seated (more_nodes (plain p (call c)) rest) tail h = ap (λ r. more_nodes (stop p) (more_nodes (plain p (act_listing (call c) [])) (more_nodes (stop p) r))) (clear_seated rest tail h)
clear_seated (more_nodes (plain p (step x)) rest) tail h = λ i. more_nodes (plain p (again (step x) i)) (clear_seated rest tail h i)
clear_seated (more_nodes (plain p (look s base)) rest) tail h = ap (more_nodes (plain p (look s base))) (clear_seated rest tail h)
clear_seated (more_nodes (plain p (safepoint slots)) rest) tail h = clear_seated rest tail h
clear_seated (more_nodes (plain p (begin_object j)) rest) tail h = ap (more_nodes (plain p (begin_object j))) (clear_seated rest tail h)
clear_seated (more_nodes (plain p (end_object j)) rest) tail h = ap (more_nodes (plain p (end_object j))) (clear_seated rest tail h)
clear_seated (more_nodes (if_ p x one other) rest) tail h = λ i. more_nodes (if_ p x (clear_seated one no_nodes refl i) (clear_seated other no_nodes refl i)) (clear_seated rest tail h i)
clear_seated (more_nodes (loop p body latch) rest) tail h = λ i. more_nodes (loop p (clear_seated body no_nodes refl i) (clear_seated latch (more_nodes (stop p) no_nodes) refl i)) (clear_seated rest tail h i)
clear_seated (more_nodes (break_ p) rest) tail h = ap (more_nodes (break_ p)) (clear_seated rest tail h)
clear_seated (more_nodes (next_ p) rest) tail h = ap (more_nodes (next_ p)) (clear_seated rest tail h)
clear_seated (more_nodes (ret p x) rest) tail h = ap (more_nodes (ret p x)) (clear_seated rest tail h)

-- ---- all of them

module _ (bs : List ℕ) (ns : Nodes) where
  abbrev S : ℕ → ℕ
  S b = slot_in bs b

  all_listed : (ready todo : List ℕ) → ((b : ℕ) → IsIn todo b → IsIn bs b) → listed_each (slot_if bs) todo (listed S ready ns none_held none_later) ≡ listed S (ready ++ todo) ns none_held none_later
  all_listed ready [] h = ap (λ l. listed S l ns none_held none_later) (sym (append-nil ready))
  all_listed ready (b ∷ todo) h =
      ap (λ o. listed_each (slot_if bs) todo (listed_for o b (listed S ready ns none_held none_later))) (slot_known bs b (h b (inl refl)))
      ∙ (ap (λ x. listed_each (slot_if bs) todo x) (listed_more S ready b ns none_held none_later)
      ∙ (all_listed (ready ++ (b ∷ [])) todo (λ c i. h c (inr i)) ∙ ap (λ l. listed S l ns none_held none_later) (append_assoc ready (b ∷ []) todo)))

  pub each_is : cleared ns ≡ ns → listed_each (slot_if bs) bs ns ≡ listed S bs ns none_held none_later
  each_is c = ap (λ x. listed_each (slot_if bs) bs x) (sym c ∙ sym (cleared_is S ns none_held none_later)) ∙ all_listed [] bs (λ b i. i)

pub each_is_placed : (bs : List ℕ) (ns : Nodes) → listed_each (slot_if bs) bs (seated (cleared ns) no_nodes) ≡ placed (slot_in bs) bs (cleared ns)
each_is_placed bs ns = each_is bs (seated (cleared ns) no_nodes) (clear_seated ns no_nodes refl)
