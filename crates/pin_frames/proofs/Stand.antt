-- Safepoints stand where they have to, and a call carries the list of the one before it.
use Rattle.std.proofs.Common.{◌≡◌, ℕ, List, [], ◌∷◌, Option, None, Bool, true, false, ◌||◌, ◌&&◌, if◌then◌else◌, refl, sym, ap, ◌∙◌}
use Rattle.std.proofs.lemmas.Bool.{and_from, eq-eqb}
use Rattle.std.specs.Prelude.{not, is_some}
use Rattle.struct_ir.specs.Nodes.{Act, set, call, step, look, safepoint, begin_object, end_object, plain, if_, loop, break_, next_, ret, Nodes, no_nodes, more_nodes}
use Rattle.struct_ir.specs.Valid.{last_list, same_slots, are_placed}
use Rattle.pin_flow.specs.Marks.{AllPaths, flow}
use Rattle.pin_flow.specs.Live.{Live, live_act, live}
use Rattle.pin_flow.proofs.Sound.{after_same}
use Rattle.pin_frames.specs.inner.Place.{is_bad, wanted, stop, seated, list_for, on_states, rest_lives, listed, none_held, none_later, placed}

same_self : (l : List ℕ) → same_slots l l ≡ true
same_self [] = refl
same_self (x ∷ l) = and_from _ _ (eq-eqb x x refl) (same_self l)

module _ (slot_of : ℕ → ℕ) where
  list_same : (a a' : Act) (ts ts' : ℕ → AllPaths) (later later' : ℕ → Bool) → ((b : ℕ) → wanted slot_of b a (ts b) (later b) ≡ wanted slot_of b a' (ts' b) (later' b)) → (bs : List ℕ)
      → list_for slot_of bs a ts later ≡ list_for slot_of bs a' ts' later'
  list_same a a' ts ts' later later' h [] = refl
  list_same a a' ts ts' later later' h (b ∷ bs) = let r = list_same a a' ts ts' later later' h bs in λ i. if h b i then slot_of b ∷ r i else r i

  module _ (bs : List ℕ) where
    -- whatever stands before it
    abbrev Stands : Nodes → Type 0
    Stands ns = (before : Option (List ℕ)) (ts : ℕ → AllPaths) (ls : ℕ → Live) → are_placed before (listed slot_of bs ns ts ls) ≡ true

    -- it ends in a safepoint
    abbrev Ends : Nodes → Type 0
    Ends ns = (before : Option (List ℕ)) (ts : ℕ → AllPaths) (ls : ℕ → Live) → is_some (last_list before (listed slot_of bs ns ts ls)) ≡ true

    -- the list of a call is that of the safepoint before it
    call_list : (p : ℕ) (c : Rattle.struct_ir.specs.Nodes.Call) (rest : Nodes) (ts : ℕ → AllPaths) (ls : ℕ → Live)
        → list_for slot_of bs (safepoint []) ts (λ b. live_act (slot_of b) b (safepoint []) (rest_lives slot_of (more_nodes (plain p (call c)) rest) ls b).on)
        ≡ list_for slot_of bs (call c) (on_states (stop p) ts) (λ b. live_act (slot_of b) b (call c) (rest_lives slot_of rest ls b).on)
    unfolding live flow
    call_list p c rest ts ls =
        list_same (safepoint []) (call c) ts (on_states (stop p) ts) _ _
        (λ b. λ i. (not (is_bad (sym (after_same (ts b)) i)) && live (slot_of b) b rest (ls b)) || false) bs

    mutual
      stands_row : (ns tail : Nodes) → Stands tail → Stands (seated ns tail)
      stands_row no_nodes tail h before ts ls = h before ts ls
      stands_row (more_nodes (plain p (set to calc)) rest) tail h before ts ls = stands_row rest tail h _ _ ls
      stands_row (more_nodes (plain p (call c)) rest) tail h before ts ls =
          let after_call = more_nodes (stop p) (seated rest tail) in
          let l1 = list_for slot_of bs (safepoint []) ts (λ b. live_act (slot_of b) b (safepoint []) (rest_lives slot_of (more_nodes (plain p (call c)) after_call) ls b).on) in
          let e = call_list p c after_call ts ls in
          and_from _ _ (and_from _ _ (ap (λ l. same_slots l1 l) (sym e) ∙ same_self l1) refl) (stands_row rest tail h _ _ ls)
      stands_row (more_nodes (plain p (step x)) rest) tail h before ts ls = stands_row rest tail h _ _ ls
      stands_row (more_nodes (plain p (look slot base)) rest) tail h before ts ls = stands_row rest tail h _ _ ls
      stands_row (more_nodes (plain p (safepoint slots)) rest) tail h before ts ls = stands_row rest tail h before ts ls
      stands_row (more_nodes (plain p (begin_object i)) rest) tail h before ts ls = stands_row rest tail h _ _ ls
      stands_row (more_nodes (plain p (end_object i)) rest) tail h before ts ls = stands_row rest tail h _ _ ls
      stands_row (more_nodes (if_ p x one other) rest) tail h before ts ls =
          and_from _ _ (and_from _ _ (stands_row one no_nodes (λ b t l. refl) None ts _) (stands_row other no_nodes (λ b t l. refl) None ts _)) (stands_row rest tail h None _ ls)
      stands_row (more_nodes (loop p body latch) rest) tail h before ts ls =
          let end = more_nodes (stop p) no_nodes in
          and_from _ _ (and_from _ _ (stands_row body no_nodes (λ b t l. refl) None _ _) (and_from _ _ (stands_row latch end (λ b t l. refl) None _ _) (ends_row latch end (λ b t l. refl) None _ _)))
          (stands_row rest tail h None _ ls)
      stands_row (more_nodes (break_ p) rest) tail h before ts ls = stands_row rest tail h None _ ls
      stands_row (more_nodes (next_ p) rest) tail h before ts ls = stands_row rest tail h None _ ls
      stands_row (more_nodes (ret p x) rest) tail h before ts ls = stands_row rest tail h None _ ls

      ends_row : (ns tail : Nodes) → Ends tail → Ends (seated ns tail)
      ends_row no_nodes tail h before ts ls = h before ts ls
      ends_row (more_nodes (plain p (set to calc)) rest) tail h before ts ls = ends_row rest tail h _ _ ls
      ends_row (more_nodes (plain p (call c)) rest) tail h before ts ls = ends_row rest tail h _ _ ls
      ends_row (more_nodes (plain p (step x)) rest) tail h before ts ls = ends_row rest tail h _ _ ls
      ends_row (more_nodes (plain p (look slot base)) rest) tail h before ts ls = ends_row rest tail h _ _ ls
      ends_row (more_nodes (plain p (safepoint slots)) rest) tail h before ts ls = ends_row rest tail h before ts ls
      ends_row (more_nodes (plain p (begin_object i)) rest) tail h before ts ls = ends_row rest tail h _ _ ls
      ends_row (more_nodes (plain p (end_object i)) rest) tail h before ts ls = ends_row rest tail h _ _ ls
      ends_row (more_nodes (if_ p x one other) rest) tail h before ts ls = ends_row rest tail h _ _ ls
      ends_row (more_nodes (loop p body latch) rest) tail h before ts ls = ends_row rest tail h _ _ ls
      ends_row (more_nodes (break_ p) rest) tail h before ts ls = ends_row rest tail h _ _ ls
      ends_row (more_nodes (next_ p) rest) tail h before ts ls = ends_row rest tail h _ _ ls
      ends_row (more_nodes (ret p x) rest) tail h before ts ls = ends_row rest tail h _ _ ls

    pub stands_placed : (ns : Nodes) → are_placed None (placed slot_of bs ns) ≡ true
    stands_placed ns = stands_row ns no_nodes (λ b t l. refl) None none_held none_later
