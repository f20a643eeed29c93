-- Listing numbered code is numbering listed code.
use Rattle.std.proofs.Common.{◌≡◌, ℕ, suc, ◌+◌, List, refl, sym, ◌∙◌}
use Rattle.struct_ir.specs.Nodes.{Node, plain, if_, loop, break_, next_, ret, Nodes, no_nodes, more_nodes}
use Rattle.struct_ir.specs.Structured.{node_size, row_size}
use Rattle.pin_flow.specs.Marks.{AllPaths, head_of, end_state, flow}
use Rattle.pin_flow.specs.Held.{held}
use Rattle.pin_flow.specs.Live.{Live, lives, head_live, latch_live, body_lives, latch_lives}
use Rattle.pin_flow.specs.Points.{numbered, numbered_in}
use Rattle.pin_flow.proofs.Numbered.{flow_numbered, node_numbered, live_numbered}
use Rattle.pin_frames.specs.inner.Place.{heads, turns, on_states, rest_lives, listed, listed_in}
use Rattle.pin_frames.proofs.Exact.{head_same, latch_same}

module _ (slot_of : ℕ → ℕ) (bs : List ℕ) where
  mutual
    size_listed : (ns : Nodes) (ts : ℕ → AllPaths) (ls : ℕ → Live) → row_size (listed slot_of bs ns ts ls) ≡ row_size ns
    size_listed no_nodes ts ls = refl
    size_listed (more_nodes n rest) ts ls = λ j. size_in_listed n ts (rest_lives slot_of rest ls) j + size_listed rest (on_states n ts) ls j + 1

    size_in_listed : (n : Node) (ts : ℕ → AllPaths) (ls : ℕ → Live) → node_size (listed_in slot_of bs n ts ls) ≡ node_size n
    size_in_listed (plain p a) ts ls = refl
    size_in_listed (if_ p x one other) ts ls = λ j. size_listed one ts ls j + size_listed other ts ls j + 1
    size_in_listed (loop p body latch) ts ls =
        λ j. size_listed body (heads body latch ts) (λ b. body_lives (slot_of b) b body latch (ls b).on) j + size_listed latch (turns body latch ts) (λ b. latch_lives (slot_of b) b body latch (ls b).on) j + 4
    size_in_listed (break_ p) ts ls = refl
    size_in_listed (next_ p) ts ls = refl
    size_in_listed (ret p x) ts ls = refl

  mutual
    pub numbered_listed : (i : ℕ) (ns : Nodes) (ts : ℕ → AllPaths) (ls : ℕ → Live) → numbered i (listed slot_of bs ns ts ls) ≡ listed slot_of bs (numbered i ns) ts ls
    numbered_listed i no_nodes ts ls = refl
    numbered_listed i (more_nodes n rest) ts ls =
        let rl = rest_lives slot_of rest ls in
        let k = i + node_size n in
        let l : rl ≡ rest_lives slot_of (numbered k rest) ls = λ j b. lives (sym (live_numbered (slot_of b) b k rest (ls b)) j) (ls b).out (ls b).end in
        let t : on_states n ts ≡ on_states (numbered_in i n) ts = λ j b. (sym (node_numbered (held b) i n (ts b)) j).on in
        (λ j. more_nodes (numbered_in i (listed_in slot_of bs n ts rl)) (numbered (i + size_in_listed n ts rl j) (listed slot_of bs rest (on_states n ts) ls)))
        ∙ ((λ j. more_nodes (in_numbered i n ts rl j) (numbered_listed k rest (on_states n ts) ls j))
        ∙ (λ j. more_nodes (listed_in slot_of bs (numbered_in i n) ts (l j)) (listed slot_of bs (numbered k rest) (t j) ls)))

    in_numbered : (i : ℕ) (n : Node) (ts : ℕ → AllPaths) (ls : ℕ → Live) → numbered_in i (listed_in slot_of bs n ts ls) ≡ listed_in slot_of bs (numbered_in i n) ts ls
    in_numbered i (plain p a) ts ls = refl
    in_numbered i (if_ p x one other) ts ls =
        (λ j. if_ i x (numbered (suc i) (listed slot_of bs one ts ls)) (numbered (suc i + size_listed one ts ls j) (listed slot_of bs other ts ls)))
        ∙ (λ j. if_ i x (numbered_listed (suc i) one ts ls j) (numbered_listed (suc i + row_size one) other ts ls j))
    in_numbered i (loop p body latch) ts ls =
        let bl : ℕ → Live = λ b. body_lives (slot_of b) b body latch (ls b).on in
        let tl : ℕ → Live = λ b. latch_lives (slot_of b) b body latch (ls b).on in
        let hs = heads body latch ts in
        let us = turns body latch ts in
        let k = suc i + row_size body in
        let body' = numbered (suc i) body in
        let latch' = numbered k latch in
        let f : (b : ℕ) → flow (held b) body ≡ flow (held b) body' = λ b j v. sym (flow_numbered (held b) (suc i) body v) j in
        let g : (b : ℕ) → flow (held b) latch ≡ flow (held b) latch' = λ b j v. sym (flow_numbered (held b) k latch v) j in
        let hs_same : hs ≡ heads body' latch' ts = λ j b. head_of (f b j) (g b j) (ts b) in
        let us_same : us ≡ turns body' latch' ts = λ j b. end_state (f b j (head_of (f b j) (g b j) (ts b))) in
        let h : (b : ℕ) → head_live (slot_of b) b body latch (ls b).on ≡ head_live (slot_of b) b body' latch' (ls b).on =
        λ b. sym (head_same (slot_of b) b body latch body' latch' (live_numbered (slot_of b) b (suc i) body) (live_numbered (slot_of b) b k latch) (ls b).on) in
        let u : (b : ℕ) → latch_live (slot_of b) b body latch (ls b).on ≡ latch_live (slot_of b) b body' latch' (ls b).on =
        λ b. sym (latch_same (slot_of b) b body latch body' latch' (live_numbered (slot_of b) b (suc i) body) (live_numbered (slot_of b) b k latch) (ls b).on) in
        let bl_same : bl ≡ (λ b. body_lives (slot_of b) b body' latch' (ls b).on) = λ j b. lives (u b j) (ls b).on (u b j) in
        let tl_same : tl ≡ (λ b. latch_lives (slot_of b) b body' latch' (ls b).on) = λ j b. lives (h b j) (ls b).on (h b j) in
        (λ j. loop i (numbered (suc i) (listed slot_of bs body hs bl)) (numbered (suc i + size_listed body hs bl j) (listed slot_of bs latch us tl)))
        ∙ ((λ j. loop i (numbered_listed (suc i) body hs bl j) (numbered_listed k latch us tl j))
        ∙ (λ j. loop i (listed slot_of bs body' (hs_same j) (bl_same j)) (listed slot_of bs latch' (us_same j) (tl_same j))))
    in_numbered i (break_ p) ts ls = refl
    in_numbered i (next_ p) ts ls = refl
    in_numbered i (ret p x) ts ls = refl
