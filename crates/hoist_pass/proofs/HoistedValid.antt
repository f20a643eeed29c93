-- Code with its Looks hoisted is valid, if the code before was.
use Rattle.std.proofs.Common.{◌≡◌, ℕ, ◌<◌, List, [], ◌∷◌, length, true, ◌&&◌, inl, inr, refl, arith}
use Rattle.std.proofs.lemmas.Bool.{and_parts, and_from, lt-ltb}
use Rattle.std.specs.Prelude.{nat_lt}
use Rattle.struct_ir.specs.Nodes.{look, Node, plain, if_, loop, break_, next_, ret, Nodes, no_nodes, more_nodes, node_place}
use Rattle.struct_ir.specs.Erased.{put}
use Rattle.struct_ir.specs.Valid.{Scope, Around, body_of, latch_of, is_node, are_nodes}
use Rattle.pin_flow.specs.Marks.{AllPaths, bad, flow_node}
use Rattle.pin_flow.specs.Held.{held}
use Rattle.pin_flow.specs.Slots.{slot_in, IsIn}
use Rattle.pin_flow.proofs.Bases.{slots_are_few}
use Rattle.pin_flow.proofs.Strip.{by_bool}
use Rattle.hoist_pass.specs.inner.Hoist.{wants, lifted, lifted_in, needs, dropped, dropped_in, hoisted_one, hoisted}

-- ---- one register's turn

module _ (x : Scope) (slot b : ℕ) (slot_fits : nat_lt slot x.slots ≡ true) (b_fits : nat_lt b x.temps ≡ true) where
  mutual
    pub lifted_valid : (w : Around) (ns : Nodes) → are_nodes x w ns ≡ true → are_nodes x w (lifted slot b ns) ≡ true
    lifted_valid w no_nodes e = refl
    lifted_valid w (more_nodes n rest) e =
        let q = and_parts (is_node x w n) (are_nodes x w rest) e in
        let r = and_from _ _ (lifted_in_valid w n q.0) (lifted_valid w rest q.1) in
        by_bool (λ k. are_nodes x w (put k (plain (node_place n) (look slot b)) (more_nodes (lifted_in slot b n) (lifted slot b rest))) ≡ true) (wants b n)
        (λ g. and_from _ _ (and_from _ _ slot_fits b_fits) r) (λ g. r)

    lifted_in_valid : (w : Around) (n : Node) → is_node x w n ≡ true → is_node x w (lifted_in slot b n) ≡ true
    lifted_in_valid w (plain p a) e = e
    lifted_in_valid w (if_ p t one other) e =
        let r = and_parts (nat_lt t x.temps) (are_nodes x w one && are_nodes x w other) e in
        let u = and_parts (are_nodes x w one) (are_nodes x w other) r.1 in
        and_from _ _ r.0 (and_from _ _ (lifted_valid w one u.0) (lifted_valid w other u.1))
    lifted_in_valid w (loop p body latch) e =
        let u = and_parts (are_nodes x body_of body) (are_nodes x latch_of latch) e in
        and_from _ _ (lifted_valid body_of body u.0) (lifted_valid latch_of latch u.1)
    lifted_in_valid w (break_ p) e = e
    lifted_in_valid w (next_ p) e = e
    lifted_in_valid w (ret p t) e = e

module _ (x : Scope) (b : ℕ) where
  mutual
    pub dropped_valid : (w : Around) (ns : Nodes) (t : AllPaths) → are_nodes x w ns ≡ true → are_nodes x w (dropped b ns t) ≡ true
    dropped_valid w no_nodes t e = refl
    dropped_valid w (more_nodes n rest) t e =
        let q = and_parts (is_node x w n) (are_nodes x w rest) e in
        let u = (flow_node (held b) n t).on in
        let r = dropped_valid w rest u q.1 in
        by_bool (λ k. are_nodes x w (put k (dropped_in b n t) (dropped b rest u)) ≡ true) (needs b n t) (λ g. and_from _ _ (dropped_in_valid w n t q.0) r) (λ g. r)

    dropped_in_valid : (w : Around) (n : Node) (t : AllPaths) → is_node x w n ≡ true → is_node x w (dropped_in b n t) ≡ true
    dropped_in_valid w (plain p a) t e = e
    dropped_in_valid w (if_ p y one other) t e =
        let r = and_parts (nat_lt y x.temps) (are_nodes x w one && are_nodes x w other) e in
        let u = and_parts (are_nodes x w one) (are_nodes x w other) r.1 in
        and_from _ _ r.0 (and_from _ _ (dropped_valid w one t u.0) (dropped_valid w other t u.1))
    dropped_in_valid w (loop p body latch) t e =
        let u = and_parts (are_nodes x body_of body) (are_nodes x latch_of latch) e in
        and_from _ _ (dropped_valid body_of body _ u.0) (dropped_valid latch_of latch _ u.1)
    dropped_in_valid w (break_ p) t e = e
    dropped_in_valid w (next_ p) t e = e
    dropped_in_valid w (ret p y) t e = e

-- ---- all of them

module _ (x : Scope) (bs : List ℕ) (few : x.slots ≡ length bs) (below : (b : ℕ) → IsIn bs b → b < x.temps) where
  pub hoisted_valid : (some : List ℕ) → ((b : ℕ) → IsIn some b → IsIn bs b) → (w : Around) (ns : Nodes) → are_nodes x w ns ≡ true → are_nodes x w (hoisted (slot_in bs) some ns) ≡ true
  hoisted_valid [] h w ns e = e
  hoisted_valid (b ∷ some) h w ns e =
      let i = h b (inl refl) in
      let s : slot_in bs b < length bs = slots_are_few bs b i in
      let fits : nat_lt (slot_in bs b) x.slots ≡ true = lt-ltb (slot_in bs b) x.slots (omega arith) in
      let known : nat_lt b x.temps ≡ true = lt-ltb b x.temps (below b i) in
      let one = dropped_valid x b w (lifted (slot_in bs b) b ns) bad (lifted_valid x (slot_in bs b) b fits known w ns e) in
      hoisted_valid some (λ c j. h c (inr j)) w (hoisted_one (slot_in bs b) b ns) one
