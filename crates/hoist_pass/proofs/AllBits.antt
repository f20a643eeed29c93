-- From where nothing is held, all registers at once.
use Rattle.std.proofs.Common.{◌≡◌, ◌<◌, ℕ, List, [], ◌∷◌, Option, Some, None, Bool, true, false, ◌==◌, ◌||◌, if◌then◌else◌, refl, sym, ap, ◌∙◌}
use Rattle.std.specs.Prelude.{not, is_some}
use Rattle.struct_ir.specs.Nodes.{set, call, step, look, safepoint, begin_object, end_object, Node, plain, if_, loop, break_, next_, ret, Nodes, no_nodes, more_nodes}
use Rattle.struct_ir.specs.Erased.{put}
use Rattle.pin_flow.specs.declared.mark.Mark.TheVariants as kinds
use Rattle.pin_flow.specs.Marks.{AllPaths, bad, state_of, head_of, end_state, flow, flow_node}
use Rattle.pin_flow.specs.Held.{held}
use Rattle.pin_flow.specs.Slots.{slot_in, slot_if, one_more}
use Rattle.pin_flow.proofs.Strip.{by_bool}
use Rattle.mark_sets.specs.declared.marks.Marks.{Marks}
use Rattle.mark_sets.specs.Sets.{bads}
use Rattle.mark_sets.specs.Words.{has}
use Rattle.mark_sets.specs.Views.{HaveOwnBits}
use Rattle.mark_sets.proofs.Bits.{bits_of}
use Rattle.hoist_pass.specs.inner.Hoist.{is_bad, is_in, node_stays, lifted_all, dropped_all, dropped_all_in, hoisted_each, AreDistinct}
use Rattle.hoist_pass.specs.inner.Sets.{bit, has_bit, state_by, states}
use Rattle.hoist_pass.proofs.AllAtOnce.{at_once}
use Rattle.hoist_pass.proofs.Programs.{hoisted_is}

-- ---- other states of registers that aren't those

module _ (those : ℕ → Bool) where
  abbrev Agree : (ℕ → AllPaths) → (ℕ → AllPaths) → Type 0
  Agree t u = (c : ℕ) → those c ≡ true → t c ≡ u c

  same_stays : (n : Node) (t u : ℕ → AllPaths) → Agree t u → node_stays those n t ≡ node_stays those n u
  same_stays (plain p (set to calc)) t u agree = refl
  same_stays (plain p (call c)) t u agree = refl
  same_stays (plain p (step x)) t u agree = refl
  same_stays (plain p (look s c)) t u agree = by_bool (λ x. those c ≡ x → (not x || is_bad (t c)) ≡ (not x || is_bad (u c))) (those c) (λ e k. ap is_bad (agree c e)) (λ e k. refl) refl
  same_stays (plain p (safepoint slots)) t u agree = refl
  same_stays (plain p (begin_object i)) t u agree = refl
  same_stays (plain p (end_object i)) t u agree = refl
  same_stays (if_ p x one other) t u agree = refl
  same_stays (loop p body latch) t u agree = refl
  same_stays (break_ p) t u agree = refl
  same_stays (next_ p) t u agree = refl
  same_stays (ret p x) t u agree = refl

  mutual
    same_dropped : (ns : Nodes) (t u : ℕ → AllPaths) → Agree t u → dropped_all those ns t ≡ dropped_all those ns u
    same_dropped no_nodes t u agree = refl
    same_dropped (more_nodes n rest) t u agree =
        let k = same_stays n t u agree in
        let m = same_in n t u agree in
        let r = same_dropped rest (λ c. (flow_node (held c) n (t c)).on) (λ c. (flow_node (held c) n (u c)).on) (λ c e. ap (λ s. (flow_node (held c) n s).on) (agree c e)) in
        λ i. put (k i) (m i) (r i)

    same_in : (n : Node) (t u : ℕ → AllPaths) → Agree t u → dropped_all_in those n t ≡ dropped_all_in those n u
    same_in (plain p a) t u agree = refl
    same_in (if_ p x one other) t u agree = let f = same_dropped one t u agree in let g = same_dropped other t u agree in λ i. if_ p x (f i) (g i)
    same_in (loop p body latch) t u agree =
        let head : ℕ → AllPaths → AllPaths = λ c. head_of (flow (held c) body) (flow (held c) latch) in
        let f = same_dropped body (λ c. head c (t c)) (λ c. head c (u c)) (λ c e. ap (head c) (agree c e)) in
        let g = same_dropped latch (λ c. end_state (flow (held c) body (head c (t c)))) (λ c. end_state (flow (held c) body (head c (u c)))) (λ c e. ap (λ s. end_state (flow (held c) body (head c s))) (agree c e)) in
        λ i. loop p (f i) (g i)
    same_in (break_ p) t u agree = refl
    same_in (next_ p) t u agree = refl
    same_in (ret p x) t u agree = refl

-- ---- which registers have bits

more_is : (o : Option ℕ) → is_some (one_more o) ≡ is_some o
more_is None = refl
more_is (Some i) = refl

in_slot : (bs : List ℕ) (b : ℕ) → is_some (slot_if bs b) ≡ is_in bs b
in_slot [] b = refl
in_slot (c ∷ cs) b = by_bool (λ t. is_some (if t then Some 0 else one_more (slot_if cs b)) ≡ (t || is_in cs b)) (b == c) (λ e. refl) (λ e. more_is (slot_if cs b) ∙ in_slot cs b)

module _ (x : Marks) (own : HaveOwnBits x) (start : List ℕ) (all : (i : ℕ) → i < x.count → has start i ≡ true) where
  bad_at : (b : ℕ) (o : Option ℕ) → bit x b ≡ o → is_some o ≡ true → state_by o (bads (has start)) ≡ bad
  bad_at b None e h = absurd (let g : false ≡ true = h in cc)
  bad_at b (Some i) e h = ap (λ y. state_of (not y)) (all i ((bits_of own).few (kinds.Held b) i e))

  pub hoisted_at_once : (bases : List ℕ) (rows lifted out : Nodes) → ((b : ℕ) → bit x b ≡ slot_if bases b) → AreDistinct bases → lifted ≡ lifted_all (slot_in bases) bases rows
      → out ≡ dropped_all (has_bit x) lifted (states x (bads (has start))) → out ≡ hoisted_each (slot_if bases) bases rows
  hoisted_at_once bases rows lifted out bits d l e =
      let same : (b : ℕ) → has_bit x b ≡ is_in bases b = λ b. ap is_some (bits b) ∙ in_slot bases b in
      e
      ∙ (same_dropped (has_bit x) lifted (states x (bads (has start))) (λ b. bad) (λ b h. bad_at b (bit x b) refl h)
      ∙ ((λ i. dropped_all (λ b. same b i) (l i) (λ b. bad)) ∙ (sym (at_once (slot_in bases) bases d rows) ∙ sym (hoisted_is bases rows))))
