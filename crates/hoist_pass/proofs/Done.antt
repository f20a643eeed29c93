-- After a temporary's turn, each loop with a Look of it assigns it.
use Rattle.std.proofs.Common.{◌≡◌, ℕ, ◌≤◌, Bool, true, false, ◌||◌, inl, inr, refl, sym, ap, ◌∙◌}
use Rattle.std.proofs.lemmas.Bool.{or_parts, or_from, or_right, and_parts, and_from, and_cases, not-false, not-true}
use Rattle.std.specs.Prelude.{not}
use Rattle.struct_ir.specs.Nodes.{Act, set, call, step, look, safepoint, begin_object, end_object, plain, if_, loop, break_, next_, ret, Nodes, no_nodes, more_nodes}
use Rattle.struct_ir.specs.Erased.{put}
use Rattle.pin_flow.specs.Marks.{AllPaths, after, head_of, end_state, flow, flow_node}
use Rattle.pin_flow.specs.Looks.{act_looks, act_assigns, some_act, loop_assigns, loops_assign, loop_in_assigns}
use Rattle.pin_flow.specs.Held.{held}
use Rattle.hoist_pass.specs.inner.Hoist.{needs, dropped, dropped_in, wants, lifted}
use Rattle.pin_flow.proofs.Order.{rank}
use Rattle.pin_flow.proofs.Strip.{by_bool, some_sifted}
use Rattle.hoist_pass.proofs.Lift.{look_after}
use Rattle.hoist_pass.proofs.Quiet.{calm, head_calm, join_calm, none_left, loops_bare, still_none, lifts_none}
use Rattle.hoist_pass.proofs.Same.{no_look_of, strip_dropped, strip_lifted}

pub look_assigns_none : (b c : ℕ) (a : Act) → no_look_of b a ≡ false → act_assigns c a ≡ false
look_assigns_none b c (set to calc) e = absurd cc
look_assigns_none b c (call x) e = absurd cc
look_assigns_none b c (step x) e = absurd cc
look_assigns_none b c (look slot base) e = refl
look_assigns_none b c (safepoint slots) e = absurd cc
look_assigns_none b c (begin_object i) e = absurd cc
look_assigns_none b c (end_object i) e = absurd cc

module _ (slot b : ℕ) where
  abbrev ends : Nodes → AllPaths → Nodes
  ends ns t = dropped b (lifted slot b ns) t

  pub assigns_lifted : (ns : Nodes) → some_act (act_assigns b) (lifted slot b ns) ≡ some_act (act_assigns b) ns
  assigns_lifted ns =
      sym (some_sifted (no_look_of b) (act_assigns b) (look_assigns_none b b) (lifted slot b ns))
      ∙ (ap (some_act (act_assigns b)) (strip_lifted b slot ns) ∙ some_sifted (no_look_of b) (act_assigns b) (look_assigns_none b b) ns)

  assigns_ends : (ns : Nodes) (t : AllPaths) → some_act (act_assigns b) (ends ns t) ≡ some_act (act_assigns b) ns
  assigns_ends ns t =
      sym (some_sifted (no_look_of b) (act_assigns b) (look_assigns_none b b) (ends ns t))
      ∙ (ap (some_act (act_assigns b)) (strip_dropped b (lifted slot b ns) t) ∙ (some_sifted (no_look_of b) (act_assigns b) (look_assigns_none b b) (lifted slot b ns) ∙ assigns_lifted ns))

  no_looks : (x y : Bool) → x ≡ false → (not x || y) ≡ true
  no_looks x y e = rw e refl

  -- a loop before which a Look stands, or would, if it were needed
  quiet_loop : (p : ℕ) (body latch : Nodes) (t : AllPaths) → rank t ≤ 1 → wants b (loop p body latch) ≡ true
      → loop_in_assigns b (dropped_in b (loop p (lifted slot b body) (lifted slot b latch)) t) ≡ true
  quiet_loop p body latch t le e =
      let w = and_parts (some_act (act_looks b) body || some_act (act_looks b) latch) (not (some_act (act_assigns b) body || some_act (act_assigns b) latch)) e in
      let q = or_parts (some_act (act_assigns b) body) (some_act (act_assigns b) latch) (not-true _ w.1) in
      let lb = lifted slot b body in
      let lt = lifted slot b latch in
      let qb : some_act (act_assigns b) lb ≡ false = assigns_lifted body ∙ q.0 in
      let qt : some_act (act_assigns b) lt ≡ false = assigns_lifted latch ∙ q.1 in
      let h = head_calm (flow (held b) lb) (flow (held b) lt) (calm b lb qb) (calm b lt qt) t le in
      let c = calm b lb qb (head_of (flow (held b) lb) (flow (held b) lt) t) h in
      let hd = head_of (flow (held b) lb) (flow (held b) lt) t in
      let z = end_state (flow (held b) lb hd) in
      let nb = none_left b lb qb hd h in
      let nt = none_left b lt qt z (join_calm _ _ c.on c.next) in
      let so : loop_assigns b (dropped b lb hd) (dropped b lt z) ≡ true = no_looks _ _ (or_from _ _ nb nt) in
      and_from _ _ so (and_from _ _ (loops_bare b (dropped b lb hd) nb) (loops_bare b (dropped b lt z) nt))

  -- any other loop
  other_loop : (p : ℕ) (body latch : Nodes) (t : AllPaths) → wants b (loop p body latch) ≡ false → ((t : AllPaths) → loops_assign b (ends body t) ≡ true) → ((t : AllPaths) → loops_assign b (ends latch t) ≡ true)
      → loop_in_assigns b (dropped_in b (loop p (lifted slot b body) (lifted slot b latch)) t) ≡ true
  other_loop p body latch t e of_body of_turn =
      let h = head_of (flow (held b) (lifted slot b body)) (flow (held b) (lifted slot b latch)) t in
      let z = end_state (flow (held b) (lifted slot b body) h) in
      let so : loop_assigns b (ends body h) (ends latch z) ≡ true = elim (and_cases (some_act (act_looks b) body || some_act (act_looks b) latch) (not (some_act (act_assigns b) body || some_act (act_assigns b) latch)) e) [
        | inl g ↦ (let q = or_parts (some_act (act_looks b) body) (some_act (act_looks b) latch) g in
            no_looks (some_act (act_looks b) (ends body h) || some_act (act_looks b) (ends latch z)) (some_act (act_assigns b) (ends body h) || some_act (act_assigns b) (ends latch z))
            (or_from _ _ (still_none b (act_looks b) (lifted slot b body) h (lifts_none b slot body q.0)) (still_none b (act_looks b) (lifted slot b latch) z (lifts_none b slot latch q.1))))
        | inr g ↦ (let x : (some_act (act_assigns b) (ends body h) || some_act (act_assigns b) (ends latch z)) ≡ true = rw (assigns_ends body h, assigns_ends latch z) (not-false _ g) in
            or_right (not (some_act (act_looks b) (ends body h) || some_act (act_looks b) (ends latch z))) _ x)
      ] in
      and_from _ _ so (and_from _ _ (of_body h) (of_turn z))

  put_loops : (x : Bool) (p : ℕ) (rest : Nodes) → loops_assign b rest ≡ true → loops_assign b (put x (plain p (look slot b)) rest) ≡ true
  put_loops true p rest e = e
  put_loops false p rest e = e

  mutual
    unfolding flow

    pub loops_done : (ns : Nodes) (t : AllPaths) → loops_assign b (ends ns t) ≡ true
    loops_done no_nodes t = refl
    loops_done (more_nodes (plain p a) rest) t =
        by_bool (λ x. loops_assign b (put x (plain p a) (ends rest (flow_node (held b) (plain p a) t).on)) ≡ true) (needs b (plain p a) t) (λ e. loops_done rest _) (λ e. loops_done rest _)
    loops_done (more_nodes (if_ p x one other) rest) t = and_from _ _ (and_from _ _ (loops_done one _) (loops_done other _)) (loops_done rest _)
    loops_done (more_nodes (loop p body latch) rest) t =
        let n = loop p (lifted slot b body) (lifted slot b latch) in
        by_bool (λ x. loops_assign b (dropped b (put x (plain p (look slot b)) (more_nodes n (lifted slot b rest))) t) ≡ true) (wants b (loop p body latch))
        (λ e.
        let u = after (held b (look slot b)) t in
        put_loops (needs b (plain p (look slot b)) t) p (dropped b (more_nodes n (lifted slot b rest)) u)
        (and_from _ _ (quiet_loop p body latch u ((look_after slot b t).1) e) (loops_done rest _)))
        (λ e. and_from _ _ (other_loop p body latch t e (loops_done body) (loops_done latch)) (loops_done rest _))
    loops_done (more_nodes (break_ p) rest) t = loops_done rest _
    loops_done (more_nodes (next_ p) rest) t = loops_done rest _
    loops_done (more_nodes (ret p x) rest) t = loops_done rest _
