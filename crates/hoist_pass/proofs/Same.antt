-- Dropping and lifting Looks of a temporary changes nothing else.
use Rattle.std.proofs.Common.{◌≡◌, ℕ, Bool, true, false, ◌||◌, refl, ap, ◌∙◌}
use Rattle.std.specs.Prelude.{not}
use Rattle.struct_ir.specs.Nodes.{Act, look, plain, if_, loop, break_, next_, ret, Nodes, no_nodes, more_nodes}
use Rattle.struct_ir.specs.Erased.{put}
use Rattle.pin_flow.specs.Marks.{AllPaths, bad, flow_node, end_state, head_of, flow}
use Rattle.pin_flow.specs.Looks.{act_looks}
use Rattle.pin_flow.specs.Held.{held}
use Rattle.hoist_pass.specs.inner.Hoist.{is_bad, needs, dropped, wants, lifted, hoisted_one}
use Rattle.pin_flow.proofs.Strip.{sifted, by_bool}
use Rattle.hoist_pass.proofs.Lift.{is_look}

abbrev pub no_look_of : ℕ → Act → Bool
no_look_of b a = not (act_looks b a)

module _ (b : ℕ) where
  abbrev strip : Nodes → Nodes
  strip ns = sifted (no_look_of b) ns

  drops_look : (x y : Bool) → (not x || y) ≡ false → not x ≡ false
  drops_look true y e = refl
  drops_look false y e = absurd cc

  pub strip_dropped : (ns : Nodes) (t : AllPaths) → strip (dropped b ns t) ≡ strip ns
  strip_dropped no_nodes t = refl
  strip_dropped (more_nodes (plain p a) rest) t =
      by_bool (λ x. strip (put x (plain p a) (dropped b rest (flow_node (held b) (plain p a) t).on)) ≡ put (no_look_of b a) (plain p a) (strip rest)) (needs b (plain p a) t)
      (λ e. ap (put (no_look_of b a) (plain p a)) (strip_dropped rest _))
      (λ e. rw (drops_look (act_looks b a) (is_bad t) e) (strip_dropped rest _))
  strip_dropped (more_nodes (if_ p x one other) rest) t = rw (strip_dropped one t, strip_dropped other t, strip_dropped rest (flow_node (held b) (if_ p x one other) t).on) refl
  strip_dropped (more_nodes (loop p body latch) rest) t =
      let h = head_of (flow (held b) body) (flow (held b) latch) t in
      rw (strip_dropped body h, strip_dropped latch (end_state (flow (held b) body h)), strip_dropped rest (flow_node (held b) (loop p body latch) t).on) refl
  strip_dropped (more_nodes (break_ p) rest) t = ap (more_nodes (break_ p)) (strip_dropped rest _)
  strip_dropped (more_nodes (next_ p) rest) t = ap (more_nodes (next_ p)) (strip_dropped rest _)
  strip_dropped (more_nodes (ret p x) rest) t = ap (more_nodes (ret p x)) (strip_dropped rest _)

  module _ (slot : ℕ) where
    strip_put : (x : Bool) (p : ℕ) (rest : Nodes) → strip (put x (plain p (look slot b)) rest) ≡ strip rest
    strip_put true p rest = rw (is_look slot b) refl
    strip_put false p rest = refl

    mutual
      pub strip_lifted : (ns : Nodes) → strip (lifted slot b ns) ≡ strip ns
      strip_lifted no_nodes = refl
      strip_lifted (more_nodes (plain p a) rest) = ap (put (no_look_of b a) (plain p a)) (strip_lifted rest)
      strip_lifted (more_nodes (if_ p x one other) rest) = rw (strip_lifted one, strip_lifted other, strip_lifted rest) refl
      strip_lifted (more_nodes (loop p body latch) rest) =
          strip_put (wants b (loop p body latch)) p (more_nodes (loop p (lifted slot b body) (lifted slot b latch)) (lifted slot b rest))
          ∙ rw (strip_lifted body, strip_lifted latch, strip_lifted rest) refl
      strip_lifted (more_nodes (break_ p) rest) = ap (more_nodes (break_ p)) (strip_lifted rest)
      strip_lifted (more_nodes (next_ p) rest) = ap (more_nodes (next_ p)) (strip_lifted rest)
      strip_lifted (more_nodes (ret p x) rest) = ap (more_nodes (ret p x)) (strip_lifted rest)

    pub strip_one : (ns : Nodes) → strip (hoisted_one slot b ns) ≡ strip ns
    strip_one ns = strip_dropped (lifted slot b ns) bad ∙ strip_lifted ns
