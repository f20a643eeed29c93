-- Instructions as the code lays them out lie as nodes do.
use Rattle.std.proofs.Common.{◌≡◌, ℕ, ◌+◌, List, [], ◌∷◌, ◌++◌, Bool, true, false, Some, refl, subst, arith, if◌then◌else◌}
use Rattle.std.specs.Prelude.{slice_get}
use Rattle.struct_ir.specs.Nodes.{Act, Node, plain, if_, loop, break_, next_, ret, Nodes, no_nodes, more_nodes}
use Rattle.struct_ir.specs.Instrs.{Instr, acts, jump, round_to}
use Rattle.struct_ir.specs.Marks.{is_lifetime_mark}
use Rattle.emit_code.specs.inner.Layout.{node_long, long, emit_node, emit}
use Rattle.emit_code.specs.inner.Holds.{Holds}
use Rattle.struct_ir.specs.Stands.{ActLies, NodeLies, Lies}
use Rattle.emit_code.proofs.Holding.{has_front, has_back, node_length, row_length}

module _ (code : List Instr) where
  act_lies : (b : Bool) (place : ℕ) (a : Act) (at : ℕ) → Holds code at (if b then [] else (acts place a ∷ [])) → ActLies b code place a at (at + (if b then 0 else 1))
  act_lies true place a at h = omega arith
  act_lies false place a at h = (h.0, refl)

  -- the latch, and the end of the round behind it
  latch_holds : (place : ℕ) (body latch : Nodes) (start out next : ℕ) → Holds code start (emit_node start out next (loop place body latch)) → Holds code (start + long body) (emit (start + long body) (start + long body + long latch + 1) (start + long body + long latch) latch ++ round_to place start ∷ [])
  latch_holds place body latch start out next f =
      let latch_at = start + long body in
      let round_at = latch_at + long latch in
      let l = row_length start (round_at + 1) latch_at body in
      has_back code start latch_at (emit start (round_at + 1) latch_at body) (emit latch_at (round_at + 1) round_at latch ++ round_to place start ∷ []) (omega (arith, l)) f

  round_holds : (place : ℕ) (body latch : Nodes) (start out next : ℕ) → Holds code start (emit_node start out next (loop place body latch)) → slice_get code (start + long body + long latch) ≡ Some (round_to place start)
  round_holds place body latch start out next f =
      let latch_at = start + long body in
      let round_at = latch_at + long latch in
      let l = row_length latch_at (round_at + 1) round_at latch in
      (has_back code latch_at round_at (emit latch_at (round_at + 1) round_at latch) (round_to place start ∷ []) (omega (arith, l)) (latch_holds place body latch start out next f)).0

  mutual
    node_lies : (n : Node) (at out next : ℕ) → Holds code at (emit_node at out next n) → NodeLies code n at (at + node_long n) out next
    node_lies (plain place a) at out next h = act_lies (is_lifetime_mark a) place a at h
    node_lies (if_ place temp one other) at out next h =
        let jump_at = at + 1 + long one in
        let end = at + node_long (if_ place temp one other) in
        let tail = jump place (jump_at + 1 + long other) ∷ emit (jump_at + 1) out next other in
        let ones = has_front code (at + 1) (emit (at + 1) out next one) tail h.1 in
        let l = row_length (at + 1) out next one in
        let t = has_back code (at + 1) jump_at (emit (at + 1) out next one) tail (omega (arith, l)) h.1 in
        let e : jump_at + 1 + long other ≡ end = omega arith in
        (jump_at, h.0, row_lies one (at + 1) out next ones, subst (λ m. slice_get code jump_at ≡ Some (jump place m)) e t.0, subst (λ m. Lies code other (jump_at + 1) m out next) e (row_lies other (jump_at + 1) out next t.1))
    node_lies (loop place body latch) at out next h =
        let latch_at = at + long body in
        let round_at = latch_at + long latch in
        let bodies = has_front code at (emit at (round_at + 1) latch_at body) (emit latch_at (round_at + 1) round_at latch ++ round_to place at ∷ []) h in
        let latches = has_front code latch_at (emit latch_at (round_at + 1) round_at latch) (round_to place at ∷ []) (latch_holds place body latch at out next h) in
        let e : at + node_long (loop place body latch) ≡ round_at + 1 = omega arith in
        (latch_at, round_at, row_lies body at (round_at + 1) latch_at bodies, row_lies latch latch_at (round_at + 1) round_at latches, round_holds place body latch at out next h, e)
    node_lies (break_ place) at out next h = (h.0, refl)
    node_lies (next_ place) at out next h = (h.0, refl)
    node_lies (ret place temp) at out next h = (h.0, refl)

    pub row_lies : (nodes : Nodes) (at out next : ℕ) → Holds code at (emit at out next nodes) → Lies code nodes at (at + long nodes) out next
    row_lies no_nodes at out next h = omega arith
    row_lies (more_nodes n rest) at out next h =
        let behind = at + node_long n in
        let front = has_front code at (emit_node at out next n) (emit behind out next rest) h in
        let l = node_length at out next n in
        let back = has_back code at behind (emit_node at out next n) (emit behind out next rest) (omega (arith, l)) h in
        let e : behind + long rest ≡ at + long (more_nodes n rest) = omega arith in
        (behind, node_lies n at out next front, subst (λ m. Lies code rest behind m out next) e (row_lies rest behind out next back))
