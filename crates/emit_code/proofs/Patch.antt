-- The end of a round is written once its loop's start is known.
use Rattle.std.proofs.Common.{◌≡◌, ℕ, ◌+◌, ◌-◌, ◌≤◌, arith, List, [], ◌∷◌, ◌++◌, length, reverse, sym, ap, ◌∙◌, append_assoc}
use Rattle.std.specs.Prelude.{slice_set}
use Rattle.std.proofs.Math.Seq.{set-append_seam}
use Rattle.std.proofs.lemmas.List.{reverse-append}
use Rattle.struct_ir.specs.Instrs.{Instr, round_to}
use Rattle.struct_ir.specs.Nodes.{Nodes, loop}
use Rattle.emit_code.specs.inner.Layout.{long, node_long, emit, emit_node}

three_back : (b s : List Instr) (r : Instr) → reverse (b ++ (s ++ r ∷ [])) ≡ r ∷ (reverse s ++ reverse b)
three_back b s r = reverse-append b (s ++ r ∷ []) ∙ ap (λ l. l ++ reverse b) (reverse-append s (r ∷ []))

patched : (c0 c1 c2 c3 b s : List Instr) (x r : Instr) (n : ℕ) → c1 ≡ c0 ++ x ∷ [] → c2 ≡ c1 ++ reverse s → c3 ≡ c2 ++ reverse b → n ≡ length c0 → slice_set c3 n r ≡ c0 ++ reverse (b ++ (s ++ r ∷ []))
patched c0 c1 c2 c3 b s x r n e1 e2 e3 m =
    let all : c3 ≡ ((c0 ++ x ∷ []) ++ reverse s) ++ reverse b = cc in
    let flat : ((c0 ++ x ∷ []) ++ reverse s) ++ reverse b ≡ c0 ++ x ∷ (reverse s ++ reverse b) = simp append_assoc in
    ap (λ l. slice_set l n r) (all ∙ flat)
    ∙ ap (λ k. slice_set (c0 ++ x ∷ (reverse s ++ reverse b)) k r) m
    ∙ set-append_seam c0 x (reverse s ++ reverse b) r
    ∙ ap (λ l. c0 ++ l) (sym (three_back b s r))

pub looped : (c0 c1 c2 c3 : List Instr) (place : ℕ) (body latch : Nodes) (x : Instr) (n end latch_at at : ℕ) → node_long (loop place body latch) ≤ end
    → c1 ≡ c0 ++ x ∷ [] → c2 ≡ c1 ++ reverse (emit latch_at end (end - 1) latch) → c3 ≡ c2 ++ reverse (emit at end latch_at body)
    → n ≡ length c0 → latch_at + long latch ≡ end - 1 → at + long body ≡ latch_at
    → slice_set c3 n (round_to place at) ≡ c0 ++ reverse (emit_node at 0 0 (loop place body latch))
looped c0 c1 c2 c3 place body latch x n end latch_at at le e1 e2 e3 m p q =
    let latch_at' = at + long body in
    let round_at = latch_at' + long latch in
    let a : end - 1 ≡ round_at = omega (arith, p, q) in
    let b : end ≡ round_at + 1 = omega (arith, p, q, le) in
    let e2' : c2 ≡ c1 ++ reverse (emit latch_at' (round_at + 1) round_at latch) =
    e2 ∙ ap (λ k. c1 ++ reverse (emit k end (end - 1) latch)) (sym q) ∙ ap (λ k. c1 ++ reverse (emit latch_at' end k latch)) a ∙ ap (λ k. c1 ++ reverse (emit latch_at' k round_at latch)) b in
    let e3' : c3 ≡ c2 ++ reverse (emit at (round_at + 1) latch_at' body) =
    e3 ∙ ap (λ k. c2 ++ reverse (emit at end k body)) (sym q) ∙ ap (λ k. c2 ++ reverse (emit at k latch_at' body)) b in
    patched c0 c1 c2 c3 (emit at (round_at + 1) latch_at' body) (emit latch_at' (round_at + 1) round_at latch) x (round_to place at) n e1 e2' e3' m
