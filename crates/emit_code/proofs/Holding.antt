-- Instructions that stand in a code, and how many they are.
use Rattle.std.proofs.Common.{◌≡◌, ℕ, ◌+◌, ◌<◌, List, [], ◌∷◌, ◌++◌, length, Some, Bool, true, false, ap, ◌∙◌, subst, arith, append_assoc, length-append, if◌then◌else◌}
use Rattle.std.proofs.Math.Seq.{get_or-append_seam}
use Rattle.std.proofs.lemmas.Option.{slice_get-get_or}
use Rattle.struct_ir.specs.Nodes.{Node, plain, if_, loop, break_, next_, ret, Nodes, no_nodes, more_nodes}
use Rattle.struct_ir.specs.Instrs.{Instr, jump, round_to}
use Rattle.struct_ir.specs.Marks.{is_lifetime_mark}
use Rattle.emit_code.specs.inner.Layout.{node_long, long, emit_node, emit}
use Rattle.emit_code.specs.inner.Holds.{Holds}

pub has_front : (code : List Instr) (at : ℕ) (a b : List Instr) → Holds code at (a ++ b) → Holds code at a
has_front code at [] b h = tt
has_front code at (i ∷ a) b h = (h.0, has_front code (at + 1) a b h.1)

pub has_back : (code : List Instr) (at to : ℕ) (a b : List Instr) → at + length a ≡ to → Holds code at (a ++ b) → Holds code to b
has_back code at to [] b e h = let e' : at ≡ to = omega (arith, e) in subst (λ n. Holds code n b) e' h
has_back code at to (i ∷ a) b e h = has_back code (at + 1) to a b (omega (arith, e)) h.1

pub has_all : (is before after : List Instr) → Holds (before ++ (is ++ after)) (length before) is
has_all [] before after = tt
has_all (i ∷ is) before after =
    let within : length before < length (before ++ i ∷ (is ++ after)) = omega (arith, length-append before (i ∷ (is ++ after))) in
    let here = slice_get-get_or (before ++ i ∷ (is ++ after)) (length before) i within ∙ ap Some (get_or-append_seam before i (is ++ after) i) in
    let n : length (before ++ i ∷ []) ≡ length before + 1 = omega (arith, length-append before (i ∷ [])) in
    let rest = has_all is (before ++ i ∷ []) after in
    let rest' = subst (λ l. Holds l (length (before ++ i ∷ [])) is) (append_assoc before (i ∷ []) (is ++ after)) rest in
    (here, subst (λ m. Holds (before ++ i ∷ (is ++ after)) m is) n rest')

act_length : (b : Bool) (i : Instr) → length (if b then [] else (i ∷ [])) ≡ (if b then 0 else 1)
act_length true i = omega arith
act_length false i = omega arith

mutual
  pub node_length : (at out next : ℕ) (n : Node) → length (emit_node at out next n) ≡ node_long n
  node_length at out next (plain place a) = act_length (is_lifetime_mark a) _
  node_length at out next (if_ place temp one other) =
      let other_at = at + 1 + long one + 1 in
      let e1 = row_length (at + 1) out next one in
      let e2 = row_length other_at out next other in
      let e3 = length-append (emit (at + 1) out next one) (jump place (other_at + long other) ∷ emit other_at out next other) in
      omega (arith, e1, e2, e3)
  node_length at out next (loop place body latch) =
      let latch_at = at + long body in
      let round_at = latch_at + long latch in
      let e1 = row_length at (round_at + 1) latch_at body in
      let e2 = row_length latch_at (round_at + 1) round_at latch in
      let e3 = length-append (emit at (round_at + 1) latch_at body) (emit latch_at (round_at + 1) round_at latch ++ round_to place at ∷ []) in
      let e4 = length-append (emit latch_at (round_at + 1) round_at latch) (round_to place at ∷ []) in
      omega (arith, e1, e2, e3, e4)
  node_length at out next (break_ place) = omega arith
  node_length at out next (next_ place) = omega arith
  node_length at out next (ret place temp) = omega arith

  pub row_length : (at out next : ℕ) (nodes : Nodes) → length (emit at out next nodes) ≡ long nodes
  row_length at out next no_nodes = omega arith
  row_length at out next (more_nodes n rest) =
      let e1 = node_length at out next n in
      let e2 = row_length (at + node_long n) out next rest in
      let e3 = length-append (emit_node at out next n) (emit (at + node_long n) out next rest) in
      omega (arith, e1, e2, e3)
