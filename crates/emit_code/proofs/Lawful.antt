-- Where jumps and ends of rounds lead.
use Rattle.std.proofs.Common.{◌≡◌, ℕ, zero, suc, ◌+◌, ◌-◌, ◌<◌, ◌≤◌, List, [], ◌∷◌, ◌++◌, length, Option, Some, None, Bool, true, false, ◌&&◌, refl, ap, subst, arith, append-nil, ◌⊎◌, inl, inr, if◌then◌else◌}
use Rattle.std.specs.Prelude.{slice_get, is_some, nat_lt}
use Rattle.struct_ir.specs.Nodes.{Act, Node, plain, if_, loop, break_, next_, ret, Nodes, no_nodes, more_nodes}
use Rattle.struct_ir.specs.Valid.{list_at, last_list, node_is_placed, are_placed, Scope, Around, body_of, latch_of, outside, is_node, are_nodes}
use Rattle.struct_ir.specs.Instrs.{Instr, acts, unless, jump, round_to, leave}
use Rattle.struct_ir.specs.Lawful.{safe_list, is_leave, is_guarded, list_at_index, IsLater, IsBehindSafepoint, PassesSafepoints, IsLawful}
use Rattle.struct_ir.specs.Marks.{is_lifetime_mark}
use Rattle.emit_code.specs.inner.Layout.{node_long, long, emit_node, emit, instrs_for}
use Rattle.emit_code.specs.inner.Holds.{Holds}
use Rattle.emit_code.proofs.Holding.{has_all, has_front, has_back, row_length, node_length}
use Rattle.emit_code.proofs.Short.{code_length}
use Rattle.emit_code.proofs.Safepoints.{false_true, left_of, right_of, last_in, tells_none, row_tells, some_told}
use Rattle.emit_code.proofs.Calls.{between}
use Rattle.emit_code.proofs.Guarded.{Free, Ends, row_free, behind_free}
use Rattle.emit_code.proofs.Lying.{row_lies}
use Rattle.std.proofs.lemmas.Bool.{both_ways}

-- ---- every instruction

module _ (code : List Instr) where
  -- the instruction at an index is lawful in a code that ends at limit
  abbrev Fine : ℕ → Option (List ℕ) → ℕ → Instr → Type 0
  Fine limit before at (acts place a) = at + 1 ≤ limit
  Fine limit before at (unless place temp to) = (at < to) × (to ≤ limit) × Free code to
  Fine limit before at (jump place to) = (at < to) × (to ≤ limit) × Free code to
  Fine limit before at (round_to place to) = (to ≤ at) × (is_some before ≡ true) × Free code to
  Fine limit before at (leave place temp) = Unit {0}

  abbrev AllFine : ℕ → Option (List ℕ) → ℕ → List Instr → Type 0
  AllFine limit before at [] = Unit {0}
  AllFine limit before at (i ∷ is) = Fine limit before at i × AllFine limit (safe_list (Some i)) (at + 1) is

  fine_append : (limit : ℕ) (before : Option (List ℕ)) (at to : ℕ) (a b : List Instr) → at + length a ≡ to → AllFine limit before at a → AllFine limit (last_in before a) to b → AllFine limit before at (a ++ b)
  fine_append limit before at to [] b e h k = let e' : to ≡ at = omega (arith, e) in subst (λ n. AllFine limit before n b) e' k
  fine_append limit before at to (i ∷ a) b e h k = (h.0, fine_append limit (safe_list (Some i)) (at + 1) to a b (omega (arith, e)) h.1 k)

  act_fine : (place : ℕ) (a : Act) (limit : ℕ) (before : Option (List ℕ)) (at : ℕ) (b : Bool) → at + (if b then 0 else 1) ≤ limit → AllFine limit before at (if b then [] else (acts place a ∷ []))
  act_fine place a limit before at true l = tt
  act_fine place a limit before at false l = (l, tt)

  -- where a Break and a Next lead, and where the code ends
  record Leads (limit : ℕ) (w : Around) (to out next : ℕ) : Type 0 where
    out_later : to ≤ out
    next_later : to ≤ next
    out_within : out ≤ limit
    next_within : next ≤ limit
    out_free : Free code out
    next_free : w.in_body ≡ true → Free code next

  free_behind : (n : Node) (end : ℕ) → is_some (list_at n) ≡ false → (is_some (list_at n) ≡ true) ⊎ Free code end → Free code end
  free_behind n end e (inl h) = absurd (both_ways (is_some (list_at n)) e h)
  free_behind n end e (inr f) = f

  module _ (x : Scope) where
    mutual
      node_fine : (n : Node) (list : Option (List ℕ)) (rest : Nodes) → node_is_placed list n rest ≡ true → (w : Around) → is_node x w n ≡ true → (limit : ℕ) (before : Option (List ℕ)) (at out next : ℕ) → Leads limit w (at + node_long n) out next
          → Holds code at (emit_node at out next n) → (is_some (list_at n) ≡ true) ⊎ Free code (at + node_long n) → AllFine limit before at (emit_node at out next n)
      node_fine (plain place a) list rest c w v limit before at out next to h f = act_fine place a limit before at (is_lifetime_mark a) (let o = to.out_later in let l = to.out_within in omega (arith, o, l))
      node_fine (if_ place temp one other) list rest c w v limit before at out next to h f =
          let jump_at = at + 1 + long one in
          let other_at = jump_at + 1 in
          let end = other_at + long other in
          let o = to.out_later in
          let y = to.next_later in
          let ol = to.out_within in
          let tail = jump place end ∷ emit other_at out next other in
          let ones = has_front code (at + 1) (emit (at + 1) out next one) tail h.1 in
          let l = row_length (at + 1) out next one in
          let t = has_back code (at + 1) jump_at (emit (at + 1) out next one) tail (omega (arith, l)) h.1 in
          let z : at + node_long (if_ place temp one other) ≡ end = omega arith in
          let behind : Free code end = subst (λ n. Free code n) z (free_behind (if_ place temp one other) (at + node_long (if_ place temp one other)) refl f) in
          let there : Free code other_at = row_free code other other_at end out next (row_lies code other other_at out next t.1) (right_of (are_placed None one) (are_placed None other) c) (inr behind) in
          let v1 = right_of (nat_lt temp x.temps) (are_nodes x w one && are_nodes x w other) v in
          let led : (m : ℕ) → m ≤ at + node_long (if_ place temp one other) → Leads limit w m out next = λ m le. record { out_later = omega (arith, le, o); next_later = omega (arith, le, y); out_within = ol; next_within = to.next_within; out_free = to.out_free; next_free = to.next_free } in
          let a = row_fine one None (left_of (are_placed None one) (are_placed None other) c) w (left_of (are_nodes x w one) (are_nodes x w other) v1) limit None (at + 1) out next (led (at + 1 + long one) (omega arith)) ones (inr (ap is_guarded t.0)) in
          let b = row_fine other None (right_of (are_placed None one) (are_placed None other) c) w (right_of (are_nodes x w one) (are_nodes x w other) v1) limit None other_at out next (led (other_at + long other) (omega arith)) t.1 (inr behind) in
          let rest : AllFine limit (last_in None (emit (at + 1) out next one)) jump_at (jump place end ∷ emit other_at out next other) = ((omega arith, omega (arith, o, ol), behind), b) in
          ((omega arith, omega (arith, o, ol), there), fine_append limit None (at + 1) jump_at (emit (at + 1) out next one) _ (omega (arith, l)) a rest)
      node_fine (loop place body latch) list rest c w v limit before at out next to h f =
          let latch_at = at + long body in
          let round_at = latch_at + long latch in
          let bodies = emit at (round_at + 1) latch_at body in
          let latches = emit latch_at (round_at + 1) round_at latch in
          let o = to.out_later in
          let ol = to.out_within in
          let l = row_length at (round_at + 1) latch_at body in
          let m = row_length latch_at (round_at + 1) round_at latch in
          let back = has_back code at latch_at bodies (latches ++ round_to place at ∷ []) (omega (arith, l)) h in
          let in_front = has_front code at bodies (latches ++ round_to place at ∷ []) h in
          let in_back = has_front code latch_at latches (round_to place at ∷ []) back in
          let c0 = left_of (are_placed None body) (are_placed None latch && is_some (last_list None latch)) c in
          let c1 = right_of (are_placed None body) (are_placed None latch && is_some (last_list None latch)) c in
          let c2 = left_of (are_placed None latch) (is_some (last_list None latch)) c1 in
          let c3 = right_of (are_placed None latch) (is_some (last_list None latch)) c1 in
          let z : at + node_long (loop place body latch) ≡ round_at + 1 = omega arith in
          let behind : Free code (round_at + 1) = subst (λ n. Free code n) z (free_behind (loop place body latch) (at + node_long (loop place body latch)) refl f) in
          let turn : Free code latch_at = row_free code latch latch_at round_at (round_at + 1) round_at (row_lies code latch latch_at (round_at + 1) round_at in_back) c2 (inl c3) in
          let first : Free code at = row_free code body at latch_at (round_at + 1) latch_at (row_lies code body at (round_at + 1) latch_at in_front) c0 (inr turn) in
          let body_led : Leads limit body_of latch_at (round_at + 1) latch_at = record { out_later = omega arith; next_later = omega arith; out_within = omega (arith, o, ol); next_within = omega (arith, o, ol); out_free = behind; next_free = λ e. turn } in
          let latch_led : Leads limit latch_of round_at (round_at + 1) round_at = record { out_later = omega arith; next_later = omega arith; out_within = omega (arith, o, ol); next_within = omega (arith, o, ol); out_free = behind; next_free = λ e. false_true e } in
          let a = row_fine body None c0 body_of (left_of (are_nodes x body_of body) (are_nodes x latch_of latch) v) limit before at (round_at + 1) latch_at body_led in_front (inr turn) in
          let b = row_fine latch None c2 latch_of (right_of (are_nodes x body_of body) (are_nodes x latch_of latch) v) limit (last_in before bodies) latch_at (round_at + 1) round_at latch_led in_back (inl c3) in
          let told = row_tells latch None (last_in before bodies) (tells_none (last_in before bodies)) latch_at (round_at + 1) round_at in
          let s = some_told (last_list None latch) (last_in (last_in before bodies) latches) told c3 in
          let r : AllFine limit (last_in (last_in before bodies) latches) round_at (round_to place at ∷ []) = ((omega arith, s, first), tt) in
          fine_append limit before at latch_at bodies _ (omega (arith, l)) a (fine_append limit (last_in before bodies) latch_at round_at latches (round_to place at ∷ []) (omega (arith, m)) b r)
      node_fine (break_ place) list rest c w v limit before at out next to h f = ((let o = to.out_later in omega (arith, o), to.out_within, to.out_free), tt)
      node_fine (next_ place) list rest c w v limit before at out next to h f = ((let o = to.next_later in omega (arith, o), to.next_within, to.next_free v), tt)
      node_fine (ret place temp) list rest c w v limit before at out next to h f = (tt, tt)

      row_fine : (nodes : Nodes) (list : Option (List ℕ)) → are_placed list nodes ≡ true → (w : Around) → are_nodes x w nodes ≡ true → (limit : ℕ) (before : Option (List ℕ)) (at out next : ℕ) → Leads limit w (at + long nodes) out next
          → Holds code at (emit at out next nodes) → Ends code list nodes (at + long nodes) → AllFine limit before at (emit at out next nodes)
      row_fine no_nodes list c w v limit before at out next to h e = tt
      row_fine (more_nodes n rest) list c w v limit before at out next to h e =
          let behind = at + node_long n in
          let l = node_length at out next n in
          let o = to.out_later in
          let y = to.next_later in
          let z : at + long (more_nodes n rest) ≡ behind + long rest = omega arith in
          let c1 = right_of (node_is_placed list n rest) (are_placed (list_at n) rest) c in
          let front = has_front code at (emit_node at out next n) (emit behind out next rest) h in
          let back = has_back code at behind (emit_node at out next n) (emit behind out next rest) (omega (arith, l)) h in
          let ends : Ends code (list_at n) rest (behind + long rest) = subst (λ m. Ends code (list_at n) rest m) z e in
          let led : Leads limit w behind out next = record { out_later = omega (arith, o); next_later = omega (arith, y); out_within = to.out_within; next_within = to.next_within; out_free = to.out_free; next_free = to.next_free } in
          let led' : Leads limit w (behind + long rest) out next = subst (λ m. Leads limit w m out next) z to in
          let a = node_fine n list rest (left_of (node_is_placed list n rest) (are_placed (list_at n) rest) c) w (left_of (is_node x w n) (are_nodes x w rest) v) limit before at out next led front
          (behind_free code (list_at n) rest behind (behind + long rest) out next (row_lies code rest behind out next back) c1 ends) in
          let b = row_fine rest (list_at n) c1 w (right_of (is_node x w n) (are_nodes x w rest) v) limit (last_in before (emit_node at out next n)) behind out next led' back ends in
          fine_append limit before at behind (emit_node at out next n) (emit behind out next rest) (omega (arith, l)) a b

-- ---- from the list to its indices

abbrev Told : Option (List ℕ) → List Instr → ℕ → Type 0
Told before is k = ((k ≡ 0) × (is_some before ≡ true)) ⊎ IsBehindSafepoint is k

told_on : (i : Instr) (is : List Instr) (before : Option (List ℕ)) (k : ℕ) → Told (safe_list (Some i)) is k → Told before (i ∷ is) (suc k)
told_on i is before k (inl h) =
    let z : 0 ≡ suc k - 1 = omega (arith, h.0) in
    inr (omega arith, subst (λ (n : ℕ). is_some (list_at_index (i ∷ is) n) ≡ true) z h.1)
told_on i is before k (inr h) =
    let z : suc (k - 1) ≡ suc k - 1 = omega (arith, h.0) in
    inr (omega arith, subst (λ (n : ℕ). is_some (list_at_index (i ∷ is) n) ≡ true) z h.1)

same_some : (x y : Instr) → Some x ≡ Some y → x ≡ y
same_some x y e = cc

no_some : {A : Type 0} (x : Instr) → None ≡ Some x → A
no_some x e = absurd cc

found : (code is : List Instr) (limit : ℕ) (before : Option (List ℕ)) (at : ℕ) → AllFine code limit before at is → (k : ℕ) (i : Instr) → slice_get is k ≡ Some i → (b : Option (List ℕ)) × Fine code limit b (at + k) i × (is_some b ≡ true → Told before is k)
found code [] limit before at h k i e = no_some i e
found code (x ∷ is) limit before at h zero i e =
    let z : at ≡ at + 0 = omega arith in
    let f = subst (λ n. Fine code limit before n x) z h.0 in
    (before, subst (λ y. Fine code limit before (at + 0) y) (same_some x i e) f, λ t. inl (refl, t))
found code (x ∷ is) limit before at h (suc k) i e =
    let r = found code is limit (safe_list (Some x)) (at + 1) h.1 k i e in
    let z : at + 1 + k ≡ at + suc k = omega arith in
    (r.0, subst (λ n. Fine code limit r.0 n i) z r.1, λ t. told_on x is before k (r.2 t))

behind : (is : List Instr) (k : ℕ) → Told None is k → IsBehindSafepoint is k
behind is k (inl h) = false_true h.1
behind is k (inr h) = h

pub last_leaves : (nodes : Nodes) → slice_get (instrs_for nodes) (long nodes) ≡ Some (leave 0 None)
last_leaves nodes =
    let n = long nodes in
    let h = subst (λ x. Holds x 0 (instrs_for nodes)) (append-nil (instrs_for nodes)) (has_all (instrs_for nodes) [] []) in
    let b = has_back (instrs_for nodes) 0 n (emit 0 n n nodes) (leave 0 None ∷ []) (omega (arith, row_length 0 n n nodes)) h in
    b.0

module _ (nodes : Nodes) (c : are_placed None nodes ≡ true) (x : Scope) (v : are_nodes x outside nodes ≡ true) where
  abbrev code : List Instr
  code = instrs_for nodes

  all_fine : AllFine code (long nodes) None 0 code
  all_fine =
      let n = long nodes in
      let h = subst (λ y. Holds y 0 code) (append-nil code) (has_all code [] []) in
      let free : Free code n = ap is_guarded (last_leaves nodes) in
      let z : n ≡ 0 + n = omega arith in
      let to : Leads code n outside (0 + n) n n = record { out_later = omega arith; next_later = omega arith; out_within = omega arith; next_within = omega arith; out_free = free; next_free = λ e. free } in
      let a = row_fine code x nodes None c outside v n None 0 n n to (has_front code 0 (emit 0 n n nodes) (leave 0 None ∷ []) h) (inr (subst (λ m. Free code m) z free)) in
      fine_append code n None 0 n (emit 0 n n nodes) (leave 0 None ∷ []) (omega (arith, row_length 0 n n nodes)) a (tt, tt)

  fine_at : (at : ℕ) (i : Instr) → slice_get code at ≡ Some i → (b : Option (List ℕ)) × Fine code (long nodes) b at i × (is_some b ≡ true → Told None code at)
  fine_at at i e =
      let r = found code code (long nodes) None 0 all_fine at i e in
      let z : 0 + at ≡ at = omega arith in
      (r.0, subst (λ n. Fine code (long nodes) r.0 n i) z r.1, r.2)

  jumps_on : (at place to : ℕ) → slice_get code at ≡ Some (jump place to) → IsLater code at to
  jumps_on at place to e = let f = fine_at at (jump place to) e in (f.1.0, omega (arith, f.1.1, code_length nodes))

  tests_on : (at place temp to : ℕ) → slice_get code at ≡ Some (unless place temp to) → IsLater code at to × IsLater code at (at + 1)
  tests_on at place temp to e =
      let f = fine_at at (unless place temp to) e in
      ((f.1.0, omega (arith, f.1.1, code_length nodes)), (omega arith, omega (arith, f.1.0, f.1.1, code_length nodes)))

  acts_on : (at place : ℕ) (a : Act) → slice_get code at ≡ Some (acts place a) → IsLater code at (at + 1)
  acts_on at place a e = let f = fine_at at (acts place a) e in (omega arith, omega (arith, f.1, code_length nodes))

  rounds_back : (at place to : ℕ) → slice_get code at ≡ Some (round_to place to) → (to ≤ at) × IsBehindSafepoint code at
  rounds_back at place to e = let f = fine_at at (round_to place to) e in (f.1.0, behind code at (f.2 f.1.1))

  nothing_passes : PassesSafepoints code
  nothing_passes = record {
    jumps = λ at place to e. (fine_at at (jump place to) e).1.2;
    tests = λ at place temp to e. (fine_at at (unless place temp to) e).1.2;
    rounds = λ at place to e. (fine_at at (round_to place to) e).1.2;
  }

pub lawful : (nodes : Nodes) → are_placed None nodes ≡ true → (x : Scope) → are_nodes x outside nodes ≡ true → IsLawful (instrs_for nodes)
lawful nodes c x v = record {
  jumps = jumps_on nodes c x v;
  tests = tests_on nodes c x v;
  behind_acts = acts_on nodes c x v;
  calls = between nodes c;
  rounds = rounds_back nodes c x v;
  safepoints = nothing_passes nodes c x v;
  last =
      let z : long nodes ≡ length (instrs_for nodes) - 1 = omega (arith, code_length nodes) in
      (omega (arith, code_length nodes), subst (λ (n : ℕ). is_leave (slice_get (instrs_for nodes) n) ≡ true) z (ap is_leave (last_leaves nodes)));
}
