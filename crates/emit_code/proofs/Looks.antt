-- Linear code has as many Looks and steps as the code that it is of.
use Rattle.std.proofs.Common.{◌≡◌, ℕ, ◌+◌, List, [], ◌∷◌, ◌++◌, cond, None, Bool, false, refl, ap, map, arith}
use Rattle.std.proofs.lemmas.List.Sums.{sum_by-cons, sum_by-append}
use Rattle.struct_ir.specs.Nodes.{Act, set, call, step, look, safepoint, begin_object, end_object, Node, plain, if_, loop, break_, next_, ret, Nodes, no_nodes, more_nodes, Func}
use Rattle.struct_ir.specs.Instrs.{Instr, unless, jump, round_to, leave, LinearFunc}
use Rattle.struct_ir.specs.Looks.{looks_or_steps, looks_in, look_count, node_looks, row_looks, looks_of_nodes}
use Rattle.emit_code.specs.inner.Layout.{emit_node, emit, node_long, long, instrs_for, func_linear}

none_more : (i : Instr) (is : List Instr) → looks_or_steps i ≡ false → looks_in (i ∷ is) ≡ looks_in is
none_more i is e =
    let a = sum_by-cons (λ (i : Instr). cond {A = ℕ} (looks_or_steps i) 1 0) i is in
    let b : cond {A = ℕ} (looks_or_steps i) 1 0 ≡ 0 = ap (λ (b : Bool). cond {A = ℕ} b 1 0) e in
    omega (arith, a, b)

both : (xs ys : List Instr) → looks_in (xs ++ ys) ≡ looks_in xs + looks_in ys
both xs ys = sum_by-append (λ (i : Instr). cond {A = ℕ} (looks_or_steps i) 1 0) xs ys

act_same : (at out next place : ℕ) (a : Act) → looks_in (emit_node at out next (plain place a)) ≡ node_looks (plain place a)
act_same at out next place (set to calc) = refl
act_same at out next place (call c) = refl
act_same at out next place (step s) = refl
act_same at out next place (look slot base) = refl
act_same at out next place (safepoint slots) = refl
act_same at out next place (begin_object i) = refl
act_same at out next place (end_object i) = refl

mutual
  node_same : (n : Node) (at out next : ℕ) → looks_in (emit_node at out next n) ≡ node_looks n
  node_same (plain place a) at out next = act_same at out next place a
  node_same (if_ place temp one other) at out next =
      let other_at = at + 1 + long one + 1 in
      let first : List Instr = emit (at + 1) out next one in
      let second : List Instr = emit other_at out next other in
      let a = none_more (unless place temp other_at) (first ++ jump place (other_at + long other) ∷ second) refl in
      let b = both first (jump place (other_at + long other) ∷ second) in
      let c = none_more (jump place (other_at + long other)) second refl in
      let d = row_same one (at + 1) out next in
      let e = row_same other other_at out next in
      omega (arith, a, b, c, d, e)
  node_same (loop place body latch) at out next =
      let latch_at = at + long body in
      let round_at = latch_at + long latch in
      let first : List Instr = emit at (round_at + 1) latch_at body in
      let second : List Instr = emit latch_at (round_at + 1) round_at latch in
      let a = both first (second ++ round_to place at ∷ []) in
      let b = both second (round_to place at ∷ []) in
      let c = none_more (round_to place at) [] refl in
      let d = row_same body at (round_at + 1) latch_at in
      let e = row_same latch latch_at (round_at + 1) round_at in
      omega (arith, a, b, c, d, e)
  node_same (break_ place) at out next = refl
  node_same (next_ place) at out next = refl
  node_same (ret place temp) at out next = refl

  row_same : (nodes : Nodes) (at out next : ℕ) → looks_in (emit at out next nodes) ≡ row_looks nodes
  row_same no_nodes at out next = refl
  row_same (more_nodes n rest) at out next =
      let a = both (emit_node at out next n) (emit (at + node_long n) out next rest) in
      let b = node_same n at out next in
      let c = row_same rest (at + node_long n) out next in
      omega (arith, a, b, c)

code_same : (nodes : Nodes) → looks_in (instrs_for nodes) ≡ row_looks nodes
code_same nodes =
    let a = both (emit 0 (long nodes) (long nodes) nodes) (leave 0 None ∷ []) in
    let b = row_same nodes 0 (long nodes) (long nodes) in
    let c = none_more (leave 0 None) [] refl in
    omega (arith, a, b, c)

pub looks_same : (funcs : List Func) → look_count (map func_linear funcs) ≡ looks_of_nodes funcs
looks_same [] = refl
looks_same (f ∷ funcs) =
    let a = sum_by-cons (λ (g : LinearFunc). looks_in g.instrs) (func_linear f) (map func_linear funcs) in
    let b = sum_by-cons (λ (g : Func). row_looks g.nodes) f funcs in
    let c = code_same f.nodes in
    let d = looks_same funcs in
    omega (arith, a, b, c, d)
