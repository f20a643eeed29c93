-- The linear code of valid code is valid.
use Rattle.std.proofs.Common.{◌≡◌, ℕ, ◌+◌, List, [], ◌∷◌, ◌++◌, length, map, None, Bool, true, false, ◌&&◌, if◌then◌else◌, refl, ap, subst, sym}
use Rattle.std.proofs.lemmas.Bool.{and_parts, and_from}
use Rattle.std.specs.Prelude.{nat_lt}
use Rattle.std.specs.List.{list_all}
use Rattle.struct_ir.specs.Nodes.{Act, Node, plain, if_, loop, break_, next_, ret, Nodes, no_nodes, more_nodes, Func, Ir}
use Rattle.struct_ir.specs.Valid.{Scope, Around, body_of, latch_of, outside, is_act, is_node, are_nodes, scope_of, is_valid}
use Rattle.struct_ir.specs.Instrs.{Instr, acts, jump, round_to, leave}
use Rattle.struct_ir.specs.ValidCode.{code_scope_of, is_instr, is_valid_code}
use Rattle.struct_ir.specs.Marks.{is_lifetime_mark}
use Rattle.emit_code.specs.inner.Layout.{node_long, long, emit_node, emit, instrs_for, func_linear, linear_of}

module _ (x : Scope) where
  abbrev AreFine : List Instr → Type 0
  AreFine is = list_all (is_instr x) is ≡ true

  fine_both : (a b : List Instr) → AreFine a → AreFine b → AreFine (a ++ b)
  fine_both [] b e h = h
  fine_both (i ∷ a) b e h = let p = and_parts (is_instr x i) (list_all (is_instr x) a) e in and_from (is_instr x i) (list_all (is_instr x) (a ++ b)) p.0 (fine_both a b p.1 h)

  act_valid : (place : ℕ) (a : Act) (b : Bool) → is_act x a ≡ true → AreFine (if b then [] else (acts place a ∷ []))
  act_valid place a true e = refl
  act_valid place a false e = and_from (is_act x a) true e refl

  mutual
    node_valid : (n : Node) (w : Around) (at out next : ℕ) → is_node x w n ≡ true → AreFine (emit_node at out next n)
    node_valid (plain place a) w at out next e = act_valid place a (is_lifetime_mark a) e
    node_valid (if_ place temp one other) w at out next e =
        let other_at = at + 1 + long one + 1 in
        let p = and_parts (nat_lt temp x.temps) (are_nodes x w one && are_nodes x w other) e in
        let q = and_parts (are_nodes x w one) (are_nodes x w other) p.1 in
        and_from (nat_lt temp x.temps) _ p.0 (fine_both (emit (at + 1) out next one) (jump place (other_at + long other) ∷ emit other_at out next other) (row_valid one w (at + 1) out next q.0) (row_valid other w other_at out next q.1))
    node_valid (loop place body latch) w at out next e =
        let latch_at = at + long body in
        let round_at = latch_at + long latch in
        let p = and_parts (are_nodes x body_of body) (are_nodes x latch_of latch) e in
        fine_both (emit at (round_at + 1) latch_at body) (emit latch_at (round_at + 1) round_at latch ++ round_to place at ∷ []) (row_valid body body_of at (round_at + 1) latch_at p.0)
        (fine_both (emit latch_at (round_at + 1) round_at latch) (round_to place at ∷ []) (row_valid latch latch_of latch_at (round_at + 1) round_at p.1) refl)
    node_valid (break_ place) w at out next e = refl
    node_valid (next_ place) w at out next e = refl
    node_valid (ret place temp) w at out next e = and_from _ true e refl

    row_valid : (ns : Nodes) (w : Around) (at out next : ℕ) → are_nodes x w ns ≡ true → AreFine (emit at out next ns)
    row_valid no_nodes w at out next e = refl
    row_valid (more_nodes n rest) w at out next e =
        let p = and_parts (is_node x w n) (are_nodes x w rest) e in
        fine_both (emit_node at out next n) (emit (at + node_long n) out next rest) (node_valid n w at out next p.0) (row_valid rest w (at + node_long n) out next p.1)

  code_of_valid : (ns : Nodes) → are_nodes x outside ns ≡ true → AreFine (instrs_for ns)
  code_of_valid ns e = fine_both (emit 0 (long ns) (long ns) ns) (leave 0 None ∷ []) (row_valid ns outside 0 (long ns) (long ns) e) refl

-- ---- all functions

same_params : (fs : List Func) → map (λ g. g.params) (map func_linear fs) ≡ map (λ g. g.params) fs
same_params [] = refl
same_params (f ∷ fs) = ap (λ l. f.params ∷ l) (same_params fs)

same_scope : (p : Ir) (f : Func) → code_scope_of (linear_of p) (func_linear f) ≡ scope_of p f
same_scope p f = λ i. record { temps = f.temps; slots = f.slots; objects = length f.objects; globals = length p.globals; literals = length p.literals; params = same_params p.funcs i }

funcs_valid : (p : Ir) (fs : List Func) → list_all (λ f. are_nodes (scope_of p f) outside f.nodes) fs ≡ true → list_all (λ f. list_all (is_instr (code_scope_of (linear_of p) f)) f.instrs) (map func_linear fs) ≡ true
funcs_valid p [] e = refl
funcs_valid p (f ∷ fs) e =
    let q = and_parts (are_nodes (scope_of p f) outside f.nodes) (list_all (λ g. are_nodes (scope_of p g) outside g.nodes) fs) e in
    let x = code_scope_of (linear_of p) (func_linear f) in
    let here : list_all (is_instr x) (instrs_for f.nodes) ≡ true = subst (λ (y : Scope). list_all (is_instr y) (instrs_for f.nodes) ≡ true) (sym (same_scope p f)) (code_of_valid (scope_of p f) f.nodes q.0) in
    and_from _ _ here (funcs_valid p fs q.1)

pub code_valid : (p : Ir) → is_valid p ≡ true → is_valid_code (linear_of p) ≡ true
code_valid p e = funcs_valid p p.funcs e
