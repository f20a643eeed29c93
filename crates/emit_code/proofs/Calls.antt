-- Calls stand between safepoints.
use Rattle.std.proofs.Common.{◌≡◌, ℕ, zero, suc, ◌+◌, ◌-◌, List, [], ◌∷◌, ◌++◌, Option, Some, None, Bool, true, false, ◌&&◌, refl, sym, ◌∙◌, subst, arith, if◌then◌else◌}
use Rattle.std.specs.Prelude.{slice_get, is_some}
use Rattle.struct_ir.specs.Nodes.{Call, Act, set, call, step, look, safepoint, begin_object, end_object, Node, plain, if_, loop, break_, next_, ret, Nodes, no_nodes, more_nodes}
use Rattle.struct_ir.specs.Valid.{list_at, first_list, last_list, is_the_list, act_is_placed, node_is_placed, are_placed}
use Rattle.struct_ir.specs.Instrs.{Instr, acts, unless, jump, round_to, leave}
use Rattle.struct_ir.specs.Lawful.{safe_list, list_at_index, IsBetweenSafepoints}
use Rattle.struct_ir.specs.Marks.{is_lifetime_mark}
use Rattle.emit_code.specs.inner.Layout.{node_long, long, emit_node, emit, instrs_for}
use Rattle.emit_code.proofs.Safepoints.{false_true, left_of, right_of, last_in, Tells, node_tells, tells_none}

-- ---- lists of instructions

-- a safepoint stands first; after: one stands behind the list
abbrev head_safe : List Instr → Bool → Bool
head_safe [] after = after
head_safe (i ∷ is) after = is_some (safe_list (Some i))

-- a call, between these
abbrev CallIs : Option (List ℕ) → Instr → Bool → Type 0
CallIs before (acts place (set to calc)) after = Unit {0}
CallIs before (acts place (call c)) after = (is_the_list before c.slots ≡ true) × (after ≡ true)
CallIs before (acts place (step s)) after = Unit {0}
CallIs before (acts place (look slot base)) after = Unit {0}
CallIs before (acts place (safepoint slots)) after = Unit {0}
CallIs before (acts place (begin_object i)) after = Unit {0}
CallIs before (acts place (end_object i)) after = Unit {0}
CallIs before (unless place temp to) after = Unit {0}
CallIs before (jump place to) after = Unit {0}
CallIs before (round_to place to) after = Unit {0}
CallIs before (leave place temp) after = Unit {0}

-- each call of the list
abbrev CallsAre : Option (List ℕ) → List Instr → Bool → Type 0
CallsAre before [] after = Unit {0}
CallsAre before (i ∷ is) after = CallIs before i (head_safe is after) × CallsAre (safe_list (Some i)) is after

head_append : (a b : List Instr) (after : Bool) → head_safe (a ++ b) after ≡ head_safe a (head_safe b after)
head_append [] b after = refl
head_append (i ∷ a) b after = refl

calls_append : (before : Option (List ℕ)) (a b : List Instr) (after : Bool) → CallsAre before a (head_safe b after) → CallsAre (last_in before a) b after → CallsAre before (a ++ b) after
calls_append before [] b after h k = k
calls_append before (i ∷ a) b after h k =
    (subst (λ (x : Bool). CallIs before i x) (sym (head_append a b after)) h.0, calls_append (safe_list (Some i)) a b after h.1 k)

-- ---- rows

the_list : (list before : Option (List ℕ)) (slots : List ℕ) → Tells list before → is_the_list list slots ≡ true → is_the_list before slots ≡ true
the_list None before slots t e = false_true e
the_list (Some l) before slots t e = subst (λ (o : Option (List ℕ)). is_the_list o slots ≡ true) (sym (t l refl)) e

-- a row that begins with a safepoint
node_first : (n : Node) (rest : List Instr) (after : Bool) (at out next : ℕ) → is_some (list_at n) ≡ true → head_safe (emit_node at out next n ++ rest) after ≡ true
node_first (plain place (set to calc)) rest after at out next e = false_true e
node_first (plain place (call c)) rest after at out next e = false_true e
node_first (plain place (step s)) rest after at out next e = false_true e
node_first (plain place (look slot base)) rest after at out next e = false_true e
node_first (plain place (safepoint slots)) rest after at out next e = refl
node_first (plain place (begin_object i)) rest after at out next e = false_true e
node_first (plain place (end_object i)) rest after at out next e = false_true e
node_first (if_ place temp one other) rest after at out next e = false_true e
node_first (loop place body latch) rest after at out next e = false_true e
node_first (break_ place) rest after at out next e = false_true e
node_first (next_ place) rest after at out next e = false_true e
node_first (ret place temp) rest after at out next e = false_true e

row_first : (nodes : Nodes) (after : Bool) (at out next : ℕ) → is_some (first_list nodes) ≡ true → head_safe (emit at out next nodes) after ≡ true
row_first no_nodes after at out next e = false_true e
row_first (more_nodes n rest) after at out next e = node_first n (emit (at + node_long n) out next rest) after at out next e

act_calls : (place : ℕ) (a : Act) (list : Option (List ℕ)) (rest : Nodes) → act_is_placed list a rest ≡ true → (before : Option (List ℕ)) (after : Bool) → Tells list before → (is_some (first_list rest) ≡ true → after ≡ true)
    → CallsAre before (if is_lifetime_mark a then [] else (acts place a ∷ [])) after
act_calls place (set to calc) list rest p before after t f = (tt, tt)
act_calls place (call c) list rest p before after t f =
    ((the_list list before c.slots t (left_of (is_the_list list c.slots) (is_some (first_list rest)) p), f (right_of (is_the_list list c.slots) (is_some (first_list rest)) p)), tt)
act_calls place (step s) list rest p before after t f = (tt, tt)
act_calls place (look slot base) list rest p before after t f = (tt, tt)
act_calls place (safepoint slots) list rest p before after t f = (tt, tt)
act_calls place (begin_object i) list rest p before after t f = tt
act_calls place (end_object i) list rest p before after t f = tt

mutual
  node_calls : (n : Node) (list : Option (List ℕ)) (rest : Nodes) → node_is_placed list n rest ≡ true → (before : Option (List ℕ)) (after : Bool) (at out next : ℕ) → Tells list before → (is_some (first_list rest) ≡ true → after ≡ true)
      → CallsAre before (emit_node at out next n) after
  node_calls (plain place a) list rest p before after at out next t f = act_calls place a list rest p before after t f
  node_calls (if_ place temp one other) list rest p before after at out next t f =
      let other_at = at + 1 + long one + 1 in
      let a = row_calls one None (left_of (are_placed None one) (are_placed None other) p) None false (at + 1) out next (tells_none None) in
      let b = row_calls other None (right_of (are_placed None one) (are_placed None other) p) None after other_at out next (tells_none None) in
      (tt, calls_append None (emit (at + 1) out next one) (jump place (other_at + long other) ∷ emit other_at out next other) after a (tt, b))
  node_calls (loop place body latch) list rest p before after at out next t f =
      let latch_at = at + long body in
      let round_at = latch_at + long latch in
      let bodies = emit at (round_at + 1) latch_at body in
      let latches = emit latch_at (round_at + 1) round_at latch in
      let p1 = right_of (are_placed None body) (are_placed None latch && is_some (last_list None latch)) p in
      let tail = latches ++ round_to place at ∷ [] in
      let a = row_calls body None (left_of (are_placed None body) (are_placed None latch && is_some (last_list None latch)) p) before (head_safe tail after) at (round_at + 1) latch_at (tells_none before) in
      let b = row_calls latch None (left_of (are_placed None latch) (is_some (last_list None latch)) p1) (last_in before bodies) false latch_at (round_at + 1) round_at (tells_none (last_in before bodies)) in
      calls_append before bodies tail after a (calls_append (last_in before bodies) latches (round_to place at ∷ []) after b (tt, tt))
  node_calls (break_ place) list rest p before after at out next t f = (tt, tt)
  node_calls (next_ place) list rest p before after at out next t f = (tt, tt)
  node_calls (ret place temp) list rest p before after at out next t f = (tt, tt)

  row_calls : (nodes : Nodes) (list : Option (List ℕ)) → are_placed list nodes ≡ true → (before : Option (List ℕ)) (after : Bool) (at out next : ℕ) → Tells list before → CallsAre before (emit at out next nodes) after
  row_calls no_nodes list p before after at out next t = tt
  row_calls (more_nodes n rest) list p before after at out next t =
      let there = emit (at + node_long n) out next rest in
      let a = node_calls n list rest (left_of (node_is_placed list n rest) (are_placed (list_at n) rest) p) before (head_safe there after) at out next t (row_first rest after (at + node_long n) out next) in
      let b = row_calls rest (list_at n) (right_of (node_is_placed list n rest) (are_placed (list_at n) rest) p) (last_in before (emit_node at out next n)) after (at + node_long n) out next (node_tells n before at out next) in
      calls_append before (emit_node at out next n) there after a b

-- ---- from the list to its indices

-- the list of a safepoint directly before an index; before: of one before the instructions
abbrev list_before : Option (List ℕ) → List Instr → ℕ → Option (List ℕ)
list_before before is zero = before
list_before before is (suc k) = list_at_index is k

list_on : (i : Instr) (is : List Instr) (k : ℕ) → list_before (safe_list (Some i)) is k ≡ list_at_index (i ∷ is) k
list_on i is zero = refl
list_on i is (suc k) = refl

head_at : (is : List Instr) → head_safe is false ≡ is_some (list_at_index is 0)
head_at [] = refl
head_at (i ∷ is) = refl

same_some : (x y : Instr) → Some x ≡ Some y → x ≡ y
same_some x y e = cc

no_instr : {A : Type 0} (x : Instr) → None ≡ Some x → A
no_instr x e = absurd cc

found : (is : List Instr) (before : Option (List ℕ)) → CallsAre before is false → (k place : ℕ) (c : Call) → slice_get is k ≡ Some (acts place (call c))
    → (is_the_list (list_before before is k) c.slots ≡ true) × (is_some (list_at_index is (suc k)) ≡ true)
found [] before h k place c e = no_instr (acts place (call c)) e
found (i ∷ is) before h zero place c e =
    let x : CallIs before (acts place (call c)) (head_safe is false) = subst (λ (j : Instr). CallIs before j (head_safe is false)) (same_some i (acts place (call c)) e) h.0 in
    (x.0, sym (head_at is) ∙ x.1)
found (i ∷ is) before h (suc k) place c e =
    let r = found is (safe_list (Some i)) h.1 k place c e in
    (subst (λ (o : Option (List ℕ)). is_the_list o c.slots ≡ true) (list_on i is k) r.0, r.1)

between_at : (code : List Instr) (at : ℕ) (slots : List ℕ) → is_the_list (list_before None code at) slots ≡ true → is_some (list_at_index code (suc at)) ≡ true → IsBetweenSafepoints code at slots
between_at code zero slots e f = false_true e
between_at code (suc k) slots e f =
    let z : k ≡ suc k - 1 = omega arith in
    let z' : suc (suc k) ≡ suc k + 1 = omega arith in
    (omega arith, subst (λ (n : ℕ). is_the_list (list_at_index code n) slots ≡ true) z e, subst (λ (n : ℕ). is_some (list_at_index code n) ≡ true) z' f)

pub between : (nodes : Nodes) → are_placed None nodes ≡ true → (at place : ℕ) (c : Call) → slice_get (instrs_for nodes) at ≡ Some (acts place (call c)) → IsBetweenSafepoints (instrs_for nodes) at c.slots
between nodes p at place c e =
    let n = long nodes in
    let a = row_calls nodes None p None false 0 n n (tells_none None) in
    let all : CallsAre None (instrs_for nodes) false = calls_append None (emit 0 n n nodes) (leave 0 None ∷ []) false a (tt, tt) in
    let r = found (instrs_for nodes) None all at place c e in
    between_at (instrs_for nodes) at c.slots r.0 r.1
