-- Programs with Looks.
use Rattle.std.proofs.Common.{◌≡◌, ℕ, List, [], ◌∷◌, map, length, Some, true, false, inl, inr, refl, sym, ap, subst, arith}
use Rattle.std.proofs.lemmas.Bool.{and_parts, both_ways, lt-ltb}
use Rattle.std.specs.List.{AllByRecursion, list_all}
use Rattle.struct_ir.specs.Nodes.{Func, Ir, Nodes}
use Rattle.struct_ir.specs.Structured.{done, then_, structured}
use Rattle.struct_ir.specs.Erased.{erased, func_erased, ir_erased}
use Rattle.struct_ir.specs.Valid.{scope_of, outside, is_below_if, are_nodes, is_valid}
use Rattle.pin_flow.specs.Looks.{some_act, act_looks, Covered}
use Rattle.struct_ir.specs.Safe.{EveryFunc}
use Rattle.pin_flow.specs.Funcs.{IsCovered}
use Rattle.pin_flow.specs.Slots.{accesses, bases_of, slot_in, slot_if, IsIn, IsOwn, HasOwnSlots}
use Rattle.pin_flow.proofs.Bases.{same_bases, base_in, slot_known, slots_are_few, slots_are_apart}
use Rattle.translate_pass.specs.inner.Insert.{inserted, func_inserted, ir_inserted}
use Rattle.translate_pass.proofs.InsertedValid.{with_slots, erased_valid, inserted_valid}
use Rattle.translate_pass.proofs.Looked.{erase_inserted, any_look, no_look_erased, not_looked, slot_or, inserted_known, inserted_own, inserted_covered}
use Rattle.pin_flow.proofs.Registers.{some_below}
use Rattle.pin_flow.proofs.EachFunc.{all_true}

-- what is so of each function with its Looks, if it is valid and without Looks before
pub all_are : (R : Func → Type 0) (x : Ir) → ((f : Func) → are_nodes (scope_of x f) outside f.nodes ≡ true → func_erased f ≡ f → R (func_inserted f)) → (fs : List Func)
    → list_all (λ f. are_nodes (scope_of x f) outside f.nodes) fs ≡ true → map func_erased fs ≡ fs → AllByRecursion R (map func_inserted fs)
all_are R x each [] e g = tt
all_are R x each (f ∷ fs) e g =
    let p = and_parts (are_nodes (scope_of x f) outside f.nodes) _ e in
    let h : func_erased f ≡ f = ap (λ l. first_of f l) g in
    let r : map func_erased fs ≡ fs = ap (λ l. rest_of l) g in
    (each f p.0 h, all_are R x each fs p.1 r)
  where
    first_of : Func → List Func → Func
    first_of d [] = d
    first_of d (f ∷ fs) = f

    rest_of : List Func → List Func
    rest_of [] = []
    rest_of (f ∷ fs) = fs

pub every_is : (R : Func → Type 0) (x : Ir) → ((f : Func) → are_nodes (scope_of x f) outside f.nodes ≡ true → func_erased f ≡ f → R (func_inserted f)) → is_valid x ≡ true → ir_erased x ≡ x → EveryFunc R (ir_inserted x)
every_is R x each e g = all_are R x each x.funcs e (ap (λ (y : Ir). y.funcs) g)

module _ (x : Ir) (f : Func) (valid : are_nodes (scope_of x f) outside f.nodes ≡ true) (bare : func_erased f ≡ f) where
  bare_nodes : erased f.nodes ≡ f.nodes
  bare_nodes = ap (λ (g : Func). g.nodes) bare

  no_look : some_act any_look f.nodes ≡ false
  no_look = subst (λ (ns : Nodes). some_act any_look ns ≡ false) bare_nodes (no_look_erased f.nodes)

  known : (b : ℕ) → some_act (accesses b) f.nodes ≡ true → IsIn (bases_of f) b
  known b e = base_in f.temps f.nodes b (some_below b (scope_of x f) outside f.nodes valid e) e

  same : inserted (slot_if (bases_of f)) f.nodes ≡ inserted (λ b. Some (slot_in (bases_of f) b)) f.nodes
  same = inserted_known (bases_of f) f.nodes known

  pub func_covered : IsCovered (func_inserted f)
  func_covered = subst (λ (ns : Nodes). Covered structured (then_ ns done)) (sym same) (inserted_covered (slot_in (bases_of f)) (slots_are_apart (bases_of f)) f.nodes no_look)

  bases_same : bases_of (func_inserted f) ≡ bases_of f
  bases_same = same_bases f.temps f.nodes (inserted (slot_if (bases_of f)) f.nodes) (erase_inserted (slot_if (bases_of f)) f.nodes)

  own_slots : IsOwn (slot_in (bases_of f)) (inserted (slot_if (bases_of f)) f.nodes)
  own_slots = subst (λ (ns : Nodes). IsOwn (slot_in (bases_of f)) ns) (sym same) (inserted_own (slot_in (bases_of f)) f.nodes no_look)

  of_bases : (b : ℕ) → some_act (act_looks b) (inserted (slot_if (bases_of f)) f.nodes) ≡ true → IsIn (bases_of f) b
  of_bases b e = elim (slot_or (bases_of f) b) [
    | inl i ↦ i
    | inr n ↦ absurd (both_ways (some_act (act_looks b) (inserted (slot_if (bases_of f)) f.nodes)) (not_looked (slot_if (bases_of f)) b n f.nodes no_look) e)
  ]

  pub func_slots : HasOwnSlots (func_inserted f)
  func_slots = record {
    few = ap (λ (l : List ℕ). length l) (sym bases_same);
    own = subst (λ (l : List ℕ). IsOwn (slot_in l) (inserted (slot_if (bases_of f)) f.nodes)) (sym bases_same) own_slots;
    looks_at_bases = λ b e. subst (λ (l : List ℕ). IsIn l b) (sym bases_same) (of_bases b e);
  }

-- ---- valid code

-- each slot is one of those of the bases
slot_below : (bs : List ℕ) (b : ℕ) → is_below_if (length bs) (slot_if bs b) ≡ true
slot_below bs b = elim (slot_or bs b) [
  | inl i ↦ subst (λ o. is_below_if (length bs) o ≡ true) (sym (slot_known bs b i)) (lt-ltb (slot_in bs b) (length bs) (slots_are_few bs b i))
  | inr n ↦ subst (λ o. is_below_if (length bs) o ≡ true) (sym n) refl
]

params_same : (fs : List Func) → map (λ (g : Func). g.params) (map func_inserted fs) ≡ map (λ (g : Func). g.params) fs
params_same [] = refl
params_same (f ∷ fs) = ap (λ r. f.params ∷ r) (params_same fs)

func_valid : (x : Ir) (f : Func) → are_nodes (scope_of x f) outside f.nodes ≡ true → func_erased f ≡ f → are_nodes (scope_of (ir_inserted x) (func_inserted f)) outside (func_inserted f).nodes ≡ true
func_valid x f e g =
    let bs = bases_of f in
    let out = inserted (slot_if bs) f.nodes in
    let bare : are_nodes (with_slots (scope_of x f) 0) outside f.nodes ≡ true
    = subst (λ (ns : Nodes). are_nodes (with_slots (scope_of x f) 0) outside ns ≡ true) (bare_nodes x f e g) (erased_valid (scope_of x f) outside f.nodes e) in
    let still : are_nodes (with_slots (scope_of x f) (length bs)) outside out ≡ true
    = inserted_valid (with_slots (scope_of x f) 0) (length bs) (omega arith) (slot_if bs) (slot_below bs) outside f.nodes bare in
    subst (λ (l : List ℕ). are_nodes (record { temps = f.temps; slots = length bs; objects = length f.objects; globals = length x.globals; literals = length x.literals; params = l }) outside out ≡ true)
    (sym (params_same x.funcs)) still

pub whole_valid : (x : Ir) → is_valid x ≡ true → ir_erased x ≡ x → is_valid (ir_inserted x) ≡ true
whole_valid x e g =
    all_true (λ f. are_nodes (scope_of (ir_inserted x) f) outside f.nodes) (map func_inserted x.funcs)
    (every_is (λ f. are_nodes (scope_of (ir_inserted x) f) outside f.nodes ≡ true) x (func_valid x) e g)

-- ---- what is erased

funcs_erased : (fs : List Func) → map func_erased (map func_inserted fs) ≡ map func_erased fs
funcs_erased [] = refl
funcs_erased (f ∷ fs) = λ i. record { params = f.params; temps = f.temps; slots = 0; objects = f.objects; nodes = erase_inserted (slot_if (bases_of f)) f.nodes i } ∷ funcs_erased fs i

pub whole_erased : (x : Ir) → ir_erased (ir_inserted x) ≡ ir_erased x
whole_erased x = λ i. record { globals = x.globals; literals = x.literals; funcs = funcs_erased x.funcs i; main = x.main }
