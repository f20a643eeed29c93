-- Programs with their Looks hoisted.
use Rattle.std.proofs.lemmas.List.{drop_all}
use Rattle.std.proofs.Common.{◌≡◌, ℕ, ◌≤◌, List, [], ◌∷◌, map, drop, length, Option, Bool, true, inl, inr, refl, sym, ap, subst, ◌∙◌}
use Rattle.std.specs.List.{AllByRecursion}
use Rattle.struct_ir.specs.Nodes.{Func, Ir, Nodes}
use Rattle.struct_ir.specs.Erased.{erased, func_erased, ir_erased}
use Rattle.struct_ir.specs.Valid.{scope_of, outside, are_nodes, is_valid}
use Rattle.struct_ir.specs.Safe.{EveryFunc}
use Rattle.pin_flow.specs.Funcs.{IsCovered, IsHoisted, IsHoistedThroughout}
use Rattle.pin_flow.specs.Slots.{bases_of, slot_in, slot_if, IsIn, IsOwn, HasOwnSlots}
use Rattle.pin_flow.proofs.Registers.{base_below}
use Rattle.pin_flow.proofs.EachFunc.{all_true, true_all}
use Rattle.pin_flow.proofs.Bases.{same_bases, slots_are_apart, slot_known}
use Rattle.hoist_pass.specs.inner.Hoist.{hoisted, hoisted_one, hoisted_for, hoisted_each, func_hoisted, ir_hoisted, HoistIsRight}
use Rattle.hoist_pass.proofs.Hoisted.{hoisting_is_right, all_erased}
use Rattle.hoist_pass.proofs.HoistedValid.{hoisted_valid}

-- each base has its slot
hoisted_known : (bs : List ℕ) (some : List ℕ) → ((b : ℕ) → IsIn some b → IsIn bs b) → (ns : Nodes) → hoisted_each (slot_if bs) some ns ≡ hoisted (slot_in bs) some ns
hoisted_known bs [] h ns = refl
hoisted_known bs (b ∷ some) h ns =
    ap (λ o. hoisted_each (slot_if bs) some (hoisted_for o b ns)) (slot_known bs b (h b (inl refl)))
    ∙ hoisted_known bs some (λ c i. h c (inr i)) (hoisted_one (slot_in bs b) b ns)

pub hoisted_is : (bs : List ℕ) (ns : Nodes) → hoisted_each (slot_if bs) bs ns ≡ hoisted (slot_in bs) bs ns
hoisted_is bs ns = hoisted_known bs bs (λ b i. i) ns

pub each_end : (s : ℕ → Option ℕ) (bs : List ℕ) (i : ℕ) (out all : Nodes) → length bs ≤ i → hoisted_each s (drop i bs) out ≡ all → out ≡ all
each_end s bs i out all le e = ap (λ l. hoisted_each s l out) (sym (drop_all i bs le)) ∙ e

pub func_erased_same : (f : Func) → erased (func_hoisted f).nodes ≡ erased f.nodes
func_erased_same f = ap erased (hoisted_is (bases_of f) f.nodes) ∙ all_erased (slot_in (bases_of f)) (bases_of f) f.nodes

module _ (f : Func) (slots : HasOwnSlots f) where
  right : HoistIsRight (slot_in (bases_of f)) (bases_of f) f.nodes (func_hoisted f).nodes
  right = subst (λ (ns : Nodes). HoistIsRight (slot_in (bases_of f)) (bases_of f) f.nodes ns) (sym (hoisted_is (bases_of f) f.nodes))
      (hoisting_is_right (slot_in (bases_of f)) (slots_are_apart (bases_of f)) (bases_of f) f.nodes slots.own slots.looks_at_bases)

  bases_same : bases_of (func_hoisted f) ≡ bases_of f
  bases_same = same_bases f.temps f.nodes (func_hoisted f).nodes (func_erased_same f)

  pub func_covered : IsCovered f → IsCovered (func_hoisted f)
  func_covered c = right.covered c

  pub func_is_hoisted : IsHoisted (func_hoisted f)
  func_is_hoisted = right.hoisted

  pub func_throughout : IsHoistedThroughout (func_hoisted f)
  func_throughout = right.throughout

  pub func_slots : HasOwnSlots (func_hoisted f)
  func_slots = record {
    few = slots.few ∙ ap (λ (l : List ℕ). length l) (sym bases_same);
    own = subst (λ (l : List ℕ). IsOwn (slot_in l) (func_hoisted f).nodes) (sym bases_same) right.own;
    looks_at_bases = λ b e. subst (λ (l : List ℕ). IsIn l b) (sym bases_same) (right.looks b e);
  }

all_are : (P Q R : Func → Type 0) → ((f : Func) → P f → Q f → R (func_hoisted f)) → (fs : List Func) → AllByRecursion P fs → AllByRecursion Q fs → AllByRecursion R (map func_hoisted fs)
all_are P Q R each [] p q = tt
all_are P Q R each (f ∷ fs) p q = (each f p.0 q.0, all_are P Q R each fs p.1 q.1)

pub every_is : (P Q R : Func → Type 0) → ((f : Func) → P f → Q f → R (func_hoisted f)) → (x : Ir) → EveryFunc P x → EveryFunc Q x → EveryFunc R (ir_hoisted x)
every_is P Q R each x p q = all_are P Q R each x.funcs p q

-- ---- valid code

params_same : (fs : List Func) → map (λ (g : Func). g.params) (map func_hoisted fs) ≡ map (λ (g : Func). g.params) fs
params_same [] = refl
params_same (f ∷ fs) = ap (λ r. f.params ∷ r) (params_same fs)

func_valid : (x : Ir) (f : Func) → HasOwnSlots f → are_nodes (scope_of x f) outside f.nodes ≡ true → are_nodes (scope_of (ir_hoisted x) (func_hoisted f)) outside (func_hoisted f).nodes ≡ true
func_valid x f slots e =
    let bs = bases_of f in
    let out = hoisted (slot_in bs) bs f.nodes in
    let still : are_nodes (scope_of x f) outside out ≡ true = hoisted_valid (scope_of x f) bs slots.few (base_below f.temps f.nodes) bs (λ b i. i) outside f.nodes e in
    let same : are_nodes (scope_of x f) outside (func_hoisted f).nodes ≡ true = subst (λ (ns : Nodes). are_nodes (scope_of x f) outside ns ≡ true) (sym (hoisted_is bs f.nodes)) still in
    subst (λ (l : List ℕ). are_nodes (record { temps = f.temps; slots = f.slots; objects = length f.objects; globals = length x.globals; literals = length x.literals; params = l }) outside (func_hoisted f).nodes ≡ true)
    (sym (params_same x.funcs)) same

pub whole_valid : (x : Ir) → EveryFunc HasOwnSlots x → is_valid x ≡ true → is_valid (ir_hoisted x) ≡ true
whole_valid x slots e =
    let before : Func → Bool = λ f. are_nodes (scope_of x f) outside f.nodes in
    let after : Func → Bool = λ f. are_nodes (scope_of (ir_hoisted x) f) outside f.nodes in
    all_true after (map func_hoisted x.funcs) (every_is HasOwnSlots (λ f. before f ≡ true) (λ f. after f ≡ true) (func_valid x) x slots (true_all before x.funcs e))

-- ---- what is erased

funcs_erased : (fs : List Func) → map func_erased (map func_hoisted fs) ≡ map func_erased fs
funcs_erased [] = refl
funcs_erased (f ∷ fs) = λ i. record { params = f.params; temps = f.temps; slots = 0; objects = f.objects; nodes = func_erased_same f i } ∷ funcs_erased fs i

pub whole_erased : (x : Ir) → ir_erased (ir_hoisted x) ≡ ir_erased x
whole_erased x = λ i. record { globals = x.globals; literals = x.literals; funcs = funcs_erased x.funcs i; main = x.main }
