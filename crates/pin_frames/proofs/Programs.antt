-- Programs with their safepoints and lists.
use Rattle.std.proofs.lemmas.List.{drop_all}
use Rattle.std.proofs.lemmas.Bool.{and_from, and_parts, both_ways, or_cases}
use Rattle.std.proofs.Common.{◌≡◌, ℕ, ◌<◌, ◌≤◌, List, [], ◌∷◌, map, drop, length, Option, None, Bool, true, false, ◌&&◌, ◌==◌, inl, inr, refl, sym, ap, subst, ◌∙◌}
use Rattle.std.specs.Prelude.{not}
use Rattle.std.specs.List.{AllByRecursion, list_all}
use Rattle.struct_ir.specs.Nodes.{Place, Act, safepoint, Func, Ir, Nodes, no_nodes}
use Rattle.struct_ir.specs.Structured.{done, then_, structured}
use Rattle.struct_ir.specs.Erased.{erased, func_erased, ir_erased}
use Rattle.struct_ir.specs.Placed.{are_due, all_due}
use Rattle.struct_ir.specs.Valid.{Scope, Around, scope_of, outside, are_nodes, is_valid, are_placed}
use Rattle.pin_flow.specs.Marks.{bad, Each}
use Rattle.pin_flow.specs.Looks.{some_act, act_looks, Covered, PinsExact}
use Rattle.pin_flow.specs.Points.{PinsExactAtPoints}
use Rattle.pin_flow.specs.Held.{fresh, HoistedThroughout}
use Rattle.pin_flow.specs.Live.{is_slot, has, uses}
use Rattle.struct_ir.specs.Safe.{EveryFunc, IsPinSafe}
use Rattle.pin_flow.specs.Funcs.{IsCovered, IsHoisted, IsHoistedAtPoints, IsHoistedThroughout, IsExact, IsExactAtPoints}
use Rattle.pin_flow.specs.Slots.{has_base, accesses, bases_of, slot_in, own, IsIn, IsOwn, HasOwnSlots}
use Rattle.pin_flow.proofs.Strip.{by_bool}
use Rattle.pin_flow.proofs.At.{some_finds}
use Rattle.pin_flow.proofs.Numbered.{throughout_at_points}
use Rattle.pin_flow.proofs.Bases.{some_erased, same_bases, base_in, slots_are_few, slots_are_apart}
use Rattle.pin_flow.proofs.Covers.{Serves, covered_each, each_covered}
use Rattle.pin_frames.specs.inner.Place.{act_listing, listed, none_held, none_later, placed, cleared, listed_each, func_placed, ir_placed, PlaceIsRight}
use Rattle.pin_frames.proofs.Listed.{uses_listing, erase_listed, some_listed, each_listed}
use Rattle.pin_frames.proofs.Seat.{sat, erase_seated}
use Rattle.pin_frames.proofs.Stand.{stands_placed}
use Rattle.pin_frames.proofs.Due.{due_row, due_listed}
use Rattle.pin_frames.proofs.Hoists.{looks_listing, hoisted_cleared, throughout_placed, throughout_is_hoisted}
use Rattle.pin_frames.proofs.OneByOne.{cleared_is, each_is_placed}
use Rattle.pin_frames.proofs.Placed as placing
use Rattle.pin_flow.proofs.Registers.{some_below}
use Rattle.mark_sets.proofs.HomeSlots.{bases_once}
use Rattle.pin_frames.proofs.Valid.{valid_listed, valid_seated}

pub each_end : (s : ℕ → Option ℕ) (bs : List ℕ) (i : ℕ) (out all : Nodes) → length bs ≤ i → listed_each s (drop i bs) out ≡ all → out ≡ all
each_end s bs i out all le e = ap (λ l. listed_each s l out) (sym (drop_all i bs le)) ∙ e

-- what uses a slot for a register, has it as its base
has_is_base : (s b : ℕ) (list : List Place) → has s b list ≡ true → has_base b list ≡ true
has_is_base s b [] e = e
has_is_base s b (a ∷ rest) e = elim (or_cases ((a.base == b) && is_slot s a.slot) (has s b rest) e) [
  | inl g ↦ (let h = (and_parts (a.base == b) (is_slot s a.slot) g).0 in rw h refl)
  | inr g ↦ (let h = has_is_base s b rest g in Rattle.std.proofs.lemmas.Bool.or_right (a.base == b) (has_base b rest) h)
]

used_base : (s b : ℕ) (ns : Nodes) → some_act (uses s b) ns ≡ true → some_act (accesses b) ns ≡ true
used_base s b ns e =
    by_bool (λ x. some_act (accesses b) ns ≡ x → x ≡ true) (some_act (accesses b) ns) (λ g h. refl)
    (λ g h. some_finds (uses s b) (accesses b) (false ≡ true) (λ a u n. absurd (both_ways (accesses b a) n (has_is_base s b (Rattle.struct_ir.specs.Nodes.places_of a) u))) ns e h) refl

module _ (f : Func) where
  abbrev bs : List ℕ
  bs = bases_of f

  abbrev S : ℕ → ℕ
  S b = slot_in bs b

  abbrev bare : Nodes
  bare = cleared f.nodes

  placed_is : (func_placed f).nodes ≡ placed S bs bare
  placed_is = each_is_placed bs f.nodes

  bare_is : listed S [] f.nodes none_held none_later ≡ bare
  bare_is = cleared_is S f.nodes none_held none_later

  some_bare : (g : Act → Bool) → ((a : Act) (l : List ℕ) → g (act_listing a l) ≡ g a) → some_act g bare ≡ some_act g f.nodes
  some_bare g same = ap (some_act g) (sym bare_is) ∙ some_listed S [] g same f.nodes none_held none_later

  pub func_erased_same : erased (func_placed f).nodes ≡ erased f.nodes
  func_erased_same = ap erased placed_is ∙ (erase_listed S bs (sat bare) none_held none_later ∙ (erase_seated bare ∙ (ap erased (sym bare_is) ∙ erase_listed S [] f.nodes none_held none_later)))

  pub func_stands : are_placed None (func_placed f).nodes ≡ true
  func_stands = ap (are_placed None) placed_is ∙ stands_placed S bs bare

  pub func_due : are_due false false (func_placed f).nodes ≡ true
  func_due = ap (are_due false false) placed_is ∙ (due_listed S bs false false (sat bare) none_held none_later ∙ due_row false bare no_nodes (λ b. refl) false)

  pub func_throughout : IsHoistedThroughout f → IsHoistedThroughout (func_placed f)
  func_throughout h = subst (λ (ns : Nodes). HoistedThroughout ns) (sym placed_is) (throughout_placed S bs bare (subst (λ (ns : Nodes). HoistedThroughout ns) bare_is (hoisted_cleared S f.nodes h)))

  pub func_hoisted : IsHoistedThroughout f → IsHoisted (func_placed f)
  func_hoisted h = throughout_is_hoisted (func_placed f).nodes (func_throughout h)

  pub func_hoisted_at_points : IsHoistedThroughout f → IsHoistedAtPoints (func_placed f)
  func_hoisted_at_points h = throughout_at_points (func_placed f).nodes (func_throughout h)

  bases_same : bases_of (func_placed f) ≡ bs
  bases_same = same_bases f.temps f.nodes (func_placed f).nodes func_erased_same

  -- each access has a register of the function as its base
  abbrev pub IsNamed : Type 0
  IsNamed = (b : ℕ) → some_act (accesses b) f.nodes ≡ true → b < f.temps

  module _ (named : IsNamed) (slots : HasOwnSlots f) where
    own_bare : IsOwn S bare
    own_bare = some_bare (λ a. not (own S a)) (λ a l. ap not (placing.own_listing S a l)) ∙ slots.own

    among : (b : ℕ) → some_act (uses (S b) b) bare ≡ true → IsIn bs b
    among b e =
        let g = used_base (S b) b f.nodes (sym (some_bare (uses (S b) b) (λ a l. uses_listing (S b) b a l)) ∙ e) in
        base_in f.temps f.nodes b (named b g) g

    right : PlaceIsRight S bs bare
    right = placing.placing_is_right S (slots_are_apart bs) bs bare own_bare among

    pub func_exact : IsExact (func_placed f)
    func_exact = subst (λ (ns : Nodes). PinsExact ns) (sym placed_is) right.exact

    pub func_exact_at_points : IsExactAtPoints (func_placed f)
    func_exact_at_points = subst (λ (ns : Nodes). PinsExactAtPoints ns) (sym placed_is) right.exact_at_points

    covered_bare : IsCovered f → Covered structured (then_ bare done)
    covered_bare c = each_covered S bare own_bare (λ b. subst (λ (ns : Nodes). Each (Serves (S b) b) (fresh (S b) b) ns bad) bare_is
        (each_listed S [] (fresh (S b) b) (placing.fresh_listing (S b) b) (Serves (S b) b) (λ a l t q. placing.serves_listing (S b) b a l t q) f.nodes none_held none_later bad (covered_each f.nodes c (S b) b)))

    pub func_safe : IsCovered f → IsPinSafe (func_placed f)
    func_safe c = subst (λ (ns : Nodes). Rattle.struct_ir.specs.Pins.PinSafe structured (then_ ns done)) (sym placed_is) (right.safe (covered_bare c))

    some_placed : (g : Act → Bool) → ((l : List ℕ) → g (safepoint l) ≡ false) → ((a : Act) (l : List ℕ) → g (act_listing a l) ≡ g a) → some_act g (func_placed f).nodes ≡ some_act g f.nodes
    some_placed g blind same = ap (some_act g) placed_is ∙ (placing.out_some S (slots_are_apart bs) bs bare own_bare among g blind same ∙ some_bare g same)

    pub func_slots : HasOwnSlots (func_placed f)
    func_slots = record {
      few = slots.few ∙ ap (λ (l : List ℕ). length l) (sym bases_same);
      own = subst (λ (l : List ℕ). IsOwn (slot_in l) (func_placed f).nodes) (sym bases_same) (some_placed (λ a. not (own S a)) (λ l. refl) (λ a l. ap not (placing.own_listing S a l)) ∙ slots.own);
      looks_at_bases = λ b e. subst (λ (l : List ℕ). IsIn l b) (sym bases_same) (slots.looks_at_bases b (sym (some_placed (act_looks b) (λ l. refl) (looks_listing b)) ∙ e));
    }

  pub func_valid : HasOwnSlots f → (x : Scope) → x.slots ≡ f.slots → (w : Around) → are_nodes x w f.nodes ≡ true → are_nodes x w (func_placed f).nodes ≡ true
  func_valid slots x same w e =
      let apart = slots_are_apart bs in
      let less : (b : ℕ) → IsIn bs b → S b < x.slots = λ b i. subst (λ y. S b < y) (sym (same ∙ slots.few)) (slots_are_few bs b i) in
      let first : are_nodes x w bare ≡ true = ap (are_nodes x w) (sym bare_is) ∙ valid_listed x S apart [] tt (λ b i. absurd i) w f.nodes none_held none_later e in
      ap (are_nodes x w) placed_is ∙ valid_listed x S apart bs (bases_once f.temps f.nodes) less w (sat bare) none_held none_later (valid_seated x w bare no_nodes first refl)

-- ---- all functions

-- of valid code, once erased
named_of : (p : Ir) (f : Func) → are_nodes (scope_of p (func_erased f)) outside (erased f.nodes) ≡ true → IsNamed f
named_of p f e b h = some_below b (scope_of p (func_erased f)) outside (erased f.nodes) e (some_erased b f.nodes ∙ h)

all_named : (p : Ir) (fs : List Func) → list_all (λ f. are_nodes (scope_of p f) outside f.nodes) (map func_erased fs) ≡ true → AllByRecursion IsNamed fs
all_named p [] e = tt
all_named p (f ∷ fs) e = let q = and_parts (are_nodes (scope_of p (func_erased f)) outside (erased f.nodes)) _ e in (named_of p f q.0, all_named p fs q.1)

pub every_named : (x : Ir) → is_valid (ir_erased x) ≡ true → EveryFunc IsNamed x
every_named x e = all_named (ir_erased x) x.funcs e

all_are : (P Q R : Func → Type 0) → ((f : Func) → P f → Q f → R (func_placed f)) → (fs : List Func) → AllByRecursion P fs → AllByRecursion Q fs → AllByRecursion R (map func_placed fs)
all_are P Q R each [] p q = tt
all_are P Q R each (f ∷ fs) p q = (each f p.0 q.0, all_are P Q R each fs p.1 q.1)

pub every_is : (P Q R : Func → Type 0) → ((f : Func) → P f → Q f → R (func_placed f)) → (x : Ir) → EveryFunc P x → EveryFunc Q x → EveryFunc R (ir_placed x)
every_is P Q R each x p q = all_are P Q R each x.funcs p q

all_both : (P Q : Func → Type 0) (fs : List Func) → AllByRecursion P fs → AllByRecursion Q fs → AllByRecursion (λ f. P f × Q f) fs
all_both P Q [] p q = tt
all_both P Q (f ∷ fs) p q = ((p.0, q.0), all_both P Q fs p.1 q.1)

pub every_both : (P Q : Func → Type 0) (x : Ir) → EveryFunc P x → EveryFunc Q x → EveryFunc (λ f. P f × Q f) x
every_both P Q x p q = all_both P Q x.funcs p q

funcs_stand : (fs : List Func) → list_all (λ f. are_placed None f.nodes) (map func_placed fs) ≡ true
funcs_stand [] = refl
funcs_stand (f ∷ fs) = and_from _ _ (func_stands f) (funcs_stand fs)

pub every_stands : (x : Ir) → list_all (λ f. are_placed None f.nodes) (ir_placed x).funcs ≡ true
every_stands x = funcs_stand x.funcs

funcs_due : (fs : List Func) → list_all (λ f. are_due false false f.nodes) (map func_placed fs) ≡ true
funcs_due [] = refl
funcs_due (f ∷ fs) = and_from _ _ (func_due f) (funcs_due fs)

pub every_due : (x : Ir) → all_due (ir_placed x) ≡ true
every_due x = funcs_due x.funcs

funcs_erased : (fs : List Func) → map func_erased (map func_placed fs) ≡ map func_erased fs
funcs_erased [] = refl
funcs_erased (f ∷ fs) = λ i. record { params = f.params; temps = f.temps; slots = 0; objects = f.objects; nodes = func_erased_same f i } ∷ funcs_erased fs i

pub whole_erased : (x : Ir) → ir_erased (ir_placed x) ≡ ir_erased x
whole_erased x = λ i. record { globals = x.globals; literals = x.literals; funcs = funcs_erased x.funcs i; main = x.main }

same_params : (fs : List Func) → map (λ (g : Func). g.params) (map func_placed fs) ≡ map (λ (g : Func). g.params) fs
same_params [] = refl
same_params (f ∷ fs) = ap (λ l. f.params ∷ l) (same_params fs)

same_scope : (x : Ir) (f : Func) → scope_of (ir_placed x) (func_placed f) ≡ scope_of x f
same_scope x f = λ i. record { temps = f.temps; slots = f.slots; objects = length f.objects; globals = length x.globals; literals = length x.literals; params = same_params x.funcs i }

funcs_valid : (x : Ir) (fs : List Func) → AllByRecursion HasOwnSlots fs → list_all (λ f. are_nodes (scope_of x f) outside f.nodes) fs ≡ true → list_all (λ f. are_nodes (scope_of (ir_placed x) f) outside f.nodes) (map func_placed fs) ≡ true
funcs_valid x [] q e = refl
funcs_valid x (f ∷ fs) q e =
    let p = and_parts (are_nodes (scope_of x f) outside f.nodes) _ e in
    and_from _ _ (ap (λ s. are_nodes s outside (func_placed f).nodes) (same_scope x f) ∙ func_valid f q.0 (scope_of x f) refl outside p.0) (funcs_valid x fs q.1 p.1)

pub whole_valid : (x : Ir) → EveryFunc HasOwnSlots x → is_valid x ≡ true → is_valid (ir_placed x) ≡ true
whole_valid x q e = funcs_valid x x.funcs q e
