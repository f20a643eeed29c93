-- One pin slot for each register that is the base of an access.
use Rattle.std.specs.Prelude.{◌≡◌, ◌==◌, ◌⊎◌, not, ℕ, zero, suc, length, List, [], ◌∷◌, ◌++◌, Option, Some, None, Bool, true, false, ◌||◌, ◌&&◌, if◌then◌else◌}
use Rattle.struct_ir.specs.Nodes.{Place, Act, set, call, step, look, safepoint, begin_object, end_object, Nodes, Func, places_of}
use Rattle.pin_flow.specs.Looks.{some_act}
use Rattle.pin_flow.specs.Live.{is_slot}

-- an access of the list has this base
abbrev pub has_base : (b : ℕ) → List Place → Bool
has_base b [] = false
has_base b (a ∷ rest) = (a.base == b) || has_base b rest

-- an access of the act has it
abbrev pub accesses : (b : ℕ) → Act → Bool
accesses b a = has_base b (places_of a)

-- the registers below this that are the base of an access, in order
abbrev pub bases_below : ℕ → Nodes → List ℕ
bases_below zero ns = []
bases_below (suc b) ns = if some_act (accesses b) ns then bases_below b ns ++ (b ∷ []) else bases_below b ns

-- the registers of a function that are the base of an access, in order
abbrev pub bases_of : Func → List ℕ
bases_of f = bases_below f.temps f.nodes

-- ---- slots

-- the slot of a register: its number among the bases; of one that is no base a number behind them
abbrev pub slot_in : List ℕ → (b : ℕ) → ℕ
slot_in [] b = b
slot_in (c ∷ rest) b = if b == c then 0 else suc (slot_in rest b)

-- the number behind it
abbrev pub one_more : Option ℕ → Option ℕ
one_more None = None
one_more (Some s) = Some (suc s)

-- the slot of a register, or none where it is no base
abbrev pub slot_if : List ℕ → (b : ℕ) → Option ℕ
slot_if [] b = None
slot_if (c ∷ rest) b = if b == c then Some 0 else one_more (slot_if rest b)

-- it is one of these
abbrev pub IsIn : List ℕ → (b : ℕ) → Type 0
IsIn [] b = ⊥
IsIn (c ∷ rest) b = (b ≡ c) ⊎ IsIn rest b

-- no two registers have the same slot
abbrev pub AreApart : (ℕ → ℕ) → Type 0
AreApart slot_of = (b c : ℕ) → slot_of b ≡ slot_of c → b ≡ c

-- each access is through the slot of its base
abbrev pub all_own : (ℕ → ℕ) → List Place → Bool
all_own slot_of [] = true
all_own slot_of (a ∷ rest) = is_slot (slot_of a.base) a.slot && all_own slot_of rest

-- a Look is into the slot of its register
abbrev pub look_own : (ℕ → ℕ) → Act → Bool
look_own slot_of (set to calc) = true
look_own slot_of (call c) = true
look_own slot_of (step x) = true
look_own slot_of (look slot base) = slot == slot_of base
look_own slot_of (safepoint slots) = true
look_own slot_of (begin_object i) = true
look_own slot_of (end_object i) = true

-- the act has the slots of its registers
abbrev pub own : (ℕ → ℕ) → Act → Bool
own slot_of a = look_own slot_of a && all_own slot_of (places_of a)

-- each act has
abbrev pub IsOwn : (ℕ → ℕ) → Nodes → Type 0
IsOwn slot_of ns = some_act (λ a. not (own slot_of a)) ns ≡ false

-- a function has as many slots as bases, each Look and each access is through the slot of its register, and Looks are of bases alone
pub record HasOwnSlots (f : Func) : Type 0 where
  pub few : f.slots ≡ length (bases_of f)
  pub own : IsOwn (slot_in (bases_of f)) f.nodes
  pub looks_at_bases : (b : ℕ) → some_act (Rattle.pin_flow.specs.Looks.act_looks b) f.nodes ≡ true → IsIn (bases_of f) b
