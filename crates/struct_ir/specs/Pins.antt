-- What a path says of a pin slot, where a slot is available, and which code is safe for moves.
use Rattle.std.specs.Prelude.{◌≡◌, not, ℕ, List, [], ◌∷◌, Option, Some, None, Bool, true, false, ◌==◌, ◌&&◌, ◌||◌, ◌⊎◌, if◌then◌else◌}
use Rattle.std.specs.List.{list_any}
use Rattle.struct_ir.specs.Nodes.{Place, Act, set, call, step, look, safepoint, begin_object, end_object, places_of, own_list}
use Rattle.struct_ir.specs.Flow.{Here, does, tests, passes, round, returns, Flow, Path}

-- no Look into the slot yet; or the register of the last one, whether it was assigned since, and whether a list passed since lacks the slot
pub data Fact : Type 0 where
  unlooked : Fact
  looked : (base : ℕ) (stale lacked : Bool) → Fact

-- the list lacks the slot
abbrev pub lacks : ℕ → List ℕ → Bool
lacks s list = not (list_any (λ x. x == s) list)

-- there is a list, and it lacks the slot
abbrev pub lacks_if : ℕ → Option (List ℕ) → Bool
lacks_if s None = false
lacks_if s (Some list) = lacks s list

-- behind an assignment of a register
abbrev pub assigning : Option ℕ → Fact → Fact
assigning None f = f
assigning (Some to) unlooked = unlooked
assigning (Some to) (looked base stale lacked) = looked base (stale || (base == to)) lacked

-- behind a list; out: it lacks the slot
abbrev pub listing : Bool → Fact → Fact
listing out unlooked = unlooked
listing out (looked base stale lacked) = looked base stale (lacked || out)

-- behind an act
abbrev pub doing : ℕ → Act → Fact → Fact
doing s (set to calc) f = assigning (Some to) f
doing s (call c) f = assigning c.to (listing (lacks s c.slots) f)
doing s (step x) f = assigning x.to (listing (lacks_if s (own_list x)) f)
doing s (look slot base) f = if slot == s then looked base false false else f
doing s (safepoint slots) f = listing (lacks s slots) f
doing s (begin_object i) f = f
doing s (end_object i) f = f

-- behind what stands at a position
abbrev pub passing : ℕ → Here → Fact → Fact
passing s (does place a) f = doing s a f
passing s (tests place temp) f = f
passing s passes f = f
passing s round f = f
passing s (returns temp) f = f

-- what the positions passed, the last one first, say of the slot
abbrev pub facts : {P : Type 0} → Flow P → ℕ → List P → Fact
facts C s [] = unlooked
facts C s (k ∷ w) = passing s (C.here k) (facts C s w)

-- ---- available slots

-- the last Look was of b, which wasn't assigned since
abbrev pub is_fresh : ℕ → Fact → Bool
is_fresh b unlooked = false
is_fresh b (looked base stale lacked) = (base == b) && not stale

-- on every path to k the last Look into the slot is of b, which wasn't assigned since
abbrev pub Available : {P : Type 0} → Flow P → P → (slot b : ℕ) → P → Type 0
Available {P} C start slot b k = (w : List P) → Path C start w k → is_fresh b (facts C slot w) ≡ true

-- an access of the list
abbrev pub Among : List Place → Place → Type 0
Among [] a = ⊥
Among (b ∷ rest) a = (a ≡ b) ⊎ Among rest a

-- ---- safe code

-- the list of a step that may wait
abbrev pub held_by : Act → Option (List ℕ)
held_by (step s) = own_list s
held_by a = None

-- after this way the access has a slot; the last Look into it was of its base, which wasn't assigned since, and each list since has
-- the slot, the act's own too
pub record IsPlaced {P : Type 0} (C : Flow P) (w : List P) (act : Act) (a : Place) : Type 0 where
  pub slot : ℕ
  pub named : a.slot ≡ Some slot
  pub looked_for : facts C slot w ≡ looked a.base false false
  pub held : lacks_if slot (held_by act) ≡ false

-- each access of the act
abbrev pub IsPinned : {P : Type 0} → Flow P → List P → Act → Type 0
IsPinned C w act = (a : Place) → Among (places_of act) a → IsPlaced C w act a

-- on every path, each act is pinned
pub record PinSafe {P : Type 0} (C : Flow P) (start : P) : Type 0 where
  pub each : (w : List P) (k : P) → Path C start w k → (place : ℕ) (act : Act) → C.here k ≡ does place act → IsPinned C w act
