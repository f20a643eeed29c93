-- Registers that have slots, sets of their slots, and acts that keep them.
use Rattle.std.specs.Prelude.{◌≡◌, ◌<◌, ◌^◌, not, ℕ, List, [], ◌∷◌, length, Some, Bool, ◌||◌, ◌&&◌}
use Rattle.struct_ir.specs.Nodes.{Act, Node}
use Rattle.pin_flow.specs.declared.mark.Mark.TheVariants as kinds
use Rattle.pin_flow.specs.Looks.{act_looks, act_assigns, looks_into}
use Rattle.pin_flow.specs.Slots.{slot_if, IsIn}
use Rattle.pin_flow.specs.Views.{looks_at, looks_slot, assigns_at}
use Rattle.pin_flow.specs.Live.{Live, lives}
use Rattle.mark_sets.specs.declared.homes.Homes.{Homes}
use Rattle.mark_sets.specs.Views.{bit_of}
use Rattle.mark_sets.specs.Words.{has}

-- ---- registers and their slots

-- each stands once
abbrev pub AreOnce : List ℕ → Type 0
AreOnce [] = Unit {0}
AreOnce (b ∷ bs) = (IsIn bs b → ⊥) × AreOnce bs

-- there are few enough, each stands once, and its bit is its slot
pub record IsHome (x : Homes) : Type 0 where
  pub few : length x.bases.items < 2 ^ 32
  pub once : AreOnce x.bases.items
  pub bits : (b : ℕ) → bit_of x.marks (kinds.Held b) ≡ slot_if x.bases.items b

-- so it is with these
unfoldable pub AreHomes : Homes → Type 0
AreHomes x = IsHome x

-- ---- sets

-- of each of the registers the set says whether its slot is used later
abbrev pub Tells : List ℕ → List ℕ → (ℕ → ℕ → Bool) → Type 0
Tells bs set used = (b i : ℕ) → slot_if bs b ≡ Some i → has set i ≡ used i b

-- what these three sets say of a slot
abbrev pub lives_in : (on out end : List ℕ) → (i : ℕ) → Live
lives_in on out end i = lives (has on i) (has out i) (has end i)

-- ---- acts

-- the act doesn't assign b, and looks into the slot for b alone
abbrev pub keeps : (slot b : ℕ) → Act → Bool
keeps slot b a = not (act_assigns b a) && (not (looks_into slot a) || act_looks b a)

-- the same of a node that is an act
abbrev pub node_keeps : (slot b : ℕ) → Node → Bool
node_keeps slot b n = not (assigns_at b n) && (not (looks_slot slot n) || looks_at b n)
