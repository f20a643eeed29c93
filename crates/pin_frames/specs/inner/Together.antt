-- All slots at once: sets of slots, and lists of those that are used later.
use Rattle.std.specs.Prelude.{◌≡◌, ℕ, zero, suc, List, [], ◌∷◌, Some, Bool, true, if◌then◌else◌}
use Rattle.struct_ir.specs.Nodes.{Node, plain, if_, loop, break_, next_, ret, Nodes, no_nodes, more_nodes}
use Rattle.pin_flow.specs.Slots.{slot_if}
use Rattle.pin_flow.specs.Live.{Live, lives, live_act, live, body_lives, latch_lives}
use Rattle.mark_sets.specs.Homes.{lives_in, keeps}
use Rattle.mark_sets.specs.Words.{has}
use Rattle.pin_frames.specs.inner.Place.{act_listing, rest_lives}

-- ---- sets

-- the numbers of a function, from i on n of them, of which this is so
abbrev pub numbers : (ℕ → Bool) → (i n : ℕ) → List ℕ
numbers f i zero = []
numbers f i (suc n) = if f i then i ∷ numbers f (suc i) n else numbers f (suc i) n

-- ---- lists by what is used later alone

-- the slots of those registers that are used later
abbrev pub slots_for : (ℕ → ℕ) → List ℕ → (ℕ → Bool) → List ℕ
slots_for slot_of [] later = []
slots_for slot_of (b ∷ bs) later = if later b then slot_of b ∷ slots_for slot_of bs later else slots_for slot_of bs later

-- each list has the slots that are used at the act or later
abbrev mutual
  pub used_listed : (ℕ → ℕ) → List ℕ → Nodes → (ℕ → Live) → Nodes
  used_listed slot_of bs no_nodes ls = no_nodes
  used_listed slot_of bs (more_nodes n rest) ls = more_nodes (used_listed_in slot_of bs n (rest_lives slot_of rest ls)) (used_listed slot_of bs rest ls)

  pub used_listed_in : (ℕ → ℕ) → List ℕ → Node → (ℕ → Live) → Node
  used_listed_in slot_of bs (plain place a) ls = plain place (act_listing a (slots_for slot_of bs (λ b. live_act (slot_of b) b a (ls b).on)))
  used_listed_in slot_of bs (if_ place temp one other) ls = if_ place temp (used_listed slot_of bs one ls) (used_listed slot_of bs other ls)
  used_listed_in slot_of bs (loop place body latch) ls =
      loop place (used_listed slot_of bs body (λ b. body_lives (slot_of b) b body latch (ls b).on)) (used_listed slot_of bs latch (λ b. latch_lives (slot_of b) b body latch (ls b).on))
  used_listed_in slot_of bs (break_ place) ls = break_ place
  used_listed_in slot_of bs (next_ place) ls = next_ place
  used_listed_in slot_of bs (ret place temp) ls = ret place temp

-- a node with this list, where it has one
abbrev pub node_listing : Node → List ℕ → Node
node_listing (plain place a) list = plain place (act_listing a list)
node_listing (if_ place temp one other) list = if_ place temp one other
node_listing (loop place body latch) list = loop place body latch
node_listing (break_ place) list = break_ place
node_listing (next_ place) list = next_ place
node_listing (ret place temp) list = ret place temp

-- ---- where what is used later is held: each act keeps it

-- each act behind which an access of the slot and register comes later keeps them
unfoldable mutual
  pub Kept : (slot b : ℕ) → Nodes → Live → Type 0
  Kept slot b no_nodes l = Unit {0}
  Kept slot b (more_nodes n rest) l = KeptIn slot b n (lives (live slot b rest l) l.out l.end) × Kept slot b rest l

  pub KeptIn : (slot b : ℕ) → Node → Live → Type 0
  KeptIn slot b (plain place a) l = l.on ≡ true → keeps slot b a ≡ true
  KeptIn slot b (if_ place temp one other) l = Kept slot b one l × Kept slot b other l
  KeptIn slot b (loop place body latch) l = Kept slot b body (body_lives slot b body latch l.on) × Kept slot b latch (latch_lives slot b body latch l.on)
  KeptIn slot b (break_ place) l = Unit {0}
  KeptIn slot b (next_ place) l = Unit {0}
  KeptIn slot b (ret place temp) l = Unit {0}

-- for each of the registers
abbrev pub AreKept : List ℕ → Nodes → (on out end : List ℕ) → Type 0
AreKept bs ns on out end = (b i : ℕ) → slot_if bs b ≡ Some i → Kept i b ns (lives_in on out end i)

-- the same of a node
abbrev pub AreKeptIn : List ℕ → Node → (on out end : List ℕ) → Type 0
AreKeptIn bs n on out end = (b i : ℕ) → slot_if bs b ≡ Some i → KeptIn i b n (lives_in on out end i)

-- within a loop, by what is used behind it
abbrev pub AreKeptLoop : List ℕ → (body latch : Nodes) → (on : List ℕ) → Type 0
AreKeptLoop bs body latch on = (b i : ℕ) → slot_if bs b ≡ Some i → Kept i b body (body_lives i b body latch (has on i)) × Kept i b latch (latch_lives i b body latch (has on i))
