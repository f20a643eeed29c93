-- Whether an access of a slot and register comes later, before the next Look into the slot.
use Rattle.std.specs.Prelude.{◌≡◌, ◌↔◌, ℕ, List, [], ◌∷◌, Option, Some, None, Bool, true, false, ◌==◌, ◌||◌, ◌&&◌, not}
use Rattle.struct_ir.specs.Nodes.{Place, Act, Node, plain, if_, loop, break_, next_, ret, Nodes, no_nodes, more_nodes, places_of}
use Rattle.struct_ir.specs.Structured.{Position, done, then_, in_body, in_latch, structured}
use Rattle.pin_flow.specs.Looks.{looks_into, IsUsed}

-- it is the slot
abbrev pub is_slot : (slot : ℕ) → Option ℕ → Bool
is_slot slot None = false
is_slot slot (Some s) = s == slot

-- an access of the list is through the slot, with this base
abbrev pub has : (slot b : ℕ) → List Place → Bool
has slot b [] = false
has slot b (a ∷ rest) = ((a.base == b) && is_slot slot a.slot) || has slot b rest

-- an access of the act is
abbrev pub uses : (slot b : ℕ) → Act → Bool
uses slot b a = has slot b (places_of a)

-- behind a row, behind the loop around, at the end of the body or step around
pub record Live : Type 0 where
  pub on : Bool
  pub out : Bool
  pub end : Bool

-- whether one comes later: on the way on, behind a Break, and at the end of the row
abbrev pub lives : Bool → Bool → Bool → Live
lives on out end = record { on = on; out = out; end = end }

-- an access through the slot, or one later with no Look into the slot here
abbrev pub live_act : (slot b : ℕ) → Act → Bool → Bool
live_act slot b a later = uses slot b a || (not (looks_into slot a) && later)

unfoldable mutual
  pub live : (slot b : ℕ) → Nodes → Live → Bool
  live slot b no_nodes l = l.on
  live slot b (more_nodes n rest) l = live_node slot b n (lives (live slot b rest l) l.out l.end)

  pub live_node : (slot b : ℕ) → Node → Live → Bool
  live_node slot b (plain place a) l = live_act slot b a l.on
  live_node slot b (if_ place temp one other) l = live slot b one l || live slot b other l
  live_node slot b (loop place body latch) l =
      live slot b body (lives (live slot b latch (lives false l.on false)) l.on (live slot b latch (lives false l.on false)))
  live_node slot b (break_ place) l = l.out
  live_node slot b (next_ place) l = l.end
  live_node slot b (ret place temp) l = false

-- at the start of each round, and at the end of each body
unfoldable pub head_live : (slot b : ℕ) → Nodes → Nodes → Bool → Bool
head_live slot b body latch on =
    live slot b body (lives (live slot b latch (lives false on false)) on (live slot b latch (lives false on false)))

-- at the end of a loop's body: its step comes, and then a round or what is behind the loop
unfoldable pub latch_live : (slot b : ℕ) → Nodes → Nodes → Bool → Bool
latch_live slot b body latch on = live slot b latch (lives (head_live slot b body latch on) on (head_live slot b body latch on))

-- within a body, and within a step; on: behind the loop
abbrev pub body_lives : (slot b : ℕ) → Nodes → Nodes → Bool → Live
body_lives slot b body latch on = lives (latch_live slot b body latch on) on (latch_live slot b body latch on)

-- within a step: a round or what is behind the loop comes
abbrev pub latch_lives : (slot b : ℕ) → Nodes → Nodes → Bool → Live
latch_lives slot b body latch on = lives (head_live slot b body latch on) on (head_live slot b body latch on)

-- at a position
abbrev pub live_at : (slot b : ℕ) → Position → Live
live_at slot b done = lives false false false
live_at slot b (then_ ns k) = lives (live slot b ns (live_at slot b k)) (live_at slot b k).out (live_at slot b k).end
live_at slot b (in_body body latch k) = body_lives slot b body latch (live_at slot b k).on
live_at slot b (in_latch body latch k) = latch_lives slot b body latch (live_at slot b k).on

-- what is live at a position is used on some way from there, and the other way round
abbrev pub LiveIsUsed : Type 0
LiveIsUsed = (slot b : ℕ) (k : Position) → ((live_at slot b k).on ≡ true) ↔ IsUsed structured slot b k
