-- What is asked of Looks and of lists of pin slots, over the paths of the code. Available stands in Rattle.struct_ir.specs.Pins.
use Rattle.std.specs.Prelude.{◌≡◌, ◌↔◌, ◌⊎◌, not, ℕ, List, [], ◌∷◌, Option, Some, None, Bool, true, false, ◌==◌, ◌&&◌, ◌||◌}
use Rattle.struct_ir.specs.Nodes.{Place, Act, set, call, step, look, safepoint, begin_object, end_object, Node, plain, if_, loop, break_, next_, ret, Nodes, no_nodes, more_nodes, places_of, list_of}
use Rattle.struct_ir.specs.Flow.{Flow, Here, does, tests, passes, round, returns, Path}
use Rattle.struct_ir.specs.Structured.{done, then_, structured}
use Rattle.struct_ir.specs.Pins.{lacks, Among, Available}
use Rattle.pin_flow.specs.Marks.{EveryAct}

-- each access to which a path comes has a slot, which is available there for its base
abbrev pub Covered : {P : Type 0} → Flow P → P → Type 0
Covered {P} C start = (w : List P) (k : P) → Path C start w k → (place : ℕ) (act : Act) → C.here k ≡ does place act → (a : Place) → Among (places_of act) a
    → (s : ℕ) × (a.slot ≡ Some s) × Available C start s a.base k

-- ---- Looks where they are needed

-- a Look of b
abbrev pub act_looks : (b : ℕ) → Act → Bool
act_looks b (set to calc) = false
act_looks b (call c) = false
act_looks b (step x) = false
act_looks b (look slot base) = base == b
act_looks b (safepoint slots) = false
act_looks b (begin_object i) = false
act_looks b (end_object i) = false

-- it is b
abbrev pub is_to : (b : ℕ) → Option ℕ → Bool
is_to b None = false
is_to b (Some to) = b == to

-- an assignment of b
abbrev pub act_assigns : (b : ℕ) → Act → Bool
act_assigns b (set to calc) = b == to
act_assigns b (call c) = is_to b c.to
act_assigns b (step x) = is_to b x.to
act_assigns b (look slot base) = false
act_assigns b (safepoint slots) = false
act_assigns b (begin_object i) = false
act_assigns b (end_object i) = false

-- some act is one of these
abbrev mutual
  pub some_act : (Act → Bool) → Nodes → Bool
  some_act f no_nodes = false
  some_act f (more_nodes n rest) = some_in f n || some_act f rest

  pub some_in : (Act → Bool) → Node → Bool
  some_in f (plain place a) = f a
  some_in f (if_ place temp one other) = some_act f one || some_act f other
  some_in f (loop place body latch) = some_act f body || some_act f latch
  some_in f (break_ place) = false
  some_in f (next_ place) = false
  some_in f (ret place temp) = false

-- a loop with a Look of b assigns b
abbrev pub loop_assigns : (b : ℕ) → (body latch : Nodes) → Bool
loop_assigns b body latch = not (some_act (act_looks b) body || some_act (act_looks b) latch) || (some_act (act_assigns b) body || some_act (act_assigns b) latch)

-- so does each loop of the row
abbrev mutual
  pub loops_assign : (b : ℕ) → Nodes → Bool
  loops_assign b no_nodes = true
  loops_assign b (more_nodes n rest) = loop_in_assigns b n && loops_assign b rest

  pub loop_in_assigns : (b : ℕ) → Node → Bool
  loop_in_assigns b (plain place a) = true
  loop_in_assigns b (if_ place temp one other) = loops_assign b one && loops_assign b other
  loop_in_assigns b (loop place body latch) = loop_assigns b body latch && (loops_assign b body && loops_assign b latch)
  loop_in_assigns b (break_ place) = true
  loop_in_assigns b (next_ place) = true
  loop_in_assigns b (ret place temp) = true

-- no Look in a loop is of a register that the loop doesn't assign, and none is of a register for which a slot is available there
pub record Hoisted (all : Nodes) : Type 0 where
  pub out_of_loops : (b : ℕ) → loops_assign b all ≡ true
  pub needed : (b : ℕ) → EveryAct (λ act k. act_looks b act ≡ true → (slot : ℕ) → Available structured (then_ all done) slot b k → ⊥) all done

-- ---- lists

-- a Look into the slot
abbrev pub looks_into : (slot : ℕ) → Act → Bool
looks_into s (set to calc) = false
looks_into s (call c) = false
looks_into s (step x) = false
looks_into s (look slot base) = slot == s
looks_into s (safepoint slots) = false
looks_into s (begin_object i) = false
looks_into s (end_object i) = false

-- there is a Look into the slot
abbrev pub looks_here : (slot : ℕ) → Here → Bool
looks_here s (does place a) = looks_into s a
looks_here s (tests place temp) = false
looks_here s passes = false
looks_here s round = false
looks_here s (returns temp) = false

-- none of the positions is a Look into the slot
abbrev pub looks_none : {P : Type 0} → Flow P → (slot : ℕ) → List P → Bool
looks_none C s [] = true
looks_none C s (k ∷ w) = not (looks_here s (C.here k)) && looks_none C s w

-- an access through the slot, with this base
abbrev pub Uses : (slot b : ℕ) → Act → Type 0
Uses slot b act = (a : Place) × Among (places_of act) a × (a.base ≡ b) × (a.slot ≡ Some slot)

-- on some path from k an access of this slot and base comes before the next Look into the slot
pub record IsUsed {P : Type 0} (C : Flow P) (slot b : ℕ) (k : P) : Type 0 where
  pub way : List P
  pub at : P
  pub path : Path C k way at
  pub clear : looks_none C slot way ≡ true
  pub place : ℕ
  pub act : Act
  pub here : C.here at ≡ does place act
  pub uses : Uses slot b act

-- the act accesses through the slot itself
abbrev pub UsesItself : (slot : ℕ) → Act → Type 0
UsesItself slot act = (b : ℕ) × Uses slot b act

-- each list has just the slots that are available there for some register that is used later through them, and those that its act
-- uses itself
abbrev pub PinsExact : Nodes → Type 0
PinsExact all = EveryAct (λ act k. (list : List ℕ) → list_of act ≡ Some list → (slot : ℕ) → (lacks slot list ≡ false)
    ↔ (((b : ℕ) × Available structured (then_ all done) slot b k × IsUsed structured slot b k) ⊎ UsesItself slot act)) all done
