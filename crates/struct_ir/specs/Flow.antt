-- Code, as control goes through it: what stands at a position, and where control goes on from there. Turns, events, paths, passes and
-- the checker all read control from here.
use Rattle.std.specs.Prelude.{◌≡◌, ℕ, ◌<◌, List, [], ◌∷◌, Option, Bool, true}
use Rattle.struct_ir.specs.Nodes.{Act, act_is_call}

-- what stands at a position
pub data Here : Type 0 where
  -- an act, with its place in the text, and then the position behind it
  does : (place : ℕ) (a : Act) → Here
  -- an If: control goes the one way or the other
  tests : (place temp : ℕ) → Here
  -- nothing: control goes on by itself
  passes : Here
  -- a round of a loop is over
  round : Here
  -- the call is left
  returns : (temp : Option ℕ) → Here

-- code with these positions; c says which way an If goes, and counts nowhere else
pub record Flow (P : Type 0) : Type 0 where
  pub here : P → Here
  pub next : P → (c : Bool) → P
  -- how much is left to do before a round is over or the call is left
  pub size : P → ℕ

-- whether a turn may go on behind it
abbrev pub GoesOn : Here → Type 0
GoesOn (does place a) = Unit {0}
GoesOn (tests place temp) = Unit {0}
GoesOn passes = Unit {0}
GoesOn round = ⊥
GoesOn (returns temp) = ⊥

-- but for the ends of rounds and calls, what is left to do gets less
abbrev pub Shrinks : {P : Type 0} → Flow P → Type 0
Shrinks {P} C = (k : P) (c : Bool) → GoesOn (C.here k) → C.size (C.next k c) < C.size k

-- whether the call goes on behind it
abbrev pub Stays : Here → Type 0
Stays (does place a) = Unit {0}
Stays (tests place temp) = Unit {0}
Stays passes = Unit {0}
Stays round = Unit {0}
Stays (returns temp) = ⊥

-- a call stands there
abbrev pub IsCall : Here → Type 0
IsCall (does place a) = act_is_call a ≡ true
IsCall (tests place temp) = ⊥
IsCall passes = ⊥
IsCall round = ⊥
IsCall (returns temp) = ⊥

-- a path: from where, the positions passed, the last one first, and the one reached
pub data Path {P : Type 0} (C : Flow P) (from : P) : List P → P → Type 0 where
  entry : Path C from [] from
  on : (w : List P) (k : P) (c : Bool) → Stays (C.here k) → Path C from w k → Path C from (k ∷ w) (C.next k c)
