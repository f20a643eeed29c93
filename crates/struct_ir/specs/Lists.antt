-- Code seen without its slots and lists: where nothing looks at them, they change nothing.
use Rattle.std.specs.Prelude.{◌≡◌, ℕ, [], map, None}
use Rattle.struct_ir.specs.Nodes.{Place, Step, Call, Act, set, call, step, look, safepoint, begin_object, end_object}
use Rattle.struct_ir.specs.Flow.{Here, does, tests, passes, round, returns, Flow}
use Rattle.struct_ir.specs.Machine.{Machine}
use Rattle.struct_ir.specs.Threads.{Environment, Thread, turn}

-- a place without its slot
abbrev pub bare_place : Place → Place
bare_place a = record { base = a.base; index = a.index; scale = a.scale; offset = a.offset; slot = None }

-- a step without its list, and without the slots of its places
abbrev pub bare_step : Step → Step
bare_step s = record { action = s.action; places = map bare_place s.places; to = s.to; temps = s.temps; slots = [] }

-- a call without its list
abbrev pub bare_call : Call → Call
bare_call c = record { to = c.to; function = c.function; temps = c.temps; slots = [] }

-- an act without its list, and without the slots of its places
abbrev pub bare_act : Act → Act
bare_act (set to calc) = set to calc
bare_act (call c) = call (bare_call c)
bare_act (step s) = step (bare_step s)
bare_act (look slot base) = look slot base
bare_act (safepoint slots) = safepoint slots
bare_act (begin_object i) = begin_object i
bare_act (end_object i) = end_object i

-- what stands at a position, seen so
abbrev pub bare_here : Here → Here
bare_here (does place a) = does place (bare_act a)
bare_here (tests place temp) = tests place temp
bare_here passes = passes
bare_here round = round
bare_here (returns temp) = returns temp

-- the same code, seen without its slots and lists
abbrev pub listless : {P : Type 0} → Flow P → Flow P
listless C = record { here = λ k. bare_here (C.here k); next = C.next; size = C.size }

-- neither the machine nor the world looks at slots and lists
pub record IgnoresLists {L F S A : Type 0} (M : Machine L F) (W : Environment L F S A) : Type 0 where
  pub stops : (a : Act) → M.stops (bare_act a) ≡ M.stops a
  pub does : (place : ℕ) (a : Act) (l : L) → M.does place (bare_act a) l ≡ M.does place a l
  pub serve : (answer : A) (place : ℕ) (a : Act) (l : L) (s : S) → W.serve answer place (bare_act a) l s ≡ W.serve answer place a l s

-- code does in a turn what it does without its slots and lists
abbrev pub ListsAreNothing : (P L F S A : Type 0) → Type 0
ListsAreNothing P L F S A =
    (C : Flow P) (M : Machine L F) (W : Environment L F S A) → IgnoresLists M W → (code : ℕ → P) (answer : A) (t : Thread P L) (s : S) → turn (listless C) M W code answer t s ≡ turn C M W code answer t s
