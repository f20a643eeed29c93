-- The checker's reports: of two faults the earlier one is kept.
use Rattle.std.specs.Prelude.{ℕ, List, [], ◌∷◌, ◌++◌, Option, Some, None, is_none, Bool, true, false, ◌==◌, ◌||◌, ◌&&◌, not, if◌then◌else◌, nat_lt}
use Rattle.struct_ir.specs.Nodes.{Place, Act, Node, plain, if_, loop, break_, next_, ret, Nodes, no_nodes, more_nodes, Func, Ir, places_of, list_of, node_place}
use Rattle.struct_ir.specs.Pins.{lacks_if}
use Rattle.struct_ir.specs.Valid.{Scope, Around, body_of, latch_of, outside, scope_of, list_at}
use Rattle.pin_flow.specs.Marks.{Mark, AllPaths, unreached, good, bad, state_of, flow, flow_node, head_of, end_state}
use Rattle.pin_flow.specs.Held.{held, filled, filled_for, fresh, pinned}
use Rattle.pin_flow.specs.Live.{uses}
use Rattle.pin_checker.specs.declared.fault.Why.{Why}
use Rattle.pin_checker.specs.declared.fault.Why.TheVariants.{BadTemp, NoLook, StaleLook, NotPinned}
use Rattle.pin_checker.specs.declared.fault.Fault.{Fault}
use Rattle.pin_checker.specs.declared.pair.Pair.{Pair}
use Rattle.pin_checker.specs.Faults.{is_sound, rank}

-- ---- the earlier fault

-- the lesser place first, and at one place the earlier reason
abbrev pub is_before : Fault → Fault → Bool
is_before f g = nat_lt f.place g.place || ((f.place == g.place) && nat_lt (rank f.why) (rank g.why))

-- the earlier of a fault and what was found so far
abbrev pub earlier : Fault → Option Fault → Option Fault
earlier f None = Some f
earlier f (Some g) = if is_before f g then Some f else Some g

-- a fault of this place and reason, if there is one
abbrev pub noted : (is : Bool) (place : ℕ) (why : Why) → Option Fault → Option Fault
noted true place why best = earlier (record { place = place; why = why }) best
noted false place why best = best

-- ---- nodes that are not valid

unfoldable mutual
  pub report_invalid : Scope → Around → (before : Option (List ℕ)) → Nodes → Option Fault → Option Fault
  report_invalid x around before no_nodes best = best
  report_invalid x around before (more_nodes n rest) best =
      report_invalid x around (list_at n) rest (report_invalid_in x around n (noted (not (is_sound x around before n rest)) (node_place n) BadTemp best))

  pub report_invalid_in : Scope → Around → Node → Option Fault → Option Fault
  report_invalid_in x around (plain place a) best = best
  report_invalid_in x around (if_ place temp one other) best = report_invalid x around None other (report_invalid x around None one best)
  report_invalid_in x around (loop place body latch) best = report_invalid x latch_of None latch (report_invalid x body_of None body best)
  report_invalid_in x around (break_ place) best = best
  report_invalid_in x around (next_ place) best = best
  report_invalid_in x around (ret place temp) best = best

-- ---- accesses

-- what is looked for: a mark, its answer before the code, which acts fail in which states of it, and for which reason
pub record Search : Type 0 where
  pub mark : Mark
  pub start : Bool
  pub blames : Act → AllPaths → Bool
  pub why : Why

-- on some path the answer is no
abbrev pub is_bad : AllPaths → Bool
is_bad unreached = false
is_bad good = false
is_bad bad = true

-- on each path that comes here the answer is yes
abbrev pub is_good : AllPaths → Bool
is_good unreached = false
is_good good = true
is_good bad = false

-- an access of the list has no slot
abbrev pub has_bare : List Place → Bool
has_bare [] = false
has_bare (a ∷ rest) = is_none a.slot || has_bare rest

-- accesses of the pair: the last Look is of another
abbrev pub for_other : Pair → Search
for_other q = record { mark = filled_for q.slot q.base; start = true; blames = λ a t. uses q.slot q.base a && is_bad t; why = BadTemp }

-- there is no Look
abbrev pub for_none : Pair → Search
for_none q = record { mark = filled q.slot; start = false; blames = λ a t. uses q.slot q.base a && is_bad t; why = NoLook }

-- the base was assigned since
abbrev pub for_stale : Pair → Search
for_stale q = record { mark = fresh q.slot q.base; start = false; blames = λ a t. uses q.slot q.base a && is_bad t; why = StaleLook }

-- a list lacks the slot
abbrev pub for_lacking : Pair → Search
for_lacking q = record {
  mark = pinned q.slot q.base;
  start = false;
  blames = λ a t. uses q.slot q.base a && (is_bad t || (lacks_if q.slot (list_of a) && is_good t));
  why = NotPinned;
}

-- accesses without a slot to which a path comes
abbrev pub for_bare : Search
for_bare = record { mark = held 0; start = false; blames = λ a t. has_bare (places_of a) && (is_bad t || is_good t); why = NoLook }

unfoldable mutual
  pub report : Search → Nodes → AllPaths → Option Fault → Option Fault
  report s no_nodes t best = best
  report s (more_nodes n rest) t best = report s rest (flow_node s.mark n t).on (report_node s n t best)

  pub report_node : Search → Node → AllPaths → Option Fault → Option Fault
  report_node s (plain place a) t best = noted (s.blames a t) place s.why best
  report_node s (if_ place temp one other) t best = report s other t (report s one t best)
  report_node s (loop place body latch) t best =
      report s latch (end_state (flow s.mark body (head_of (flow s.mark body) (flow s.mark latch) t))) (report s body (head_of (flow s.mark body) (flow s.mark latch) t) best)
  report_node s (break_ place) t best = best
  report_node s (next_ place) t best = best
  report_node s (ret place temp) t best = best

-- from the start of a function
abbrev pub report_all : Search → Nodes → Option Fault → Option Fault
report_all s ns best = report s ns (state_of s.start) best

-- ---- the pairs of slot and base that accesses have

-- the same slot and the same base
abbrev pub is_pair : Pair → Pair → Bool
is_pair q r = (q.slot == r.slot) && (q.base == r.base)

-- the list has the pair
abbrev pub has_pair : Pair → List Pair → Bool
has_pair q [] = false
has_pair q (r ∷ rest) = is_pair r q || has_pair q rest

-- the list with the pair, once
abbrev pub with_pair : Pair → List Pair → List Pair
with_pair q list = if has_pair q list then list else list ++ (q ∷ [])

-- the list with the pair of a base and its slot, if it has one
abbrev pub with_slot : (base : ℕ) → Option ℕ → List Pair → List Pair
with_slot base None list = list
with_slot base (Some s) list = with_pair (record { slot = s; base = base }) list

-- the list with the pairs of these accesses
abbrev pub with_places : List Place → List Pair → List Pair
with_places [] list = list
with_places (a ∷ rest) list = with_places rest (with_slot a.base a.slot list)

unfoldable mutual
  pub pairs_of : Nodes → List Pair → List Pair
  pairs_of no_nodes list = list
  pairs_of (more_nodes n rest) list = pairs_of rest (pairs_in n list)

  pub pairs_in : Node → List Pair → List Pair
  pairs_in (plain place a) list = with_places (places_of a) list
  pairs_in (if_ place temp one other) list = pairs_of other (pairs_of one list)
  pairs_in (loop place body latch) list = pairs_of latch (pairs_of body list)
  pairs_in (break_ place) list = list
  pairs_in (next_ place) list = list
  pairs_in (ret place temp) list = list

-- ---- functions

-- of one pair
abbrev pub report_pair : Nodes → Pair → Option Fault → Option Fault
report_pair ns q best = report_all (for_lacking q) ns (report_all (for_stale q) ns (report_all (for_none q) ns (report_all (for_other q) ns best)))

-- the first fault of any pair
abbrev pub report_pairs : Nodes → List Pair → Option Fault → Option Fault
report_pairs ns [] best = best
report_pairs ns (q ∷ rest) best = report_pairs ns rest (report_pair ns q best)

-- of one function
abbrev pub report_func : Ir → Func → Option Fault → Option Fault
report_func p f best = report_pairs f.nodes (pairs_of f.nodes []) (report_all for_bare f.nodes (report_invalid (scope_of p f) outside None f.nodes best))

-- the first fault of any function
abbrev pub report_funcs : Ir → List Func → Option Fault → Option Fault
report_funcs p [] best = best
report_funcs p (f ∷ rest) best = report_funcs p rest (report_func p f best)

-- of the program
abbrev pub first_fault : Ir → Option Fault
first_fault p = report_funcs p p.funcs None
