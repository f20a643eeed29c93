-- At which node code is not safe for moves, and why.
use Rattle.std.specs.Prelude.{◌≡◌, ℕ, ◌<◌, ◌≤◌, ◌⊎◌, not, nat_lt, List, [], ◌∷◌, Option, Some, None, is_some, Bool, true, false, ◌==◌, ◌&&◌, ◌||◌}
use Rattle.struct_ir.specs.Nodes.{Place, Act, Node, plain, if_, loop, break_, next_, ret, Nodes, no_nodes, more_nodes, Func, Ir, places_of, node_place}
use Rattle.struct_ir.specs.Flow.{Flow, does, Path}
use Rattle.struct_ir.specs.Structured.{Position, done, then_, structured}
use Rattle.struct_ir.specs.Pins.{Fact, unlooked, looked, facts, lacks_if, held_by, Among}
use Rattle.struct_ir.specs.Valid.{Scope, Around, body_of, latch_of, outside, is_act, is_below_if, scope_of, list_at, last_list, act_is_placed}
use Rattle.pin_checker.specs.declared.fault.Why.{Why}
use Rattle.pin_checker.specs.declared.fault.Why.TheVariants.{BadTemp, NoLook, StaleLook, NotPinned}

-- ---- nodes that are not valid

-- the node is valid, apart from the nodes inside it
abbrev pub is_alone : Scope → Around → Node → Bool
is_alone x around (plain place a) = is_act x a
is_alone x around (if_ place temp one other) = nat_lt temp x.temps
is_alone x around (loop place body latch) = true
is_alone x around (break_ place) = around.in_loop
is_alone x around (next_ place) = around.in_body
is_alone x around (ret place temp) = is_below_if x.temps temp

-- a call stands between safepoints, and a loop's latch ends in one
abbrev pub is_guarded : (before : Option (List ℕ)) → Node → (rest : Nodes) → Bool
is_guarded before (plain place a) rest = act_is_placed before a rest
is_guarded before (if_ place temp one other) rest = true
is_guarded before (loop place body latch) rest = is_some (last_list None latch)
is_guarded before (break_ place) rest = true
is_guarded before (next_ place) rest = true
is_guarded before (ret place temp) rest = true

-- both
abbrev pub is_sound : Scope → Around → (before : Option (List ℕ)) → Node → (rest : Nodes) → Bool
is_sound x around before n rest = is_alone x around n && is_guarded before n rest

-- some node of this place isn't
abbrev mutual
  pub Invalid : Scope → Around → (before : Option (List ℕ)) → Nodes → ℕ → Type 0
  Invalid x around before no_nodes place = ⊥
  Invalid x around before (more_nodes n rest) place =
      ((node_place n ≡ place) × (is_sound x around before n rest ≡ false)) ⊎ (InvalidIn x around n place ⊎ Invalid x around (list_at n) rest place)

  pub InvalidIn : Scope → Around → Node → ℕ → Type 0
  InvalidIn x around (plain place' a) place = ⊥
  InvalidIn x around (if_ place' temp one other) place = Invalid x around None one place ⊎ Invalid x around None other place
  InvalidIn x around (loop place' body latch) place = Invalid x body_of None body place ⊎ Invalid x latch_of None latch place
  InvalidIn x around (break_ place') place = ⊥
  InvalidIn x around (next_ place') place = ⊥
  InvalidIn x around (ret place' temp) place = ⊥

-- ---- accesses that are not pinned

-- for this reason an access of the base fails behind a path that says this of its slot; out: the list of its own step lacks the slot
abbrev pub fails : (base : ℕ) (out : Bool) → Fact → Why → Bool
fails base out unlooked BadTemp = false
fails base out unlooked NoLook = true
fails base out unlooked StaleLook = false
fails base out unlooked NotPinned = out
fails base out (looked b stale lacked) BadTemp = not (b == base)
fails base out (looked b stale lacked) NoLook = false
fails base out (looked b stale lacked) StaleLook = (b == base) && stale
fails base out (looked b stale lacked) NotPinned = lacked || out

-- an access without a slot has no Look
abbrev pub fails_through : {P : Type 0} → Flow P → List P → Act → (base : ℕ) (slot : Option ℕ) → Why → Bool
fails_through C w act base (Some slot) why = fails base (lacks_if slot (held_by act)) (facts C slot w) why
fails_through C w act base None BadTemp = false
fails_through C w act base None NoLook = true
fails_through C w act base None StaleLook = false
fails_through C w act base None NotPinned = false

-- a path to a node of this place, behind which an access of the node fails for this reason
pub record Unsafe (all : Nodes) (place : ℕ) (why : Why) : Type 0 where
  pub way : List Position
  pub at : Position
  pub path : Path structured (then_ all done) way at
  pub act : Act
  pub here : structured.here at ≡ does place act
  pub access : Place
  pub among : Among (places_of act) access
  pub fails : fails_through structured way act access.base access.slot why ≡ true

-- ---- the first fault

-- some node of this place in the function fails for this reason
abbrev pub FailsIn : Ir → Func → ℕ → Why → Type 0
FailsIn p f place why = ((why ≡ BadTemp) × Invalid (scope_of p f) outside None f.nodes place) ⊎ Unsafe f.nodes place why

-- in one of these functions
abbrev pub FailsAmong : Ir → List Func → ℕ → Why → Type 0
FailsAmong p [] place why = ⊥
FailsAmong p (f ∷ rest) place why = FailsIn p f place why ⊎ FailsAmong p rest place why

-- in the program
abbrev pub Fails : Ir → ℕ → Why → Type 0
Fails p place why = FailsAmong p p.funcs place why

-- the order of reasons
abbrev pub rank : Why → ℕ
rank BadTemp = 0
rank NoLook = 1
rank StaleLook = 2
rank NotPinned = 3

-- an earlier place, or the same with a reason that is no later
abbrev pub NoLater : (place : ℕ) (why : Why) (place' : ℕ) (why' : Why) → Type 0
NoLater place why place' why' = (place < place') ⊎ ((place ≡ place') × (rank why ≤ rank why'))

-- the first node that fails, in order of their places in the text, and its first reason
pub record IsFirst (p : Ir) (place : ℕ) (why : Why) : Type 0 where
  pub fails : Fails p place why
  pub first : (place' : ℕ) (why' : Why) → Fails p place' why' → NoLater place why place' why'
