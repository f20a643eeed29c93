-- Code in which what marks the lives of stack objects may be left out.
use Rattle.std.specs.Prelude.{◌≡◌, ℕ, Bool, true, false, Ok}
use Rattle.struct_ir.specs.Nodes.{Act, set, call, step, look, safepoint, begin_object, end_object}
use Rattle.struct_ir.specs.Flow.{Here, does, tests, passes, round, returns, Flow}
use Rattle.struct_ir.specs.Machine.{Machine}
use Rattle.struct_ir.specs.Mirrors.{Both}

-- the beginning or the end of a stack object
abbrev pub is_lifetime_mark : Act → Bool
is_lifetime_mark (set to calc) = false
is_lifetime_mark (call c) = false
is_lifetime_mark (step s) = false
is_lifetime_mark (look slot base) = false
is_lifetime_mark (safepoint slots) = false
is_lifetime_mark (begin_object i) = true
is_lifetime_mark (end_object i) = true

-- the machine does nothing at the beginning and at the end of a stack object
abbrev pub LifetimeMarksAreIdle : {L F : Type 0} → Machine L F → Type 0
LifetimeMarksAreIdle {L} M = (a : Act) → is_lifetime_mark a ≡ true → (M.stops a ≡ false) × ((place : ℕ) (l : L) → M.does place a l ≡ Ok l)

-- nothing stands there, or a mark
abbrev pub IsUnseen : Here → Type 0
IsUnseen (does place a) = is_lifetime_mark a ≡ true
IsUnseen (tests place temp) = ⊥
IsUnseen passes = Unit {0}
IsUnseen round = ⊥
IsUnseen (returns temp) = ⊥

-- the same stands at both, and control goes on alike; or the first goes on alone where nothing is to be seen
pub data FollowsAt {P Q : Type 0} (C : Flow P) (D : Flow Q) (R : P → Q → Type 0) (k : P) (j : Q) : Type 0 where
  both_go : Both C D R k j → FollowsAt C D R k j
  first_goes : IsUnseen (C.here k) → ((c : Bool) → R (C.next k c) j) → FollowsAt C D R k j

-- at positions that correspond the second does what the first does, but for marks
abbrev pub Follows : {P Q : Type 0} → Flow P → Flow Q → (P → Q → Type 0) → Type 0
Follows {P} {Q} C D R = (k : P) (j : Q) → R k j → FollowsAt C D R k j
