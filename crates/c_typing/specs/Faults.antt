-- What judging gives: a typed form, or all the faults.
use Rattle.std.specs.Prelude.{◌≡◌, ℕ, Bool, ◌&&◌, ◌||◌, nat_lt, nat_eq, if◌then◌else◌, List, [], ◌∷◌, ◌++◌, Option, Some, None, Result, Ok, Err}
use Rattle.c_lex.specs.declared.refusal.Kind.{Kind}
use Rattle.c_lex.specs.declared.refusal.Kind.TheVariants as kinds
use Rattle.c_lex.specs.declared.refusal.Refusal.{Refusal}
use Rattle.c_lex.specs.declared.refusal.CompileFault.{CompileFault}
use Rattle.c_lex.specs.declared.refusal.CompileFault.TheVariants as outcomes

-- a kind's number, by which faults at one place are ordered
abbrev pub number : Kind → ℕ
number kinds.BadByte = 1
number kinds.OpenLiteral = 2
number kinds.NumberTooWide = 3
number kinds.UnexpectedToken = 4
number kinds.TooDeep = 5
number kinds.UnknownName = 6
number kinds.DoubleName = 7
number kinds.TypeMismatch = 8
number kinds.NotAnLvalue = 9
number kinds.BadSize = 10
number (kinds.OutsideSubset feature) = 11
number kinds.TooLong = 12
number (kinds.TooMany count) = 13

-- the first fault comes before the second: at a lesser place, or there with a lesser number
abbrev pub comes_before : Refusal → Refusal → Bool
comes_before r s = nat_lt r.place s.place || (nat_eq r.place s.place && nat_lt (number r.kind) (number s.kind))

-- the one of two faults that comes first
unfoldable pub earlier : Refusal → Refusal → Refusal
earlier r s = if comes_before s r then s else r

-- the first of one fault or more
abbrev pub least : Refusal → List Refusal → Refusal
least r [] = r
least r (s ∷ ss) = earlier r (least s ss)

-- what judging a node gives: its typed form, or its faults and those of its parts, one or more
pub data Judged (A : Type 0) : Type 0 where
  typed : (x : A) → Judged A
  faulty : (fault : Refusal) (more : List Refusal) → Judged A

-- one fault
abbrev pub refuse : {A : Type 0} → ℕ → Kind → Judged A
refuse place kind = faulty (record { place = place; kind = kind }) []

-- both parts; all the faults of both
abbrev pub both : {A B : Type 0} → Judged A → Judged B → Judged (A × B)
both (typed x) (typed y) = typed (x, y)
both (typed x) (faulty s ss) = faulty s ss
both (faulty r rs) (typed y) = faulty r rs
both (faulty r rs) (faulty s ss) = faulty r (rs ++ s ∷ ss)

-- a node is judged only where all its parts are typed
infixl 10 ◌>>=◌
-- what a rule makes of a part that is typed; where the part is at fault, its faults alone
abbrev pub ◌>>=◌ : {A B : Type 0} → Judged A → (A → Judged B) → Judged B
(typed x) >>= f = f x
(faulty r rs) >>= f = faulty r rs

-- the typed form, as a function sees it
abbrev pub mapped : {A B : Type 0} → (A → B) → Judged A → Judged B
mapped f (typed x) = typed (f x)
mapped f (faulty r rs) = faulty r rs

-- nothing is wrong, or one thing is
abbrev pub unless : ℕ → Kind → Bool → Judged (Unit {0})
unless place kind fine = if fine then typed tt else refuse place kind

-- all faults
abbrev pub faults : {A : Type 0} → Judged A → List Refusal
faults (typed x) = []
faults (faulty r rs) = r ∷ rs

-- the fault that is named
abbrev pub first : {A : Type 0} → Judged A → Option Refusal
first (typed x) = None
first (faulty r rs) = Some (least r rs)

-- what a function returned, seen by view, is what judging gives, unless memory ran out
abbrev pub Fails : {B : Type 0} → CompileFault → Judged B → Type 0
Fails outcomes.NoMemory j = Unit {0}
Fails (outcomes.Refused r) j = first j ≡ Some r

-- what a function returned is what judging gives: the same typed form, or the fault that is named, unless memory ran out
abbrev pub Gives : {A B : Type 0} → (A → B) → Result A CompileFault → Judged B → Type 0
Gives view (Ok x) j = j ≡ typed (view x)
Gives view (Err e) j = Fails e j
