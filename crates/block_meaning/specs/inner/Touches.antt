-- How the touches of an action are gathered.
use Rattle.std.specs.Prelude.{◌≡◌, ℕ, ◌/◌, Bool, true, false, if◌then◌else◌, List, [], ◌++◌, Option, Some, None, IsOk, pos}
use Rattle.std.specs.Ordering.{int_eq}
use Rattle.block_store.specs.Actions as actions
use Rattle.block_store.specs.Actions.{World, reading, writing, reading_part, printed_bytes}
use Rattle.block_store.specs.Blocks.{Blocks}
use Rattle.block_store.specs.declared.values.Answer.{Answer}
use Rattle.block_store.specs.declared.values.Value.{Value}
use Rattle.block_store.specs.declared.values.Value.TheVariants as values
use Rattle.c_meaning.specs.Touches.{each, touches_of}
use Rattle.race_rules.specs.declared.touch.Touch.{Touch}
use Rattle.race_rules.specs.declared.touch.TouchKind.TheVariants.{Read, Write, AtomicRead, AtomicWrite}
use Rattle.source_state.specs.declared.world.SharedAction.{SharedAction}
use Rattle.source_state.specs.declared.world.SharedAction.TheVariants as acts
use Rattle.block_meaning.specs.declared.running.Turned.{Turned}
use Rattle.block_meaning.specs.declared.running.Turned.TheVariants as turneds
use Rattle.block_meaning.specs.declared.touches.Comparing.{Comparing}
use Rattle.block_meaning.specs.declared.touches.Gathered.{Gathered}
use Rattle.block_meaning.specs.Threads.{touches_in}

-- these touches are gathered too, unless one can't be told
pub record GainsOnly (old new : Gathered) (more : List Touch) : Type 0 where
  pub place : new.place ≡ old.place
  pub fits : new.fits ≡ true → old.fits ≡ true
  pub gained : new.fits ≡ true → touches_in new.touches ≡ touches_in old.touches ++ more

-- what is read of this part is gathered too, and the part breaks no rule, unless a touch can't be told
pub record ReadsPart (old new : Gathered) (blocks : Blocks) (part : actions.Printed) : Type 0 where
  pub gains : GainsOnly old new (each old.place Read (reading_part blocks part))
  pub printed : new.fits ≡ true → IsOk (printed_bytes blocks part)

-- what an action touches before it is known how a compare comes out
abbrev pub before_its_end : (place : ℕ) → World → Answer → (atomic : Bool) → actions.SharedAction → List Touch
before_its_end place w answer atomic (actions.compare at want ty new) = each place AtomicRead (reading (ty.bits / 8) at) ++ each place Read (reading (ty.bits / 8) want)
before_its_end place w answer atomic action = touches_of place w answer atomic action

-- the numbers that a compare reaches
abbrev pub comparing_of : SharedAction → Option Comparing
comparing_of (acts.Compare at want new) = Some (record { at = at; want = want; bytes = new.ty.bits / 8 })
comparing_of action = None

-- the value of a compare says that the numbers were equal
abbrev pub says_equal : Option Value → Bool
says_equal (Some (values.Num n)) = int_eq n.value (pos 1)
says_equal (Some (values.Pointer p)) = false
says_equal None = false

-- what a compare of this value touches at its end, by the numbers that it reaches: it writes the first, or the wanted one
abbrev pub end_of : (place : ℕ) → Option Comparing → Option Value → List Touch
end_of place None v = []
end_of place (Some c) v = if says_equal v then each place AtomicWrite (writing c.bytes c.at) else each place Write (writing c.bytes c.want)

-- the thread of a turn, if the turn was done
abbrev pub done_by : Turned → (thread : ℕ) → Option ℕ
done_by turneds.Went thread = Some thread
done_by (turneds.Ended value) thread = Some thread
done_by turneds.Blocked thread = None
done_by turneds.Unfit thread = None
done_by (turneds.Broke rule place) thread = None
