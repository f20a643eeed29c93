-- The attempts of ak_trace's journal that has every kind and every how, and what small journals mean, worked by hand.
use Rattle.std.specs.Prelude.{◌≡◌, ℕ, suc, ℤ, pos, List, [], ◌∷◌, ◌++◌, Option, Some, None}
use Rattle.ak_words.specs.declared.rule.Rule.{Rule}
use Rattle.ak_words.specs.declared.rule.Rule.TheVariants.{C5, C13}
use Rattle.ak_trace.specs.declared.entry.Entry.{Entry}
use Rattle.ak_trace.specs.Rows.{row, full_journal}
use Rattle.block_store.specs.declared.values.Answer.{Answer}
use Rattle.block_store.specs.declared.values.Answer.TheVariants as answers
use Rattle.block_store.specs.Actions.{World, first_world, returned, staged}
use Rattle.block_store.specs.Runs.{Turn, went, ended, blocked, unfit, broke, Program, first_state}
use Rattle.ak_trace.specs.declared.endings.End.{End}
use Rattle.ak_trace.specs.declared.endings.End.TheVariants as ends
use Rattle.ak_trace.specs.declared.endings.TrapKind.{TrapKind}
use Rattle.flat_rules.specs.declared.settings.Settings.{Settings}
use Rattle.flat_machine.specs.Replays.{Final}
use Rattle.flat_replay.specs.Meaning.{last_thread, tried_turn, BreaksAt, IsClean, IsFirstBreak, EndsAs, IsAsMeant}

-- thread 1 finds the mutex held when ten turns are done; when seventeen are, thread 2 meets a trap, and thread 0 prints too much; and when
-- all eighteen are, thread 0 has no stack
abbrev pub full_attempts : List (ℕ × ℕ)
full_attempts = (1, 10) ∷ (2, 17) ∷ (0, 17) ∷ (0, 18) ∷ []

-- ---- small threads

-- what a thread does in a turn: it enters a call, prints a byte, takes an answer other than Plain, waits, breaks a rule, or returns from its
-- first function
pub data Deed : Type 0 where
  calls : Deed
  prints : (byte : ℕ) → Deed
  asks : Deed
  waits : Deed
  errs : (rule : Rule) → Deed
  returns : (value : ℤ) → Deed

-- what a thread has still to do, and how many of its calls wait
abbrev pub Small : Type 0
Small = List Deed × ℕ

-- how many of its calls wait
abbrev pub waiting_calls : Small → ℕ
waiting_calls t = t.1

-- a turn that doesn't take Plain
abbrev pub answered : Answer → Turn Small → Turn Small
answered answers.Plain t = unfit
answered answers.Got t = t
answered answers.None t = t

-- the turn of a thread that does this, has so much to do behind it and so many calls that wait; it waits where it has nothing to do
abbrev pub deed : (thread : ℕ) → Answer → World → (depth : ℕ) → (todo : List Deed) → Turn Small
deed thread answer w n [] = blocked
deed thread answer w n (calls ∷ rest) = went (rest, suc n) w
deed thread answer w n (prints byte ∷ rest) = went (rest, n) (record w { output = w.output ++ byte ∷ [] })
deed thread answer w n (asks ∷ rest) = answered answer (went (rest, n) w)
deed thread answer w n (waits ∷ rest) = blocked
deed thread answer w n (errs rule ∷ rest) = broke rule 0
deed thread answer w n (returns value ∷ rest) = ended (staged w thread (returned value))

-- a program whose threads do all this
abbrev pub small : List Deed → Program Small
small todo = record { main = 0; begins = λ function argument. (todo, 0); turn = λ thread answer t w. deed thread answer w t.1 t.0; calls = waiting_calls }

-- the world in which it begins
abbrev pub alone : World
alone = first_world [] 0

-- ---- what the parts of a meaning are

-- the thread of the last entry
abbrev pub LastsStand : Type 0
LastsStand = (last_thread [] ≡ 0) × (last_thread full_journal ≡ 0) × (last_thread (row 0 0 0 0 ∷ row 0 1 0 0 ∷ []) ≡ 1)

-- what comes of main's first turn, as it is tried
abbrev pub first_try : List Deed → Option (Turn Small)
first_try todo = tried_turn (small todo) alone waiting_calls [] (first_state (small todo) alone) 0

-- one that doesn't take Plain is told Got
abbrev pub TriesStand : Type 0
TriesStand =
    (first_try (asks ∷ []) ≡ Some (went ([], 0) alone)) × (first_try (calls ∷ []) ≡ Some (went ([], 1) alone)) × (first_try (waits ∷ []) ≡ Some blocked) × (first_try (errs C5 ∷ []) ≡ Some (broke C5 0))

-- ---- what small journals mean

-- under settings that let so many bytes be printed, a clean journal that prints this and ends so is as the program means it
abbrev pub Means : (limit : ℕ) → List Deed → List Entry → (output : List ℕ) → End → Type 0
Means limit todo log output end = (s : Settings) (f : Final) → s.output ≡ limit → f.output ≡ output → f.end ≡ Some end → IsAsMeant (small todo) alone waiting_calls log s f

-- main goes out, and returns 7; prints, and waits; prints, and has no room for a call; and prints twice where one byte may be printed
abbrev pub MeaningsStand : Type 0
MeaningsStand =
    Means 1 (returns (pos 7) ∷ []) (row 0 0 0 0 ∷ row 2 0 9 0 ∷ []) [] (ends.Done (pos 7))
    × Means 1 (prints 65 ∷ waits ∷ []) (row 0 0 0 0 ∷ row 2 0 1 0 ∷ row 2 0 6 0 ∷ row 1 0 0 0 ∷ []) (65 ∷ []) ends.AllBlocked
    × Means 1 (prints 65 ∷ calls ∷ []) (row 0 0 0 0 ∷ row 2 0 1 0 ∷ row 2 0 12 0 ∷ []) (65 ∷ []) (ends.StackLimit 0)
    × Means 1 (prints 65 ∷ prints 66 ∷ []) (row 0 0 0 0 ∷ row 2 0 1 0 ∷ row 2 0 11 0 ∷ []) (65 ∷ []) ends.OutputLimit

-- where there is main alone, no thread 63 is without room, whatever it does and whatever the settings
abbrev pub EndsStand : Type 0
EndsStand = (todo : List Deed) (s : Settings) → EndsAs (small todo) alone waiting_calls (row 0 0 0 0 ∷ row 2 63 12 0 ∷ []) s (first_state (small todo) alone) (ends.StackLimit 63) → ⊥

-- no rule is broken where main returns; the first is broken by the second turn; by one that trapped behind the first; and by one for which
-- main waits
abbrev pub BreaksStand : Type 0
BreaksStand =
    IsClean (small (returns (pos 7) ∷ [])) alone waiting_calls (row 0 0 0 0 ∷ row 2 0 9 0 ∷ []) (Some (ends.Done (pos 7)))
    × IsFirstBreak (small (prints 65 ∷ errs C5 ∷ [])) alone waiting_calls (row 0 0 0 0 ∷ row 2 0 1 0 ∷ row 2 0 1 0 ∷ []) None 1
    × ((word : ℕ) (kind : TrapKind) → BreaksAt (small (prints 65 ∷ errs C5 ∷ [])) alone waiting_calls (row 0 0 0 0 ∷ row 2 0 1 0 ∷ row 2 0 10 0 ∷ []) (Some (ends.Trap word kind)) 1)
    × BreaksAt (small (errs C13 ∷ [])) alone waiting_calls (row 0 0 0 0 ∷ row 1 0 0 0 ∷ []) (Some ends.AllBlocked) 0
