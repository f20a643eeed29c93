-- Laws of the rules.
use Rattle.std.specs.Prelude.{◌≡◌, ℕ, ◌+◌, ◌==◌, ◌<◌, ◌≤◌, true, List, [], ◌∷◌, length, count_by, Option, Some}
use Rattle.ak_trace.specs.declared.entry.Entry.{Entry}
use Rattle.ak_trace.specs.Kinds as kind
use Rattle.flat_rules.specs.Rules.{Rules}
use Rattle.flat_rules.specs.Machine.{Machine}
use Rattle.flat_rules.specs.States.{RunState, none_out, start, kept_free}
use Rattle.flat_rules.specs.Events.{Event}
use Rattle.flat_rules.specs.Replays.{event_at, run, replay}

-- a barrier serves at most those at home
abbrev pub ServesFew : {S C : Type 0} → Machine S C → Type 0
ServesFew {S} {C} m = (s : S) (homes : List (Option C)) → length (m.barrier s homes).served ≤ length homes

module _ (S C : Type 0) where
  -- the spare is the journal's limit less its entries
  abbrev pub SpareIsLeft : Type 0
  SpareIsLeft = (m : Machine S C) (settings : Rules) (shared : S) (log : List Entry) (s : RunState S C) → ServesFew m → replay m settings shared log ≡ Some s → s.spare + length log ≡ settings.entries

  -- in each state of a run, one event has no more entries than are kept free for it
  abbrev pub EventsFit : Type 0
  EventsFit = (m : Machine S C) (settings : Rules) (shared : S) (log : List Entry) (s : RunState S C) (kind worker thread : ℕ) (v : Event S C)
      → ServesFew m → run m settings log (start m settings shared) ≡ Some s → event_at m settings s kind worker thread ≡ Some v → length v.entries ≤ kept_free

  -- no journal is longer than its limit, within an event too
  abbrev pub JournalsFit : Type 0
  JournalsFit = (m : Machine S C) (settings : Rules) (shared : S) (log : List Entry) (s : RunState S C) → ServesFew m → run m settings log (start m settings shared) ≡ Some s → length log ≤ settings.entries

  -- a run without a barrier meets TurnLimit with just 65 entries left
  abbrev pub TurnLimitAt65 : Type 0
  TurnLimitAt65 = (m : Machine S C) (settings : Rules) (shared : S) (log : List Entry) (s : RunState S C)
      → ServesFew m → 65 ≤ settings.entries → count_by (λ e. e.kind == kind.barrier) log ≡ 0 → replay m settings shared log ≡ Some s → s.spare < kept_free → length log + 65 ≡ settings.entries

  -- at a barrier no thread is out
  abbrev pub BarriersAlone : Type 0
  BarriersAlone = (m : Machine S C) (settings : Rules) (s : RunState S C) (e : Entry) (after : RunState S C)
      → s.due ≡ [] → e.kind ≡ kind.barrier → run m settings (e ∷ []) s ≡ Some after → none_out m settings s ≡ true
