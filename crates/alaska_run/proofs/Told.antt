-- What the headline says of each status.
use Rattle.std.proofs.Common.{◌≡◌, ◌≢◌, ℕ, ◌<◌, ◌≤◌, List, length, Option, Some, None, refl, sym, ap, subst, ◌∙◌, ◌⊎◌, inl, inr, arith}
use Rattle.std.proofs.lemmas.Bool.{leb-true, and_parts}
use Rattle.std.specs.Prelude.{IsSome, nat_le}
use Rattle.std.specs.Option.{option_map}
use Rattle.ak_trace.specs.declared.entry.Entry.{Entry}
use Rattle.c_lex.specs.declared.refusal.Refusal.{Refusal}
use Rattle.c_lex.specs.declared.refusal.Kind.{Kind}
use Rattle.c_lex.specs.declared.refusal.Kind.TheVariants.{TooLong}
use Rattle.c_tree.specs.Typed.{Typed}
use Rattle.alaska_run.specs.Reading.{Refuses, NotBoth, OneReason}
use Rattle.alaska_run.specs.Built.{IsTreeOf}
use Rattle.struct_ir.specs.Nodes.{Ir}
use Rattle.struct_ir.specs.Instrs.{LinearCode}
use Rattle.ak_trace.specs.declared.endings.End.{End}
use Rattle.ak_trace.specs.declared.endings.End.TheVariants as ends
use Rattle.flat_rules.specs.declared.settings.Mode.{Mode}
use Rattle.flat_rules.specs.declared.settings.Mode.TheVariants.{Run, Churn, Check, Race, Build, Load}
use Rattle.flat_rules.specs.declared.settings.Settings.{Settings}
use Rattle.run_words.specs.Wanted.{Wanted, settings_of, wanted_of}
use Rattle.run_churn.specs.Text as churn
use Rattle.code_file.specs.Calls.{ir_filled}
use Rattle.code_file.specs.Conditions.{is_lawful}
use Rattle.code_load.specs.Loads.{IsLoaded}
use Rattle.run_notes.specs.declared.status.Status.{Status}
use Rattle.run_notes.specs.declared.status.Status.TheVariants as statuses
use Rattle.run_notes.specs.Statuses.{status_of}
use Rattle.run_notes.specs.Races.{status_with}
use Rattle.run_notes.specs.declared.races.RaceNote.{RaceNote}
use Rattle.run_notes.specs.declared.races.RaceNote.TheVariants as notes
use Rattle.run_edges.specs.Files.{Shelved, most_bytes, most_file_bytes}
use Rattle.run_edges.specs.Sinks.{Channel, WriteFailed}
use Rattle.run_edges.specs.Writing.{after_note_fault}
use Rattle.alaska_run.specs.Ending.{Ending, WantedMemory}
use Rattle.alaska_run.specs.Sources.{Source, Read, Made, Saved, churned, source_by, source_of, source_in, Tells, IsAll, IsFirst, Failed}
use Rattle.alaska_run.specs.Faults.{IsFault, IsRefused, RefusesCode, IsUnloaded}
use Rattle.alaska_run.specs.Races.{note_of}
use Rattle.alaska_run.specs.Modes.{IsCompiledTo, IsCodeBy, IsAnswerBy, IsACheck, IsSavedAs, IsASave, IsWorkBy, IsWorkIn, IsDoneBy}
use Rattle.alaska_run.specs.Headline.{Headline, IsOrUnwritten, WithARun, WithoutARun, DidItsWork}
use Rattle.alaska_run.specs.Answers.{Causes, Answers, AnswersToAText, AnswersToCode, IsUnlessMemory, IsTold}
use Rattle.alaska_run.specs.Loaded.{IsLoadedTo}
use Rattle.alaska_run.specs.Loading.{LoadedOrRefused, OneRefusal}
use Rattle.alaska_run.proofs.Prepared.{IsText}

there_or_not : {A : Type 0} (o : Option A) → (o ≡ None) ⊎ ((a : A) × (o ≡ Some a))
there_or_not None = inl refl
there_or_not (Some a) = inr (a, refl)

some_there : {A : Type 0} (o : Option A) (a : A) → o ≡ Some a → IsSome o
some_there None a e = cc e
some_there (Some b) a e = refl

-- ---- the rows of the modes

pub compiled_in : (mode : Mode) (text : List ℕ) (checked : Ir) (code : LinearCode) → mode ≢ Load → IsCodeBy mode text checked code → IsCompiledTo text checked code
compiled_in Run text checked code n h = h
compiled_in Churn text checked code n h = h
compiled_in Check text checked code n h = absurd h
compiled_in Race text checked code n h = h
compiled_in Build text checked code n h = absurd h
compiled_in Load text checked code n h = absurd (n refl)

-- where there is a journal, all is done
run_done : (mode : Mode) (e : Ending) (end : End) (judged : Status) (behind : List ℕ) → IsAnswerBy mode e end judged behind → IsSome e.journal → IsDoneBy mode e
run_done Run e end judged behind h j = j
run_done Churn e end judged behind h j = j
run_done Check e end judged behind h j = absurd h
run_done Race e end judged behind h j = j
run_done Build e end judged behind h j = absurd h
run_done Load e end judged behind h j = j

-- the status tells what a mode does that runs nothing
abbrev IsOfWork : Status → Type 0
IsOfWork (statuses.Checked found) = Unit {0}
IsOfWork statuses.Built = Unit {0}
IsOfWork statuses.CodeTooDeep = Unit {0}
IsOfWork statuses.CodeTooLong = Unit {0}
IsOfWork status = ⊥

-- what a mode did with a text that has a tree, and which is no code file
record HasWorked (mode : Mode) (e : Ending) (judged : Status) : Type 0 where
  typed : Typed
  tree : IsTreeOf e.text typed
  text_mode : mode ≢ Load
  of_work : IsOfWork judged
  all_done : e.status ≡ judged → IsDoneBy mode e

checked_so : (s : Settings) (e : Ending) (judged : Status) (output line : List ℕ) → IsACheck s e judged output line → HasWorked Check e judged
checked_so s e judged output line k = record {
  typed = k.typed;
  tree = k.built.tree;
  text_mode = λ z. cc z;
  of_work = subst IsOfWork (sym k.judged_is) tt;
  all_done = λ is. (k.report.verdict, is ∙ k.judged_is);
}

saved_of_work : (o : Option Settings) (text : List ℕ) (checked : Ir) (judged : Status) (output line : List ℕ) → IsSavedAs o text checked judged output line → IsOfWork judged
saved_of_work o text checked (statuses.Done exit) output line h = absurd h
saved_of_work o text checked statuses.Usage output line h = absurd h
saved_of_work o text checked (statuses.Refused place kind) output line h = absurd h
saved_of_work o text checked statuses.ReadFault output line h = absurd h
saved_of_work o text checked statuses.WriteFault output line h = absurd h
saved_of_work o text checked (statuses.Trap word kind) output line h = absurd h
saved_of_work o text checked statuses.AllBlocked output line h = absurd h
saved_of_work o text checked statuses.TurnLimit output line h = absurd h
saved_of_work o text checked statuses.OutputLimit output line h = absurd h
saved_of_work o text checked (statuses.StackLimit thread) output line h = absurd h
saved_of_work o text checked statuses.NoMemory output line h = absurd h
saved_of_work o text checked (statuses.Checked found) output line h = absurd h
saved_of_work o text checked (statuses.Raced first second) output line h = absurd h
saved_of_work o text checked statuses.Built output line h = tt
saved_of_work o text checked statuses.CodeTooDeep output line h = tt
saved_of_work o text checked statuses.CodeTooLong output line h = tt
saved_of_work o text checked (statuses.BadCode place) output line h = absurd h
saved_of_work o text checked (statuses.UnsafeCode place why) output line h = absurd h
saved_of_work o text checked statuses.FileTooLong output line h = absurd h

saved_done : (o : Option Settings) (text : List ℕ) (checked : Ir) (judged : Status) (output line : List ℕ) → IsSavedAs o text checked judged output line → (e : Ending) → e.status ≡ judged → IsDoneBy Build e
saved_done o text checked (statuses.Done exit) output line h e is = absurd h
saved_done o text checked statuses.Usage output line h e is = absurd h
saved_done o text checked (statuses.Refused place kind) output line h e is = absurd h
saved_done o text checked statuses.ReadFault output line h e is = absurd h
saved_done o text checked statuses.WriteFault output line h e is = absurd h
saved_done o text checked (statuses.Trap word kind) output line h e is = absurd h
saved_done o text checked statuses.AllBlocked output line h e is = absurd h
saved_done o text checked statuses.TurnLimit output line h e is = absurd h
saved_done o text checked statuses.OutputLimit output line h e is = absurd h
saved_done o text checked (statuses.StackLimit thread) output line h e is = absurd h
saved_done o text checked statuses.NoMemory output line h e is = absurd h
saved_done o text checked (statuses.Checked found) output line h e is = absurd h
saved_done o text checked (statuses.Raced first second) output line h e is = absurd h
saved_done o text checked statuses.Built output line h e is = inl is
saved_done o text checked statuses.CodeTooDeep output line h e is = inr (inl is)
saved_done o text checked statuses.CodeTooLong output line h e is = inr (inr is)
saved_done o text checked (statuses.BadCode place) output line h e is = absurd h
saved_done o text checked (statuses.UnsafeCode place why) output line h e is = absurd h
saved_done o text checked statuses.FileTooLong output line h e is = absurd h

saved_so : (e : Ending) (judged : Status) (output line : List ℕ) → IsASave e judged output line → HasWorked Build e judged
saved_so e judged output line k = record {
  typed = k.typed;
  tree = k.built.tree;
  text_mode = λ z. cc z;
  of_work = saved_of_work e.settings e.text k.checked judged output line k.saved;
  all_done = saved_done e.settings e.text k.checked judged output line k.saved e;
}

worked_so : (mode : Mode) (s : Settings) (e : Ending) (judged : Status) (output line : List ℕ) → IsWorkBy mode s e judged output line → HasWorked mode e judged
worked_so Run s e judged output line h = absurd h
worked_so Churn s e judged output line h = absurd h
worked_so Check s e judged output line h = checked_so s e judged output line h
worked_so Race s e judged output line h = absurd h
worked_so Build s e judged output line h = saved_so e judged output line h
worked_so Load s e judged output line h = absurd h

-- of a text that is all of its source, by the settings' mode
record AWork (file : List ℕ → Shelved) (e : Ending) (judged : Status) : Type 0 where
  settings : Settings
  has_settings : e.settings ≡ Some settings
  source : Source
  from : source_in file e.settings ≡ Some source
  whole : IsAll source e.text
  worked : HasWorked settings.mode e judged

work_in : (file : List ℕ → Shelved) (e : Ending) (judged : Status) (output line : List ℕ) (source : Source) → source_in file e.settings ≡ Some source → IsAll source e.text
    → (o : Option Settings) → e.settings ≡ o → IsWorkIn o e judged output line → AWork file e judged
work_in file e judged output line source from whole None is h = absurd h
work_in file e judged output line source from whole (Some s) is h = record { settings = s; has_settings = is; source = source; from = from; whole = whole; worked = worked_so s.mode s e judged output line h }

work_of : (file : List ℕ → Shelved) (e : Ending) (judged : Status) (output line : List ℕ) → DidItsWork file e judged output line → AWork file e judged
work_of file e judged output line d = work_in file e judged output line d.source d.from d.whole e.settings refl d.work

-- ---- the statuses of a run

-- the status is that of an end, or what judging a run makes of it
abbrev IsOfARun : Status → Type 0
IsOfARun (statuses.Done exit) = Unit {0}
IsOfARun (statuses.Trap word kind) = Unit {0}
IsOfARun statuses.AllBlocked = Unit {0}
IsOfARun statuses.TurnLimit = Unit {0}
IsOfARun statuses.OutputLimit = Unit {0}
IsOfARun (statuses.StackLimit thread) = Unit {0}
IsOfARun statuses.NoMemory = Unit {0}
IsOfARun (statuses.Raced first second) = Unit {0}
IsOfARun status = ⊥

of_an_end : (end : End) → IsOfARun (status_of end)
of_an_end (ends.Done exit) = tt
of_an_end (ends.Trap word kind) = tt
of_an_end ends.AllBlocked = tt
of_an_end ends.TurnLimit = tt
of_an_end ends.OutputLimit = tt
of_an_end (ends.StackLimit thread) = tt

of_a_judged : (note : RaceNote) (end : End) → IsOfARun (status_with note (status_of end))
of_a_judged notes.Clean end = of_an_end end
of_a_judged (notes.Race first second) end = tt
of_a_judged (notes.Broke rule turns) end = of_an_end end
of_a_judged notes.NotJudged end = tt

judged_in : (mode : Mode) (e : Ending) (end : End) (judged : Status) (behind : List ℕ) → IsAnswerBy mode e end judged behind → IsOfARun judged
judged_in Run e end judged behind h = subst IsOfARun (sym h.0) (of_an_end end)
judged_in Churn e end judged behind h = subst IsOfARun (sym h.0) (of_an_end end)
judged_in Check e end judged behind h = absurd h
judged_in Race e end judged behind h = subst IsOfARun (sym h.judged_is) (of_a_judged (note_of h.found) end)
judged_in Build e end judged behind h = absurd h
judged_in Load e end judged behind h = subst IsOfARun (sym h.0) (of_an_end end)

-- a status after note failed is want of memory or a fault of writing
after_note : (s : Status) → (after_note_fault s ≡ statuses.NoMemory) ⊎ (after_note_fault s ≡ statuses.WriteFault)
after_note (statuses.Done exit) = inr refl
after_note statuses.Usage = inr refl
after_note (statuses.Refused place kind) = inr refl
after_note statuses.ReadFault = inr refl
after_note statuses.WriteFault = inr refl
after_note (statuses.Trap word kind) = inr refl
after_note statuses.AllBlocked = inr refl
after_note statuses.TurnLimit = inr refl
after_note statuses.OutputLimit = inr refl
after_note (statuses.StackLimit thread) = inr refl
after_note statuses.NoMemory = inl refl
after_note (statuses.Checked found) = inr refl
after_note (statuses.Raced first second) = inr refl
after_note statuses.Built = inr refl
after_note statuses.CodeTooDeep = inr refl
after_note statuses.CodeTooLong = inr refl
after_note (statuses.BadCode place) = inr refl
after_note (statuses.UnsafeCode place why) = inr refl
after_note statuses.FileTooLong = inr refl

-- what plain settings have the text come from
source_of_plain : (file : List ℕ → Shelved) (o : Option Settings) (w : Wanted) → option_map wanted_of o ≡ Some w → source_in file o ≡ source_of file w
source_of_plain file None w e = cc e
source_of_plain file (Some s) w e = let same : wanted_of s ≡ w = cc e in ap (source_of file) same

plain_some : (o : Option Settings) (s : Settings) → o ≡ Some s → option_map wanted_of o ≡ None → ⊥
plain_some o s is none = let z : Some (wanted_of s) ≡ None = sym (ap (option_map wanted_of) is) ∙ none in cc z

plain_of_source : (file : List ℕ → Shelved) (o : Option Settings) (source : Source) → source_in file o ≡ Some source → option_map wanted_of o ≡ None → ⊥
plain_of_source file None source n e = cc n
plain_of_source file (Some s) source n e = cc e

-- ---- the text of a source

all_short : (source : Source) (text : List ℕ) → IsText source → IsAll source text → length text ≤ most_bytes
all_short (Read file) text t all = all.short
all_short (Made made) text t all = all.0
all_short (Saved file) text t all = absurd t

all_told : (source : Source) (text bytes : List ℕ) → IsAll source text → Tells source bytes → text ≡ bytes
all_told (Read file) text bytes all told = all.whole bytes told
all_told (Made made) text bytes all told = all.1 ∙ told
all_told (Saved file) text bytes all told = all.whole bytes told

first_longer : (source : Source) (text bytes : List ℕ) → IsText source → IsFirst source text → Tells source bytes → most_bytes < length bytes
first_longer (Read file) text bytes t first told = first.longer bytes told
first_longer (Made made) text bytes t first told = absurd first
first_longer (Saved file) text bytes t first told = absurd t

-- a text is refused so
refused_so : (source : Source) (text : List ℕ) (place : ℕ) (kind : Kind) → IsText source → IsRefused source text place kind
    → (IsAll source text × Refuses text (record { place = place; kind = kind })) ⊎ (IsFirst source text × (place ≡ most_bytes) × (kind ≡ TooLong))
refused_so (Read file) text place kind t r = r
refused_so (Made made) text place kind t r = r
refused_so (Saved file) text place kind t r = absurd t

-- and needs no loading
never_unloaded : (source : Source) (text : List ℕ) (s : Status) → IsText source → IsUnloaded source text s → ⊥
never_unloaded (Read file) text s t u = u
never_unloaded (Made made) text s t u = u
never_unloaded (Saved file) text s t u = t

-- code that was saved isn't loaded since it is too long, or for what it is
unloaded_so : (file : Shelved) (text : List ℕ) (s : Status) → IsUnloaded (Saved file) text s → ((s ≡ statuses.FileTooLong) × IsFirst (Saved file) text) ⊎ (IsAll (Saved file) text × RefusesCode text s)
unloaded_so file text (statuses.Done exit) u = inr u
unloaded_so file text statuses.Usage u = inr u
unloaded_so file text (statuses.Refused place kind) u = inr u
unloaded_so file text statuses.ReadFault u = inr u
unloaded_so file text statuses.WriteFault u = inr u
unloaded_so file text (statuses.Trap word kind) u = inr u
unloaded_so file text statuses.AllBlocked u = inr u
unloaded_so file text statuses.TurnLimit u = inr u
unloaded_so file text statuses.OutputLimit u = inr u
unloaded_so file text (statuses.StackLimit thread) u = inr u
unloaded_so file text statuses.NoMemory u = inr u
unloaded_so file text (statuses.Checked found) u = inr u
unloaded_so file text (statuses.Raced first second) u = inr u
unloaded_so file text statuses.Built u = inr u
unloaded_so file text statuses.CodeTooDeep u = inr u
unloaded_so file text statuses.CodeTooLong u = inr u
unloaded_so file text (statuses.BadCode place) u = inr u
unloaded_so file text (statuses.UnsafeCode place why) u = inr u
unloaded_so file text statuses.FileTooLong u = inl (refl, u)

-- a code file is no longer than one may be
loaded_short : (bytes : List ℕ) (p : Ir) → IsLoaded bytes p → length bytes ≤ most_file_bytes
loaded_short bytes p l = leb-true (length bytes) most_file_bytes (and_parts (is_lawful (ir_filled l.code)) (nat_le (length bytes) most_file_bytes) l.is_file.lawful).1

-- ---- the source of a mode

module _ (file : List ℕ → Shelved) where
  read_is_text : (o : Option (List ℕ)) (source : Source) → option_map (λ name. Read (file name)) o ≡ Some source → IsText source
  read_is_text None source e = cc e
  read_is_text (Some name) source e = let is : Read (file name) ≡ source = cc e in subst IsText is tt

  made_is_text : (seed size : Option ℕ) (source : Source) → churned seed size ≡ Some source → IsText source
  made_is_text None size source e = cc e
  made_is_text (Some seed) None source e = cc e
  made_is_text (Some seed) (Some size) source e = let is : Made (churn.text seed size) ≡ source = cc e in subst IsText is tt

  -- each mode but load has a text
  text_by : (mode : Mode) (w : Wanted) (source : Source) → mode ≢ Load → source_by mode file w ≡ Some source → IsText source
  text_by Run w source n e = read_is_text w.file source e
  text_by Churn w source n e = made_is_text w.seed w.size source e
  text_by Check w source n e = read_is_text w.file source e
  text_by Race w source n e = read_is_text w.file source e
  text_by Build w source n e = read_is_text w.file source e
  text_by Load w source n e = absurd (n refl)

  saved_there : (o : Option (List ℕ)) (source : Source) → option_map (λ name. Saved (file name)) o ≡ Some source → (saved : Shelved) × (source ≡ Saved saved)
  saved_there None source e = cc e
  saved_there (Some name) source e = let is : Saved (file name) ≡ source = cc e in (file name, sym is)

  -- and mode load has code that was saved
  saved_by : (mode : Mode) (w : Wanted) (source : Source) → mode ≡ Load → source_by mode file w ≡ Some source → (saved : Shelved) × (source ≡ Saved saved)
  saved_by mode w source m e = saved_there w.file source (ap (λ (z : Mode). source_by z file w) (sym m) ∙ e)

module _ (words : List (List ℕ)) (file : List ℕ → Shelved) (out note : Channel) (e : Ending) (h : Headline words file out note e) where
  -- ---- with a run
  module _ (log : List Entry) (l : e.journal ≡ Some log) where
    abbrev run : WithARun file out note e log
    run = h.with_a_run log l

    judged_so : IsOfARun run.judged
    judged_so = judged_in run.settings.mode e run.the_run.end run.judged run.behind run.answer

    never : (s : Status) → (IsOfARun s → ⊥) → s ≢ statuses.WriteFault → e.status ≡ s → ⊥
    never s other not is = elim run.how_it_ended [ inl a ↦ other (subst IsOfARun (sym a ∙ is) judged_so) | inr b ↦ not (sym is ∙ b) ]

    run_fault : e.status ≡ statuses.WriteFault → WriteFailed out ⊎ WriteFailed note
    run_fault is = elim run.what_it_wrote [
      | inl w ↦ absurd (subst IsOfARun (sym w.status_is ∙ is) judged_so)
      | inr x ↦ elim x [ inl w ↦ inl w.fault | inr w ↦ inr w.fault ]
    ]

  -- ---- without one
  module _ (none : e.journal ≡ None) where
    abbrev w : WithoutARun words file out note e
    w = h.without_a_run none

    -- the status is the judged one, or out failed, or note
    judged : (e.status ≡ w.judged) ⊎ ((e.status ≡ statuses.WriteFault) × WriteFailed out) ⊎ ((e.status ≡ after_note_fault w.judged) × WriteFailed note)
    judged = elim w.written [ inl a ↦ inl a.status_is | inr x ↦ inr (elim x [ inl a ↦ inl (a.status_is, a.fault) | inr a ↦ inr (a.status_is, a.fault) ]) ]

    judged_as : (s : Status) → s ≢ statuses.NoMemory → s ≢ statuses.WriteFault → e.status ≡ s → w.judged ≡ s
    judged_as s other not is = elim judged [
      | inl a ↦ sym a ∙ is
      | inr x ↦ elim x [
        | inl b ↦ absurd (not (sym is ∙ b.0))
        | inr b ↦ elim (after_note w.judged) [ inl m ↦ absurd (other (sym is ∙ b.0 ∙ m)) | inr m ↦ absurd (not (sym is ∙ b.0 ∙ m)) ]
      ]
    ]

    -- a judged status that nothing has that was done without a run is that of a call that came to none
    fault_at : (s : Status) → (IsOfWork s → ⊥) → w.judged ≡ s → IsFault words file e.settings e.text s
    fault_at s other is = elim w.why [
      | inl c ↦ subst (λ (z : Status). IsFault words file e.settings e.text z) is c.cause
      | inr d ↦ absurd (other (subst IsOfWork is (work_of file e w.judged w.output w.line d).worked.of_work))
    ]

    fault_as : (s : Status) → s ≢ statuses.NoMemory → s ≢ statuses.WriteFault → (IsOfWork s → ⊥) → e.status ≡ s → IsFault words file e.settings e.text s
    fault_as s other not work is = fault_at s work (judged_as s other not is)

    no_run_fault : e.status ≡ statuses.WriteFault → WriteFailed out ⊎ WriteFailed note
    no_run_fault is = elim judged [
      | inl a ↦ absurd (fault_at statuses.WriteFault (λ z. z) (sym a ∙ is))
      | inr x ↦ elim x [ inl b ↦ inl b.1 | inr b ↦ inr b.1 ]
    ]

  fault_of : (s : Status) → s ≢ statuses.NoMemory → s ≢ statuses.WriteFault → (IsOfWork s → ⊥) → (IsOfARun s → ⊥) → e.status ≡ s → IsFault words file e.settings e.text s
  fault_of s memory write work end is = elim (there_or_not e.journal) [ inl n ↦ fault_as n s memory write work is | inr l ↦ absurd (never l.0 l.1 s end write is) ]

  pub causes : Causes words file out note e
  causes = record {
    usage = λ is. fault_of statuses.Usage (λ z. cc z) (λ z. cc z) (λ z. z) (λ z. z) is;
    refused = λ place kind is. fault_of (statuses.Refused place kind) (λ z. cc z) (λ z. cc z) (λ z. z) (λ z. z) is;
    bad_code = λ place is. fault_of (statuses.BadCode place) (λ z. cc z) (λ z. cc z) (λ z. z) (λ z. z) is;
    unsafe_code = λ place why is. fault_of (statuses.UnsafeCode place why) (λ z. cc z) (λ z. cc z) (λ z. z) (λ z. z) is;
    file_too_long = λ is. fault_of statuses.FileTooLong (λ z. cc z) (λ z. cc z) (λ z. z) (λ z. z) is;
    read_fault = λ is. fault_of statuses.ReadFault (λ z. cc z) (λ z. cc z) (λ z. z) (λ z. z) is;
    write_fault = λ is. elim (there_or_not e.journal) [ inl n ↦ no_run_fault n is | inr l ↦ run_fault l.0 l.1 is ];
  }

  -- ---- where nothing failed

  -- this holds, or memory was wanting
  abbrev OrMemory : Type 0 → Type 0
  OrMemory G = G ⊎ WantedMemory e

  -- what comes of each cause but want of memory, and of work without a run, is so, or memory was wanting
  module _ (out_kept : WriteFailed out → ⊥) (note_kept : WriteFailed note → ⊥) (G : Type 0) (work : AWork file e e.status → OrMemory G) (usage : e.status ≡ statuses.Usage → settings_of words ≡ None → OrMemory G)
      (read : (source : Source) → source_in file e.settings ≡ Some source → Failed source → OrMemory G)
      (refused : (place : ℕ) (kind : Kind) → e.status ≡ statuses.Refused place kind → (source : Source) → source_in file e.settings ≡ Some source → IsRefused source e.text place kind → OrMemory G)
      (unloaded : (s : Status) → e.status ≡ s → (source : Source) → source_in file e.settings ≡ Some source → IsUnloaded source e.text s → OrMemory G) where
    by_cause : (none : e.journal ≡ None) (s : Status) → e.status ≡ s → IsFault words file e.settings e.text s → OrMemory G
    by_cause none statuses.Usage is f = usage is f
    by_cause none statuses.ReadFault is f = read f.0 f.1 f.2
    by_cause none (statuses.Refused place kind) is f = refused place kind is f.0 f.1 f.2
    by_cause none (statuses.BadCode place) is f = unloaded (statuses.BadCode place) is f.0 f.1 f.2
    by_cause none (statuses.UnsafeCode place why) is f = unloaded (statuses.UnsafeCode place why) is f.0 f.1 f.2
    by_cause none statuses.FileTooLong is f = unloaded statuses.FileTooLong is f.0 f.1 f.2
    by_cause none statuses.NoMemory is f = inr (record { status = is; journal = none })
    by_cause none (statuses.Done exit) is f = absurd f
    by_cause none statuses.WriteFault is f = absurd f
    by_cause none (statuses.Trap word kind) is f = absurd f
    by_cause none statuses.AllBlocked is f = absurd f
    by_cause none statuses.TurnLimit is f = absurd f
    by_cause none statuses.OutputLimit is f = absurd f
    by_cause none (statuses.StackLimit thread) is f = absurd f
    by_cause none (statuses.Checked found) is f = absurd f
    by_cause none (statuses.Raced first second) is f = absurd f
    by_cause none statuses.Built is f = absurd f
    by_cause none statuses.CodeTooDeep is f = absurd f
    by_cause none statuses.CodeTooLong is f = absurd f

    by_why : (none : e.journal ≡ None) → e.status ≡ (w none).judged → OrMemory G
    by_why none is = elim (w none).why [
      | inl c ↦ by_cause none (w none).judged is c.cause
      | inr d ↦ (let k = work_of file e (w none).judged (w none).output (w none).line d in work (subst (AWork file e) (sym is) k))
    ]

    caused : e.journal ≡ None → OrMemory G
    caused none = elim (judged none) [ inl a ↦ by_why none a | inr x ↦ elim x [ inl b ↦ absurd (out_kept b.1) | inr b ↦ absurd (note_kept b.1) ] ]

  -- the source is the one that the words have
  module _ (bytes : List ℕ) (t : IsTold words file out note bytes) where
    same_source : (source : Source) → source_in file e.settings ≡ Some source → (t.source ≡ source) ⊎ WantedMemory e
    same_source source n = elim h.the_text.settings [
      | inl a ↦ inl (let f : source_in file e.settings ≡ Some t.source = source_of_plain file e.settings t.wanted (a ∙ t.words_are) ∙ t.from in cc (sym f ∙ n))
      | inr m ↦ inr m
    ]

    no_usage : settings_of words ≡ None → ⊥
    no_usage none = let z : Some t.wanted ≡ None = sym t.words_are ∙ none in cc z

    no_read : (source : Source) → source_in file e.settings ≡ Some source → Failed source → WantedMemory e
    no_read source n failed = elim (same_source source n) [ inl s ↦ absurd (t.kept.read (subst Failed (sym s) failed)) | inr m ↦ m ]

    -- what holds of the settings' source holds of the one that the words have
    at_source : (P : Source → Type 0) (G : Type 0) (source : Source) → source_in file e.settings ≡ Some source → P source → (P t.source → OrMemory G) → OrMemory G
    at_source P G source n p go = elim (same_source source n) [ inl s ↦ go (subst P (sym s) p) | inr m ↦ inr m ]

    -- a text that is all of its source is these bytes
    all_bytes : IsAll t.source e.text → e.text ≡ bytes
    all_bytes all = all_told t.source e.text bytes all t.told

    -- the mode of the settings is the one that the words want
    same_mode : (s : Settings) → e.settings ≡ Some s → (s.mode ≡ t.wanted.mode) ⊎ WantedMemory e
    same_mode s is = elim h.the_text.settings [
      | inl a ↦ inl (let b : Some (wanted_of s) ≡ Some t.wanted = sym (ap (option_map wanted_of) is) ∙ a ∙ t.words_are in let c : wanted_of s ≡ t.wanted = cc b in ap (λ (z : Wanted). z.mode) c)
      | inr m ↦ inr m
    ]

    -- what is done by the mode of the settings is done by that
    done_by : (s : Settings) → e.settings ≡ Some s → IsDoneBy s.mode e → IsDoneBy t.wanted.mode e ⊎ WantedMemory e
    done_by s is d = elim (same_mode s is) [ inl m ↦ inl (subst (λ (z : Mode). IsDoneBy z e) m d) | inr m ↦ inr m ]

    run_is_done : (log : List Entry) → e.journal ≡ Some log → IsDoneBy t.wanted.mode e ⊎ WantedMemory e
    run_is_done log l = let r = h.with_a_run log l in done_by r.settings r.has_settings (run_done r.settings.mode e r.the_run.end r.judged r.behind r.answer (some_there e.journal log l))

    work_is_done : AWork file e e.status → OrMemory (IsDoneBy t.wanted.mode e)
    work_is_done k = done_by k.settings k.has_settings (k.worked.all_done refl)

    -- a run is of a text that is all of its source, by the mode that the words want
    module _ (log : List Entry) (l : e.journal ≡ Some log) where
      some_memory : WantedMemory e → ⊥
      some_memory m = let z : Some log ≡ None = sym l ∙ m.journal in cc z

      ran_whole : IsAll t.source e.text
      ran_whole =
          let code = (h.with_a_run log l).the_code in
          elim (same_source code.source code.from) [ inl s ↦ subst (λ (z : Source). IsAll z e.text) (sym s) code.whole | inr m ↦ absurd (some_memory m) ]

      ran_by : let run = h.with_a_run log l in IsCodeBy t.wanted.mode e.text run.checked run.code
      ran_by =
          let run = h.with_a_run log l in
          elim (same_mode run.settings run.has_settings) [
            | inl m ↦ subst (λ (z : Mode). IsCodeBy z e.text run.checked run.code) m run.the_code.of_text
            | inr m ↦ absurd (some_memory m)
          ]

    no_failed : (G : Type 0) (source : Source) → source_in file e.settings ≡ Some source → Failed source → OrMemory G
    no_failed G source n failed = inr (no_read source n failed)

    not_usage : (G : Type 0) → e.status ≡ statuses.Usage → settings_of words ≡ None → OrMemory G
    not_usage G is none = absurd (no_usage none)

    -- ---- a text

    module _ (text_mode : t.wanted.mode ≢ Load) where
      a_text : IsText t.source
      a_text = text_by file t.wanted.mode t.wanted t.source text_mode t.from

      no_loading : (G : Type 0) (s : Status) → e.status ≡ s → (source : Source) → source_in file e.settings ≡ Some source → IsUnloaded source e.text s → OrMemory G
      no_loading G s is source n u = at_source (λ (z : Source). IsUnloaded z e.text s) G source n u (λ v. absurd (never_unloaded t.source e.text s a_text v))

      -- a refusal of a text is one of these bytes, or they are too many
      abbrev RefusedSo : (place : ℕ) (kind : Kind) → Type 0
      RefusedSo place kind = (IsAll t.source e.text × Refuses bytes (record { place = place; kind = kind })) ⊎ ((most_bytes < length bytes) × (place ≡ most_bytes) × (kind ≡ TooLong))

      refused_bytes : (place : ℕ) (kind : Kind) → IsRefused t.source e.text place kind → RefusedSo place kind
      refused_bytes place kind r = elim (refused_so t.source e.text place kind a_text r) [
        | inl a ↦ inl (a.0, subst (λ (z : List ℕ). Refuses z (record { place = place; kind = kind })) (all_bytes a.0) a.1)
        | inr b ↦ inr (first_longer t.source e.text bytes a_text b.0 t.told, b.1, b.2)
      ]

      -- by its refusals, where it is refused
      by_refusal : (G : Type 0) → ((place : ℕ) (kind : Kind) → e.status ≡ statuses.Refused place kind → RefusedSo place kind → OrMemory G) → (place : ℕ) (kind : Kind) → e.status ≡ statuses.Refused place kind
          → (source : Source) → source_in file e.settings ≡ Some source → IsRefused source e.text place kind → OrMemory G
      by_refusal G go place kind is source n r = at_source (λ (z : Source). IsRefused z e.text place kind) G source n r (λ q. go place kind is (refused_bytes place kind q))

      -- a text that is all of its source is no longer than a text may be
      is_short : IsAll t.source e.text → length bytes ≤ most_bytes
      is_short all = let same = ap length (all_bytes all) in let short = all_short t.source e.text a_text all in omega (arith, same, short)

      -- the text of work without a run
      work_whole : (G : Type 0) → (k : AWork file e e.status) → (IsAll t.source e.text → OrMemory G) → OrMemory G
      work_whole G k go = at_source (λ (z : Source). IsAll z e.text) G k.source k.from k.whole go

      tree_of_run : (log : List Entry) → e.journal ≡ Some log → (typed : Typed) × IsTreeOf e.text typed
      tree_of_run log l = let run = h.with_a_run log l in let made = compiled_in t.wanted.mode e.text run.checked run.code text_mode (ran_by log l) in (made.0, made.1.tree)

      module _ (not_both : NotBoth) (one_reason : OneReason) where
        -- a text with a tree isn't refused
        tree_or_refused : (r : Refusal) → Refuses bytes r → (typed : Typed) → IsTreeOf e.text typed → IsAll t.source e.text → ⊥
        tree_or_refused r refuses typed tree all = not_both e.text tree.tokens typed r tree.read (subst (λ (z : List ℕ). Refuses z r) (sym (all_bytes all)) refuses)

        to_a_text : AnswersToAText t.wanted.mode bytes e
        to_a_text = record {
          complete = λ typed short tree. elim (there_or_not e.journal) [
            | inl n ↦ caused t.kept.out_kept t.kept.note_kept (IsDoneBy t.wanted.mode e) work_is_done (not_usage (IsDoneBy t.wanted.mode e)) (no_failed (IsDoneBy t.wanted.mode e))
                (by_refusal (IsDoneBy t.wanted.mode e) (λ place kind is r. elim r [ inl a ↦ absurd (not_both bytes tree.tokens typed _ tree.read a.1) | inr b ↦ absurd (let long = b.0 in omega (arith, short, long)) ]))
                (no_loading (IsDoneBy t.wanted.mode e)) n
            | inr l ↦ run_is_done l.0 l.1
          ];
          refused = λ r short refuses. elim (there_or_not e.journal) [
            | inl n ↦ caused t.kept.out_kept t.kept.note_kept (e.status ≡ statuses.Refused r.place r.kind)
                (λ k. work_whole (e.status ≡ statuses.Refused r.place r.kind) k (λ all. absurd (tree_or_refused r refuses k.worked.typed k.worked.tree all)))
                (not_usage (e.status ≡ statuses.Refused r.place r.kind)) (no_failed (e.status ≡ statuses.Refused r.place r.kind))
                (by_refusal (e.status ≡ statuses.Refused r.place r.kind) (λ place kind is q. elim q [
                  | inl a ↦ inl (is ∙ ap (λ (z : Refusal). statuses.Refused z.place z.kind) (one_reason bytes _ r a.1 refuses))
                  | inr b ↦ absurd (let long = b.0 in omega (arith, short, long))
                ]))
                (no_loading (e.status ≡ statuses.Refused r.place r.kind)) n
            | inr l ↦ (let x = tree_of_run l.0 l.1 in absurd (tree_or_refused r refuses x.0 x.1 (ran_whole l.0 l.1)))
          ];
          too_long = λ long. elim (there_or_not e.journal) [
            | inl n ↦ caused t.kept.out_kept t.kept.note_kept (e.status ≡ statuses.Refused most_bytes TooLong)
                (λ k. work_whole (e.status ≡ statuses.Refused most_bytes TooLong) k (λ all. absurd (let short = is_short all in omega (arith, short, long))))
                (not_usage (e.status ≡ statuses.Refused most_bytes TooLong)) (no_failed (e.status ≡ statuses.Refused most_bytes TooLong))
                (by_refusal (e.status ≡ statuses.Refused most_bytes TooLong) (λ place kind is q. elim q [
                  | inl a ↦ absurd (let short = is_short a.0 in omega (arith, short, long))
                  | inr b ↦ inl (is ∙ ap (λ (z : ℕ). statuses.Refused z kind) b.1 ∙ ap (λ (z : Kind). statuses.Refused most_bytes z) b.2)
                ]))
                (no_loading (e.status ≡ statuses.Refused most_bytes TooLong)) n
            | inr l ↦ absurd (let short = is_short (ran_whole l.0 l.1) in omega (arith, short, long))
          ];
        }

    -- ---- code that was saved

    module _ (load_mode : t.wanted.mode ≡ Load) where
      a_file : (saved : Shelved) × (t.source ≡ Saved saved)
      a_file = saved_by file t.wanted.mode t.wanted t.source load_mode t.from

      as_file : (P : Source → Type 0) → P t.source → P (Saved a_file.0)
      as_file P p = subst P a_file.1 p

      -- no refusal of a text, and no work without a run
      no_refusal : (G : Type 0) (place : ℕ) (kind : Kind) → e.status ≡ statuses.Refused place kind → (source : Source) → source_in file e.settings ≡ Some source → IsRefused source e.text place kind → OrMemory G
      no_refusal G place kind is source n r = at_source (λ (z : Source). IsRefused z e.text place kind) G source n r (λ q. absurd (as_file (λ (z : Source). IsRefused z e.text place kind) q))

      no_work : (G : Type 0) → AWork file e e.status → OrMemory G
      no_work G k = elim (same_mode k.settings k.has_settings) [ inl m ↦ absurd (k.worked.text_mode (m ∙ load_mode)) | inr m ↦ inr m ]

      -- the bytes are too many, or refused
      abbrev UnloadedSo : Status → Type 0
      UnloadedSo s = ((s ≡ statuses.FileTooLong) × (most_file_bytes < length bytes)) ⊎ (RefusesCode bytes s × (length bytes ≤ most_file_bytes))

      code_short : IsAll t.source e.text → length bytes ≤ most_file_bytes
      code_short all = let same = ap length (all_bytes all) in let short = (as_file (λ (z : Source). IsAll z e.text) all).short in omega (arith, same, short)

      unloaded_bytes : (s : Status) → IsUnloaded t.source e.text s → UnloadedSo s
      unloaded_bytes s u = elim (unloaded_so a_file.0 e.text s (as_file (λ (z : Source). IsUnloaded z e.text s) u)) [
        | inl a ↦ inl (a.0, a.1.longer bytes (as_file (λ (z : Source). Tells z bytes) t.told))
        | inr b ↦ (let all : IsAll t.source e.text = subst (λ (z : Source). IsAll z e.text) (sym a_file.1) b.0 in inr (subst (λ (z : List ℕ). RefusesCode z s) (all_bytes all) b.1, code_short all))
      ]

      by_loading : (G : Type 0) → ((s : Status) → e.status ≡ s → UnloadedSo s → OrMemory G) → (s : Status) → e.status ≡ s → (source : Source) → source_in file e.settings ≡ Some source → IsUnloaded source e.text s
          → OrMemory G
      by_loading G go s is source n u = at_source (λ (z : Source). IsUnloaded z e.text s) G source n u (λ v. go s is (unloaded_bytes s v))

      -- without a journal, by why the file wasn't loaded
      unloaded : (G : Type 0) → ((s : Status) → e.status ≡ s → UnloadedSo s → OrMemory G) → e.journal ≡ None → OrMemory G
      unloaded G go n = caused t.kept.out_kept t.kept.note_kept G (no_work G) (not_usage G) (no_failed G) (no_refusal G) (by_loading G go) n

      -- what ran was loaded from these bytes
      ran_loaded : (log : List Entry) (l : e.journal ≡ Some log) → let run = h.with_a_run log l in IsLoadedTo bytes run.checked run.code
      ran_loaded log l =
          let run = h.with_a_run log l in
          let by : IsCodeBy Load e.text run.checked run.code = subst (λ (z : Mode). IsCodeBy z e.text run.checked run.code) load_mode (ran_by log l) in
          subst (λ (z : List ℕ). IsLoadedTo z run.checked run.code) (all_bytes (ran_whole log l)) by

      module _ (loaded_or_refused : LoadedOrRefused) (one_refusal : OneRefusal) where
        to_code : AnswersToCode bytes e
        to_code = record {
          complete = λ checked loaded safe. elim (there_or_not e.journal) [
            | inl n ↦ unloaded (IsDoneBy Load e) (λ s is u. elim u [
              | inl a ↦ absurd (let long = a.1 in let short = loaded_short bytes checked loaded in omega (arith, long, short))
              | inr b ↦ absurd (loaded_or_refused bytes checked s loaded safe b.0)
            ]) n
            | inr l ↦ inl (some_there e.journal l.0 l.1)
          ];
          refused = λ status short refuses. elim (there_or_not e.journal) [
            | inl n ↦ unloaded (e.status ≡ status) (λ s is u. elim u [
              | inl a ↦ absurd (let long = a.1 in omega (arith, long, short))
              | inr b ↦ inl (is ∙ one_refusal bytes s status b.0 refuses)
            ]) n
            | inr l ↦ absurd (let x = ran_loaded l.0 l.1 in loaded_or_refused bytes (h.with_a_run l.0 l.1).checked status x.loaded x.accepted refuses)
          ];
          too_long = λ long. elim (there_or_not e.journal) [
            | inl n ↦ unloaded (e.status ≡ statuses.FileTooLong) (λ s is u. elim u [ inl a ↦ inl (is ∙ a.0) | inr b ↦ absurd (let short = b.1 in omega (arith, long, short)) ]) n
            | inr l ↦ absurd (let short = code_short (ran_whole l.0 l.1) in omega (arith, long, short))
          ];
        }

  plainly : settings_of words ≡ None → (source : Source) → source_in file e.settings ≡ Some source → IsUnlessMemory e statuses.Usage
  plainly none source f = elim h.the_text.settings [ inl a ↦ absurd (plain_of_source file e.settings source f (a ∙ none)) | inr m ↦ inr m ]

  pub answers : NotBoth → OneReason → LoadedOrRefused → OneRefusal → Answers words file out note e
  answers not_both one_reason loaded_or_refused one_refusal = record {
    usage = λ none out_kept note_kept. elim (there_or_not e.journal) [
      | inl n ↦ caused out_kept note_kept (e.status ≡ statuses.Usage) (λ k. plainly none k.source k.from) (λ is z. inl is) (λ source f failed. plainly none source f) (λ place kind is source f r. plainly none source f)
          (λ s is source f u. plainly none source f) n
      | inr l ↦ inr (elim h.the_text.settings [
        | inl a ↦ absurd (let run = h.with_a_run l.0 l.1 in plain_some e.settings run.settings run.has_settings (a ∙ none))
        | inr m ↦ m
      ])
    ];
    texts = λ bytes t text_mode. to_a_text bytes t text_mode not_both one_reason;
    code_files = λ bytes t load_mode. to_code bytes t load_mode loaded_or_refused one_refusal;
  }
