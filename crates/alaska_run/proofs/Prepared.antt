-- What words and file come to.
use Rattle.std.proofs.Common.{◌≡◌, ◌≢◌, ℕ, List, [], Option, Some, None, Result, Ok, Err, sym, ap, subst, ◌∙◌, ◌⊎◌, inl, inr}
use Rattle.std.specs.Prelude.{◌+◌, ◌*◌, ◌≤◌, length, vec_capacity, IfOk}
use Rattle.std.specs.Option.{option_map}
use Rattle.std.specs.Arc.{arc_value}
use Rattle.c_lex.specs.declared.refusal.Kind.{Kind}
use Rattle.c_lex.specs.declared.refusal.Kind.TheVariants.{TooLong}
use Rattle.c_tree.specs.TypedViews.{typed_view}
use Rattle.struct_ir.specs.Nodes.{Ir}
use Rattle.struct_ir.specs.Instrs.{LinearCode}
use Rattle.alaska_run.specs.Reading.{Refuses}
use Rattle.alaska_run.specs.Built.{IsBuilt}
use Rattle.pin_checker.specs.CheckedViews.{program_in}
use Rattle.flat_rules.specs.declared.settings.Settings.{Settings}
use Rattle.flat_rules.specs.declared.settings.Mode.{Mode}
use Rattle.flat_rules.specs.declared.settings.Mode.TheVariants.{Run, Churn, Race, Load}
use Rattle.run_words.specs.Wanted.{settings_of, wanted_of}
use Rattle.run_notes.specs.declared.status.Status.{Status}
use Rattle.run_notes.specs.declared.status.Status.TheVariants as statuses
use Rattle.run_notes.specs.Lines.{fault_line}
use Rattle.run_edges.specs.Files.{Shelved, most_bytes}
use Rattle.alaska_run.specs.declared.checking.Worked.{Worked}
use Rattle.alaska_run.specs.declared.preparing.Course.{Course}
use Rattle.alaska_run.specs.declared.preparing.Course.TheVariants as courses
use Rattle.alaska_run.specs.declared.preparing.Opened.{Opened}
use Rattle.alaska_run.specs.declared.preparing.Stopped.{Stopped}
use Rattle.alaska_run.specs.declared.racing.Racing.{Racing}
use Rattle.alaska_run.specs.Sources.{Source, Read, Made, Saved, source_of, source_in, name_in, IsAll, IsFirst}
use Rattle.alaska_run.specs.Faults.{IsFault, IsRefused, RefusesCode}
use Rattle.alaska_run.specs.Modes.{IsCompiledTo, IsCodeBy}
use Rattle.alaska_run.specs.Headline.{IsTextOf}
use Rattle.alaska_run.specs.inner.Courses.{IsStopped, IsOpened, IsToRun, IsToRace, IsWorked, IsCourse, IsStoppedWith, IsStoppedAs, IsReady, IsOpenedOf, IsRacingOf, IsLoadedOf, WorkedBy, IsWorkedOf, IsCourseOf, IsLoadingOf}
use Rattle.alaska_run.proofs.Words.{runs_by}

-- what holds of a value holds where there is one
pub where_ok : {A E : Type 0} (P Q : A → Type 0) (r : Result A E) → ((a : A) → P a → Q a) → IfOk r P → IfOk r Q
where_ok P Q (Ok a) f h = f a h
where_ok P Q (Err e) f h = h

-- the source is no code file
abbrev pub IsText : Source → Type 0
IsText (Read file) = Unit {0}
IsText (Made made) = Unit {0}
IsText (Saved file) = ⊥

-- and so a text of it may be refused
pub is_refused : (source : Source) (text : List ℕ) (place : ℕ) (kind : Kind) → IsText source
    → (IsAll source text × Refuses text (record { place = place; kind = kind })) ⊎ (IsFirst source text × (place ≡ most_bytes) × (kind ≡ TooLong)) → IsRefused source text place kind
is_refused (Read file) text place kind t h = h
is_refused (Made made) text place kind t h = h
is_refused (Saved file) text place kind t h = absurd t

-- a text that is compiled runs in modes run and churn
compiled_by : (mode : Mode) (text : List ℕ) (checked : Ir) (code : LinearCode) → (mode ≡ Run) ⊎ (mode ≡ Churn) → IsCompiledTo text checked code → IsCodeBy mode text checked code
compiled_by mode text checked code (inl m) h = subst (λ (z : Mode). IsCodeBy z text checked code) (sym m) h
compiled_by mode text checked code (inr m) h = subst (λ (z : Mode). IsCodeBy z text checked code) (sym m) h

module _ (words : List (List ℕ)) (file : List ℕ → Shelved) (s : Settings) (source : Source) (text : List ℕ) (said : settings_of words ≡ Some (wanted_of s)) (from : source_of file (wanted_of s) ≡ Some source) where
  -- the text of the one source that the settings have
  of_source : (status : Status) → IsTextOf source text status → (other : Source) → source_in file (Some s) ≡ Some other → IsTextOf other text status
  of_source status h other e = let same : source ≡ other = cc (sym from ∙ e) in subst (λ (z : Source). IsTextOf z text status) same h

  -- a call that comes to no run, of these settings
  pub stopped : (status : Status) (x : Stopped) → IsTextOf source text status → IsFault words file (Some s) text status → IsStoppedWith status (Some s) text x → IsStopped words file x
  stopped status x of fault w =
      let P : Option Settings → List ℕ → Status → Type 0 = λ o t u. (option_map wanted_of o ≡ settings_of words) × ((z : Source) → source_in file o ≡ Some z → IsTextOf z t u)
      × (o ≡ None → t ≡ []) × IsFault words file o t u × (x.line.items ≡ fault_line (name_in o) t u) in
      let here : P (Some s) text status = (sym said, of_source status of, (λ e. absurd cc), fault, w.line) in
      let a : P x.settings text status = subst (λ o. P o text status) (sym w.settings_are) here in
      let b : P x.settings x.text.items status = subst (λ t. P x.settings t status) (sym w.text_is) a in
      let c : P x.settings x.text.items x.status = subst (λ u. P x.settings x.text.items u) (sym w.status_is) b in
      record { settings = c.0; text = c.1; none = c.2; fault = c.3; line = c.4 }

  -- a text of the subset, that is to run, and code that was loaded
  opened_by : (x : Opened) → x.settings ≡ s → x.text.items ≡ text → IsAll source text → IsCodeBy s.mode text (program_in x.checked) (arc_value x.code) → IsReady x → IsOpened words file x
  opened_by x is_s is_text whole by ready =
      let P : Settings → List ℕ → Type 0 = λ z t. (settings_of words ≡ Some (wanted_of z)) × (source_of file (wanted_of z) ≡ Some source) × IsAll source t × IsCodeBy z.mode t (program_in x.checked) (arc_value x.code) in
      let here : P s text = (said, from, whole, by) in
      let there : P x.settings x.text.items = subst (λ (z : Settings). P z x.text.items) (sym is_s) (subst (λ (t : List ℕ). P s t) (sym is_text) here) in
      record { settings = there.0; source = source; from = there.1; whole = there.2; of_text = there.3; ready = ready }

  opened : (x : Opened) → s.mode ≢ Load → IsAll source text → IsOpenedOf s text x → IsToRun words file x
  opened x text_mode whole o =
      let runs = runs_by s.mode o.not_checked o.not_judged o.not_built text_mode in
      record {
        opened = opened_by x o.settings_are o.text_is whole (compiled_by s.mode text (program_in x.checked) (arc_value x.code) runs (o.typed, o.built)) o.ready;
        not_judged = subst (λ (z : Settings). z.mode ≢ Race) (sym o.settings_are) o.not_judged;
      }

  loaded : (x : Opened) → s.mode ≡ Load → IsAll source text → IsLoadedOf s text x → IsToRun words file x
  loaded x mode whole o = record {
    opened = opened_by x o.settings_are o.text_is whole (subst (λ (m : Mode). IsCodeBy m text (program_in x.checked) (arc_value x.code)) (sym mode) o.loaded) o.ready;
    not_judged = λ judged. let z : Load ≡ Race = sym mode ∙ ap (λ (z : Settings). z.mode) (sym o.settings_are) ∙ judged in cc z;
  }

  -- one that is to run and to be judged
  racing : (x : Racing) → IsAll source text → IsRacingOf s text x → IsToRace words file x
  racing x whole o =
      let by : IsCodeBy s.mode text (program_in x.opened.checked) (arc_value x.opened.code) =
      subst (λ (m : Mode). IsCodeBy m text (program_in x.opened.checked) (arc_value x.opened.code)) (sym o.mode) (typed_view x.typed, o.built) in
      record {
        opened = opened_by x.opened o.settings_are o.text_is whole by o.ready;
        mode = ap (λ (z : Settings). z.mode) o.settings_are ∙ o.mode;
        set = record {
          ready = o.ready;
          built = subst (λ (t : List ℕ). IsBuilt t (typed_view x.typed) (program_in x.opened.checked) (arc_value x.opened.code)) (sym o.text_is) o.built;
          room = subst (λ (z : Settings). 1184 + 2 * length (name_in (Some z)) ≤ vec_capacity x.opened.line) (sym o.settings_are) o.room;
        };
      }

  -- and one that was checked, or saved
  worked : (x : Worked) → IsAll source text → IsWorkedOf s text x → IsWorked words file x
  worked x whole o =
      let P : Settings → Type 0 = λ z. (settings_of words ≡ Some (wanted_of z)) × (source_of file (wanted_of z) ≡ Some source) × WorkedBy z.mode o.typed x in
      let a : P x.settings = subst P (sym o.settings_are) (said, from, o.work) in
      let Q : List ℕ → Type 0 = λ t. IsAll source t × IsBuilt t o.typed (program_in x.checked) (arc_value x.code) in
      let b : Q x.text.items = subst Q (sym o.text_is) (whole, o.built) in
      record { settings = a.0; source = source; from = a.1; whole = b.0; typed = o.typed; built = b.1; work = a.2 }

  -- a text that is all of its source, which is no code file
  pub is_all : IsText source → s.mode ≢ Load → IsAll source text → (x : Course) → IsCourseOf s text x → IsCourse words file x
  is_all of_text text_mode whole (courses.Opened x) h = opened x text_mode whole h
  is_all of_text text_mode whole (courses.Racing x) h = racing x whole h
  is_all of_text text_mode whole (courses.Worked x) h = worked x whole h
  is_all of_text text_mode whole (courses.Stopped x) h =
      stopped (statuses.Refused h.reason.place h.reason.kind) x (inl whole) (source, from, is_refused source text h.reason.place h.reason.kind of_text (inl (whole, h.refuses))) h.stopped

  -- one that was not read, or is refused before that
  pub not_run : (status : Status) → IsTextOf source text status → IsFault words file (Some s) text status → (x : Course) → IsStoppedAs status (Some s) text x → IsCourse words file x
  not_run status of fault (courses.Stopped x) h = stopped status x of fault h
  not_run status of fault (courses.Opened x) h = absurd h
  not_run status of fault (courses.Racing x) h = absurd h
  not_run status of fault (courses.Worked x) h = absurd h

  -- a code file that was read whole
  pub is_loading : s.mode ≡ Load → IsAll source text → ((status : Status) → RefusesCode text status → IsFault words file (Some s) text status) → (x : Course) → IsLoadingOf s text x → IsCourse words file x
  is_loading mode whole faults (courses.Opened x) h = loaded x mode whole h
  is_loading mode whole faults (courses.Racing x) h = absurd h
  is_loading mode whole faults (courses.Worked x) h = absurd h
  is_loading mode whole faults (courses.Stopped x) h = stopped h.status x (inl whole) (faults h.status h.refuses) h.stopped

-- why bytes aren't loaded is why no run came of a code file that is all of them
pub code_faults : (words : List (List ℕ)) (file : List ℕ → Shelved) (o : Option Settings) (text : List ℕ) (saved : Shelved) → source_in file o ≡ Some (Saved saved) → IsAll (Saved saved) text
    → (status : Status) → RefusesCode text status → IsFault words file o text status
code_faults words file o text saved from whole (statuses.BadCode place) r = (Saved saved, from, (whole, r))
code_faults words file o text saved from whole (statuses.UnsafeCode place why) r = (Saved saved, from, (whole, r))
code_faults words file o text saved from whole (statuses.Done exit) r = absurd r
code_faults words file o text saved from whole statuses.Usage r = absurd r
code_faults words file o text saved from whole (statuses.Refused place kind) r = absurd r
code_faults words file o text saved from whole statuses.ReadFault r = absurd r
code_faults words file o text saved from whole statuses.WriteFault r = absurd r
code_faults words file o text saved from whole (statuses.Trap word kind) r = absurd r
code_faults words file o text saved from whole statuses.AllBlocked r = absurd r
code_faults words file o text saved from whole statuses.TurnLimit r = absurd r
code_faults words file o text saved from whole statuses.OutputLimit r = absurd r
code_faults words file o text saved from whole (statuses.StackLimit thread) r = absurd r
code_faults words file o text saved from whole statuses.NoMemory r = absurd r
code_faults words file o text saved from whole (statuses.Checked found) r = absurd r
code_faults words file o text saved from whole (statuses.Raced first second) r = absurd r
code_faults words file o text saved from whole statuses.Built r = absurd r
code_faults words file o text saved from whole statuses.CodeTooDeep r = absurd r
code_faults words file o text saved from whole statuses.CodeTooLong r = absurd r
code_faults words file o text saved from whole statuses.FileTooLong r = absurd r

-- what the words said
pub said : (words : List (List ℕ)) (o : Option Settings) (s : Settings) → option_map wanted_of o ≡ settings_of words → o ≡ Some s → settings_of words ≡ Some (wanted_of s)
said words o s read some = sym read ∙ ap (option_map wanted_of) some
