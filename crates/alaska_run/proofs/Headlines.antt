-- The headline, of each course that a call takes.
use Rattle.std.proofs.Common.{◌≡◌, ◌≢◌, ◌⊎◌, ℕ, List, [], ◌++◌, Option, Some, None, refl, sym, ap, subst, ap₂, ◌∙◌, inl, inr, codes}
use Rattle.std.proofs.lemmas.List.{append-nil}
use Rattle.std.specs.Option.{option_map}
use Rattle.std.specs.Prelude.{Vec}
use Rattle.std.specs.Global.{Global}
use Rattle.std.specs.Arc.{arc_value}
use Rattle.ak_trace.specs.Log.{Log}
use Rattle.ak_trace.specs.declared.entry.Entry.{Entry}
use Rattle.c_tree.specs.Typed.{Typed}
use Rattle.c_tree.specs.TypedViews.{typed_view}
use Rattle.c_meaning.specs.Meaning.{program, start}
use Rattle.alaska_run.specs.Built.{IsBuilt, IsTreeOf}
use Rattle.struct_ir.specs.Nodes.{Ir}
use Rattle.struct_ir.specs.Instrs.{LinearCode}
use Rattle.struct_ir.specs.Erased.{ir_erased}
use Rattle.struct_ir.specs.Emitted.{IsEmitted}
use Rattle.struct_ir.specs.Lawful.{AllLawful}
use Rattle.c_meaning.specs.Sound.{TurnsGoOn, RunsKeepTypes}
use Rattle.flat_meaning.specs.Simulation.{IsChecked}
use Rattle.lower_turns.specs.Turns.{ErasedKeepsEveryTurn, KeepsEveryTurn}
use Rattle.pin_checker.specs.CheckedViews.{program_in}
use Rattle.ak_trace.specs.declared.endings.End.{End}
use Rattle.ak_trace.specs.declared.endings.End.TheVariants as ends
use Rattle.flat_rules.specs.declared.settings.Mode.{Mode}
use Rattle.flat_rules.specs.declared.settings.Mode.TheVariants.{Run, Churn, Check, Race, Build, Load}
use Rattle.flat_rules.specs.declared.settings.Settings.{Settings}
use Rattle.flat_machine.specs.Replays.{final_at}
use Rattle.flat_machine.proofs.Limits.{journals_fit}
use Rattle.flat_replay.specs.Laws.{AccessesOfJournalsStay, JournalsMeanTheSource}
use Rattle.flat_replay.specs.Meaning.{IsMeaning}
use Rattle.run_words.specs.Wanted.{wanted_of}
use Rattle.rule_check.specs.Reports.{Report}
use Rattle.run_notes.specs.Checks.{check_line}
use Rattle.run_notes.specs.declared.status.Status.{Status}
use Rattle.run_notes.specs.declared.status.Status.TheVariants as statuses
use Rattle.run_notes.specs.Statuses.{status_of}
use Rattle.run_notes.specs.Races.{race_line, status_with}
use Rattle.run_notes.specs.declared.races.RaceNote.{RaceNote}
use Rattle.run_notes.specs.declared.races.RaceNote.TheVariants as notes
use Rattle.run_notes.specs.Lines.{fault_line}
use Rattle.run_notes.specs.Reports.{report_text}
use Rattle.run_edges.specs.Files.{Shelved}
use Rattle.run_edges.specs.Sinks.{Channel}
use Rattle.run_edges.specs.Writing.{Written, after_note_fault}
use Rattle.alaska_run.specs.declared.checking.Worked.{Worked}
use Rattle.alaska_run.specs.declared.preparing.Opened.{Opened}
use Rattle.alaska_run.specs.declared.preparing.Stopped.{Stopped}
use Rattle.alaska_run.specs.declared.racing.Racing.{Racing}
use Rattle.alaska_run.specs.declared.running.Ran.{Ran}
use Rattle.alaska_run.specs.Ending.{Ending}
use Rattle.alaska_run.specs.Sources.{Source, source_in, name_in, IsAll}
use Rattle.alaska_run.specs.Faults.{IsFault}
use Rattle.alaska_run.specs.Races.{note_of}
use Rattle.alaska_run.specs.Modes.{IsCodeBy, SpeaksOf, IsTheEnd, IsARace, IsAnswerBy, IsACheck, IsSavedAs, IsASave, IsWorkBy, IsWorkIn}
use Rattle.alaska_run.specs.Headline.{Headline, IsOrUnwritten, IsTextOf, OfATree, OfARun, WithARun, depth}
use Rattle.alaska_run.specs.inner.Courses.{IsStopped, IsOpened, IsToRun, IsToRace, IsFound, WorkedBy, IsWorked, HasRun, HasRaced}
use Rattle.alaska_run.proofs.LoadedCode.{loaded_is_checked}

-- ---- the rows of the modes

-- where code ran, and the run isn't judged, its end is the answer
answer_by : (mode : Mode) (text : List ℕ) (checked : Ir) (code : LinearCode) (e : Ending) (end : End) (judged : Status) (behind : List ℕ) → mode ≢ Race → IsCodeBy mode text checked code → IsTheEnd end judged behind
    → IsAnswerBy mode e end judged behind
answer_by Run text checked code e end judged behind n by h = h
answer_by Churn text checked code e end judged behind n by h = h
answer_by Load text checked code e end judged behind n by h = h
answer_by Check text checked code e end judged behind n by h = absurd by
answer_by Race text checked code e end judged behind n by h = absurd (n refl)
answer_by Build text checked code e end judged behind n by h = absurd by

-- the machine's code is that of the checked code
record IsMachines (checked : Ir) (code : LinearCode) : Type 0 where
  emitted : IsEmitted checked code
  lawful : AllLawful code.funcs

machines_by : (mode : Mode) (text : List ℕ) (checked : Ir) (code : LinearCode) → IsCodeBy mode text checked code → IsMachines checked code
machines_by Run text checked code h = record { emitted = h.1.emitted; lawful = h.1.lawful }
machines_by Churn text checked code h = record { emitted = h.1.emitted; lawful = h.1.lawful }
machines_by Load text checked code h = record { emitted = h.emitted; lawful = h.lawful }
machines_by Check text checked code h = absurd h
machines_by Race text checked code h = record { emitted = h.1.emitted; lawful = h.1.lawful }
machines_by Build text checked code h = absurd h

-- what is known of trees, of turns and of journals
pub record AreLaws : Type 0 where
  pub erased : ErasedKeepsEveryTurn
  pub types : RunsKeepTypes
  pub ends : TurnsGoOn
  pub meant : JournalsMeanTheSource
  pub stay : AccessesOfJournalsStay

-- and that has all that the machine asks of code, where it keeps every turn of a tree that is spoken of
checked_by : AreLaws → (mode : Mode) (text : List ℕ) (checked : Ir) (code : LinearCode) → IsCodeBy mode text checked code → (typed : Typed) → SpeaksOf mode typed → KeepsEveryTurn typed (ir_erased checked)
    → IsChecked checked
checked_by laws Run text checked code h typed speaks keeps = h.1.sound
checked_by laws Churn text checked code h typed speaks keeps = h.1.sound
checked_by laws Load text checked code h typed speaks keeps = loaded_is_checked text checked code h typed speaks.1.well_formed keeps laws.erased laws.types laws.ends
checked_by laws Check text checked code h typed speaks keeps = absurd h
checked_by laws Race text checked code h typed speaks keeps = h.1.sound
checked_by laws Build text checked code h typed speaks keeps = absurd h

-- ---- what a sink's fault makes of a status

-- note's fault makes a fault of writing of the end of a run
run_fault : (end : End) → after_note_fault (status_of end) ≡ statuses.WriteFault
run_fault (ends.Done exit) = refl
run_fault (ends.Trap word kind) = refl
run_fault ends.AllBlocked = refl
run_fault ends.TurnLimit = refl
run_fault ends.OutputLimit = refl
run_fault (ends.StackLimit thread) = refl

-- or it leaves the status as it is, which it does to want of memory
abbrev IsNoteFault : Status → Type 0
IsNoteFault judged = (after_note_fault judged ≡ statuses.WriteFault) ⊎ (after_note_fault judged ≡ judged)

judged_fault : (found : RaceNote) (end : End) → IsNoteFault (status_with found (status_of end))
judged_fault notes.Clean end = inl (run_fault end)
judged_fault (notes.Race first second) end = inl refl
judged_fault (notes.Broke rule turns) end = inl (run_fault end)
judged_fault notes.NotJudged end = inr refl

judged_then : (judged status : Status) (output line : List ℕ) (out note : Channel) → IsNoteFault judged → Written judged status output line out note → IsOrUnwritten judged status
judged_then judged status output line out note fault (inl w) = inl w.status_is
judged_then judged status output line out note fault (inr (inl w)) = inr w.status_is
judged_then judged status output line out note fault (inr (inr w)) = elim fault [ inl unwritten ↦ inr (w.status_is ∙ unwritten) | inr same ↦ inl (w.status_is ∙ same) ]

-- a fault of reading stays one, or becomes a fault of writing
unread_then : (judged status : Status) (output line : List ℕ) (out note : Channel) → Written judged status output line out note → IsOrUnwritten statuses.ReadFault judged → IsOrUnwritten statuses.ReadFault status
unread_then judged status output line out note w (inl h) =
    judged_then statuses.ReadFault status output line out note (inl refl) (subst (λ (z : Status). Written z status output line out note) h w)
unread_then judged status output line out note w (inr h) =
    elim (judged_then statuses.WriteFault status output line out note (inl refl) (subst (λ (z : Status). Written z status output line out note) h w)) [ inl a ↦ inr a | inr a ↦ inr a ]

-- so what a text is stays so
text_then : (source : Source) (text : List ℕ) (judged status : Status) (output line : List ℕ) (out note : Channel) → Written judged status output line out note → IsTextOf source text judged → IsTextOf source text status
text_then source text judged status output line out note w (inl h) = inl h
text_then source text judged status output line out note w (inr (inl h)) = inr (inl h)
text_then source text judged status output line out note w (inr (inr h)) = inr (inr (record { failed = h.failed; none = h.none; told = unread_then judged status output line out note w h.told }))

-- want of memory stays what it is
memory_then : (status : Status) (line : List ℕ) (out note : Channel) → Written statuses.NoMemory status [] line out note → status ≡ statuses.NoMemory
memory_then status line out note (inl w) = w.status_is
memory_then status line out note (inr (inl w)) = absurd (w.some refl)
memory_then status line out note (inr (inr w)) = w.status_is

-- ---- a run

module _ (words : List (List ℕ)) (file : List ℕ → Shelved) (out note : Channel) (x : Opened) (r : Ran) (e : Ending) (o : IsOpened words file x) (h : HasRun x r)
    (es : e.settings ≡ Some x.settings) (et : e.text ≡ x.text.items) (ec : e.checked ≡ Some (program_in x.checked)) (ek : e.code ≡ Some (arc_value x.code)) (ej : e.journal ≡ Some r.journal.entries)
    (judged : Status) (behind : List ℕ) (answer : IsAnswerBy x.settings.mode e h.end judged behind) (fault : IsNoteFault judged)
    (w : Written judged e.status r.output.items (r.line.items ++ behind) out note)
    (laws : AreLaws) where
  abbrev checked : Ir
  checked = program_in x.checked

  abbrev code : LinearCode
  code = arc_value x.code

  abbrev log : List Entry
  log = r.journal.entries

  -- ---- the text and its code

  whole : IsAll o.source e.text
  whole = subst (λ (t : List ℕ). IsAll o.source t) (sym et) o.whole

  from : source_in file e.settings ≡ Some o.source
  from = ap (source_in file) es ∙ o.from

  text_of : (source : Source) → source_in file e.settings ≡ Some source → IsTextOf source e.text e.status
  text_of source n = let same : o.source ≡ source = cc (sym from ∙ n) in subst (λ (z : Source). IsTextOf z e.text e.status) same (inl whole)

  of_text : IsCodeBy x.settings.mode e.text checked code
  of_text = subst (λ (t : List ℕ). IsCodeBy x.settings.mode t checked code) (sym et) o.of_text

  machines : IsMachines checked code
  machines = machines_by x.settings.mode e.text checked code of_text

  -- ---- the run

  -- what it means to each tree that is spoken of, of which the code keeps every turn
  meaning : (typed : Typed) → IsChecked checked → KeepsEveryTurn typed (ir_erased checked) → IsMeaning (program typed) (start typed) depth log x.settings h.final
  meaning typed sound keeps =
      subst (IsMeaning (program typed) (start typed) depth log x.settings) h.final_is
      (laws.meant typed checked keeps sound code machines.emitted machines.lawful o.ready.program x.settings log h.last h.leads)

  of_each_tree : (typed : Typed) → SpeaksOf x.settings.mode typed → KeepsEveryTurn typed (ir_erased checked) → OfATree typed checked code x.settings log h.final
  of_each_tree typed speaks keeps =
      let sound = checked_by laws x.settings.mode e.text checked code of_text typed speaks keeps in
      let m = meaning typed sound keeps in
      record {
        a_run = m.a_run;
        what_the_text_means = m.clean;
        up_to_the_first_rule = m.broken;
        no_access_leaves_its_object = laws.stay checked sound code machines.emitted machines.lawful o.ready.program x.settings log h.last h.leads;
      }

  of_the_run : OfARun checked code x.settings log
  of_the_run = record {
    end = h.end;
    final = h.final;
    the_same_order = record { within = journals_fit code x.settings log h.last h.leads; replays = ap (option_map (final_at code x.settings log)) h.leads ∙ ap (λ f. Some f) h.final_is; ended = h.ended };
    of_each_tree = of_each_tree;
    no_pinned_object_every_handle = h.keeps;
  }

  -- ---- what was written

  wrote : Written judged e.status h.final.output (report_text x.settings.evacuate h.end h.final.report ++ behind) out note
  wrote =
      let a : Written judged e.status h.final.output (r.line.items ++ behind) out note = subst (λ (z : List ℕ). Written judged e.status z (r.line.items ++ behind) out note) h.output w in
      subst (λ (z : List ℕ). Written judged e.status h.final.output (z ++ behind) out note) h.line a

  -- ---- the whole

  with_it : WithARun file out note e log
  unfolding of_the_run
  with_it = record {
    settings = x.settings;
    checked = checked;
    code = code;
    has_settings = es;
    has_checked = ec;
    has_code = ek;
    the_code = record { source = o.source; from = from; whole = whole; of_text = of_text };
    the_run = of_the_run;
    judged = judged;
    behind = behind;
    answer = answer;
    what_it_wrote = wrote;
    how_it_ended = judged_then judged e.status h.final.output (report_text x.settings.evacuate h.end h.final.report ++ behind) out note fault wrote;
  }

  answered : Headline words file out note e
  answered = record {
    the_text = record { settings = inl (ap (option_map wanted_of) es ∙ sym o.settings); text = text_of; none = λ n. absurd (let z : Some x.settings ≡ None = sym es ∙ n in cc z) };
    with_a_run = λ other l. let same : log ≡ other = cc (sym ej ∙ l) in subst (λ (z : List Entry). WithARun file out note e z) same with_it;
    without_a_run = λ none. absurd (let z : Some log ≡ None = sym ej ∙ none in cc z);
  }

-- of a run that isn't judged
pub of_run : (words : List (List ℕ)) (file : List ℕ → Shelved) (out note : Channel) (x : Opened) (r : Ran) (e : Ending) → IsToRun words file x → HasRun x r
    → e.settings ≡ Some x.settings → e.text ≡ x.text.items → e.checked ≡ Some (program_in x.checked) → e.code ≡ Some (arc_value x.code) → e.journal ≡ Some r.journal.entries
    → Written r.status e.status r.output.items r.line.items out note → AreLaws → Headline words file out note e
of_run words file out note x r e o h es et ec ek ej w laws =
    let ended = status_of h.end in
    let a : Written ended e.status r.output.items r.line.items out note = subst (λ (z : Status). Written z e.status r.output.items r.line.items out note) h.status w in
    let b : Written ended e.status r.output.items (r.line.items ++ []) out note = subst (λ (z : List ℕ). Written ended e.status r.output.items z out note) (sym (append-nil r.line.items)) a in
    answered words file out note x r e o.opened h es et ec ek ej ended []
    (answer_by x.settings.mode x.text.items (program_in x.checked) (arc_value x.code) e h.end ended [] o.not_judged o.opened.of_text (refl, refl)) (inl (run_fault h.end)) b laws

-- and of one that is
module _ (words : List (List ℕ)) (file : List ℕ → Shelved) (out note : Channel) (x : Racing) (r : Ran) (e : Ending) (o : IsToRace words file x) (h : HasRaced x r)
    (es : e.settings ≡ Some x.opened.settings) (et : e.text ≡ x.opened.text.items) (ec : e.checked ≡ Some (program_in x.opened.checked)) (ek : e.code ≡ Some (arc_value x.opened.code))
    (ej : e.journal ≡ Some r.journal.entries) (w : Written r.status e.status r.output.items r.line.items out note) (laws : AreLaws) where
  -- the run, what is told of it, the status then, and the line
  abbrev its_run : Ran
  its_run = h.ran

  abbrev its_note : RaceNote
  its_note = note_of h.judged.found

  abbrev its_status : Status
  its_status = status_with its_note (status_of h.has_run.end)

  abbrev its_race : List ℕ
  its_race = race_line (name_in e.settings) e.text its_note

  its_log : e.journal ≡ Some its_run.journal.entries
  its_log = ej ∙ ap (λ (j : Log). Some j.entries) h.judged.journal

  a_race : IsARace e h.has_run.end its_status its_race
  a_race = record {
    typed = typed_view x.typed;
    tree = subst (λ (t : List ℕ). IsTreeOf t (typed_view x.typed)) (sym et) o.set.built.tree;
    log = its_run.journal.entries;
    has_journal = its_log;
    found = h.judged.found;
    is_found = h.judged.is_found;
    judged_is = refl;
    behind_is = refl;
  }

  race_answer : IsAnswerBy x.opened.settings.mode e h.has_run.end its_status its_race
  race_answer = subst (λ (m : Mode). IsAnswerBy m e h.has_run.end its_status its_race) (sym o.mode) a_race

  same_line : race_line (name_in (Some its_run.settings)) its_run.text.items its_note ≡ its_race
  same_line =
      let named : name_in (Some its_run.settings) ≡ name_in e.settings = ap name_in (ap (λ (s : Settings). Some s) h.has_run.settings ∙ sym es) in
      let text : its_run.text.items ≡ e.text = ap (λ (t : Vec ℕ Global). t.items) h.has_run.text ∙ sym et in
      ap₂ (λ (name text : List ℕ). race_line name text its_note) named text

  race_wrote : Written its_status e.status its_run.output.items (its_run.line.items ++ its_race) out note
  race_wrote =
      let status_is : r.status ≡ its_status = h.judged.status ∙ ap (λ (z : Status). status_with its_note z) h.has_run.status in
      let a : Written its_status e.status r.output.items r.line.items out note = subst (λ (z : Status). Written z e.status r.output.items r.line.items out note) status_is w in
      let b : Written its_status e.status its_run.output.items r.line.items out note = subst (λ (z : Vec ℕ Global). Written its_status e.status z.items r.line.items out note) h.judged.output a in
      subst (λ (z : List ℕ). Written its_status e.status its_run.output.items z out note) (h.judged.line ∙ ap (λ (z : List ℕ). its_run.line.items ++ z) same_line) b

  pub of_raced : Headline words file out note e
  of_raced =
      answered words file out note x.opened its_run e o.opened h.has_run es et ec ek its_log its_status its_race race_answer (judged_fault its_note h.has_run.end) race_wrote laws

-- ---- a check, or saving

module _ (words : List (List ℕ)) (file : List ℕ → Shelved) (out note : Channel) (x : Worked) (e : Ending) (o : IsWorked words file x)
    (es : e.settings ≡ Some x.settings) (et : e.text ≡ x.text.items) (ec : e.checked ≡ Some (program_in x.checked)) (ek : e.code ≡ Some (arc_value x.code)) (ej : e.journal ≡ None)
    (w : Written x.status e.status x.output.items x.line.items out note) where
  all_of_it : IsAll o.source e.text
  all_of_it = subst (λ (t : List ℕ). IsAll o.source t) (sym et) o.whole

  its_source : source_in file e.settings ≡ Some o.source
  its_source = ap (source_in file) es ∙ o.from

  its_text : (source : Source) → source_in file e.settings ≡ Some source → IsTextOf source e.text e.status
  its_text source n = let same : o.source ≡ source = cc (sym its_source ∙ n) in subst (λ (z : Source). IsTextOf z e.text e.status) same (inl all_of_it)

  its_line : (report : Report) → IsFound o.typed report x → x.line.items ≡ check_line (name_in e.settings) e.text report.verdict
  its_line report found = found.line ∙ ap₂ (λ (name text : List ℕ). check_line name text report.verdict) (ap name_in (sym es)) (sym et)

  its_code : IsBuilt e.text o.typed (program_in x.checked) (arc_value x.code)
  its_code = subst (λ (t : List ℕ). IsBuilt t o.typed (program_in x.checked) (arc_value x.code)) (sym et) o.built

  a_check : (report : Report) → IsFound o.typed report x → IsACheck x.settings e x.status x.output.items x.line.items
  a_check report found = record {
    typed = o.typed;
    checked = program_in x.checked;
    code = arc_value x.code;
    has_checked = ec;
    has_code = ek;
    built = its_code;
    report = report;
    found = found.found;
    judged_is = found.status;
    output_is = found.output;
    line_is = its_line report found;
  }

  a_save : IsSavedAs (Some x.settings) x.text.items (program_in x.checked) x.status x.output.items x.line.items → IsASave e x.status x.output.items x.line.items
  a_save saved =
      let P : Option Settings → List ℕ → Type 0 = λ s t. IsSavedAs s t (program_in x.checked) x.status x.output.items x.line.items in
      record {
        typed = o.typed;
        checked = program_in x.checked;
        code = arc_value x.code;
        has_checked = ec;
        has_code = ek;
        built = its_code;
        saved = subst (λ (t : List ℕ). P e.settings t) (sym et) (subst (λ (s : Option Settings). P s x.text.items) (sym es) saved);
      }

  work_by : (mode : Mode) → WorkedBy mode o.typed x → IsWorkBy mode x.settings e x.status x.output.items x.line.items
  work_by Check w = a_check w.0 w.1
  work_by Build w = a_save w
  work_by Run w = absurd w
  work_by Churn w = absurd w
  work_by Race w = absurd w
  work_by Load w = absurd w

  work : IsWorkIn e.settings e x.status x.output.items x.line.items
  work = subst (λ (z : Option Settings). IsWorkIn z e x.status x.output.items x.line.items) (sym es) (work_by x.settings.mode o.work)

  pub of_worked : Headline words file out note e
  of_worked = record {
    the_text = record { settings = inl (ap (option_map wanted_of) es ∙ sym o.settings); text = its_text; none = λ n. absurd (let z : Some x.settings ≡ None = sym es ∙ n in cc z) };
    with_a_run = λ log l. absurd (let z : None ≡ Some log = sym ej ∙ l in cc z);
    without_a_run = λ none. record {
      judged = x.status;
      output = x.output.items;
      line = x.line.items;
      why = inr (record { source = o.source; from = its_source; whole = all_of_it; work = work });
      written = w;
    };
  }

-- ---- no run

module _ (words : List (List ℕ)) (file : List ℕ → Shelved) (out note : Channel) (e : Ending) (ec : e.checked ≡ None) (ek : e.code ≡ None) (ej : e.journal ≡ None) where
  no_log : (log : List Entry) → e.journal ≡ Some log → ⊥
  no_log log l = let z : None ≡ Some log = sym ej ∙ l in cc z

  pub of_stopped : (x : Stopped) → IsStopped words file x → e.settings ≡ x.settings → e.text ≡ x.text.items → Written x.status e.status [] x.line.items out note → Headline words file out note e
  of_stopped x s es et w = record {
    the_text = record {
      settings = inl (ap (option_map wanted_of) es ∙ s.settings);
      text = λ source n. subst (λ (t : List ℕ). IsTextOf source t e.status) (sym et) (text_then source x.text.items x.status e.status [] x.line.items out note w (s.text source (ap (source_in file) (sym es) ∙ n)));
      none = λ n. et ∙ s.none (sym es ∙ n);
    };
    with_a_run = λ log l. absurd (no_log log l);
    without_a_run = λ none.
        let P : Option Settings → List ℕ → Type 0 = λ o t. IsFault words file o t x.status × (x.line.items ≡ fault_line (name_in o) t x.status) in
        let here : P x.settings x.text.items = (s.fault, s.line) in
        let there : P e.settings e.text = subst (λ (t : List ℕ). P e.settings t) (sym et) (subst (λ (o : Option Settings). P o x.text.items) (sym es) here) in
        record {
          judged = x.status;
          output = [];
          line = x.line.items;
          why = inl (record { cause = there.0; no_checked = ec; no_code = ek; no_output = refl; line_is = there.1 });
          written = w;
        };
  }

  pub of_no_memory : e.settings ≡ None → e.text ≡ [] → Written statuses.NoMemory e.status [] (codes "alaska: out of memory\n") out note → Headline words file out note e
  of_no_memory es et w = record {
    the_text = record {
      settings = inr (record { status = memory_then e.status _ out note w; journal = ej });
      text = λ source n. absurd (let z : None ≡ Some source = ap (source_in file) (sym es) ∙ n in cc z);
      none = λ n. et;
    };
    with_a_run = λ log l. absurd (no_log log l);
    without_a_run = λ none. record {
      judged = statuses.NoMemory;
      output = [];
      line = codes "alaska: out of memory\n";
      why = inl (record { cause = tt; no_checked = ec; no_code = ek; no_output = refl; line_is = refl });
      written = w;
    };
  }
