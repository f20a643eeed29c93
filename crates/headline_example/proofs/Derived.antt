-- What the call comes to, from what `alaska` promises of it.
use Rattle.std.proofs.Common.{◌≡◌, refl, sym, ap, subst, ◌∙◌, ℕ, ◌<◌, List, [], ◌++◌, length, Option, Some, None, false, inl, inr, arith}
use Rattle.std.specs.Option.{option_map}
use Rattle.ak_trace.specs.declared.entry.Entry.{Entry}
use Rattle.clap.proofs.OnLiterals.{clap_on_literals}
use Rattle.c_tree.specs.Typed.{Typed}
use Rattle.c_meaning.specs.Meaning.{program, start}
use Rattle.c_lex.specs.declared.refusal.Kind.{Kind}
use Rattle.alaska_run.specs.Reading.{OneTree, NotBoth}
use Rattle.alaska_run.specs.Built.{IsTreeOf}
use Rattle.lower_forms.specs.Programs.{lowered}
use Rattle.lower_turns.specs.Turns.{KeepsEveryTurn}
use Rattle.struct_ir.specs.Nodes.{Ir}
use Rattle.struct_ir.specs.Erased.{ir_erased}
use Rattle.ak_trace.specs.declared.endings.End.{End}
use Rattle.ak_trace.specs.declared.endings.Verdict.{Verdict}
use Rattle.flat_rules.specs.declared.settings.Settings.{Settings}
use Rattle.flat_rules.specs.declared.settings.Mode.{Mode}
use Rattle.flat_rules.specs.declared.settings.Mode.TheVariants.{Run, Churn, Check, Race, Build, Load}
use Rattle.flat_machine.specs.Replays.{Final}
use Rattle.flat_replay.specs.Meaning.{IsAsMeant}
use Rattle.run_words.specs.Command.{alaska, are_taken, value_in}
use Rattle.run_words.specs.Wanted.{Wanted, settings_of, wanted_by, wanted_of}
use Rattle.run_words.specs.Numbers.{number_in}
use Rattle.run_notes.specs.declared.status.Status.{Status}
use Rattle.run_notes.specs.declared.status.Status.TheVariants as statuses
use Rattle.run_notes.specs.Statuses.{status_of}
use Rattle.run_notes.specs.Reports.{report_text}
use Rattle.run_edges.specs.Files.{Shelved, IsWhole, most_bytes}
use Rattle.run_edges.specs.Sinks.{Channel, Gained, GainedFront}
use Rattle.run_edges.specs.Writing.{after_note_fault, Written}
use Rattle.alaska_run.specs.Ending.{Ending, WantedMemory}
use Rattle.alaska_run.specs.Sources.{Read, Failed, IsAll, source_of, source_in}
use Rattle.alaska_run.specs.Faults.{IsRefused, IsUnloaded, OfSource, IsFault}
use Rattle.alaska_run.specs.Modes.{IsCompiledTo, IsCodeBy, SpeaksOf, IsTheEnd, IsAnswerBy, IsSavedAs, IsWorkBy, IsWorkIn}
use Rattle.alaska_run.specs.Headline.{Headline, OfATree, WithARun, WithoutARun, CameToNoRun, DidItsWork, depth}
use Rattle.headline_example.specs.Text.{text, tree}
use Rattle.headline_example.specs.Read.{IsTheTree}
use Rattle.headline_example.specs.Runs.{RunsAreKnown}
use Rattle.headline_example.specs.Room.{IsTextsCode, AreDefaults, HasRoom, JournalsHaveRoom}
use Rattle.headline_example.specs.Prints.{heap_name, heap_words, answer, CameTo, printed, wanted, unread, unwritten}
use Rattle.headline_example.proofs.Clean.{Ended, clean, ended_so}

-- what the words want
abbrev heap_wanted : Wanted
heap_wanted = record {
  file = Some heap_name;
  workers = 1;
  schedule = None;
  every = None;
  subheap = 65536;
  subheaps = 16;
  ids = 65536;
  entries = 1000000;
  evacuate = false;
  output = 1048576;
  mode = Run;
  seed = None;
  size = None;
}

words_want : settings_of heap_words ≡ Some heap_wanted
unfolding settings_of are_taken alaska value_in wanted_by number_in clap_on_literals
words_want = refl

same_some : {A : Type 0} (a b : A) → Some a ≡ Some b → a ≡ b
same_some a b e = cc

-- the text is of this tree
tree_of_text : IsTheTree → IsTreeOf text tree
tree_of_text t = record {
  tokens = t.tokens;
  read = record { file = t.file; of_text = record { lexed = t.lexed; parsed = t.parsed }; judged = t.judged };
  well_formed = t.well_formed;
}

-- the words want this file
named_by : (file : List ℕ → Shelved) (o : Option Settings) (w : Wanted) → option_map wanted_of o ≡ Some w → source_in file o ≡ source_of file w
named_by file None w e = absurd (cc e)
named_by file (Some s) w e = ap (source_of file) (same_some (wanted_of s) w e)

-- mode run does nothing but run
no_work : (o : Option Settings) (e : Ending) (judged : Status) (output line : List ℕ) → option_map wanted_of o ≡ Some heap_wanted → IsWorkIn o e judged output line → ⊥
no_work None e judged output line is h = h
no_work (Some s) e judged output line is h =
    let same : wanted_of s ≡ heap_wanted = same_some (wanted_of s) heap_wanted is in
    subst (λ (mode : Mode). IsWorkBy mode s e judged output line) (ap (λ (w : Wanted). w.mode) same) h

-- what is done without a run has a status that is no want of memory, also where note failed
abbrev IsNoWant : Status → Type 0
IsNoWant judged = (judged ≡ statuses.NoMemory → ⊥) × (after_note_fault judged ≡ statuses.NoMemory → ⊥)

saved_status : (o : Option Settings) (source : List ℕ) (checked : Ir) (judged : Status) (output line : List ℕ) → IsSavedAs o source checked judged output line → IsNoWant judged
saved_status o source checked (statuses.Done exit) output line h = absurd h
saved_status o source checked statuses.Usage output line h = absurd h
saved_status o source checked (statuses.Refused place kind) output line h = absurd h
saved_status o source checked statuses.ReadFault output line h = absurd h
saved_status o source checked statuses.WriteFault output line h = absurd h
saved_status o source checked (statuses.Trap word kind) output line h = absurd h
saved_status o source checked statuses.AllBlocked output line h = absurd h
saved_status o source checked statuses.TurnLimit output line h = absurd h
saved_status o source checked statuses.OutputLimit output line h = absurd h
saved_status o source checked (statuses.StackLimit thread) output line h = absurd h
saved_status o source checked statuses.NoMemory output line h = absurd h
saved_status o source checked (statuses.Checked found) output line h = absurd h
saved_status o source checked (statuses.Raced first second) output line h = absurd h
saved_status o source checked statuses.Built output line h = ((λ z. cc z), (λ z. cc z))
saved_status o source checked statuses.CodeTooDeep output line h = ((λ z. cc z), (λ z. cc z))
saved_status o source checked statuses.CodeTooLong output line h = ((λ z. cc z), (λ z. cc z))
saved_status o source checked (statuses.BadCode place) output line h = absurd h
saved_status o source checked (statuses.UnsafeCode place why) output line h = absurd h
saved_status o source checked statuses.FileTooLong output line h = absurd h

checked_status : (found : Verdict) → IsNoWant (statuses.Checked found)
checked_status found = ((λ z. cc z), (λ z. cc z))

work_status : (mode : Mode) (s : Settings) (e : Ending) (judged : Status) (output line : List ℕ) → IsWorkBy mode s e judged output line → IsNoWant judged
work_status Run s e judged output line h = absurd h
work_status Churn s e judged output line h = absurd h
work_status Check s e judged output line h = subst IsNoWant (sym h.judged_is) (checked_status h.report.verdict)
work_status Race s e judged output line h = absurd h
work_status Build s e judged output line h = saved_status e.settings e.text h.checked judged output line h.saved
work_status Load s e judged output line h = absurd h

work_status_in : (o : Option Settings) (e : Ending) (judged : Status) (output line : List ℕ) → IsWorkIn o e judged output line → IsNoWant judged
work_status_in None e judged output line h = absurd h
work_status_in (Some s) e judged output line h = work_status s.mode s e judged output line h

not_wanted : (judged status : Status) (output line : List ℕ) (out note : Channel) → IsNoWant judged → Written judged status output line out note → status ≡ statuses.NoMemory → ⊥
not_wanted judged status output line out note apart (inl w) m = apart.0 (sym w.status_is ∙ m)
not_wanted judged status output line out note apart (inr (inl w)) m = let z : statuses.WriteFault ≡ statuses.NoMemory = sym w.status_is ∙ m in cc z
not_wanted judged status output line out note apart (inr (inr w)) m = apart.1 (sym w.status_is ∙ m)

-- nothing, and all, are first parts
nothing_first : (out : Channel) → Gained out [] → GainedFront out answer
nothing_first out h = ([], (answer, refl), h)

all_first : (out : Channel) → Gained out answer → GainedFront out answer
all_first out h = (answer, ([], refl), h)

module _ (one_tree : OneTree) (not_both : NotBoth) (the_tree : IsTheTree) (known : RunsAreKnown) (room : JournalsHaveRoom) (words : List (List ℕ)) (file : List ℕ → Shelved) (out note : Channel) (e : Ending)
    (words_are : words ≡ heap_words) (told : (file heap_name).told ≡ Some text) (h : Headline words file out note e) where
  wants : settings_of words ≡ Some heap_wanted
  wants = ap settings_of words_are ∙ words_want

  -- a file that was read whole is the text
  whole_is : IsWhole most_bytes (file heap_name) e.text → e.text ≡ text
  whole_is w = w.whole text told

  of_text : e.text ≡ text → IsTreeOf e.text tree
  of_text is = subst (λ t. IsTreeOf t tree) (sym is) (tree_of_text the_tree)

  -- ---- where the call ran

  module _ (log : List Entry) (journal : e.journal ≡ Some log) where
    abbrev run : WithARun file out note e log
    run = h.with_a_run log journal

    abbrev end : End
    end = run.the_run.end

    abbrev f : Final
    f = run.the_run.final

    no_want : WantedMemory e → ⊥
    no_want w = let no : Some log ≡ None = sym journal ∙ w.journal in absurd (cc no)

    settings_are : wanted_of run.settings ≡ heap_wanted
    settings_are = elim h.the_text.settings [
      | inl s ↦ same_some (wanted_of run.settings) heap_wanted (sym (ap (option_map wanted_of) run.has_settings) ∙ (s ∙ wants))
      | inr w ↦ absurd (no_want w)
    ]

    mode_is : run.settings.mode ≡ Run
    mode_is = ap (λ (w : Wanted). w.mode) settings_are

    defaults : AreDefaults run.settings
    defaults = record {
      workers = ap (λ (w : Wanted). w.workers) settings_are;
      schedule = ap (λ (w : Wanted). w.schedule) settings_are;
      every = ap (λ (w : Wanted). w.every) settings_are;
      subheap = ap (λ (w : Wanted). w.subheap) settings_are;
      subheaps = ap (λ (w : Wanted). w.subheaps) settings_are;
      ids = ap (λ (w : Wanted). w.ids) settings_are;
      entries = ap (λ (w : Wanted). w.entries) settings_are;
      evacuate = ap (λ (w : Wanted). w.evacuate) settings_are;
    }

    named : source_in file e.settings ≡ Some (Read (file heap_name))
    named = ap (source_in file) run.has_settings ∙ ap (source_of file) settings_are

    text_is : e.text ≡ text
    text_is =
        let code = run.the_code in
        let is : code.source ≡ Read (file heap_name) = same_some code.source (Read (file heap_name)) (sym code.from ∙ named) in
        whole_is (subst (λ s. IsAll s e.text) is code.whole)

    made : IsCompiledTo e.text run.checked run.code
    made = subst (λ (mode : Mode). IsCodeBy mode e.text run.checked run.code) mode_is run.the_code.of_text

    typed_is : made.0 ≡ tree
    typed_is = (one_tree e.text (of_text text_is).tokens made.1.tree.tokens tree made.0 (of_text text_is).read made.1.tree.read).1

    texts_code : IsTextsCode run.checked run.code
    texts_code = let built = made.1 in record {
      left = built.prepared.erased ∙ ap lowered typed_is;
      due = built.prepared.due;
      slots = built.prepared.slots;
      hoisted = built.prepared.hoisted;
      emitted = built.emitted;
      lawful = built.lawful;
    }

    has_room : HasRoom log f
    has_room = room run.checked run.code texts_code run.settings defaults log f run.the_run.the_same_order.replays

    keeps : KeepsEveryTurn tree (ir_erased run.checked)
    keeps = subst (λ (t : Typed). KeepsEveryTurn t (ir_erased run.checked)) typed_is made.1.erased_turns

    of_the_tree : OfATree tree run.checked run.code run.settings log f
    of_the_tree = run.the_run.of_each_tree tree (subst (λ (mode : Mode). SpeaksOf mode tree) (sym mode_is) tt) keeps

    meant : IsAsMeant (program tree) (start tree) depth log run.settings f
    meant = of_the_tree.what_the_text_means (clean known log f has_room of_the_tree.a_run)

    ended : Ended known log f has_room of_the_tree.a_run end
    ended = ended_so known log f has_room of_the_tree.a_run run.settings (ap (λ (w : Wanted). w.output) settings_are) meant end run.the_run.the_same_order.ended

    answered : IsTheEnd end run.judged run.behind
    answered = subst (λ (mode : Mode). IsAnswerBy mode e end run.judged run.behind) mode_is run.answer

    ran_so : CameTo (file heap_name) out note e
    ran_so = by run.what_it_wrote
      where
        by : Written run.judged e.status f.output (report_text run.settings.evacuate end f.report ++ run.behind) out note → CameTo (file heap_name) out note e
        by (inl w) = printed (w.status_is ∙ (answered.0 ∙ ap status_of ended.is)) (subst (Gained out) ended.output w.out_gained)
        by (inr (inl w)) = unwritten w.status_is (inl w.fault) (subst (GainedFront out) ended.output w.out_gained)
        by (inr (inr w)) = unwritten (w.status_is ∙ ap after_note_fault (answered.0 ∙ ap status_of ended.is)) (inr w.fault) (all_first out (subst (Gained out) ended.output w.out_gained))

  -- ---- where nothing ran

  module _ (line : List ℕ) where
    -- a status other than want of memory
    stopped_with : (judged : Status) → after_note_fault judged ≡ statuses.WriteFault → (e.status ≡ judged → Gained out [] → CameTo (file heap_name) out note e) → Written judged e.status [] line out note → CameTo (file heap_name) out note e
    stopped_with judged fault go (inl w) = go w.status_is w.out_gained
    stopped_with judged fault go (inr (inl w)) = absurd (w.some refl)
    stopped_with judged fault go (inr (inr w)) = unwritten (w.status_is ∙ fault) (inr w.fault) (nothing_first out w.out_gained)

    -- want of memory
    wanted_so : Written statuses.NoMemory e.status [] line out note → CameTo (file heap_name) out note e
    wanted_so (inl w) = wanted w.status_is w.out_gained
    wanted_so (inr (inl w)) = absurd (w.some refl)
    wanted_so (inr (inr w)) = wanted w.status_is w.out_gained

    not_refused : (place : ℕ) (kind : Kind) → IsRefused (Read (file heap_name)) e.text place kind → ⊥
    not_refused place kind (inl r) = let t = of_text (whole_is r.0) in not_both e.text t.tokens tree (record { place = place; kind = kind }) t.read r.1
    not_refused place kind (inr r) = let long : 1048576 < length text = r.0.longer text told in absurd (omega (arith, long))

    -- the file is no code file
    no_code : (status : Status) → source_in file e.settings ≡ Some (Read (file heap_name)) → OfSource words file e.settings e.text (λ source. IsUnloaded source e.text status) → ⊥
    no_code status named fault =
        let is : fault.0 ≡ Read (file heap_name) = same_some fault.0 (Read (file heap_name)) (sym fault.1 ∙ named) in
        subst (λ s. IsUnloaded s e.text status) is fault.2

    by_judged : (judged : Status) → source_in file e.settings ≡ Some (Read (file heap_name)) → IsFault words file e.settings e.text judged → Written judged e.status [] line out note → CameTo (file heap_name) out note e
    by_judged statuses.Usage named fault w = let no : Some heap_wanted ≡ None = sym wants ∙ fault in absurd (cc no)
    by_judged statuses.ReadFault named fault w =
        let is : fault.0 ≡ Read (file heap_name) = same_some fault.0 (Read (file heap_name)) (sym fault.1 ∙ named) in
        stopped_with statuses.ReadFault refl (λ status gained. unread status (subst Failed is fault.2) gained) w
    by_judged (statuses.Refused place kind) named fault w =
        let is : fault.0 ≡ Read (file heap_name) = same_some fault.0 (Read (file heap_name)) (sym fault.1 ∙ named) in
        absurd (not_refused place kind (subst (λ s. IsRefused s e.text place kind) is fault.2))
    by_judged statuses.NoMemory named fault w = wanted_so w
    by_judged (statuses.Done value) named fault w = absurd fault
    by_judged statuses.WriteFault named fault w = absurd fault
    by_judged (statuses.Trap word kind) named fault w = absurd fault
    by_judged statuses.AllBlocked named fault w = absurd fault
    by_judged statuses.TurnLimit named fault w = absurd fault
    by_judged statuses.OutputLimit named fault w = absurd fault
    by_judged (statuses.StackLimit thread) named fault w = absurd fault
    by_judged (statuses.Checked found) named fault w = absurd fault
    by_judged (statuses.Raced first second) named fault w = absurd fault
    by_judged statuses.Built named fault w = absurd fault
    by_judged statuses.CodeTooDeep named fault w = absurd fault
    by_judged statuses.CodeTooLong named fault w = absurd fault
    by_judged (statuses.BadCode place) named fault w = absurd (no_code (statuses.BadCode place) named fault)
    by_judged (statuses.UnsafeCode place why) named fault w = absurd (no_code (statuses.UnsafeCode place why) named fault)
    by_judged statuses.FileTooLong named fault w = absurd (no_code statuses.FileTooLong named fault)

    -- memory was wanting before the settings were there
    by_want : (judged : Status) → e.status ≡ statuses.NoMemory → Written judged e.status [] line out note → CameTo (file heap_name) out note e
    by_want judged status (inl w) = wanted status w.out_gained
    by_want judged status (inr (inl w)) = absurd (w.some refl)
    by_want judged status (inr (inr w)) = wanted status w.out_gained

  came_to_no_run : (w : WithoutARun words file out note e) → CameToNoRun words file e w.judged w.output w.line → CameTo (file heap_name) out note e
  came_to_no_run w s =
      let nothing : Written w.judged e.status [] w.line out note = subst (λ (output : List ℕ). Written w.judged e.status output w.line out note) s.no_output w.written in
      elim h.the_text.settings [
        | inl is ↦ by_judged w.line w.judged (named_by file e.settings heap_wanted (is ∙ wants)) s.cause nothing
        | inr m ↦ by_want w.line w.judged m.status nothing
      ]

  did_no_work : (w : WithoutARun words file out note e) → DidItsWork file e w.judged w.output w.line → ⊥
  did_no_work w d = elim h.the_text.settings [
    | inl is ↦ no_work e.settings e w.judged w.output w.line (is ∙ wants) d.work
    | inr m ↦ not_wanted w.judged e.status w.output w.line out note (work_status_in e.settings e w.judged w.output w.line d.work) w.written m.status
  ]

  stopped_so : WithoutARun words file out note e → CameTo (file heap_name) out note e
  stopped_so w = elim w.why [ inl s ↦ came_to_no_run w s | inr d ↦ absurd (did_no_work w d) ]

  pub came_to : CameTo (file heap_name) out note e
  came_to = by e.journal refl
    where
      by : (journal : Option (List Entry)) → e.journal ≡ journal → CameTo (file heap_name) out note e
      by None is = stopped_so (h.without_a_run is)
      by (Some log) is = ran_so log is
