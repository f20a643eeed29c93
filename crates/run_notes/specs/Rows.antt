-- Texts of note, as they are written.
use Rattle.std.specs.Prelude.{◌≡◌, true, false, pos, negsuc, [], ◌∷◌, ◌++◌, map, codes, replicate, Some, None, refl}
use Rattle.std.specs.Fmt.{digits}
use Rattle.c_lex.specs.declared.refusal.Kind.TheVariants.{TooDeep, UnknownName, OutsideSubset}
use Rattle.ak_trace.specs.declared.endings.End.TheVariants.{Done, Trap, AllBlocked, TurnLimit, OutputLimit, StackLimit}
use Rattle.ak_trace.specs.declared.endings.TrapKind.TheVariants.{Store, Free}
use Rattle.run_notes.specs.declared.status.Status.TheVariants as statuses
use Rattle.run_report.specs.declared.report.Report.{Report}
use Rattle.run_notes.specs.Reports.{report_text, end_text}
use Rattle.run_notes.specs.Lines.{built_line, fault_line}
use Rattle.ak_words.specs.declared.rule.Rule.TheVariants.{C5, C13}
use Rattle.ak_trace.specs.declared.endings.Verdict.TheVariants as verdicts
use Rattle.run_notes.specs.Checks.{check_line}
use Rattle.run_notes.specs.declared.races.RaceNote.TheVariants as notes
use Rattle.run_notes.specs.Races.{race_line, status_with}
use Rattle.run_notes.specs.Statuses.{number_of}
use Rattle.pin_checker.specs.declared.fault.Why.TheVariants as reasons

-- the report of a main that ends at once
abbrev pub short_run : Report
short_run = record {
  threads = 1;
  entries = 2;
  barriers = 0;
  moved_objects = 0;
  moved_bytes = 0;
  emptied = 0;
  live_objects = 0;
  live_bytes = 0;
  extent = 0;
  heap = 1048576;
  last = None;
}

pub short_run_text : report_text false (Done (pos 0)) short_run ≡ codes "ended: done 0\nthreads: 1\nentries: 2\nbarriers: 0\nmoved: 0 objects, 0 bytes\nlive: 0 objects, 0 bytes\nextent: 0 of 1048576\nlast barrier: none\n"
unfolding report_text digits
short_run_text = refl

-- two barriers in a heap of 4,096 bytes, which is full at the end
abbrev pub full_heap : Report
full_heap = record {
  threads = 1;
  entries = 700;
  barriers = 2;
  moved_objects = 128;
  moved_bytes = 2048;
  emptied = 0;
  live_objects = 129;
  live_bytes = 4096;
  extent = 4096;
  heap = 4096;
  last = Some (record { before = 4096; after = 4096; room = 0 });
}

pub full_heap_text : report_text false (Done (pos 0)) full_heap ≡ codes "ended: done 0\nthreads: 1\nentries: 700\nbarriers: 2\nmoved: 128 objects, 2048 bytes\nlive: 129 objects, 4096 bytes\nextent: 4096 of 4096\nlast barrier: extent 4096 to 4096, room 0\n"
unfolding report_text digits
full_heap_text = refl

-- a main that ends at once, with evacuations wanted
pub short_run_text-evacuating : report_text true (Done (pos 0)) short_run ≡ codes "ended: done 0\nthreads: 1\nentries: 2\nbarriers: 0\nmoved: 0 objects, 0 bytes\nlive: 0 objects, 0 bytes\nextent: 0 of 1048576\nlast barrier: none\nevacuated: 0 sub-heaps\n"
unfolding report_text digits
short_run_text-evacuating = refl

-- an evacuation leaves a sub-heap of 4,096 bytes empty, and an object of that size goes there
abbrev pub room_made : Report
room_made = record {
  threads = 1;
  entries = 13;
  barriers = 1;
  moved_objects = 1;
  moved_bytes = 64;
  emptied = 1;
  live_objects = 3;
  live_bytes = 4224;
  extent = 4224;
  heap = 8192;
  last = Some (record { before = 128; after = 128; room = 4096 });
}

pub room_made_text : report_text true (Done (pos 0)) room_made ≡ codes "ended: done 0\nthreads: 1\nentries: 13\nbarriers: 1\nmoved: 1 objects, 64 bytes\nlive: 3 objects, 4224 bytes\nextent: 4224 of 8192\nlast barrier: extent 128 to 128, room 4096\nevacuated: 1 sub-heaps\n"
unfolding report_text digits
room_made_text = refl

pub ends_text : end_text (Done (negsuc 0)) ++ end_text (Trap 0 Store) ++ end_text (Trap 9223372036854775808 Free) ++ end_text AllBlocked
    ++ end_text TurnLimit ++ end_text OutputLimit ++ end_text (StackLimit 0)
    ≡ codes "done -1trap store 0trap free 9223372036854775808all blockedturn limitoutput limitstack limit 0"
unfolding digits
ends_text = refl

-- 128 brackets in one line
pub too_deep_line : fault_line (codes "a.c") (codes "int main(void){return " ++ replicate 128 40 ++ codes "1") (statuses.Refused 149 TooDeep) ≡ codes "a.c:1:150: refused: TooDeep\n"
unfolding digits
too_deep_line = refl

-- a literal that isn't one of the language, in the second line
pub outside_line : fault_line (codes "a.c") (codes "\nint main(void){return 1.5;}") (statuses.Refused 23 (OutsideSubset 2)) ≡ codes "a.c:2:23: refused: OutsideSubset 2\n"
unfolding digits
outside_line = refl

pub no_main_line : fault_line (codes "a.c") [] (statuses.Refused 0 UnknownName) ≡ codes "a.c:1:1: refused: UnknownName\n"
unfolding digits
no_main_line = refl

pub unread_line : fault_line (codes "a.c") [] statuses.ReadFault ≡ codes "alaska: can't read a.c\n"
unread_line = refl

-- a load through null, a second lock by the thread that holds the mutex, and runs that break no rule
pub null_line : check_line (codes "a.c") (codes "int main(void){int *p=NULL;return *p;}") (verdicts.Broke C5 34 0) ≡ codes "a.c:1:35: broke C5 after 0 turns\n"
unfolding digits
null_line = refl

pub second_lock_line : check_line (codes "a.c") (codes "mtx_t m;int main(void){mtx_lock(&m);mtx_lock(&m);return 0;}") (verdicts.Broke C13 36 1) ≡ codes "a.c:1:37: broke C13 after 1 turns\n"
unfolding digits
second_lock_line = refl

pub checked_lines : check_line [] [] (verdicts.Ended (pos 6) 2) ++ check_line [] [] (verdicts.Ended (negsuc 0) 0) ++ check_line [] [] (verdicts.AllBlocked 3)
    ++ check_line [] [] (verdicts.TurnsSpent 1000)
    ≡ codes "checked: done 6 after 2 turns\nchecked: done -1 after 0 turns\nchecked: all blocked after 3 turns\nchecked: turns spent after 1000 turns\n"
unfolding digits
checked_lines = refl

pub numbers_of_checks : map number_of (statuses.Checked (verdicts.Broke C5 34 0) ∷ statuses.Checked (verdicts.Ended (pos 6) 2) ∷ statuses.Checked (verdicts.AllBlocked 3)
    ∷ statuses.Checked (verdicts.TurnsSpent 1000) ∷ []) ≡ 12 ∷ 0 ∷ 0 ∷ 0 ∷ []
numbers_of_checks = refl

-- main and a thread write x, and main only joins then: in the second line, at its 48th byte, and in the first, at its 22nd
pub racing_line : race_line (codes "a.c") (codes "int x;int f(void *v){x=1;return 0;}\nint main(void){thrd_t t;thrd_create(&t,f,NULL);x=2;thrd_join(t,NULL);return 0;}")
    (notes.Race (record { place = 83; turn = 1 }) (record { place = 21; turn = 3 })) ≡ codes "race: a.c:2:48 and a.c:1:22, turns 1 and 3\n"
unfolding digits
racing_line = refl

-- a run of which no two accesses race, one in which a rule is broken first, and one that wasn't judged
pub judged_lines : race_line (codes "a.c") [] notes.Clean ++ race_line (codes "a.c") [] (notes.Broke C13 1) ++ race_line (codes "a.c") [] notes.NotJudged
    ≡ codes "race: none\nrace: broke C13 after 1 turns\nrace: not judged\n"
unfolding digits
judged_lines = refl

pub statuses_of_races : map (λ note. status_with note (statuses.Done (pos 6)))
    (notes.Clean ∷ notes.Race (record { place = 83; turn = 1 }) (record { place = 21; turn = 3 }) ∷ notes.Broke C13 1 ∷ notes.NotJudged ∷ [])
    ≡ statuses.Done (pos 6) ∷ statuses.Raced 83 21 ∷ statuses.Done (pos 6) ∷ statuses.NoMemory ∷ []
statuses_of_races = refl

pub number_of_races : number_of (statuses.Raced 83 21) ≡ 13
number_of_races = refl

-- code that was built, code that is none, and code that isn't safe for moves
pub built_lines : built_line 0 ++ built_line 1234 ≡ codes "built: 0 bytes\nbuilt: 1234 bytes\n"
unfolding digits
built_lines = refl

pub code_lines : fault_line (codes "a.c") [] statuses.CodeTooDeep ++ fault_line (codes "a.c") [] statuses.CodeTooLong ++ fault_line (codes "a.alsk") [] statuses.FileTooLong
    ≡ codes "alaska: code too deep\nalaska: code too long\na.alsk: too long\n"
code_lines = refl

pub bad_code_lines : fault_line (codes "a.alsk") (codes "ALSX") (statuses.BadCode 3) ++ fault_line (codes "no.alsk") [] (statuses.BadCode 0)
    ≡ codes "a.alsk: bad code at 3\nno.alsk: bad code at 0\n"
unfolding digits
bad_code_lines = refl

pub unsafe_code_lines : fault_line (codes "a.alsk") [] (statuses.UnsafeCode 27 reasons.NotPinned) ++ fault_line (codes "a.alsk") [] (statuses.UnsafeCode 0 reasons.NoLook)
    ++ fault_line (codes "b") [] (statuses.UnsafeCode 5 reasons.StaleLook) ++ fault_line (codes "b") [] (statuses.UnsafeCode 4294967295 reasons.BadTemp)
    ≡ codes "a.alsk: unsafe code at 27: NotPinned\na.alsk: unsafe code at 0: NoLook\nb: unsafe code at 5: StaleLook\nb: unsafe code at 4294967295: BadTemp\n"
unfolding digits
unsafe_code_lines = refl

pub no_line_of_built : fault_line (codes "a.c") [] statuses.Built ≡ []
no_line_of_built = refl

pub numbers_of_codes : map number_of (statuses.Built ∷ statuses.CodeTooDeep ∷ statuses.BadCode 4 ∷ statuses.UnsafeCode 27 reasons.NotPinned ∷ statuses.CodeTooLong
    ∷ statuses.FileTooLong ∷ []) ≡ 0 ∷ 14 ∷ 15 ∷ 16 ∷ 17 ∷ 18 ∷ []
numbers_of_codes = refl
