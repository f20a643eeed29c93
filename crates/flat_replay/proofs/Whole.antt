-- A journal of guarded code has the code's own meaning over named blocks, up to an operation on a value of a kind that it doesn't take; and checked
-- code has no such operation.
use Rattle.std.proofs.Common.{ℕ, List, inl, inr}
use Rattle.std.specs.Prelude.{Option}
use Rattle.ak_trace.specs.declared.endings.End.{End}
use Rattle.ak_trace.specs.declared.entry.Entry.{Entry}
use Rattle.struct_ir.specs.Nodes.{Ir}
use Rattle.struct_ir.specs.meaning.Start.{start}
use Rattle.struct_ir.specs.meaning.Threads.{program_of}
use Rattle.flat_meaning.specs.Journals.{journal_picks}
use Rattle.flat_meaning.specs.Order.{pick}
use Rattle.flat_meaning.specs.Simulation.{EachTurnTakesAnAnswer}
use Rattle.flat_machine.specs.Replays.{final_at}
use Rattle.flat_simulation.specs.Kinds.{LinearCodeFollowsCode}
use Rattle.flat_simulation.proofs.KindRuns.{none_met, none_wrong}
use Rattle.flat_simulation.proofs.Programs.{guarded_of}
use Rattle.flat_replay.specs.Kinds.{MeetsKindAt, in_order, in_attempt, in_waiting, StopsAt, depth_of}
use Rattle.flat_replay.specs.Laws.{JournalsOfCheckedCodeAreMeant, JournalsOfGuardedCodeAreMeant}
use Rattle.flat_replay.specs.Meaning.{BreaksAt}
use Rattle.flat_replay.proofs.CleanMeant.{clean_is_as_meant}
use Rattle.flat_replay.proofs.FirstBreak.{a_run_there_is, stopped_is_up_to}

pub journals_of_guarded_code_are_meant : LinearCodeFollowsCode → JournalsOfGuardedCodeAreMeant
journals_of_guarded_code_are_meant follow p guarded code emitted lawful program s log x replays = record {
  a_run = a_run_there_is follow p guarded code emitted lawful program s log x replays;
  clean = clean_is_as_meant follow p guarded code emitted lawful program s log x replays;
  stopped = stopped_is_up_to follow p guarded code emitted lawful program s log x replays;
}

-- ---- checked code

module _ (p : Ir) (answers : EachTurnTakesAnAnswer p) (log : List Entry) (end : Option End) where
  -- it has no such operation
  none_at : (turns : ℕ) → MeetsKindAt p log end turns → ⊥
  none_at turns (in_order m) = none_met p answers (journal_picks log) turns m
  none_at turns (in_attempt thread answer u any reached wrong) = none_wrong p answers _ u reached (pick thread answer) wrong
  none_at turns (in_waiting thread answer u ended all reached wrong) = none_wrong p answers (journal_picks log) u reached (pick thread answer) wrong

  -- so where it stops it breaks a rule
  breaks_at : (turns : ℕ) → StopsAt p log end turns → BreaksAt (program_of p) (start p) depth_of log end turns
  breaks_at turns (inl b) = b
  breaks_at turns (inr m) = absurd (none_at turns m)

pub journals_of_checked_code_are_meant : JournalsOfGuardedCodeAreMeant → JournalsOfCheckedCodeAreMeant
journals_of_checked_code_are_meant meant p checked code emitted lawful program s log x replays =
    let m = meant p (guarded_of p checked) code emitted lawful program s log x replays in
    let end = (final_at code s log x).end in
    record {
      a_run = λ turns none. none_at p checked.answers log end turns (m.a_run turns none);
      clean = λ clean. m.clean (λ turns stops. clean turns (breaks_at p checked.answers log end turns stops));
      broken = λ turns first. m.stopped turns (inl first.0, λ before early stops. first.1 before early (breaks_at p checked.answers log end before stops));
    }
