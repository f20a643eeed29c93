-- What out and note took at the end of a call, and its status then.
use Rattle.std.specs.Prelude.{◌≡◌, ◌≢◌, ℕ, ◌⊎◌, List, []}
use Rattle.run_notes.specs.declared.status.Status.{Status}
use Rattle.run_notes.specs.declared.status.Status.TheVariants as statuses
use Rattle.run_edges.specs.Sinks.{Channel, Gained, GainedFront, WriteFailed}

-- the status after note failed: want of memory stays what it is
abbrev pub after_note_fault : Status → Status
after_note_fault statuses.NoMemory = statuses.NoMemory
after_note_fault _ = statuses.WriteFault

-- all was written
pub record WroteAll (judged status : Status) (output line : List ℕ) (out note : Channel) : Type 0 where
  pub status_is : status ≡ judged
  pub out_gained : Gained out output
  pub note_gained : Gained note line

-- out was to take something and failed, and nothing was written to note
pub record OutFailed (judged status : Status) (output line : List ℕ) (out note : Channel) : Type 0 where
  pub some : output ≢ []
  pub status_is : status ≡ statuses.WriteFault
  pub fault : WriteFailed out
  pub out_gained : GainedFront out output
  pub note_gained : Gained note []

-- out took all, and note failed
pub record NoteFailed (judged status : Status) (output line : List ℕ) (out note : Channel) : Type 0 where
  pub status_is : status ≡ after_note_fault judged
  pub fault : WriteFailed note
  pub out_gained : Gained out output
  pub note_gained : GainedFront note line

-- what was written, and the status then: all, or less because one of the sinks failed
abbrev pub Written : Status → Status → List ℕ → List ℕ → Channel → Channel → Type 0
Written judged status output line out note = WroteAll judged status output line out note
    ⊎ OutFailed judged status output line out note ⊎ NoteFailed judged status output line out note
