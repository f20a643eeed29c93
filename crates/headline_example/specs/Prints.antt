-- What a call with the text comes to.
use Rattle.std.specs.Prelude.{◌≡◌, ℕ, ◌⊎◌, List, [], ◌∷◌, codes, pos}
use Rattle.run_notes.specs.declared.status.Status.TheVariants as statuses
use Rattle.run_edges.specs.Files.{Shelved, ReadFailed}
use Rattle.run_edges.specs.Sinks.{Channel, Gained, GainedFront, WriteFailed}
use Rattle.alaska_run.specs.Ending.{Ending}

-- the name of the file
abbrev pub heap_name : List ℕ
heap_name = codes "heap.c"

-- the words of the call: one worker, and all settings as they are without options
abbrev pub heap_words : List (List ℕ)
heap_words = codes "alaska" ∷ heap_name ∷ []

-- 42 and a newline
abbrev pub answer : List ℕ
answer = codes "42\n"

-- main ended with 0, and out gained just 42 and a newline; or memory was wanting, or a read of the file failed, and out gained nothing; or a
-- write failed, and out gained some first part of that
pub data CameTo (file : Shelved) (out note : Channel) (e : Ending) : Type 0 where
  printed : e.status ≡ statuses.Done (pos 0) → Gained out answer → CameTo file out note e
  wanted : e.status ≡ statuses.NoMemory → Gained out [] → CameTo file out note e
  unread : e.status ≡ statuses.ReadFault → ReadFailed file → Gained out [] → CameTo file out note e
  unwritten : e.status ≡ statuses.WriteFault → WriteFailed out ⊎ WriteFailed note → GainedFront out answer → CameTo file out note e
