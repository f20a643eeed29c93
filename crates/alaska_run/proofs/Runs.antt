-- A run's journal, and what it replays to.
use Rattle.std.proofs.Common.{◌≡◌, ℕ, List, ◌++◌, length, take, ap, subst, ◌∙◌, Some}
use Rattle.std.specs.Prelude.{◌==◌, if◌then◌else◌, None, option_and_then}
use Rattle.std.proofs.Math.Seq.{take-append_seam}
use Rattle.ak_trace.specs.declared.entry.Entry.{Entry}
use Rattle.struct_ir.specs.Instrs.{LinearCode}
use Rattle.ak_trace.specs.declared.endings.End.{End}
use Rattle.flat_rules.specs.declared.settings.Settings.{Settings}
use Rattle.flat_rules.specs.Rules.{Rules, rules_of}
use Rattle.flat_rules.specs.States.{RunState, start, end_of}
use Rattle.flat_rules.specs.Replays.{run, settled}
use Rattle.flat_threads.specs.Contexts.{Context}
use Rattle.flat_machine.specs.Machine.{machine_of}
use Rattle.flat_machine.specs.Replays.{replay}
use Rattle.flat_machine.specs.Shares.{Shared}
use Rattle.flat_machine.specs.Start.{first_shared, settings_limits}
use Rattle.world_rules.specs.Whole.{Whole, Leads}
use Rattle.alaska_run.specs.inner.Courses.{IsWorldOf}

-- a journal that leads from the world as it was made replays
pub replay_of : (code : LinearCode) (s : Settings) (first : Whole Shared LinearCode Context) (log : List Entry) (x : RunState Shared Context)
    → IsWorldOf s code first → Leads machine_of first log x → replay code s log ≡ Some x
replay_of code s first log x w leads =
    let P : LinearCode → Rules → Shared → Type 0 = λ c r shared. run (machine_of c) r log (start (machine_of c) r shared) ≡ Some x in
    let a : P code first.settings first.shared = subst (λ c. P c first.settings first.shared) w.code_is leads.runs in
    let b : P code (rules_of s) first.shared = subst (λ r. P code r first.shared) w.rules a in
    let c : P code (rules_of s) (first_shared code (settings_limits s)) = subst (λ shared. P code (rules_of s) shared) w.shared b in
    ap (option_and_then (settled (machine_of code) (rules_of s))) c ∙ ap (λ (due : List Entry). if length due == 0 then Some x else None) leads.settled

-- and ends as its last state does
pub end_of_run : (code : LinearCode) (s : Settings) (first : Whole Shared LinearCode Context) (x : RunState Shared Context) (end : End)
    → IsWorldOf s code first → end_of (machine_of first.code) first.settings x ≡ Some end → end_of (machine_of code) (rules_of s) x ≡ Some end
end_of_run code s first x end w ends =
    let P : LinearCode → Rules → Type 0 = λ c r. end_of (machine_of c) r x ≡ Some end in
    subst (λ r. P code r) w.rules (subst (λ c. P c first.settings) w.code_is ends)

-- what a write through the whole of a list leaves of it
pub whole_written : {A : Type 0} (len : ℕ) (new rest : List A) → length new ≡ len → take len (new ++ rest) ≡ new
whole_written len new rest same = subst (λ m. take m (new ++ rest) ≡ new) same (take-append_seam new rest)
