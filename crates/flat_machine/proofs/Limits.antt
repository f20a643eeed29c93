-- No journal is longer than the settings allow.
use Rattle.std.proofs.Common.{◌≡◌, ◌≤◌, List, length, Option, Some, None, refl, arith}
use Rattle.std.specs.Option.{option_map}
use Rattle.ak_trace.specs.declared.entry.Entry.{Entry}
use Rattle.struct_ir.specs.Instrs.{LinearCode}
use Rattle.flat_rules.specs.declared.settings.Settings.{Settings}
use Rattle.flat_rules.specs.States.{RunState}
use Rattle.flat_rules.specs.Rules.{rules_of}
use Rattle.flat_rules.proofs.Spares.{spare_is_left}
use Rattle.flat_threads.specs.Contexts.{Context}
use Rattle.flat_machine.specs.Limits.{JournalsFit}
use Rattle.flat_machine.specs.Machine.{machine_of}
use Rattle.flat_machine.specs.Replays.{Final, final_at, final_of, replay}
use Rattle.flat_machine.specs.Shares.{Shared}
use Rattle.flat_machine.specs.Start.{first_shared, settings_limits}
use Rattle.flat_machine.specs.lemmas.Lawful.{few_served}

pub journals_fit : JournalsFit
journals_fit code s log x replays = let a = spare_is_left Shared Context (machine_of code) (rules_of s) (first_shared code (settings_limits s)) log x (few_served code) replays in omega arith

-- nor is one whose last state is told
pub finals_fit : (code : LinearCode) (s : Settings) (log : List Entry) (f : Final) → final_of code s log ≡ Some f → length log ≤ s.entries
finals_fit code s log f is = by (replay code s log) refl is
  where
    by : (o : Option (RunState Shared Context)) → replay code s log ≡ o → option_map (final_at code s log) o ≡ Some f → length log ≤ s.entries
    by None e told = absurd (cc told)
    by (Some x) e told = journals_fit code s log x e
