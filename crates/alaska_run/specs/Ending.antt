-- What contracts see of the ending of a call.
use Rattle.std.specs.Prelude.{◌≡◌, ℕ, List, Option, None}
use Rattle.std.specs.Option.{option_map}
use Rattle.std.specs.Arc.{arc_value}
use Rattle.ak_trace.specs.declared.entry.Entry.{Entry}
use Rattle.struct_ir.specs.Nodes.{Ir}
use Rattle.struct_ir.specs.Instrs.{LinearCode}
use Rattle.pin_checker.specs.CheckedViews.{program_in}
use Rattle.flat_rules.specs.declared.settings.Settings.{Settings}
use Rattle.run_notes.specs.declared.status.Status.{Status}
use Rattle.run_notes.specs.declared.status.Status.TheVariants.{NoMemory}
use Rattle.alaska_run.specs.declared.ending.Ending as code

-- how it ended; what the words said; the text, in mode load the bytes of the code file; its code, checked and as it was run; and the journal of
-- the run
pub record Ending : Type 0 where
  pub status : Status
  pub settings : Option Settings
  pub text : List ℕ
  pub checked : Option Ir
  pub code : Option LinearCode
  pub journal : Option (List Entry)

-- the ending of the code, as contracts see it
abbrev pub ending_view : code.Ending → Ending
ending_view e = record {
  status = e.status;
  settings = e.settings;
  text = e.text.items;
  checked = option_map program_in e.checked;
  code = option_map arc_value e.code;
  journal = option_map (λ k. k.entries) e.journal;
}

-- memory was wanting before anything ran
pub record WantedMemory (e : Ending) : Type 0 where
  pub status : e.status ≡ NoMemory
  pub journal : e.journal ≡ None
