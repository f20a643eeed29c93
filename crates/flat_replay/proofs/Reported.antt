-- What is told of what a journal comes to.
use Rattle.std.proofs.Common.{◌≡◌, ℕ, List, length, refl, ap, sym, ◌∙◌, Option, Some, None}
use Rattle.std.specs.Option.{option_map}
use Rattle.ak_trace.specs.declared.entry.Entry.{Entry}
use Rattle.struct_ir.specs.Instrs.{LinearCode}
use Rattle.ak_trace.specs.declared.endings.End.{End}
use Rattle.flat_rules.specs.declared.settings.Settings.{Settings}
use Rattle.flat_rules.specs.Rules.{rules_of}
use Rattle.flat_rules.specs.States.{RunState, end_of}
use Rattle.flat_threads.specs.Contexts.{Context}
use Rattle.run_report.specs.declared.report.Report.{Report}
use Rattle.flat_machine.specs.Machine.{machine_of}
use Rattle.flat_machine.specs.Replays.{Final, replay, final_at, final_of}
use Rattle.flat_machine.specs.Reports.{report_of}
use Rattle.flat_machine.specs.Shares.{Shared}

-- what is told, of its three parts
abbrev pub final : List ℕ → Option End → Report → Final
final output end report = record { output = output; end = end; report = report }

module _ (code : LinearCode) (s : Settings) (log : List Entry) where
  -- what is shared in a state, and the end
  abbrev pub reached : RunState Shared Context → Shared × Option End
  reached x = (x.shared, end_of (machine_of code) (rules_of s) x)

  -- what these tell
  abbrev pub told : Shared × Option End → Final
  told p = final p.0.memory.output p.1 (report_of p.0 (length log))

  -- which is what the state tells
  told_reached : (o : Option (RunState Shared Context)) → option_map told (option_map reached o) ≡ option_map (final_at code s log) o
  told_reached None = refl
  told_reached (Some x) = refl

  -- what is told of what a journal comes to is what is told of the journal
  pub reported : (r : Option (Shared × Option End)) (shared : Shared) (end : Option End) (output : List ℕ) (report : Report) (n : ℕ) → r ≡ option_map reached (replay code s log) → r ≡ Some (shared, end) → output ≡ shared.memory.output → report ≡ report_of shared n → n ≡ length log → Some (final output end report) ≡ final_of code s log
  reported r shared end output report n came is printed tells count =
      (λ i. Some (final (printed i) end ((tells ∙ ap (report_of shared) count) i))) ∙ (ap (option_map told) (sym is ∙ came) ∙ told_reached (replay code s log))
