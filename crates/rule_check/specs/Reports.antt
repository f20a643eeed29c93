-- What a check reports, as its definitions see it.
use Rattle.std.specs.Prelude.{ℕ, List, map}
use Rattle.ak_trace.specs.declared.endings.Verdict.{Verdict}
use Rattle.block_store.specs.declared.values.Answer.{Answer}
use Rattle.block_store.specs.Runs.{Pick}
use Rattle.rule_check.specs.declared.report.RuleReport.{RuleReport}

-- what was found, the turns that were done, and what was printed
pub record Report : Type 0 where
  pub verdict : Verdict
  pub order : List Pick
  pub output : List ℕ

-- a turn as the code keeps it: its thread, and the answer that it was told
abbrev pub pick_of : (ℕ × Answer) → Pick
pick_of p = record { thread = p.0; answer = p.1 }

-- the code's report
abbrev pub report_view : RuleReport → Report
report_view r = record { verdict = r.verdict; order = map pick_of r.order.items; output = r.output.items }
