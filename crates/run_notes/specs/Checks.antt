-- The line of what a check of a text found.
use Rattle.std.specs.Prelude.{ℕ, List, ◌++◌, codes, decimal}
use Rattle.std.specs.Fmt.{signed_decimal}
use Rattle.ak_words.specs.declared.rule.Rule.{Rule}
use Rattle.ak_words.specs.declared.rule.Rule.TheVariants as rules
use Rattle.ak_trace.specs.declared.endings.Verdict.{Verdict}
use Rattle.ak_trace.specs.declared.endings.Verdict.TheVariants as verdicts
use Rattle.run_notes.specs.Lines.{place_text}

-- the name of a rule of C
abbrev pub rule_name : Rule → List ℕ
rule_name rules.C1 = codes "C1"
rule_name rules.C2 = codes "C2"
rule_name rules.C3 = codes "C3"
rule_name rules.C4 = codes "C4"
rule_name rules.C5 = codes "C5"
rule_name rules.C6 = codes "C6"
rule_name rules.C7 = codes "C7"
rule_name rules.C8 = codes "C8"
rule_name rules.C9 = codes "C9"
rule_name rules.C10 = codes "C10"
rule_name rules.C11 = codes "C11"
rule_name rules.C12 = codes "C12"
rule_name rules.C13 = codes "C13"
rule_name rules.C14 = codes "C14"
rule_name rules.C15 = codes "C15"
rule_name rules.C16 = codes "C16"

-- after so many turns, to the end of the line
abbrev pub after : ℕ → List ℕ
after turns = codes " after " ++ decimal turns ++ codes " turns\n"

-- the line of a check of a text, of the file with this name: the place of the rule that is broken first, or how the run ended that breaks none
abbrev pub check_line : (name text : List ℕ) → Verdict → List ℕ
check_line name text (verdicts.Broke rule place turns) = place_text name text place ++ codes "broke " ++ rule_name rule ++ after turns
check_line name text (verdicts.Ended exit turns) = codes "checked: done " ++ signed_decimal exit ++ after turns
check_line name text (verdicts.AllBlocked turns) = codes "checked: all blocked" ++ after turns
check_line name text (verdicts.TurnsSpent turns) = codes "checked: turns spent" ++ after turns
