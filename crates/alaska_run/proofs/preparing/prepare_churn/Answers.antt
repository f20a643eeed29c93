use Rattle.std.proofs.Common.{◌≡◌, ◌∙◌, sym, ap₂, Some}
use Rattle.std.specs.Prelude.{unwrap_or}
use Rattle.flat_rules.specs.declared.settings.Mode.TheVariants.{Churn, Load}
use Rattle.run_words.specs.Wanted.{wanted_of}
use Rattle.run_churn.specs.Text.{text}
use Rattle.alaska_run.specs.Sources.{Made, source_of}
use Rattle.alaska_run.proofs.Prepared.{where_ok, is_all}
use Rattle.alaska_run.proofs.Words.{source_made}
use Rattle.alaska_run.proofs.preparing.prepare_churn.Goals as goal

pub returns : goal.returns
returns c = λ words file said.
    let made = text (unwrap_or c.args.settings.seed 0) (unwrap_or c.args.settings.size 1) in
    let from : source_of file (wanted_of c.args.settings) ≡ Some (Made made) = source_made file words (wanted_of c.args.settings) said c.requires in
    let same : c.in_ok-text.text.items ≡ made = c.in_ok-text.ensures.text ∙ ap₂ text c.unwrap_or.ensures c.unwrap_or-2.ensures in
    where_ok _ _ c.compile_text.result (is_all words file c.args.settings (Made made) c.in_ok-text.text.items said from tt (λ is. let z : Churn ≡ Load = sym c.requires ∙ is in cc z) (c.in_ok-text.ensures.short, same)) c.compile_text.ensures
