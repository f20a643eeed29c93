use Rattle.std.proofs.Common.{◌∙◌, ap₂, sym, arith}
use Rattle.std.proofs.lemmas.List.Sums.{fold_more}
use Rattle.clap.specs.Simple.{with_rule}
use Rattle.run_words.specs.Command.{alaska, alone}
use Rattle.run_words.proofs.Options.{with_option, fold-take_all}
use Rattle.run_words.proofs.command.command.Goals as goal

pub loop-name-preserved : goal.loop-name-preserved
loop-name-preserved c =
    c.in_ok-command-2.ensures.shape c.option.ensures.local ∙ ap₂ with_rule c.loop-name.invariant c.option.ensures.rule
    ∙ sym (fold_more with_option alone _ c.loop-name.name-index _ (omega arith))

pub returns : goal.returns
unfolding alaska
returns c = c.loop-name.invariant ∙ fold-take_all alone _ c.loop-name.name-index (omega arith)
