use Rattle.std.proofs.Common.{◌≡◌, fold, take}
use Rattle.clap.specs.Simple.{app_of}
use Rattle.run_words.specs.Command.{alone}
use Rattle.run_words.proofs.Options.{with_option}
use Rattle.run_words.proofs.command.command.Given as goal

abbrev pub invariant-loop-name : goal.invariant-loop-name
invariant-loop-name l = app_of l.command ≡ fold with_option alone (take l.name-index l.name-items)
