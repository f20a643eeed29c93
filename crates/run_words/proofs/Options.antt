-- The options of the command, one after the other.
use Rattle.std.proofs.Common.{◌≡◌, ℕ, ◌≤◌, List, length, take, ap}
use Rattle.std.specs.Borrow.{Bor}
use Rattle.std.specs.List.{fold}
use Rattle.std.proofs.lemmas.List.{take_all}
use Rattle.clap.specs.Simple.{App, with_rule}
use Rattle.run_words.specs.Command.{option_rule}

-- the command with one more option
abbrev pub with_option : App → Bor (List ℕ) → App
with_option app name = with_rule app (option_rule name.now)

pub fold-take_all : (app : App) (names : List (Bor (List ℕ))) (i : ℕ) → length names ≤ i → fold with_option app (take i names) ≡ fold with_option app names
fold-take_all app names i past = ap (fold with_option app) (take_all i names past)
