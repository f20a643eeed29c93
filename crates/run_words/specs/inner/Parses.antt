-- What clap's matches say of the words.
use Rattle.std.specs.Prelude.{◌≡◌, ℕ, true, false, List, Option, Some, None}
use Rattle.clap.specs.Matches.{first_value, found_of}
use Rattle.clap.specs.declared.parser.matches.ArgMatches.{ArgMatches}
use Rattle.run_words.specs.Command.{are_taken, value_in}

-- the words are taken, and these are their values
pub record IsParseOf (words : List (List ℕ)) (matches : ArgMatches) : Type 0 where
  pub taken : are_taken words ≡ true
  pub values : (name : List ℕ) → first_value (found_of matches) name ≡ value_in words name

-- matches of the words, or none where they aren't taken
abbrev pub IsParse : List (List ℕ) → Option ArgMatches → Type 0
IsParse words None = are_taken words ≡ false
IsParse words (Some matches) = IsParseOf words matches
