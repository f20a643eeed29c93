-- The command line as a simple command of clap: FILE, which may be left out, and options of one value each, all read as texts. It has no
-- flag for help, and none for a version.
use Rattle.std.specs.Prelude.{ℕ, Bool, true, false, List, [], ◌∷◌, codes, fold, map, Option, Some}
use Rattle.clap.specs.Faults.{fault_of}
use Rattle.clap.specs.Kinds.{Kinds}
use Rattle.clap.specs.Simple.{App, matches_of, new_app, new_rule, on_top, with_rule}
use Rattle.clap.specs.Walk.{Rule, first_of}

-- FILE: what has no option before it
abbrev pub file_rule : Rule
file_rule = new_rule (codes "file")

-- an option, `--name VALUE` or `--name=VALUE`
abbrev pub option_rule : List ℕ → Rule
option_rule name = record (new_rule name) { long = Some name }

-- the names of the options
abbrev pub option_names : List (List ℕ)
option_names = codes "workers" ∷ codes "schedule" ∷ codes "every" ∷ codes "subheap" ∷ codes "subheaps" ∷ codes "ids"
    ∷ codes "entries" ∷ codes "evacuate" ∷ codes "output" ∷ codes "mode" ∷ codes "seed" ∷ codes "size" ∷ []

-- the command without its options
abbrev pub alone : App
alone = with_rule (on_top (λ shape. record shape { disable_help_flag = true }) (new_app (codes "alaska"))) file_rule

-- the command with all its options
unfoldable pub alaska : App
alaska = fold with_rule alone (map option_rule option_names)

-- no kind of fault
abbrev pub is_clean : Kinds → Bool
is_clean [] = true
is_clean (kind ∷ kinds) = false

-- the command takes the words, of which the first is the program's own name
unfoldable pub are_taken : List (List ℕ) → Bool
are_taken words = is_clean (fault_of alaska words)

-- the value of FILE or of an option, by its name, where the words give it
unfoldable pub value_in : List (List ℕ) → List ℕ → Option (List ℕ)
value_in words name = first_of name (matches_of alaska words)
