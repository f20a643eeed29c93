-- What clap's parse of the command says of the words.
use Rattle.std.proofs.Common.{◌≡◌, ◌≢◌, ◌∙◌, ℕ, true, false, List, [], ◌∷◌, ap, subst, refl, inl, inr, Option, None, Some, IfOk, Result, option_map}
use Rattle.clap.specs.Faults.{fault_of, is_simple_and_free}
use Rattle.clap.specs.Kinds.{HasKind, IsAmong, Kinds}
use mathlib.Core.Path.{fun_ext}
use Rattle.clap.specs.Matches.{first_value, found_of}
use Rattle.clap.specs.Simple.{App, HasMatchesOf, is_simple, matches_of}
use Rattle.clap.specs.Values.{kind_of}
use Rattle.clap.specs.Walk.{first_of}
use Rattle.clap.specs.declared.error.Error.{Error}
use Rattle.clap.specs.declared.error.kind.ErrorKind.{ErrorKind}
use Rattle.clap.specs.declared.error.kind.ErrorKind.TheVariants.{OutOfMemory}
use Rattle.clap.specs.declared.parser.matches.ArgMatches.{ArgMatches}
use Rattle.clap.proofs.OnLiterals.{clap_on_literals}
use Rattle.clap.proofs.WalkLemmas.{first_value-rows}
use Rattle.run_words.specs.Command.{alaska, are_taken, is_clean, value_in}
use Rattle.run_words.specs.Wanted.{fits_mode, has_bounded_heap, only_if, settings_of, wanted_by, wanted_of}
use Rattle.run_words.specs.inner.Parses.{IsParse, IsParseOf}
use Rattle.flat_rules.specs.declared.settings.Settings.{Settings}

alaska_is_simple : is_simple alaska ≡ true
unfolding alaska clap_on_literals
alaska_is_simple = refl

alaska_is_free : is_simple_and_free alaska ≡ true
unfolding alaska clap_on_literals
alaska_is_free = refl

-- the faults of the command, by those of what was built
faults_of : (app : App) (words : List (List ℕ)) (P : Kinds → Type 0) → app ≡ alaska → (is_simple_and_free app ≡ true → P (fault_of app words)) → P (fault_of alaska words)
faults_of app words P is fails = subst (λ a. P (fault_of a words)) is (fails (ap is_simple_and_free is ∙ alaska_is_free))

pub IsParseOf-from_clap : (app : App) (words : List (List ℕ)) (matches : ArgMatches) → app ≡ alaska → HasMatchesOf app words matches
    → (is_simple_and_free app ≡ true → fault_of app words ≡ []) → IsParseOf words matches
unfolding are_taken value_in
IsParseOf-from_clap app words matches is has faultless = record {
  taken = ap is_clean (faults_of app words (λ kinds. kinds ≡ []) is faultless);
  values = λ name. first_value-rows (found_of matches) name ∙ ap (first_of name) ((has (ap is_simple is ∙ alaska_is_simple)).0)
      ∙ ap (λ a. first_of name (matches_of a words)) is;
}

-- a list with a kind in it is no clean one
some_kind : (k : ErrorKind) (kinds : Kinds) → IsAmong k kinds → is_clean kinds ≡ false
some_kind k [] among = absurd among
some_kind k (x ∷ kinds) among = refl

among_kinds : (kinds : Kinds) (error : Error) → kind_of error ≢ OutOfMemory → HasKind kinds error → is_clean kinds ≡ false
among_kinds kinds error other has = elim has [ inl memory ↦ absurd (other memory) | inr among ↦ some_kind (kind_of error) kinds among ]

pub are_taken-from_clap : (app : App) (words : List (List ℕ)) (error : Error) → app ≡ alaska → kind_of error ≢ OutOfMemory
    → (is_simple_and_free app ≡ true → HasKind (fault_of app words) error) → are_taken words ≡ false
unfolding are_taken
are_taken-from_clap app words error is other fails = among_kinds (fault_of alaska words) error other (faults_of app words (λ kinds. HasKind kinds error) is fails)

-- what the settings are of a parse of the words
settings_of-parse : (words : List (List ℕ)) (matches : ArgMatches) → IsParseOf words matches
    → only_if fits_mode (only_if has_bounded_heap (wanted_by (first_value (found_of matches)))) ≡ settings_of words
unfolding settings_of
settings_of-parse words matches is = rw (is.taken, fun_ext is.values) refl

pub settings_of-matches : {E : Type 0} (words : List (List ℕ)) (parsed : Option ArgMatches) (matches : ArgMatches) (made : Result (Option Settings) E) → parsed ≡ Some matches → IsParse words parsed
    → IfOk made (λ r. option_map wanted_of r ≡ only_if fits_mode (only_if has_bounded_heap (wanted_by (first_value (found_of matches)))))
    → IfOk made (λ r. option_map wanted_of r ≡ settings_of words)
settings_of-matches words parsed matches made some is by =
    subst (λ w. IfOk made (λ r. option_map wanted_of r ≡ w)) (settings_of-parse words matches (subst (IsParse words) some is)) by

pub settings_of-refused : (words : List (List ℕ)) (parsed : Option ArgMatches) → parsed ≡ None → IsParse words parsed → None ≡ settings_of words
unfolding settings_of
settings_of-refused words parsed none is = rw (subst (IsParse words) none is) refl
