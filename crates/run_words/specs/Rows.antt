-- Words worked by hand.
use Rattle.std.specs.Prelude.{◌≡◌, ℕ, true, false, List, [], ◌∷◌, codes, map, Some, None, replicate, refl}
use Rattle.clap.proofs.OnLiterals.{clap_on_literals}
use Rattle.flat_rules.specs.declared.settings.Mode.TheVariants.{Run, Churn, Check, Race, Build, Load}
use Rattle.run_words.specs.Numbers.{number_in}
use Rattle.run_words.specs.Command.{alaska, are_taken, value_in}
use Rattle.run_words.specs.Wanted.{Wanted, settings_of, wanted_by}

-- the program's own name, and more words
abbrev pub called : List (List ℕ) → List (List ℕ)
called words = codes "alaska" ∷ words

-- a.c without options
abbrev pub plain : Wanted
plain = record {
  file = Some (codes "a.c");
  workers = 1;
  schedule = None;
  every = None;
  subheap = 65536;
  subheaps = 16;
  ids = 65536;
  entries = 1000000;
  evacuate = false;
  output = 1048576;
  mode = Run;
  seed = None;
  size = None;
}

pub file_alone : settings_of (called (codes "a.c" ∷ [])) ≡ Some plain
unfolding settings_of are_taken alaska value_in wanted_by number_in clap_on_literals
file_alone = refl

-- options stand before FILE and behind it, and a value behind its name or behind `=`
pub options_around_file : settings_of (called (codes "--every=8" ∷ codes "a.c" ∷ codes "--workers" ∷ codes "2" ∷ codes "--schedule" ∷ codes "7" ∷ []))
    ≡ Some (record plain { workers = 2; schedule = Some 7; every = Some 8 })
unfolding settings_of are_taken alaska value_in wanted_by number_in clap_on_literals
options_around_file = refl

pub small_heap : settings_of (called (codes "a.c" ∷ codes "--subheap" ∷ codes "4096" ∷ codes "--subheaps" ∷ codes "1" ∷ [])) ≡ Some (record plain { subheap = 4096; subheaps = 1 })
unfolding settings_of are_taken alaska value_in wanted_by number_in clap_on_literals
small_heap = refl

-- thin sub-heaps are evacuated with 1, and not with 0
pub evacuations : map settings_of (called (codes "a.c" ∷ codes "--evacuate" ∷ codes "1" ∷ []) ∷ called (codes "--evacuate=0" ∷ codes "a.c" ∷ []) ∷ [])
    ≡ Some (record plain { evacuate = true }) ∷ Some plain ∷ []
unfolding settings_of are_taken alaska value_in wanted_by number_in clap_on_literals
evacuations = refl

-- the greatest numbers, with zeros before them up to 20 digits
pub greatest_numbers : settings_of (called (codes "a.c" ∷ codes "--schedule" ∷ codes "18446744073709551615" ∷ codes "--ids" ∷ codes "00000000000001048576"
    ∷ codes "--entries" ∷ codes "16000000" ∷ codes "--output" ∷ codes "16777216" ∷ []))
    ≡ Some (record plain { schedule = Some 18446744073709551615; ids = 1048576; entries = 16000000; output = 16777216 })
unfolding settings_of are_taken alaska value_in wanted_by number_in clap_on_literals
greatest_numbers = refl

-- behind `--` stands FILE
pub file_behind_dashes : settings_of (called (codes "--" ∷ codes "--help" ∷ [])) ≡ Some (record plain { file = Some (codes "--help") })
unfolding settings_of are_taken alaska value_in wanted_by number_in clap_on_literals
file_behind_dashes = refl

-- mode churn has no file
pub churn : settings_of (called (codes "--mode" ∷ codes "churn" ∷ codes "--seed" ∷ codes "1" ∷ codes "--size" ∷ codes "3" ∷ [])) ≡ Some (record plain { file = None; mode = Churn; seed = Some 1; size = Some 3 })
unfolding settings_of are_taken alaska value_in wanted_by number_in clap_on_literals
churn = refl

-- mode check has a file, and may have each option but the seed and the size of a text that is made
pub check : settings_of (called (codes "a.c" ∷ codes "--mode" ∷ codes "check" ∷ codes "--schedule" ∷ codes "7" ∷ codes "--entries=1000" ∷ []))
    ≡ Some (record plain { mode = Check; schedule = Some 7; entries = 1000 })
unfolding settings_of are_taken alaska value_in wanted_by number_in clap_on_literals
check = refl

-- mode race has a file, and may have the same options
pub race : settings_of (called (codes "--mode" ∷ codes "race" ∷ codes "a.c" ∷ codes "--workers=2" ∷ codes "--schedule" ∷ codes "7" ∷ []))
    ≡ Some (record plain { workers = 2; schedule = Some 7; mode = Race })
unfolding settings_of are_taken alaska value_in wanted_by number_in clap_on_literals
race = refl

-- and so do modes build and load
pub build : settings_of (called (codes "--mode=build" ∷ codes "a.c" ∷ [])) ≡ Some (record plain { mode = Build })
unfolding settings_of are_taken alaska value_in wanted_by number_in clap_on_literals
build = refl

pub load : settings_of (called (codes "--mode" ∷ codes "load" ∷ codes "a.alsk" ∷ codes "--workers" ∷ codes "2" ∷ codes "--every=8" ∷ []))
    ≡ Some (record plain { file = Some (codes "a.alsk"); workers = 2; every = Some 8; mode = Load })
unfolding settings_of are_taken alaska value_in wanted_by number_in clap_on_literals
load = refl

-- wrong words: no file, a number out of its range, no power of two, a mode without its options
abbrev pub wrong_words : List (List (List ℕ))
wrong_words = map called ([]
    ∷ (codes "a.c" ∷ codes "--workers" ∷ codes "0" ∷ [])
    ∷ (codes "a.c" ∷ codes "--subheap" ∷ codes "5000" ∷ [])
    ∷ (codes "--mode" ∷ codes "churn" ∷ codes "--seed" ∷ codes "1" ∷ [])
    ∷ [])

pub wrong_words_want_nothing : map settings_of wrong_words ≡ replicate 4 None
unfolding settings_of are_taken alaska value_in wanted_by number_in clap_on_literals
wrong_words_want_nothing = refl

-- more of them: words for help or a version, an option that is unknown, that has no value or comes twice, a second file, a value that is no numeral
-- or has 21 digits, a heap that is too large, a 2 where evacuations are wanted or not, an option of the other mode, a mode that there isn't
abbrev pub more_wrong_words : List (List (List ℕ))
more_wrong_words = map called ((codes "--help" ∷ [])
    ∷ (codes "a.c" ∷ codes "-h" ∷ [])
    ∷ (codes "a.c" ∷ codes "--version" ∷ [])
    ∷ (codes "a.c" ∷ codes "-V" ∷ [])
    ∷ (codes "a.c" ∷ codes "--fast" ∷ [])
    ∷ (codes "a.c" ∷ codes "--ids" ∷ [])
    ∷ (codes "a.c" ∷ codes "--ids" ∷ codes "5" ∷ codes "--ids" ∷ codes "5" ∷ [])
    ∷ (codes "a.c" ∷ codes "b.c" ∷ [])
    ∷ (codes "a.c" ∷ codes "--ids" ∷ codes "+5" ∷ [])
    ∷ (codes "a.c" ∷ codes "--ids=" ∷ [])
    ∷ (codes "a.c" ∷ codes "--ids" ∷ codes "000000000000000000005" ∷ [])
    ∷ (codes "a.c" ∷ codes "--schedule" ∷ codes "18446744073709551616" ∷ [])
    ∷ (codes "a.c" ∷ codes "--subheap" ∷ codes "16777216" ∷ codes "--subheaps" ∷ codes "17" ∷ [])
    ∷ (codes "a.c" ∷ codes "--evacuate" ∷ codes "2" ∷ [])
    ∷ (codes "a.c" ∷ codes "--seed" ∷ codes "1" ∷ [])
    ∷ (codes "a.c" ∷ codes "--mode" ∷ codes "walk" ∷ [])
    ∷ [])

pub more_wrong_words_want_nothing : map settings_of more_wrong_words ≡ replicate 16 None
unfolding settings_of are_taken alaska value_in wanted_by number_in clap_on_literals
more_wrong_words_want_nothing = refl

-- and of modes: a check, a race, a build or a load without a file, or with a seed or a size, and a mode of another spelling
abbrev pub wrong_modes : List (List (List ℕ))
wrong_modes = map called ((codes "--mode" ∷ codes "check" ∷ [])
    ∷ (codes "a.c" ∷ codes "--mode" ∷ codes "check" ∷ codes "--seed" ∷ codes "1" ∷ [])
    ∷ (codes "a.c" ∷ codes "--mode" ∷ codes "check" ∷ codes "--size" ∷ codes "3" ∷ [])
    ∷ (codes "--mode" ∷ codes "build" ∷ [])
    ∷ (codes "a.c" ∷ codes "--mode" ∷ codes "build" ∷ codes "--seed" ∷ codes "1" ∷ [])
    ∷ (codes "--mode" ∷ codes "load" ∷ [])
    ∷ (codes "a.c" ∷ codes "--mode" ∷ codes "load" ∷ codes "--size" ∷ codes "3" ∷ [])
    ∷ (codes "a.c" ∷ codes "--mode" ∷ codes "Load" ∷ [])
    ∷ (codes "--mode" ∷ codes "race" ∷ [])
    ∷ (codes "a.c" ∷ codes "--mode" ∷ codes "race" ∷ codes "--seed" ∷ codes "1" ∷ [])
    ∷ [])

pub wrong_modes_want_nothing : map settings_of wrong_modes ≡ replicate 10 None
unfolding settings_of are_taken alaska value_in wanted_by number_in clap_on_literals
wrong_modes_want_nothing = refl
