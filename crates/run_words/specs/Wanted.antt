-- What the words of a command line want.
use Rattle.std.specs.Prelude.{ℕ, ◌*◌, ◌&&◌, ◌==◌, Bool, List, codes, nat_le, Option, Some, None, is_none, is_some, option_and_then, option_map, string_bytes, if◌then◌else◌}
use Rattle.std.specs.Str.{bytes_eq}
use Rattle.flat_rules.specs.Ranges.{is_sub_heap_size}
use Rattle.flat_rules.specs.declared.settings.Mode.{Mode}
use Rattle.flat_rules.specs.declared.settings.Mode.TheVariants.{Run, Churn, Check, Race, Build, Load}
use Rattle.flat_rules.specs.declared.settings.Settings.{Settings}
use Rattle.run_words.specs.Numbers.{◌to◌, number_if_given, number_or}
use Rattle.run_words.specs.Command.{are_taken, value_in}

-- the settings as plain data: FILE is the bytes of its name
pub record Wanted : Type 0 where
  pub file : Option (List ℕ)
  pub workers : ℕ
  pub schedule : Option ℕ
  pub every : Option ℕ
  pub subheap : ℕ
  pub subheaps : ℕ
  pub ids : ℕ
  pub entries : ℕ
  pub evacuate : Bool
  pub output : ℕ
  pub mode : Mode
  pub seed : Option ℕ
  pub size : Option ℕ

-- what settings are as plain data
abbrev pub wanted_of : Settings → Wanted
wanted_of s = record {
  file = option_map string_bytes s.file;
  workers = s.workers;
  schedule = s.schedule;
  every = s.every;
  subheap = s.subheap;
  subheaps = s.subheaps;
  ids = s.ids;
  entries = s.entries;
  evacuate = s.evacuate;
  output = s.output;
  mode = s.mode;
  seed = s.seed;
  size = s.size;
}

-- the mode of that name
abbrev pub mode_named : List ℕ → Option Mode
mode_named name = if bytes_eq name (codes "run") then Some Run
    else (if bytes_eq name (codes "churn") then Some Churn
    else (if bytes_eq name (codes "check") then Some Check
    else (if bytes_eq name (codes "race") then Some Race
    else (if bytes_eq name (codes "build") then Some Build
    else (if bytes_eq name (codes "load") then Some Load else None)))))

-- the mode, which is run where the words name none
abbrev pub mode_or_run : Option (List ℕ) → Option Mode
mode_or_run None = Some Run
mode_or_run (Some name) = mode_named name

infixl 10 ◌>>=◌
-- what the first gives goes into the next; none where it is none
abbrev pub ◌>>=◌ : {A B : Type 0} → Option A → (A → Option B) → Option B
given >>= next = option_and_then next given

-- each setting by its value or, where it has none, by its default; none where a value is wrong
unfoldable pub wanted_by : (List ℕ → Option (List ℕ)) → Option Wanted
wanted_by value = do
  workers ← number_or 1 (1 to 16) (value (codes "workers"))
  schedule ← number_if_given (0 to 18446744073709551615) (value (codes "schedule"))
  every ← number_if_given (1 to 1000000) (value (codes "every"))
  subheap ← number_or 65536 (4096 to 16777216) (value (codes "subheap"))
  subheaps ← number_or 16 (1 to 256) (value (codes "subheaps"))
  ids ← number_or 65536 (1 to 1048576) (value (codes "ids"))
  entries ← number_or 1000000 (1000 to 16000000) (value (codes "entries"))
  evacuate ← number_or 0 (0 to 1) (value (codes "evacuate"))
  output ← number_or 1048576 (1 to 16777216) (value (codes "output"))
  mode ← mode_or_run (value (codes "mode"))
  seed ← number_if_given (0 to 18446744073709551615) (value (codes "seed"))
  size ← number_if_given (1 to 4000) (value (codes "size"))
  Some (record {
    file = value (codes "file");
    workers = workers;
    schedule = schedule;
    every = every;
    subheap = subheap;
    subheaps = subheaps;
    ids = ids;
    entries = entries;
    evacuate = evacuate == 1;
    output = output;
    mode = mode;
    seed = seed;
    size = size;
  })

-- a sub-heap has a power of two of bytes, and all of them together at most 268,435,456
abbrev pub has_bounded_heap : Wanted → Bool
has_bounded_heap w = is_sub_heap_size w.subheap && nat_le (w.subheaps * w.subheap) 268435456

-- there is a file, and neither a seed nor a size
abbrev pub has_a_file : Wanted → Bool
has_a_file w = is_some w.file && (is_none w.seed && is_none w.size)

-- there is no file, but a seed and a size
abbrev pub has_a_size : Wanted → Bool
has_a_size w = is_none w.file && (is_some w.seed && is_some w.size)

-- modes run, check, race, build and load have a file; mode churn has none, but a seed and a size
abbrev pub fits_mode_of : Mode → Wanted → Bool
fits_mode_of Run w = has_a_file w
fits_mode_of Churn w = has_a_size w
fits_mode_of Check w = has_a_file w
fits_mode_of Race w = has_a_file w
fits_mode_of Build w = has_a_file w
fits_mode_of Load w = has_a_file w

-- FILE, the seed and the size are there as the mode wants them
abbrev pub fits_mode : Wanted → Bool
fits_mode w = fits_mode_of w.mode w

-- what is wanted, where the test passes
abbrev pub only_if : (Wanted → Bool) → Option Wanted → Option Wanted
only_if test None = None
only_if test (Some w) = if test w then Some w else None

-- what the words of a command line want, of which the first is the program's own name; none where they are wrong
unfoldable pub settings_of : List (List ℕ) → Option Wanted
settings_of words = if are_taken words then only_if fits_mode (only_if has_bounded_heap (wanted_by (value_in words))) else None
