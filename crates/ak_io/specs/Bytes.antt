-- Bytes that a shelf or a sink may tell: `Some` of them, or `None` where they aren't told.
use Rattle.std.specs.Prelude.{◌≡◌, ℕ, List, ◌++◌, Option, Some, None}
use Rattle.ak_words.specs.Prefix.{IsPrefix}

-- the told bytes with more behind them; what isn't told stays untold
abbrev pub grown : Option (List ℕ) → List ℕ → Option (List ℕ)
grown None more = None
grown (Some bytes) more = Some (bytes ++ more)

-- told bytes grew by some first part of these
abbrev pub GrewByPrefix : Option (List ℕ) → Option (List ℕ) → List ℕ → Type 0
GrewByPrefix old new bytes = (part : List ℕ) × IsPrefix part bytes × (new ≡ grown old part)
