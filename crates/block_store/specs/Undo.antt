-- What is kept of an ended block, and what printing has gathered.
use Rattle.std.specs.Prelude.{ℕ, List, Option, Result, Ok, Err}
use Rattle.ak_words.specs.declared.rule.Rule.{Rule}
use Rattle.block_store.specs.Blocks.{Block}

-- a name, and the block that it stood for, if that lived
pub record Ended : Type 0 where
  pub name : ℕ
  pub block : Option Block

-- bytes that were gathered, unless a rule was broken
abbrev pub appended : Result (Unit {0}) Rule → List ℕ → Result (List ℕ) Rule
appended (Ok u) bytes = Ok bytes
appended (Err rule) bytes = Err rule
