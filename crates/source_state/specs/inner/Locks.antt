-- What a lock that takes nothing leaves.
use Rattle.std.specs.Prelude.{◌≡◌, Result, Ok, Err}
use Rattle.ak_words.specs.declared.rule.Rule.{Rule}
use Rattle.block_store.specs.declared.values.LockEnd.{LockEnd}
use Rattle.block_store.specs.declared.values.LockEnd.TheVariants as ends
use Rattle.source_state.specs.Kept.{Kept}

-- a lock that took nothing changed nothing
abbrev pub unkept : Result LockEnd Rule → (before after : Kept) → Type 0
unkept (Ok ends.Got) before after = Unit {0}
unkept (Ok ends.Held) before after = after ≡ before
unkept (Err rule) before after = after ≡ before
