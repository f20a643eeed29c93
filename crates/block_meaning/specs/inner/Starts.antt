-- How threads and globals begin.
use Rattle.std.specs.Prelude.{ℕ, List, ◌++◌, length, set, Option, Some}
use Rattle.block_store.specs.Actions as actions
use Rattle.block_store.specs.Blocks.{Block, global_block}
use Rattle.block_store.specs.Runs as runs
use Rattle.c_tree.specs.Typed as tree
use Rattle.c_tree.specs.TypedLayout.{size_in}
use Rattle.c_meaning.specs.Control.{Control}
use Rattle.c_meaning.specs.Meaning.{program, first_value}
use Rattle.block_meaning.specs.declared.thread.Outcome.{Outcome}
use Rattle.block_meaning.specs.declared.thread.Outcome.TheVariants as outcomes

-- what threads have of their own behind a turn of one of them, which was taken out and now has this: new threads begin
abbrev pub owns_behind : tree.Typed → (thread : ℕ) → Outcome → Control → actions.World → List (Option Control) → List (Option Control)
owns_behind typed thread outcomes.Went own w all = set all thread (Some own) ++ runs.begun (program typed) (length all) w
owns_behind typed thread outcomes.Ended own w all = all ++ runs.begun (program typed) (length all) w
owns_behind typed thread outcomes.Blocked own w all = set all thread (Some own)
owns_behind typed thread outcomes.Unfit own w all = set all thread (Some own)
owns_behind typed thread (outcomes.Broke rule place) own w all = set all thread (Some own)

-- the block of a global at the start, where there are so many globals, and structs of these layouts
abbrev pub global_in : List tree.Layout → (globals : ℕ) → tree.GlobalVar → Option Block
global_in structs globals g = global_block (size_in structs g.ty) (first_value globals g.init)
