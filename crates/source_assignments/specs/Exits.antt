-- How far a declaration or a statement gets in a turn.
use Rattle.std.specs.Prelude.{ℕ, ◌≡◌, List}
use Rattle.block_store.specs.Actions as actions
use Rattle.block_store.specs.Blocks.{Blocks}
use Rattle.block_store.specs.Runs.{Turn}
use Rattle.c_meaning.specs.Control as control
use Rattle.c_meaning.specs.Turns as turns
use Rattle.source_tree.specs.declared.tree.SharedProgram.{SharedProgram}
use Rattle.source_expressions.specs.Ends.{Rest, here_at, ends}
use Rattle.source_expressions.specs.Progress.{now_in}
use Rattle.source_assignments.specs.declared.exit.Exit.{Exit}
use Rattle.source_assignments.specs.declared.exit.Exit.TheVariants as exits

-- how a statement that was left goes on: at its end, by a break, by a continue (C11 6.8.6), or the turn ends
abbrev pub exit : turns.TurnContext → turns.Way → turns.Now → Exit → Turn control.Control
exit h w x exits.End = w.end x
exit h w x exits.Break = w.breaks x
exit h w x exits.Next = w.continues x
exit h w x (exits.Ends q) = ends h q x

-- from locals and blocks to new ones, a piece with this meaning gets so far, where this is left to do behind it
pub record ExitsAs (run : turns.TurnContext → turns.Way → turns.Does) (p : SharedProgram) (function : ℕ) (k : control.Todo) (locals : List control.Variable) (blocks : Blocks) (new_locals : List control.Variable) (new_blocks : Blocks) (g : Exit) : Type 0 where
  pub goes : (r : Rest) (w : turns.Way) (x : actions.World) → w.k ≡ k →
      run (here_at p function r) w (now_in locals blocks x) ≡ exit (here_at p function r) w (now_in new_locals new_blocks x) g
