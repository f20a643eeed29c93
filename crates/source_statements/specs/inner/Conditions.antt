-- How far conditions get.
use Rattle.std.specs.Prelude.{ℕ, ◌≡◌, Bool, List}
use Rattle.block_store.specs.Actions as actions
use Rattle.block_store.specs.Blocks.{Blocks}
use Rattle.block_store.specs.Runs.{Turn}
use Rattle.c_tree.specs.Typed as tree
use Rattle.c_meaning.specs.Control as control
use Rattle.c_meaning.specs.Turns as turns
use Rattle.source_tree.specs.declared.tree.SharedProgram.{SharedProgram}
use Rattle.source_expressions.specs.Ends.{Rest, here_at, ends}
use Rattle.source_expressions.specs.Progress.{now_in}
use Rattle.c_meaning.specs.Values.{truth_of}
use Rattle.source_statements.specs.declared.statements.Tested.{Tested}
use Rattle.source_statements.specs.declared.statements.Tested.TheVariants as tests

-- what follows a condition: another rest of the turn for true and false
abbrev pub test_way : (place : ℕ) → control.Use → (Bool → turns.Does) → turns.WayOfUse
test_way place k go = record { k = k; go = λ v x. turns.on_ok place (λ b. go b x) (truth_of x.world.blocks v) }

-- a condition that holds or doesn't goes on, and else the turn ends
abbrev pub tested : turns.TurnContext → (Bool → turns.Does) → turns.Now → Tested → Turn control.Control
tested h go x (tests.Holds b) = go b x
tested h go x (tests.Ends q) = ends h q x

-- a condition gets so far, under this name of what follows it (C11 6.8.4.1, 6.8.5)
pub record Tests (p : SharedProgram) (locals : List control.Variable) (blocks : Blocks) (e : tree.Expr) (k : control.Use) (t : Tested) : Type 0 where
  pub goes : (function : ℕ) (r : Rest) (go : Bool → turns.Does) (x : actions.World) →
      turns.run (here_at p function r) e (test_way (tree.place_of e) k go) (now_in locals blocks x) ≡ tested (here_at p function r) go (now_in locals blocks x) t
