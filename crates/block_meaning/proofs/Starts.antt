-- The state in which a run begins, and what comes back behind a turn.
use Rattle.std.proofs.Common.{◌≡◌, ℕ, List, [], ◌∷◌, map, Option, Some, refl, sym, ap, ◌∙◌}
use Rattle.std.specs.List.{slice_get}
use Rattle.block_store.specs.declared.values.Ptr.TheVariants.{Null}
use Rattle.block_store.specs.Actions as actions
use Rattle.block_store.specs.Blocks.{Blocks}
use Rattle.block_store.specs.Runs.{State, first_state}
use Rattle.c_tree.specs.Typed as tree
use Rattle.c_meaning.specs.Control.{Control}
use Rattle.c_meaning.specs.Meaning.{program, start, begins_if, first_blocks}
use Rattle.source_tree.specs.declared.tree.SharedProgram.{SharedProgram}
use Rattle.source_tree.specs.SharedViews.{program_of}
use Rattle.source_state.specs.declared.world.Reached.{Reached}
use Rattle.source_state.specs.declared.world.Stage.TheVariants as stages
use Rattle.source_state.specs.declared.world.ThreadRecord.{ThreadRecord}
use Rattle.source_state.specs.declared.world.World.{World}
use Rattle.source_state.specs.Worlds.{thread_of, reached_of}
use Rattle.block_meaning.specs.declared.running.Turned.{Turned}
use Rattle.block_meaning.specs.declared.thread.Outcome.{Outcome}
use Rattle.block_meaning.specs.declared.thread.Own.{Own}
use Rattle.block_meaning.specs.Threads.{control_of, owns_of}
use Rattle.block_meaning.specs.Running.{answered}
use Rattle.block_meaning.proofs.Picks.{state_of}
use Rattle.block_meaning.specs.inner.Turns.{turn_of}
use Rattle.block_meaning.specs.inner.Starts.{owns_behind}

world_begins : (p : SharedProgram) (blocks : Blocks) (output : List ℕ) (threads : List ThreadRecord) (reached : List Reached) → blocks ≡ first_blocks (program_of p) → output ≡ [] → threads ≡ record { function = p.main; argument = Null; stage = stages.Running } ∷ [] → reached ≡ []
    → ◌≡◌ {A = actions.World} (record { blocks = blocks; output = output; threads = map thread_of threads; reached = map reached_of reached }) (start (program_of p))
world_begins p blocks output threads reached e f g h = rw (e, f, g, h) refl

pub run_begins : (typed : tree.Typed) (p : SharedProgram) (own : Own) (owns : List (Option Own)) (blocks : Blocks) (output : List ℕ) (threads : List ThreadRecord) (reached : List Reached)
    → program_of p ≡ typed → control_of own ≡ begins_if p.main Null (slice_get (program_of p).funcs p.main) → owns ≡ Some own ∷ []
    → blocks ≡ first_blocks (program_of p) → output ≡ [] → threads ≡ record { function = p.main; argument = Null; stage = stages.Running } ∷ [] → reached ≡ []
    → ◌≡◌ {A = State Control} (record { world = record { blocks = blocks; output = output; threads = map thread_of threads; reached = map reached_of reached }; own = owns_of owns }) (first_state (program typed) (start typed))
run_begins typed p own owns blocks output threads reached e b o f g h r =
    let w : actions.World = record { blocks = blocks; output = output; threads = map thread_of threads; reached = map reached_of reached } in
    ap (λ (l : List (Option Own)). state_of w (owns_of l)) o
    ∙ ap (λ (c : Control). state_of w (Some c ∷ [])) b
    ∙ ap (λ (x : actions.World). state_of x (Some (begins_if p.main Null (slice_get (program_of p).funcs p.main)) ∷ [])) (world_begins p blocks output threads reached f g h r)
    ∙ ap (λ (t : tree.Typed). first_state (program t) (start t)) e

-- what comes of a turn, by its outcome
pub behind_as : (typed : tree.Typed) (thread : ℕ) (o q : Outcome) (own : Control) (w : actions.World) (all x : List (Option Control)) → o ≡ q → x ≡ owns_behind typed thread q own w all → x ≡ owns_behind typed thread o own w all
behind_as typed thread o q own w all x e f = f ∙ ap (λ (r : Outcome). owns_behind typed thread r own w all) (sym e)

pub answered_as : (thread : ℕ) (o q : Outcome) (own : Own) (w : World) (t : Turned) → o ≡ q → answered thread (turn_of q own w) ≡ Some t → answered thread (turn_of o own w) ≡ Some t
answered_as thread o q own w t e f = ap (λ (r : Outcome). answered thread (turn_of r own w)) e ∙ f
