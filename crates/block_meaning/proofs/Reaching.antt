-- How far a turn gets, and what it leaves.
use Rattle.std.proofs.Common.{◌≡◌, ℕ, List, map, Option, refl, sym, ap, ◌∙◌}
use Rattle.std.specs.Global.{Global}
use Rattle.std.specs.declared.rc.Rc.{Rc}
use Rattle.ak_words.specs.declared.rule.Rule.TheVariants.{C15}
use Rattle.block_store.specs.declared.values.Answer.{Answer}
use Rattle.block_store.specs.declared.values.Value.{Value}
use Rattle.block_store.specs.Actions as actions
use Rattle.block_store.specs.Blocks.{Blocks}
use Rattle.block_store.specs.Runs.{Turn}
use Rattle.c_meaning.specs.Control as control
use Rattle.c_meaning.specs.Turns.{from_point, way_of, turn, rounds, run_stmt}
use Rattle.c_meaning.specs.Turns as turns
use Rattle.source_tree.specs.declared.tree.SharedProgram.{SharedProgram}
use Rattle.source_tree.specs.declared.tree.SharedStmt.{SharedStmt}
use Rattle.source_tree.specs.SharedViews.{program_of, stmt_of}
use Rattle.source_state.specs.Variables.{KeptLocals}
use Rattle.source_state.specs.declared.control.LoopParts.{LoopParts}
use Rattle.source_state.specs.declared.control.Pending.{Pending}
use Rattle.source_state.specs.declared.control.Pending.TheVariants as pendings
use Rattle.source_state.specs.declared.control.Todo.{Todo}
use Rattle.source_state.specs.declared.control.Use.{Use}
use Rattle.source_state.specs.Views.{todo_of, use_of, loop_of, stmt_or_nothing}
use Rattle.source_expressions.specs.Ends.{here_at, ends}
use Rattle.source_expressions.specs.Progress.{now_in}
use Rattle.source_assignments.specs.declared.exit.Exit.{Exit}
use Rattle.source_assignments.specs.declared.exit.Exit.TheVariants as exits
use Rattle.source_statements.proofs.Names.{name_todo}
use Rattle.source_state.specs.Kept.{Kept}
use Rattle.source_state.specs.declared.world.World.{World}
use Rattle.source_state.specs.Worlds.{world_of, thread_of, reached_of}
use Rattle.block_meaning.specs.declared.thread.At.{At}
use Rattle.block_meaning.specs.declared.thread.At.TheVariants as ats
use Rattle.block_meaning.specs.declared.thread.Own.{Own}
use Rattle.block_meaning.specs.Threads.{point_of_at, control_of, callers_of, touches_in}
use Rattle.source_statements.specs.Finishing.{Finishes, GivesTo}
use Rattle.source_assignments.specs.Exits.{exit, ExitsAs}
use Rattle.block_meaning.specs.inner.Turns.{rest_of, ComesToEnd}

-- with a value and its use
pub reach_gives : (p : SharedProgram) (at : At) (v : Value) (k : Rc Use Global) (u : Use) (function : ℕ) (locals : List control.Variable) (blocks : Blocks) (new_locals : List control.Variable) (new_blocks : Blocks) (q : Pending)
    → at ≡ ats.Gives v k → u ≡ k.value → GivesTo p function (use_of u) v locals blocks new_locals new_blocks q → ComesToEnd p at function locals blocks new_locals new_blocks q
reach_gives p at v k u function locals blocks new_locals new_blocks q is e given = record {
  goes = λ r x.
      ap (λ (a : At). from_point (here_at p function r) (point_of_at a) (now_in locals blocks x)) is
      ∙ ap (λ (w : Use). (turns.use_of (here_at p function r) (use_of w)).go v (now_in locals blocks x)) (sym e)
      ∙ given.goes r x;
}

-- with what is left to do
pub reach_begins : (p : SharedProgram) (at : At) (k : Rc Todo Global) (t : Todo) (function : ℕ) (locals : List control.Variable) (blocks : Blocks) (new_locals : List control.Variable) (new_blocks : Blocks) (q : Pending)
    → at ≡ ats.Begins k → t ≡ k.value → Finishes p function (todo_of t) exits.End locals blocks new_locals new_blocks q → ComesToEnd p at function locals blocks new_locals new_blocks q
reach_begins p at k t function locals blocks new_locals new_blocks q is e finished = record {
  goes = λ r x.
      ap (λ (a : At). from_point (here_at p function r) (point_of_at a) (now_in locals blocks x)) is
      ∙ ap (λ (w : Todo). (way_of (here_at p function r) (todo_of w)).end (now_in locals blocks x)) (sym e)
      ∙ finished.goes r x;
}

-- with a round of a loop, and then what is left to do behind it
pub reach_round : (p : SharedProgram) (at : At) (l : Rc LoopParts Global) (k : Rc Todo Global) (body : SharedStmt) (step : Option (Rc SharedStmt Global)) (t : Todo) (function : ℕ) (locals : List control.Variable) (blocks : Blocks) (mid_locals : List control.Variable) (mid_blocks : Blocks) (new_locals : List control.Variable) (new_blocks : Blocks) (g : Exit) (q : Pending)
    → at ≡ ats.Round l k → body ≡ l.value.body.value → step ≡ l.value.step → t ≡ k.value
    → ExitsAs (λ h w. rounds h (loop_of l.value) (run_stmt h (stmt_of body)) (run_stmt h (stmt_or_nothing l.value.place step)) w) p function (todo_of k.value) locals blocks mid_locals mid_blocks g
    → Finishes p function (todo_of t) g mid_locals mid_blocks new_locals new_blocks q → ComesToEnd p at function locals blocks new_locals new_blocks q
reach_round p at l k body step t function locals blocks mid_locals mid_blocks new_locals new_blocks g q is b s e a finished = record {
  goes = λ r x.
      ap (λ (c : At). from_point (here_at p function r) (point_of_at c) (now_in locals blocks x)) is
      ∙ ap (λ (c : SharedStmt). rounds (here_at p function r) (loop_of l.value) (run_stmt (here_at p function r) (stmt_of c)) (run_stmt (here_at p function r) (stmt_or_nothing l.value.place l.value.step)) (way_of (here_at p function r) (todo_of k.value)) (now_in locals blocks x)) (sym b)
      ∙ ap (λ (c : Option (Rc SharedStmt Global)). rounds (here_at p function r) (loop_of l.value) (run_stmt (here_at p function r) (stmt_of body)) (run_stmt (here_at p function r) (stmt_or_nothing l.value.place c)) (way_of (here_at p function r) (todo_of k.value)) (now_in locals blocks x)) (sym s)
      ∙ a.goes r (way_of (here_at p function r) (todo_of k.value)) x (name_todo (here_at p function r) (todo_of k.value))
      ∙ ap (λ (c : Todo). exit (here_at p function r) (way_of (here_at p function r) (todo_of c)) (now_in mid_locals mid_blocks x) g) (sym e)
      ∙ finished.goes r x;
}

-- a turn as the code takes it: how far it gets, and what ends it
pub turn_taken : (p : SharedProgram) (thread : ℕ) (answer : Answer) (own : Own) (w : World) (locals : List control.Variable) (blocks : Blocks) (new_locals : List control.Variable) (new_blocks : Blocks) (q : Pending) (t : Turn control.Control)
    → ComesToEnd p own.at own.function locals blocks new_locals new_blocks q → locals ≡ own.locals.now → blocks ≡ w.store.now
    → t ≡ ends (here_at p own.function (rest_of thread answer own)) q (record { locals = new_locals; world = actions.with_blocks (world_of w) new_blocks })
    → t ≡ turn (program_of p) thread answer (control_of own) (world_of w)
turn_taken p thread answer own w locals blocks new_locals new_blocks q t reaches e f comes =
    let h = here_at p own.function (rest_of thread answer own) in
    comes
    ∙ sym (reaches.goes (rest_of thread answer own) (world_of w))
    ∙ ap (λ (l : List control.Variable). from_point h (point_of_at own.at) (now_in l blocks (world_of w))) e
    ∙ ap (λ (b : Blocks). from_point h (point_of_at own.at) (now_in own.locals.now b (world_of w))) f

-- a thread and a world that are as they were
pub own_back : (own mid own' : Own) (locals : KeptLocals) → own' ≡ mid → mid.function ≡ own.function → mid.at ≡ own.at → mid.callers ≡ own.callers → mid.touched ≡ own.touched → mid.locals.kept ≡ own.locals.now → locals.now ≡ own'.locals.kept
    → ◌≡◌ {A = control.Control} (record { function = own'.function; locals = locals.now; point = point_of_at own'.at; callers = callers_of own'.callers; touched = touches_in own'.touched }) (control_of own)
own_back own mid own' locals e f a k t l n = rw (n, e, f, a, k, t, l) refl

pub world_back : (w there new : World) (store : Kept) → new ≡ there → there.output ≡ w.output → there.threads ≡ w.threads → there.reached ≡ w.reached → there.store.kept ≡ w.store.now → store.now ≡ new.store.kept
    → ◌≡◌ {A = actions.World} (record { blocks = store.now; output = new.output.items; threads = map thread_of new.threads.items; reached = map reached_of new.reached.items }) (world_of w)
world_back w there new store e f a r k n = rw (n, e, f, a, r, k) refl

-- where a call ended without the value that is used
pub reach_lacks : (p : SharedProgram) (at : At) (place function : ℕ) (locals : List control.Variable) (blocks : Blocks) → at ≡ ats.Lacks place → ComesToEnd p at function locals blocks locals blocks (pendings.Broke C15 place)
reach_lacks p at place function locals blocks is = record {
  goes = λ r x. ap (λ (a : At). from_point (here_at p function r) (point_of_at a) (now_in locals blocks x)) is;
}

-- a thread and a world once a turn has got so far
abbrev pub mid_own : Own → KeptLocals → Own
mid_own own locals = record { function = own.function; locals = locals; at = own.at; callers = own.callers; touched = own.touched }

abbrev pub mid_world : World → Kept → World
mid_world w store = record { store = store; output = w.output; threads = w.threads; reached = w.reached }

-- both are led back
pub stays_back : (own own' : Own) (w new : World) (mid locals : KeptLocals) (there store : Kept) → (own' ≡ mid_own own mid) × (new ≡ mid_world w there) → mid.kept ≡ own.locals.now → there.kept ≡ w.store.now → locals.now ≡ own'.locals.kept → store.now ≡ new.store.kept
    → (◌≡◌ {A = control.Control} (record { function = own'.function; locals = locals.now; point = point_of_at own'.at; callers = callers_of own'.callers; touched = touches_in own'.touched }) (control_of own)) × (◌≡◌ {A = actions.World} (record { blocks = store.now; output = new.output.items; threads = map thread_of new.threads.items; reached = map reached_of new.reached.items }) (world_of w))
stays_back own own' w new mid locals there store same l k n m =
    (own_back own (mid_own own mid) own' locals same.0 refl refl refl refl l n, world_back w (mid_world w there) new store same.1 refl refl refl k m)
