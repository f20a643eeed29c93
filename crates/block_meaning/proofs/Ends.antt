-- What ends a turn, carried out.
use Rattle.std.proofs.Common.{◌≡◌, ℕ, true, List, [], ◌∷◌, ◌++◌, map, Option, Some, None, refl, sym, ap, subst, ◌∙◌, ℤ}
use Rattle.std.proofs.lemmas.Option.{slice_get-map}
use Rattle.std.specs.Global.{Global}
use Rattle.std.specs.declared.rc.Rc.{Rc}
use Rattle.std.specs.List.{slice_get}
use Rattle.std.specs.Option.{option_map}
use Rattle.block_store.specs.declared.values.Answer.{Answer}
use Rattle.block_store.specs.declared.values.Answer.TheVariants as answers
use Rattle.block_store.specs.declared.values.Value.{Value}
use Rattle.ak_words.specs.declared.rule.Rule.{Rule}
use Rattle.block_store.specs.Actions as actions
use Rattle.block_store.specs.Runs.{Turn, went, ended}
use Rattle.c_meaning.specs.Control as control
use Rattle.c_meaning.specs.Turns.{first_locals, begins_in, enters, having_touched, on_done, stays, result_of_call, number_in, returns_to, without_blocks}
use Rattle.c_meaning.specs.Turns as turns
use Rattle.c_meaning.specs.Touches.{touches_of}
use Rattle.race_rules.specs.declared.touch.Touch.{Touch}
use Rattle.source_state.specs.declared.control.Site.{Site}
use Rattle.source_state.specs.declared.world.SharedAction.{SharedAction}
use Rattle.source_state.specs.declared.world.Done.{Done}
use Rattle.source_state.specs.declared.world.Done.TheVariants as dones
use Rattle.source_state.specs.declared.world.World.{World}
use Rattle.source_state.specs.Worlds as worlds
use Rattle.source_state.specs.Worlds.{world_of, done_of, action_of}
use Rattle.source_tree.specs.declared.tree.SharedFunc.{SharedFunc}
use Rattle.source_tree.specs.declared.tree.SharedProgram.{SharedProgram}
use Rattle.source_tree.specs.SharedViews.{func_of, program_of, row_of}
use Rattle.source_state.specs.declared.locals.Variable.{Variable}
use Rattle.source_state.specs.Variables.{variable_of}
use Rattle.source_state.specs.declared.control.Pending.{Pending}
use Rattle.source_state.specs.declared.control.Pending.TheVariants as pendings
use Rattle.source_state.specs.declared.control.Then.{Then}
use Rattle.source_state.specs.declared.control.Values.{Values}
use Rattle.source_state.specs.declared.control.Wait.{Wait}
use Rattle.source_state.specs.Views.{values_of, wait_of}
use Rattle.source_expressions.specs.Ends.{here_at, point_of}
use Rattle.block_meaning.specs.declared.thread.Own.{Own}
use Rattle.block_meaning.specs.declared.thread.Outcome.{Outcome}
use Rattle.block_meaning.specs.declared.thread.Outcome.TheVariants as outcomes
use Rattle.block_meaning.specs.Threads.{callers_of, touches_in}
use Rattle.block_meaning.specs.declared.touch_list.Touches.{Touches}
use Rattle.block_meaning.specs.declared.touches.Comparing.{Comparing}
use Rattle.block_meaning.specs.declared.touches.Gathered.{Gathered}
use Rattle.block_meaning.specs.inner.Touches.{before_its_end, comparing_of, end_of}
use Rattle.block_meaning.proofs.Touching.{touched_whole}
use Rattle.block_meaning.specs.inner.Turns.{rest_of, turn_of, ends_in, Untouched, IsTurned}

-- ---- an action

-- what the action touches
abbrev touched_in : Site → Answer → SharedAction → World → List Touch
touched_in site answer action w = touches_of site.place (world_of w) answer site.atomic (action_of action)

-- what ends the turn, as the code's pending action says
comes_to : (p : SharedProgram) (thread : ℕ) (answer : Answer) (site : Site) (action : SharedAction) (next : Then) (own : Own) (w new : World) (d e : Done)
    → done_of d (world_of new) ≡ actions.acted (world_of w) thread answer (action_of action) → d ≡ e
    → on_done site.place (λ u x. having_touched (touched_in site answer action w) (stays (here_at p own.function (rest_of thread answer own)) own.locals.now (point_of next u) x)) (done_of e (world_of new)) ≡ ends_in p thread answer own w (pendings.Act site action next)
comes_to p thread answer site action next own w new d e done is_e =
    ap (on_done site.place (λ u x. having_touched (touched_in site answer action w) (stays (here_at p own.function (rest_of thread answer own)) own.locals.now (point_of next u) x))) (sym (ap (λ (f : Done). done_of f (world_of new)) is_e) ∙ done)

pub act_went : (p : SharedProgram) (thread : ℕ) (answer : Answer) (site : Site) (action : SharedAction) (next : Then) (own : Own) (w new : World) (d : Done) (v : Option Value) (at : control.TurnStart) (touched : List Touch)
    → done_of d (world_of new) ≡ actions.acted (world_of w) thread answer (action_of action) → d ≡ dones.Went v → at ≡ point_of next v → touched ≡ touched_in site answer action w
    → ◌≡◌ {A = Turn control.Control} (went (record { function = own.function; locals = own.locals.now; point = at; callers = callers_of own.callers; touched = touched }) (world_of new)) (ends_in p thread answer own w (pendings.Act site action next))
act_went p thread answer site action next own w new d v at touched done is_went pt so =
    ap (λ (x : control.TurnStart). went (record { function = own.function; locals = own.locals.now; point = x; callers = callers_of own.callers; touched = touched }) (world_of new)) pt
    ∙ ap (λ (l : List Touch). went (record { function = own.function; locals = own.locals.now; point = point_of next v; callers = callers_of own.callers; touched = l }) (world_of new)) so
    ∙ comes_to p thread answer site action next own w new d (dones.Went v) done is_went

-- what was gathered is what the action touches
pub touched_as : (site : Site) (thread : ℕ) (answer : Answer) (action : SharedAction) (w new : World) (g : Gathered) (c : Option Comparing) (d : Done) (v : Option Value) (all : Touches)
    → g.place ≡ site.place → (g.fits ≡ true → touches_in g.touches ≡ before_its_end site.place (world_of w) answer site.atomic (action_of action)) → c ≡ comparing_of action
    → done_of d (world_of new) ≡ actions.acted (world_of w) thread answer (action_of action) → d ≡ dones.Went v → g.fits ≡ true → touches_in all ≡ touches_in g.touches ++ end_of g.place c v
    → touches_in all ≡ touched_in site answer action w
touched_as site thread answer action w new g c d v all place before is done went_is fits whole =
    whole
    ∙ ap (λ (l : List Touch). l ++ end_of g.place c v) (before fits)
    ∙ ap (λ (n : ℕ). before_its_end site.place (world_of w) answer site.atomic (action_of action) ++ end_of n c v) place
    ∙ ap (λ (o : Option Comparing). before_its_end site.place (world_of w) answer site.atomic (action_of action) ++ end_of site.place o v) is
    ∙ touched_whole site.place (world_of w) (world_of new) thread answer site.atomic action v (sym done ∙ ap (λ (e : Done). done_of e (world_of new)) went_is)

pub act_blocked : (p : SharedProgram) (thread : ℕ) (answer : Answer) (site : Site) (action : SharedAction) (next : Then) (own own' : Own) (w new : World) (d : Done)
    → done_of d (world_of new) ≡ actions.acted (world_of w) thread answer (action_of action) → d ≡ dones.Blocked
    → turn_of outcomes.Blocked own' new ≡ ends_in p thread answer own w (pendings.Act site action next)
act_blocked p thread answer site action next own own' w new d done e = comes_to p thread answer site action next own w new d dones.Blocked done e

pub act_unfit : (p : SharedProgram) (thread : ℕ) (answer : Answer) (site : Site) (action : SharedAction) (next : Then) (own own' : Own) (w new : World) (d : Done)
    → done_of d (world_of new) ≡ actions.acted (world_of w) thread answer (action_of action) → d ≡ dones.Unfit
    → turn_of outcomes.Unfit own' new ≡ ends_in p thread answer own w (pendings.Act site action next)
act_unfit p thread answer site action next own own' w new d done e = comes_to p thread answer site action next own w new d dones.Unfit done e

pub act_broke : (p : SharedProgram) (thread : ℕ) (answer : Answer) (site : Site) (action : SharedAction) (next : Then) (own own' : Own) (w new : World) (d : Done) (rule : Rule)
    → done_of d (world_of new) ≡ actions.acted (world_of w) thread answer (action_of action) → d ≡ dones.Broke rule
    → turn_of (outcomes.Broke rule site.place) own' new ≡ ends_in p thread answer own w (pendings.Act site action next)
act_broke p thread answer site action next own own' w new d rule done e = comes_to p thread answer site action next own w new d (dones.Broke rule) done e

-- an action that isn't done leaves the world as it was
pub left_as : (d e : Done) (w new : World) → worlds.Untouched d w new → d ≡ e → worlds.Untouched e w new
left_as d e w new u is_e = subst (λ (f : Done). worlds.Untouched f w new) is_e u

-- ---- a call that is entered

-- a function of the program, as the code finds it
found_at : (p : SharedProgram) (number : ℕ) (found : Option SharedFunc) → found ≡ slice_get p.funcs.items number → option_map func_of found ≡ slice_get (program_of p).funcs number
found_at p number found e = ap (option_map func_of) e ∙ sym (slice_get-map func_of p.funcs.items number)

enters_as : (p : SharedProgram) (thread : ℕ) (answer : Answer) (number : ℕ) (args : Rc Values Global) (waits : Wait) (own : Own) (w : World) (found : Option SharedFunc) → found ≡ slice_get p.funcs.items number
    → enters (here_at p own.function (rest_of thread answer own)) number (values_of args.value) (wait_of waits) (record { locals = own.locals.now; world = world_of w }) (option_map func_of found) ≡ ends_in p thread answer own w (pendings.Enter number args waits)
enters_as p thread answer number args waits own w found e =
    ap (enters (here_at p own.function (rest_of thread answer own)) number (values_of args.value) (wait_of waits) (record { locals = own.locals.now; world = world_of w })) (found_at p number found e)

pub enter_none : (p : SharedProgram) (thread : ℕ) (answer : Answer) (number : ℕ) (args : Rc Values Global) (waits : Wait) (own own' : Own) (w new : World) → slice_get p.funcs.items number ≡ None
    → turn_of outcomes.Unfit own' new ≡ ends_in p thread answer own w (pendings.Enter number args waits)
enter_none p thread answer number args waits own own' w new e = enters_as p thread answer number args waits own w None (sym e)

pub enter_got : (p : SharedProgram) (thread : ℕ) (answer : Answer) (number : ℕ) (args : Rc Values Global) (waits : Wait) (own own' : Own) (w new : World) (f : SharedFunc) → slice_get p.funcs.items number ≡ Some f → answer ≡ answers.Got
    → turn_of outcomes.Unfit own' new ≡ ends_in p thread answer own w (pendings.Enter number args waits)
enter_got p thread answer number args waits own own' w new f e a = rw a (enters_as p thread answers.Got number args waits own w (Some f) (sym e))

pub enter_not : (p : SharedProgram) (thread : ℕ) (answer : Answer) (number : ℕ) (args : Rc Values Global) (waits : Wait) (own own' : Own) (w new : World) (f : SharedFunc) → slice_get p.funcs.items number ≡ Some f → answer ≡ answers.None
    → turn_of outcomes.Unfit own' new ≡ ends_in p thread answer own w (pendings.Enter number args waits)
enter_not p thread answer number args waits own own' w new f e a = rw a (enters_as p thread answers.None number args waits own w (Some f) (sym e))

pub enter_plain : (p : SharedProgram) (thread : ℕ) (answer : Answer) (number : ℕ) (args : Rc Values Global) (waits : Wait) (own : Own) (w : World) (f : SharedFunc) (new : control.Control) → slice_get p.funcs.items number ≡ Some f → answer ≡ answers.Plain
    → new ≡ begins_in number (func_of f) (values_of args.value) (record { function = own.function; locals = own.locals.now; wait = wait_of waits } ∷ callers_of own.callers)
    → ◌≡◌ {A = Turn control.Control} (went new (world_of w)) (ends_in p thread answer own w (pendings.Enter number args waits))
enter_plain p thread answer number args waits own w f new e a in_it =
    ap (λ (c : control.Control). went c (world_of w)) in_it ∙ rw a (enters_as p thread answers.Plain number args waits own w (Some f) (sym e))

-- part by part
pub entered : (f : SharedFunc) (number : ℕ) (own : Own) (args : List Value) (list : List Value) (waits : Wait) (c : control.Caller) (locals : List control.Variable) (k : control.Todo) (callers : List control.Caller) (touched : List Touch)
    → list ≡ args → locals ≡ first_locals (func_of f) list → k ≡ control.then_row (row_of f.body.value) control.leaves → callers ≡ c ∷ callers_of own.callers
    → c ≡ record { function = own.function; locals = own.locals.now; wait = wait_of waits } → touched ≡ []
    → ◌≡◌ {A = control.Control} (record { function = number; locals = locals; point = control.begins k; callers = callers; touched = touched }) (begins_in number (func_of f) args (record { function = own.function; locals = own.locals.now; wait = wait_of waits } ∷ callers_of own.callers))
entered f number own args list waits c locals k callers touched e g h i j t = rw (g, h, i, j, e, t) refl

-- ---- a call that is left

-- the blocks of one local more have ended
went_only : (d : Done) (x y : actions.World) (v : Option Value) → done_of d x ≡ actions.went v y → x ≡ y
went_only (dones.Went u) x y v e = cc
went_only dones.Blocked x y v e = cc
went_only dones.Unfit x y v e = cc
went_only (dones.Broke rule) x y v e = cc

pub last_returned : (p : SharedProgram) (function thread : ℕ) (own own' : Own) (value : Option Value) (number : Option ℤ) (w new : World) (d : Done)
    → callers_of own.callers ≡ [] → number ≡ number_in value → done_of d (world_of new) ≡ actions.acted (world_of w) thread answers.Plain (actions.finish number)
    → turn_of outcomes.Ended own' new ≡ returns_to (here_at p function (rest_of thread answers.Plain own)) value (world_of w) (callers_of own.callers)
last_returned p function thread own own' value number w new d none is_number done =
    rw none (ap ended (went_only d (world_of new) (actions.with_reached (actions.staged (world_of w) thread (actions.returned (actions.result_of (number_in value)))) []) None (done ∙ ap (λ n. actions.acted (world_of w) thread answers.Plain (actions.finish n)) is_number)))

pub caller_returned : (p : SharedProgram) (function thread : ℕ) (own : Own) (value : Option Value) (w : World) (caller : control.Caller) (callers : List control.Caller) (at : control.TurnStart) (touched : List Touch)
    → callers_of own.callers ≡ caller ∷ callers → at ≡ turns.after_call caller.wait value → touched ≡ []
    → ◌≡◌ {A = Turn control.Control} (went (record { function = caller.function; locals = caller.locals; point = at; callers = callers; touched = touched }) (world_of w)) (returns_to (here_at p function (rest_of thread answers.Plain own)) value (world_of w) (callers_of own.callers))
caller_returned p function thread own value w caller callers at touched e pt t = rw (e, pt, t) refl

pub left_plainly : (p : SharedProgram) (thread : ℕ) (answer : Answer) (own : Own) (v value : Option Value) (vars : List Variable) (w mid : World) (t : Turn control.Control)
    → answer ≡ answers.Plain → value ≡ result_of_call (here_at p own.function (rest_of thread answers.Plain own)) v → map variable_of vars ≡ own.locals.now
    → without_blocks (map variable_of vars) (actions.with_blocks (world_of w) w.store.now) ≡ world_of mid
    → t ≡ returns_to (here_at p own.function (rest_of thread answers.Plain own)) value (world_of mid) (callers_of own.callers)
    → t ≡ ends_in p thread answer own w (pendings.Leave v)
left_plainly p thread answer own v value vars w mid t a is_value is_vars without comes =
    let h = here_at p own.function (rest_of thread answers.Plain own) in
    comes
    ∙ ap (λ (u : Option Value). returns_to h u (world_of mid) (callers_of own.callers)) is_value
    ∙ ap (λ (x : actions.World). returns_to h (result_of_call h v) x (callers_of own.callers)) (sym without ∙ ap (λ (l : List control.Variable). without_blocks l (world_of w)) is_vars)
    ∙ rw a refl

-- a thread that went on or has ended may be another
pub turned_untouched : (o : Outcome) (own own' : Own) (w new : World) → IsTurned o → Untouched o own own' w new
turned_untouched outcomes.Went own own' w new t = tt
turned_untouched outcomes.Ended own own' w new t = tt
turned_untouched outcomes.Blocked own own' w new t = absurd t
turned_untouched outcomes.Unfit own own' w new t = absurd t
turned_untouched (outcomes.Broke rule place) own own' w new t = absurd t

-- a pending end by its form
pub ends_as : (p : SharedProgram) (thread : ℕ) (answer : Answer) (own : Own) (w : World) (q r : Pending) (t : Turn control.Control) → q ≡ r → t ≡ ends_in p thread answer own w r → t ≡ ends_in p thread answer own w q
ends_as p thread answer own w q r t e f = f ∙ ap (ends_in p thread answer own w) (sym e)
