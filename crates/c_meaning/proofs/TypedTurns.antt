-- Turns that come out well: how the rest of one is judged, by what it's handed, where it ends, and calls.
use Rattle.std.proofs.Common.{◌≡◌, ℕ, Bool, true, false, List, [], ◌∷◌, Option, Some, None, Ok, Err, pos, refl, sym, ap, subst, ◌∙◌, eqb-true}
use Rattle.std.specs.Prelude.{Result, if◌then◌else◌, slice_get, ◌==◌}
use Rattle.ak_words.specs.declared.rule.Rule.{Rule}
use Rattle.ak_words.specs.IntType.{int}
use Rattle.ak_words.specs.Num.{num}
use Rattle.block_store.specs.declared.values.Access.{Access}
use Rattle.block_store.specs.declared.values.Answer.{Answer}
use Rattle.block_store.specs.declared.values.Answer.TheVariants as answers
use Rattle.block_store.specs.declared.values.Value.{Value}
use Rattle.block_store.specs.declared.values.Value.TheVariants as values
use Rattle.block_store.specs.Actions as actions
use Rattle.block_store.specs.Actions.{World, SharedAction, Done, acted}
use Rattle.block_store.specs.Runs as runs
use Rattle.block_store.specs.Runs.{Turn}
use Rattle.c_tree.specs.Typed as tree
use Rattle.c_tree.specs.TypedForm.{in_function}
use Rattle.c_meaning.specs.Control as control
use Rattle.c_meaning.specs.Control.{Control, Variable, Callee, Wait, wanted, dropped, Caller, TurnStart}
use Rattle.race_rules.specs.declared.touch.Touch.{Touch}
use Rattle.c_meaning.specs.Touches.{touches_of}
use Rattle.c_meaning.specs.Library.{action_of, value_of_call, names_atomic}
use Rattle.c_meaning.specs.Turns.{Now, Does, WayOfUse, Way, on_ok, plainly, stays, on_done, acts, after_call, begins_in, enters, calls_library, calls, result_of_call, number_in, returns_to, leaves_call, without_blocks}
use Rattle.c_meaning.specs.Kinds.{HasType, HasTypeIf, HasKind, AllHold, IsCalled, StandBefore, IsTypedTodo, Expects, Awaits, IsTypedPoint, AreTypedCallers, IsTypedControl, IsTypedWorld}
use Rattle.c_meaning.specs.Sound.{End, breaking, quiet, acting, ComesOutAs, IsNotC16, EndsAs, IsTypedTurn}
use Rattle.c_meaning.proofs.TypedValues.{OkWith, type_kind}
use Rattle.c_meaning.proofs.TypedLocals.{Site, here_at, inside_at, Stands, IsNow, first_hold, without_blocks_world}
use Rattle.c_meaning.proofs.TypedActions.{DoneWith, IsNoValue, finish_done}
use Rattle.c_meaning.proofs.TypedCalls.{called_func, called_hold, LibDoes, lib_does}

-- a turn, under each answer, leaves what is well formed, and ends as it should
pub record Fine (s : Site) (t : Answer → Turn Control) : Type 0 where
  pub typed : (answer : Answer) → IsTypedTurn s.typed (t answer)
  pub end : End
  pub ends : EndsAs s.thread t end

-- the rest of a turn comes out well where it's handed a value of this kind
pub record TakesKind (s : Site) (how : Access) (w : Answer → WayOfUse) : Type 0 where
  pub expects : (answer : Answer) → Expects (inside_at s) how (w answer).k
  pub goes : (v : Value) → HasKind how v → (x : Now) → IsNow s x → Fine s (λ answer. (w answer).go v x)

-- the rest of a turn comes out well
abbrev pub IsFine : Site → (Answer → Does) → Type 0
IsFine s d = (x : Now) → IsNow s x → Fine s (λ answer. d answer x)

-- what follows a statement comes out well
pub record Follows (s : Site) (w : Answer → Way) : Type 0 where
  pub todo : (answer : Answer) → IsTypedTodo (inside_at s) (w answer).k
  pub ends : IsFine s (λ answer. (w answer).end)
  pub breaks : IsFine s (λ answer. (w answer).breaks)
  pub continues : IsFine s (λ answer. (w answer).continues)

-- an expression gives a value of this kind to what uses it
abbrev pub Evaluates : Site → Access → (Answer → WayOfUse → Does) → Type 0
Evaluates s how run_it = (w : Answer → WayOfUse) → TakesKind s how w → IsFine s (λ answer. run_it answer (w answer))

-- a statement is executed before what follows it
abbrev pub Executes : Site → (Answer → Way → Does) → Type 0
Executes s run_it = (w : Answer → Way) → Follows s w → IsFine s (λ answer. run_it answer (w answer))

-- ---- where a turn ends

pub breaks_fine : (s : Site) (rule : Rule) (place : ℕ) → IsNotC16 rule → Fine s (λ answer. runs.broke rule place)
breaks_fine s rule place n = record { typed = λ answer. tt; end = breaking rule place; ends = (n, λ answer. refl) }

pub ok_fine : {V : Type 0} (s : Site) (place : ℕ) (P : V → Type 0) (go : Answer → V → Turn Control) (r : Result V Rule) → OkWith P r → ((v : V) → P v → Fine s (λ answer. go answer v)) → Fine s (λ answer. on_ok place (go answer) r)
ok_fine s place P go (Ok v) h f = f v h
ok_fine s place P go (Err rule) h f = breaks_fine s rule place h

pub if_fine : (s : Site) (b : Bool) (t u : Answer → Turn Control) → (b ≡ true → Fine s t) → (b ≡ false → Fine s u) → Fine s (λ answer. if b then t answer else u answer)
if_fine s true t u p q = p refl
if_fine s false t u p q = q refl

plainly_typed : (s : Site) (answer : Answer) (own : Control) (w : World) → IsTypedControl s.typed own → IsTypedWorld s.typed w → IsTypedTurn s.typed (plainly answer (runs.went own w))
plainly_typed s answers.Plain own w c h = (c, h)
plainly_typed s answers.Got own w c h = tt
plainly_typed s answers.None own w c h = tt

plainly_same : (own : Answer → Control) (w : World) (answer : Answer) → plainly answer (runs.went (own answer) w) ≡ plainly answer (runs.went (own answers.Plain) w)
plainly_same own w answers.Plain = refl
plainly_same own w answers.Got = refl
plainly_same own w answers.None = refl

pub plainly_fine : (s : Site) (own : Answer → Control) (w : World) → ((answer : Answer) → IsTypedControl s.typed (own answer)) → IsTypedWorld s.typed w → Fine s (λ answer. plainly answer (runs.went (own answer) w))
plainly_fine s own w c h = record {
  typed = λ answer. plainly_typed s answer (own answer) w (c answer) h;
  end = quiet (own answers.Plain) w;
  ends = plainly_same own w;
}

-- the call under way goes on from a point
abbrev pub stays_at : Site → List Variable → TurnStart → Control
stays_at s locals point = record { function = s.number; locals = locals; point = point; callers = s.callers; touched = [] }

-- and has touched this
abbrev pub acted_at : Site → List Touch → List Variable → TurnStart → Control
acted_at s d locals point = record { function = s.number; locals = locals; point = point; callers = s.callers; touched = d }

pub stays_typed : (s : Site) (locals : List Variable) (point : TurnStart) → Stands s → AllHold s.func.locals locals → IsTypedPoint (inside_at s) point → IsTypedControl s.typed (stays_at s locals point)
stays_typed s locals point f h p = record { func = s.func; found = f.found; locals = h; point = p; callers = f.callers }

on_done_typed : (s : Site) (place : ℕ) (e : List Touch) (P : Option Value → Type 0) (locals : List Variable) (point : Option Value → TurnStart) (d : Done) → Stands s → AllHold s.func.locals locals → DoneWith s.typed P d
    → ((v : Option Value) → P v → IsTypedPoint (inside_at s) (point v)) → IsTypedTurn s.typed (on_done place (λ v next. runs.went (acted_at s e locals (point v)) next) d)
on_done_typed s place e P locals point (actions.went v w) f h d p = (record { func = s.func; found = f.found; locals = h; point = p v d.0; callers = f.callers }, d.1)
on_done_typed s place e P locals point actions.blocked f h d p = tt
on_done_typed s place e P locals point actions.unfit f h d p = tt
on_done_typed s place e P locals point (actions.broke rule) f h d p = tt

on_done_comes : (place : ℕ) (own : Option Value → Control) (d : Done) → ComesOutAs place d (on_done place (λ v next. runs.went (own v) next) d)
on_done_comes place own (actions.went v w) = refl
on_done_comes place own actions.blocked = tt
on_done_comes place own actions.unfit = tt
on_done_comes place own (actions.broke rule) = refl

-- an action, and where the thread goes on
pub acts_fine : (s : Site) (place : ℕ) (atomic : Bool) (action : SharedAction) (P : Option Value → Type 0) (point : Answer → Option Value → TurnStart) → Stands s
    → ((w : World) (answer : Answer) → IsTypedWorld s.typed w → DoneWith s.typed P (acted w s.thread answer action))
    → ((answer : Answer) (v : Option Value) → P v → IsTypedPoint (inside_at s) (point answer v))
    → (x : Now) → IsNow s x → Fine s (λ answer. acts (here_at s answer) place atomic action (λ v next. stays (here_at s answer) x.locals (point answer v) next) x)
acts_fine s place atomic action P point f does goes x n = record {
  typed = λ answer. on_done_typed s place (touches_of place x.world answer atomic action) P x.locals (point answer) (acted x.world s.thread answer action) f n.locals (does x.world answer n.world) (goes answer);
  end = acting place action x.world;
  ends = λ answer. on_done_comes place (λ v. acted_at s (touches_of place x.world answer atomic action) x.locals (point answer v)) (acted x.world s.thread answer action);
}

pub after_typed : (s : Site) (ty : tree.Ty) (k : Wait) (v : Option Value) → Awaits (inside_at s) ty k → HasTypeIf ty v → IsTypedPoint (inside_at s) (after_call k v)
after_typed s ty (wanted place k) (Some v) w h = (_, type_kind ty v h, w)
after_typed s ty (wanted place k) None w h = tt
after_typed s ty (dropped k) v w h = w

-- ---- calls

enters_fine : (s : Site) (number : ℕ) (all : tree.Exprs) (ty : tree.Ty) (args : List Value) (k : Answer → Wait) → Stands s → IsCalled (inside_at s).context (control.function number) all ty → StandBefore args tree.no_exprs all
    → ((answer : Answer) → Awaits (inside_at s) ty (k answer)) → IsFine s (λ answer x. enters (here_at s answer) number args (k answer) x (slice_get s.typed.funcs number))
enters_fine s number all ty args k f c l waits x n =
    let g = called_func s.typed number all ty f.well c.1 in
    let hold = first_hold g.func args (called_hold s.typed number all ty g args l) in
    let caller : Answer → Caller = λ answer. record { function = s.number; locals = x.locals; wait = k answer } in
    let own : Answer → Control = λ answer. begins_in number g.func args (caller answer ∷ s.callers) in
    let P : Option tree.Func → Type 0 = λ o. Fine s (λ answer. enters (here_at s answer) number args (k answer) x o) in
    subst P (sym g.found) (plainly_fine s own x.world
    (λ answer. record {
      func = g.func;
      found = g.found;
      locals = hold;
      point = ((in_function, g.well.body), tt);
      callers = (s.func, record { found = f.found; locals = n.locals; waits = subst (λ z. Awaits (inside_at s) z (k answer)) g.result (waits answer) }, f.callers);
    }) n.world)

library_fine : (s : Site) (place : ℕ) (which : tree.Lib) (ty : tree.Ty) (args : List Value) (k : Answer → Wait) (action : Option SharedAction) → Stands s → LibDoes s.typed which args ty action
    → ((answer : Answer) → Awaits (inside_at s) ty (k answer)) → IsFine s (λ answer. calls_library (here_at s answer) place which args (k answer) action)
library_fine s place which ty args k None f does waits x n = elim does [ ]
library_fine s place which ty args k (Some action) f does waits x n =
    acts_fine s place (names_atomic which) action (λ v. HasTypeIf ty (value_of_call which args v)) (λ answer v. after_call (k answer) (value_of_call which args v)) f (λ w answer h. does w s.thread answer h)
    (λ answer v h. after_typed s ty (k answer) (value_of_call which args v) (waits answer) h) x n

-- a call of which the arguments are known
pub calls_fine : (s : Site) (place : ℕ) (callee : Callee) (all : tree.Exprs) (ty : tree.Ty) (args : List Value) (k : Answer → Wait) → Stands s → IsCalled (inside_at s).context callee all ty → StandBefore args tree.no_exprs all
    → ((answer : Answer) → Awaits (inside_at s) ty (k answer)) → IsFine s (λ answer. calls (here_at s answer) place callee args (k answer))
calls_fine s place (control.function number) all ty args k f c l waits x n = enters_fine s number all ty args k f c l waits x n
calls_fine s place (control.library which) all ty args k f c l waits x n =
    library_fine s place which ty args k (action_of which args) f (lib_does s.typed s.func which all ty args c.1 l) waits x n

-- ---- returns

returns_comes : (place : ℕ) (d : Done) → ComesOutAs place d (on_done place (λ v next. runs.ended next) d)
returns_comes place (actions.went v w) = refl
returns_comes place actions.blocked = tt
returns_comes place actions.unfit = tt
returns_comes place (actions.broke rule) = refl

returns_typed : (s : Site) (place : ℕ) (P : Option Value → Type 0) (d : Done) → DoneWith s.typed P d → IsTypedTurn s.typed (on_done place (λ v next. runs.ended next) d)
returns_typed s place P (actions.went v w) h = h.1
returns_typed s place P actions.blocked h = tt
returns_typed s place P actions.unfit h = tt
returns_typed s place P (actions.broke rule) h = tt

returns_fine : (s : Site) (v : Option Value) (w : World) (callers : List Caller) → HasTypeIf s.func.result v → AreTypedCallers s.typed s.func.result callers → IsTypedWorld s.typed w → Fine s (λ answer. returns_to (here_at s answer) v w callers)
returns_fine s v w [] h cs n = record {
  typed = λ answer. returns_typed s 0 IsNoValue (acted w s.thread answer (actions.finish (number_in v))) (finish_done s.typed w s.thread answer (number_in v) n);
  end = acting 0 (actions.finish (number_in v)) w;
  ends = λ answer. returns_comes 0 (acted w s.thread answer (actions.finish (number_in v)));
}
returns_fine s v w (c ∷ callers) h cs n =
    plainly_fine s (λ answer. record { function = c.function; locals = c.locals; point = after_call c.wait v; callers = callers; touched = [] }) w
    (λ answer. record {
      func = cs.0;
      found = cs.1.found;
      locals = cs.1.locals;
      point = after_typed (record { typed = s.typed; thread = s.thread; number = c.function; func = cs.0; callers = callers }) s.func.result c.wait v cs.1.waits h;
      callers = cs.2;
    }) n

-- main gives 0 where it has no value, and no other function gives one
main_gives : (s : Site) → Stands s → (b : Bool) → (s.number == s.typed.main) ≡ b → HasTypeIf s.func.result (if b then Some (values.Num (num int (pos 0))) else None)
main_gives s f true e =
    let m = f.well.main in
    let at_main : slice_get s.typed.funcs s.number ≡ slice_get s.typed.funcs s.typed.main = ap (slice_get s.typed.funcs) (eqb-true s.number s.typed.main e) in
    let one : Some s.func ≡ Some m.0 = sym f.found ∙ at_main ∙ m.1 in
    let same : m.0 ≡ s.func = cc in
    let is : s.func.result ≡ tree.integer int = subst (λ (g : tree.Func). g.result ≡ tree.integer int) same m.2.1 in
    subst (λ ty. HasType ty (values.Num (num int (pos 0)))) (sym is) refl
main_gives s f false e = tt

result_typed : (s : Site) → Stands s → (answer : Answer) (v : Option Value) → HasTypeIf s.func.result v → HasTypeIf s.func.result (result_of_call (here_at s answer) v)
result_typed s f answer (Some v) h = h
result_typed s f answer None h = main_gives s f (s.number == s.typed.main) refl

-- what a call ends with, independently of the answer
abbrev result_at : Site → Option Value → Option Value
result_at s v = result_of_call (here_at s answers.Plain) v

-- the call under way is left, with a value of the function's type or without one
pub leaves_fine : (s : Site) (v : Option Value) → Stands s → HasTypeIf s.func.result v → IsFine s (λ answer. leaves_call (here_at s answer) v)
leaves_fine s None f h x n =
    returns_fine s (result_at s None) (without_blocks x.locals x.world) s.callers (result_typed s f answers.Plain None h) f.callers (without_blocks_world s.typed x.locals x.world n.world)
leaves_fine s (Some v) f h x n =
    returns_fine s (Some v) (without_blocks x.locals x.world) s.callers h f.callers (without_blocks_world s.typed x.locals x.world n.world)
