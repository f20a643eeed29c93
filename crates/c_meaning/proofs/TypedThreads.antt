-- Whole turns of a thread come out well, and threads begin so.
use Rattle.std.proofs.Common.{◌≡◌, Bool, ◌↔◌, ℕ, zero, suc, ◌^◌, ◌<◌, ◌≤◌, false, List, Option, None, Ok, Err, refl, sym, subst, ◌⊎◌, inl, inr, arith}
use Rattle.std.specs.Prelude.{Result}
use Rattle.ak_words.specs.declared.rule.Rule.{Rule}
use Rattle.ak_words.specs.IntType.{int}
use Rattle.ak_words.specs.declared.rule.Rule.TheVariants.{C15}
use Rattle.block_store.specs.declared.values.Access.{Access}
use Rattle.block_store.specs.declared.values.Access.TheVariants as accesses
use Rattle.block_store.specs.declared.values.Answer.{Answer}
use Rattle.block_store.specs.declared.values.Answer.TheVariants as answers
use Rattle.block_store.specs.declared.values.Ptr.{Ptr}
use Rattle.block_store.specs.Blocks.{Blocks, renewed}
use Rattle.block_store.specs.Actions as actions
use Rattle.block_store.specs.Actions.{World, SharedAction}
use Rattle.block_store.specs.Runs.{Turn}
use Rattle.c_tree.specs.Typed as tree
use Rattle.c_tree.specs.TypedForm.{in_function, IsScalar, IsFunc, IsMain, CanStart, IsWellFormed, signature_of}
use Rattle.c_meaning.specs.Control as control
use Rattle.c_meaning.specs.Control.{Control, Todo, Use, TurnStart}
use Rattle.c_meaning.specs.Values.{access_of_type}
use Rattle.c_meaning.specs.Turns.{WayOfUse, read_way, leave_way, run, run_arguments, run_stmt, run_row, run_from, way_of, use_of, from_point, turn}
use Rattle.c_meaning.specs.Meaning.{arguments_if, begins_if}
use Rattle.c_meaning.specs.Kinds.{IsTypedTodo, Expects, IsTypedPoint, IsTypedControl, IsTypedWorld}
use Rattle.c_meaning.specs.Sound.{TakesRenewed, Takes, End, breaking, quiet, acting, FitsEnd, EndsAs, IsChosen, AllocatesTooMuch, IsUnfit, ThreadsBeginTyped, TurnsKeepTypes, TurnsGoOn, SomeAnswerFits}
use Rattle.c_meaning.proofs.TypedValues.{not_c15}
use Rattle.c_meaning.proofs.TypedLocals.{Site, here_at, inside_at, Stands, ArgumentsHold, first_hold, pointer_holds, at_number}
use Rattle.c_meaning.proofs.TypedFits.{end_takes}
use Rattle.c_meaning.proofs.TypedTurns.{Fine, TakesKind, IsFine, Follows, breaks_fine, leaves_fine}
use Rattle.c_meaning.proofs.TypedCalls.{called_scalar, first_scalar}
use Rattle.c_meaning.proofs.TypedExprs.{kind_at, run_fine, run_arguments_fine, read_takes, only_takes, second_takes, first_takes, second_test_takes, first_test_takes, choice_takes, argument_takes}
use Rattle.c_meaning.proofs.TypedStmts.{nowhere_takes, local_takes, place_takes, left_takes, struct_right_takes, struct_left_takes, update_read_takes, update_right_takes, update_left_takes, update_local_takes, caller_takes, row_follows, end_follows, if_takes, step_follows, body_follows, loop_test_takes, rounds_fine, loop_follows, switch_follows, switch_takes, stmt_fine, row_fine, from_fine}

-- ---- what is left to do

leave_follows : (s : Site) → Stands s → Follows s (λ answer. leave_way (here_at s answer))
leave_follows s f = record { todo = λ answer. tt; ends = leaves_fine s None f tt; breaks = leaves_fine s None f tt; continues = leaves_fine s None f tt }

pub way_follows : (s : Site) → Stands s → (k : Todo) → IsTypedTodo (inside_at s) k → Follows s (λ answer. way_of (here_at s answer) k)
way_follows s f control.leaves t = leave_follows s f
way_follows s f (control.then_row rest k) t =
    row_follows s rest (λ answer. run_row (here_at s answer) rest) (λ answer. way_of (here_at s answer) k) t.0 (row_fine s f t.0.0 rest t.0.1) (way_follows s f k t.1)
way_follows s f (control.then_end numbers k) t = end_follows s numbers (λ answer. way_of (here_at s answer) k) (way_follows s f k t)
way_follows s f (control.then_loop l k) t =
    loop_follows s l (λ answer. run_stmt (here_at s answer) l.body) (λ answer. run_stmt (here_at s answer) l.step) (λ answer. way_of (here_at s answer) k) f t.0
    (stmt_fine s f t.0.body.0 l.body t.0.body.1) (stmt_fine s f t.0.step.0 l.step t.0.step.1) (way_follows s f k t.1)
way_follows s f (control.in_body l k) t =
    body_follows s l (λ answer. run_stmt (here_at s answer) l.step) (λ answer. way_of (here_at s answer) k) f t.0 (stmt_fine s f t.0.step.0 l.step t.0.step.1) (way_follows s f k t.1)
way_follows s f (control.in_step l k) t = step_follows s l (λ answer. way_of (here_at s answer) k) f t.0 (way_follows s f k t.1)
way_follows s f (control.in_switch k) t = switch_follows s (λ answer. way_of (here_at s answer) k) (way_follows s f k t)

-- ---- uses

-- each kind is that of a type
read_any : (s : Site) (place : ℕ) (how : Access) (atomic : Bool) (w : Answer → WayOfUse) → Stands s → TakesKind s how w → TakesKind s accesses.Pointer (λ answer. read_way (here_at s answer) place how atomic (w answer))
read_any s place (accesses.Number t) atomic w f g = read_takes s place (tree.integer t) atomic w f tt g
read_any s place accesses.Pointer atomic w f g = read_takes s place (tree.pointer tree.void) atomic w f tt g

takes_of : (s : Site) (how to : Access) (w : Answer → WayOfUse) → how ≡ to → TakesKind s to w → TakesKind s how w
takes_of s how to w e g = let P : Access → Type 0 = λ a. TakesKind s a w in subst P (sym e) g

pub use_takes : (s : Site) → Stands s → (k : Use) (how : Access) → Expects (inside_at s) how k → TakesKind s how (λ answer. use_of (here_at s answer) k)
use_takes s f (control.first_of place op right k) how t =
    first_takes s place op how t.2.0 right (λ answer. run (here_at s answer) right) (λ answer. use_of (here_at s answer) k) t.0 t.1 t.2.1 (run_fine s f right t.0 t.1) (use_takes s f k t.2.0 t.2.2)
use_takes s f (control.second_of place op left k) how t = second_takes s place op t.0 how t.1 left (λ answer. use_of (here_at s answer) k) t.2 t.3 (use_takes s f k t.1 t.4)
use_takes s f (control.only_of place op k) how t = only_takes s place op how t.0 (λ answer. use_of (here_at s answer) k) t.1 (use_takes s f k t.0 t.2)
use_takes s f (control.place_read place read atomic k) how t =
    takes_of s how accesses.Pointer (λ answer. read_way (here_at s answer) place read atomic (use_of (here_at s answer) k)) t.0 (read_any s place read atomic (λ answer. use_of (here_at s answer) k) f (use_takes s f k read t.1))
use_takes s f (control.first_test place decides right k) how t =
    first_test_takes s place decides how right (λ answer. run (here_at s answer) right) (λ answer. use_of (here_at s answer) k) t.0 t.1 (run_fine s f right t.0 t.1) (use_takes s f k (accesses.Number int) t.2)
use_takes s f (control.second_test place k) how t = second_test_takes s place how (λ answer. use_of (here_at s answer) k) (use_takes s f k (accesses.Number int) t)
use_takes s f (control.choice place one other k) how t =
    let P : tree.Ty → Type 0 = λ z. (w : Answer → WayOfUse) → TakesKind s (access_of_type z) w → IsFine s (λ answer. run (here_at s answer) other (w answer)) in
    choice_takes s place how one other (λ answer. run (here_at s answer) one) (λ answer. run (here_at s answer) other) (λ answer. use_of (here_at s answer) k) t.0 t.1 t.2 t.3
    (run_fine s f one t.0 t.2) (subst P t.3 (run_fine s f other t.1 (let Q : tree.Ty → Type 0 = IsScalar in subst Q (sym t.3) t.2))) (use_takes s f k (kind_at one) t.4)
use_takes s f (control.argument place callee before rest k) how t =
    let ty = t.0 in let e = t.1 in let all = t.2 in
    takes_of s how (kind_at e) (λ answer. use_of (here_at s answer) (control.argument place callee before rest k)) (sym t.5)
    (argument_takes s place callee before e rest all ty (λ answer. run_arguments (here_at s answer) place callee rest) (λ answer. k) t.3 t.4
    (first_scalar before e rest all t.4 (called_scalar s.typed s.func callee all ty f.well t.3)) (λ answer. t.6)
    (λ vs l. run_arguments_fine s f place callee all ty rest vs (λ answer. k) t.3 l (λ answer. t.6)))
use_takes s f (control.to_local number k) how t = local_takes s number how (λ answer. way_of (here_at s answer) k) f t.0 (way_follows s f k t.1)
use_takes s f (control.left_place place atomic right k) how t =
    takes_of s how accesses.Pointer (λ answer. use_of (here_at s answer) (control.left_place place atomic right k)) t.0 (left_takes s place atomic right (λ answer. way_of (here_at s answer) k) f t.1 t.2 (way_follows s f k t.3))
use_takes s f (control.to_place place atomic to k) how t = place_takes s place atomic to how (λ answer. way_of (here_at s answer) k) f t.0 (way_follows s f k t.1)
use_takes s f (control.struct_left place ty right k) how t =
    takes_of s how accesses.Pointer (λ answer. use_of (here_at s answer) (control.struct_left place ty right k)) t.0 (struct_left_takes s place ty right (λ answer. way_of (here_at s answer) k) f t.1 t.2 (way_follows s f k t.3))
use_takes s f (control.struct_right place ty to k) how t =
    takes_of s how accesses.Pointer (λ answer. use_of (here_at s answer) (control.struct_right place ty to k)) t.0 (struct_right_takes s place ty to (λ answer. way_of (here_at s answer) k) f t.1 (way_follows s f k t.2))
use_takes s f (control.update_left u right k) how t =
    takes_of s how accesses.Pointer (λ answer. use_of (here_at s answer) (control.update_left u right k)) t.0 (update_left_takes s u right (λ answer. way_of (here_at s answer) k) f t.1 t.2 (way_follows s f k t.3))
use_takes s f (control.update_local u number k) how t = update_local_takes s u number how (λ answer. way_of (here_at s answer) k) f t.0 t.1 (way_follows s f k t.2)
use_takes s f (control.update_right u at k) how t = update_right_takes s u at how (λ answer. way_of (here_at s answer) k) f t.0 t.1 (way_follows s f k t.2)
use_takes s f (control.update_read u at by k) how t =
    takes_of s how (access_of_type u.ty) (λ answer. use_of (here_at s answer) (control.update_read u at by k)) t.1 (update_read_takes s u at by t.3.0 (λ answer. way_of (here_at s answer) k) f t.0 t.2 t.3.1 t.3.2 (way_follows s f k t.4))
use_takes s f (control.if_test place one other k) how t =
    if_takes s place one other how (λ answer. run_stmt (here_at s answer) one) (λ answer. run_stmt (here_at s answer) other) (λ answer. way_of (here_at s answer) k) t.0 t.1
    (stmt_fine s f t.0.0 one t.0.1) (stmt_fine s f t.1.0 other t.1.1) (way_follows s f k t.2)
use_takes s f (control.loop_test place l k) how t =
    loop_test_takes s place l how (λ answer. run_stmt (here_at s answer) l.body) (λ answer. run_stmt (here_at s answer) l.step) (λ answer. way_of (here_at s answer) k) f t.0
    (stmt_fine s f t.0.body.0 l.body t.0.body.1) (stmt_fine s f t.0.step.0 l.step t.0.step.1) (way_follows s f k t.1)
use_takes s f (control.switch_test labels body k) how t =
    switch_takes s labels body how (λ answer. run_from (here_at s answer) body) (λ answer. way_of (here_at s answer) k) t.0 t.1 (from_fine s f t.1.0 body t.1.1) (way_follows s f k t.2)
use_takes s f control.to_caller how t = takes_of s how (access_of_type s.func.result) (λ answer. use_of (here_at s answer) control.to_caller) (sym t.1) (caller_takes s f t.0)
use_takes s f (control.to_nowhere k) how t = nowhere_takes s how (λ answer. way_of (here_at s answer) k) (way_follows s f k t)

-- ---- turns

point_fine : (s : Site) → Stands s → (p : TurnStart) → IsTypedPoint (inside_at s) p → IsFine s (λ answer. from_point (here_at s answer) p)
point_fine s f (control.gives v k) t x n = (use_takes s f k t.0 t.2).goes v t.1 x n
point_fine s f (control.lacks place) t x n = breaks_fine s C15 place not_c15
point_fine s f (control.begins k) t x n = (way_follows s f k t).ends x n
point_fine s f (control.round l k) t x n =
    rounds_fine s l (λ answer. run_stmt (here_at s answer) l.body) (λ answer. run_stmt (here_at s answer) l.step) f t.0
    (stmt_fine s f t.0.body.0 l.body t.0.body.1) (stmt_fine s f t.0.step.0 l.step t.0.step.1) (λ answer. way_of (here_at s answer) k) (way_follows s f k t.1) x n

abbrev site_of : (t : tree.Typed) (thread : ℕ) (c : Control) → IsTypedControl t c → Site
site_of t thread c h = record { typed = t; thread = thread; number = c.function; func = h.func; callers = c.callers }

-- a turn of a thread that is well formed
pub turn_fine : (t : tree.Typed) → IsWellFormed t → (thread : ℕ) (c : Control) (w : World) (h : IsTypedControl t c) → IsTypedWorld t w → Fine (site_of t thread c h) (λ answer. turn t thread answer c w)
turn_fine t wf thread c w h n =
    point_fine (site_of t thread c h) (record { well = wf; found = h.found; callers = h.callers }) c.point h.point (record { locals = c.locals; world = w }) (record { locals = h.locals; world = n })

pub turns_keep_types : TurnsKeepTypes
turns_keep_types t wf thread answer c w h n = (turn_fine t wf thread c w h n).typed answer

pub turns_go_on : TurnsGoOn
turns_go_on t wf thread c w h n = let fine = turn_fine t wf thread c w h n in (fine.end, fine.ends, end_takes thread (λ answer. turn t thread answer c w) fine.end fine.ends)

-- ---- where Plain isn't taken

chosen_action : (w : World) (action : SharedAction) → (Takes w action answers.Plain → ⊥) → IsChosen action
chosen_action w (actions.allocate size first) n = tt
chosen_action w (actions.reallocate at size) n = tt
chosen_action w (actions.start to function argument) n = tt
chosen_action w action n = absurd (n tt)

none_renewed : (size : ℕ) (r : Result Blocks Rule) → TakesRenewed r size answers.None
none_renewed size (Ok blocks) = tt
none_renewed size (Err rule) = tt

none_taken : (w : World) (action : SharedAction) → IsChosen action → Takes w action answers.None
none_taken w (actions.allocate size first) c = tt
none_taken w (actions.reallocate at size) c = none_renewed size (renewed w.blocks at size)
none_taken w (actions.start to function argument) c = tt
none_taken w action c = elim c [ ]

at_least : (size : ℕ) → (size < 2 ^ 32 → ⊥) → 2 ^ 32 ≤ size
at_least size n = omega arith

got_renewed : (size : ℕ) (r : Result Blocks Rule) → (TakesRenewed r size answers.Got → ⊥) → 2 ^ 32 ≤ size
got_renewed size (Ok blocks) n = at_least size n
got_renewed size (Err rule) n = absurd (n tt)

got_taken : (w : World) (action : SharedAction) → IsChosen action → (Takes w action answers.Got → ⊥) → AllocatesTooMuch action
got_taken w (actions.allocate size first) c n = at_least size n
got_taken w (actions.reallocate at size) c n = got_renewed size (renewed w.blocks at size) n
got_taken w (actions.start to function argument) c n = absurd (n tt)
got_taken w action c n = elim c [ ]

fits_some : (thread : ℕ) (u : Answer → Turn Control) (e : End) → EndsAs thread u e → ((answer : Answer) → (IsUnfit (u answer) → ⊥) ↔ FitsEnd e answer) → IsUnfit (u answers.Plain)
    → (place : ℕ) × (action : SharedAction) × (x : World) × EndsAs thread u (acting place action x) × IsChosen action × (IsUnfit (u answers.None) → ⊥) × (IsUnfit (u answers.Got) → AllocatesTooMuch action)
fits_some thread u (breaking rule place) h f n = absurd ((f answers.Plain).1 tt n)
fits_some thread u (quiet own w) h f n = absurd ((f answers.Plain).1 tt n)
fits_some thread u (acting place action w) h f n =
    let c = chosen_action w action (λ i. (f answers.Plain).1 i n) in
    (place, action, w, h, c, (f answers.None).1 (none_taken w action c), λ m. got_taken w action c (λ i. (f answers.Got).1 i m))

pub some_answer_fits : SomeAnswerFits
some_answer_fits t wf thread c w h n m = let g = turns_go_on t wf thread c w h n in fits_some thread (λ answer. turn t thread answer c w) g.0 g.1 g.2 m

-- ---- threads begin

main_arguments : (params : ℕ) (ls : List tree.Local) (argument : Ptr) → params ≡ 0 → ArgumentsHold (arguments_if params argument) ls
main_arguments zero ls argument e = tt
main_arguments (suc n) ls argument e = absurd cc

thread_arguments : (params : ℕ) (f : tree.Func) (argument : Ptr) → (t : tree.Typed) → IsFunc t f → f.params ≡ params → CanStart (signature_of f) → ArgumentsHold (arguments_if params argument) f.locals
thread_arguments zero f argument t w e c = tt
thread_arguments (suc n) f argument t w e c = pointer_holds f.params f.locals argument w.in_registers c.1

first_arguments : (t : tree.Typed) (f : tree.Func) (argument : Ptr) → IsFunc t f → IsMain f ⊎ CanStart (signature_of f) → ArgumentsHold (arguments_if f.params argument) f.locals
first_arguments t f argument w (inl m) = main_arguments f.params f.locals argument m.0
first_arguments t f argument w (inr c) = thread_arguments f.params f argument t w refl c

first_result : (f : tree.Func) → IsMain f ⊎ CanStart (signature_of f) → f.result ≡ tree.integer int
first_result f (inl m) = m.1
first_result f (inr c) = c.0

pub threads_begin_typed : ThreadsBeginTyped
threads_begin_typed t wf number can argument =
    let f = can.0 in
    let w = at_number (IsFunc t) t.funcs number f wf.funcs can.1 in
    let P : Option tree.Func → Type 0 = λ o. IsTypedControl t (begins_if number argument o) in
    subst P (sym can.1) (record { func = f; found = can.1; locals = first_hold f (arguments_if f.params argument) (first_arguments t f argument w can.2); point = ((in_function, w.body), tt); callers = first_result f can.2 })
