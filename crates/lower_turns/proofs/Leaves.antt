-- A call is left on both sides.
use Rattle.ak_words.specs.declared.number.Num.{Num}
use Rattle.std.proofs.Common.{◌≡◌, ℕ, zero, suc, ◌≤◌, ◌==◌, pos, Bool, true, false, List, [], Option, Some, None, Ok, Err, refl, sym, ap, subst, ◌∙◌, arith, if◌then◌else◌}
use Rattle.std.specs.Prelude.{slice_get}
use Rattle.std.proofs.lemmas.Option.{same_Some}
use Rattle.std.proofs.lemmas.Bool.Decides.{nat_tests}
use Rattle.std.proofs.lemmas.Int.{ints}
use Rattle.ak_words.proofs.Wraps.{wrapped_value-in_type}
use Rattle.ak_words.specs.IntType.{int}
use Rattle.ak_words.specs.Num.{num}
use Rattle.block_store.specs.declared.values.Access.{Access}
use Rattle.block_store.specs.declared.values.Access.TheVariants as accesses
use Rattle.block_store.specs.declared.values.Answer.{Answer}
use Rattle.block_store.specs.declared.values.Answer.TheVariants as answers
use Rattle.block_store.specs.declared.values.Value.{Value}
use Rattle.block_store.specs.declared.values.Value.TheVariants as values
use Rattle.block_store.specs.Actions as actions
use Rattle.block_store.specs.Actions.{World, Done, acted}
use Rattle.block_store.specs.Blocks.{Blocks}
use Rattle.block_store.specs.Runs as runs
use Rattle.c_tree.specs.Typed as tree
use Rattle.c_tree.specs.TypedForm.{in_function}
use Rattle.c_meaning.specs.Values.{access_of_type}
use Rattle.c_meaning.specs.Control as source
use Rattle.c_meaning.specs.Control.{Variable, Control, Caller, wanted}
use Rattle.c_meaning.specs.Turns.{on_done, plainly, after_call, number_in, result_of_call, returns_to, leaves_call, leave_way, caller_way, without_blocks}
use Rattle.struct_ir.specs.Nodes as ir
use Rattle.struct_ir.specs.Nodes.{Nodes, no_nodes, more_nodes}
use Rattle.struct_ir.specs.Structured as position
use Rattle.struct_ir.specs.Structured.{Position, then_, done, structured}
use Rattle.struct_ir.specs.Machine.{Point, ahead_at}
use Rattle.struct_ir.specs.Flow.{returns, Here}
use Rattle.struct_ir.specs.Threads as threads
use Rattle.struct_ir.specs.Threads.{Thread, finished, left_call, if_fits, stop_at}
use Rattle.struct_ir.specs.meaning.Blocks as code
use Rattle.struct_ir.specs.meaning.Blocks.{Held, value, Own, set_at, blocks_machine, same_type, wrong_kind, on_value, known}
use Rattle.struct_ir.specs.meaning.Threads.{over, given, int_in, result_of, finished_with, served_by, blocks_world, is_plain, turned, start_in}
use Rattle.lower_forms.specs.Forms as forms
use Rattle.lower_forms.specs.Forms.{Reach, found}
use Rattle.lower_forms.specs.Programs.{homes_from, registers_of, last_nodes, lowered}
use Rattle.lower_turns.proofs.Relation.{HasKind, Below, Calls, Callers, no_callers, one_wants, one_drops, AllBegin, InCall, Around, running, AgreesIn, outermost, at_leaves, at_caller, at_again, Together, both_went, both_ended, both_blocked, both_unfit, both_broke, same, at_gives, at_lacks, at_begins, AtE, AtS}
use Rattle.lower_turns.proofs.Registers.{set_here, below_same, below_less, below_set, agrees_below, use_below}
use Rattle.lower_turns.proofs.Steps.{stops_at, no_more, then_same, set_then}
use Rattle.lower_turns.proofs.Setting.{Stands, Setting, here, now, own, Alike, start, GoesE, GoesS}
use Rattle.lower_turns.proofs.Actions.{GivesNone, IfWent, finish_so}
use Rattle.lower_turns.proofs.Ends.{blocks_over}

-- what a call ends with, in the source and in the code
pub data ReturnsAs (how : Access) : Option Value → Option ℕ → Held → Type 0 where
  with_value : (v : Value) (t : ℕ) → HasKind how v → ReturnsAs how (Some v) (Some t) (value v)
  without_value : ReturnsAs how None None code.missing

-- the int that a thread's first function gives is the same
int_is : (n : Num) → n.ty ≡ int → int_in (values.Num n) ≡ Ok (Some n.value)
int_is n e = ap (λ s. if same_type int s then Ok (Some n.value) else Err wrong_kind) e

result_same : (l : Own) (v : Option Value) (temp : Option ℕ) (h : Held) → h ≡ given l temp → ReturnsAs (accesses.Number int) v temp h → result_of l temp ≡ Ok (number_in v)
result_same l _ _ _ is (with_value (values.Num n) t k) = subst (λ x. on_value (known 0 x) int_in ≡ Ok (Some n.value)) is (int_is n k)
result_same l _ _ _ is (with_value (values.Pointer p) t k) = elim k [ ]
result_same l _ _ _ is without_value = refl

module _ (g : Setting) where
  -- a thread's first function has returned
  finishes : (d : Done) (l : Own) → IfWent g.t GivesNone d → Together g.t (on_done 0 (λ u next. runs.ended next) d) (turned (finished (served_by 0 l None d)))
  finishes (actions.went v w) l h = both_ended w h.1
  finishes actions.blocked l h = both_blocked
  finishes actions.unfit l h = both_unfit
  finishes (actions.broke rule) l h = both_broke rule 0

  plainly_alike : (answer : Answer) (x : Control) (y : Thread Position Own) (w : World) → Together g.t (runs.went x w) (runs.went y w)
      → Together g.t (plainly answer (runs.went x w)) (turned (if_fits (is_plain answer) (threads.went y w)))
  plainly_alike answers.Plain x y w h = h
  plainly_alike answers.Got x y w h = both_unfit
  plainly_alike answers.None x y w h = both_unfit

  module _ (vs : List Variable) (tm : ℕ → Held) (ob : ℕ → Option ℕ) (b : Blocks) where
    -- where a value goes that is wanted
    module _ (n : ℕ) (f : tree.Func) (y : Around) (xs : List Variable) (a : ℕ → Held) (c : ℕ → Option ℕ) (k : source.Use) (u : ℕ) (r : Nodes) (q : Position) (w : World) (all : AllBegin g.t w) (bs : Blocks) where
      wanted_lands : (how : Access) (place : ℕ) (cs : List Caller) (cs' : List (Point Position Own)) → Calls g.t → InCall g.t n f → y.first ≤ u → AgreesIn f y xs a c
          → AtE g.t n f c a y k u how found r q → Callers g.t n cs cs' → (v : Option Value) (temp : Option ℕ) (h : Held) → ReturnsAs how v temp h
          → Together g.t (runs.went (record { function = n; locals = xs; point = after_call (wanted place k) v; callers = cs; touched = [] }) w)
          (runs.went (record { top = record { at = then_ (forms.sets place u (ir.copy u) r) q; own = record { function = n; temps = set_at a u h; objects = c; blocks = bs } }; callers = cs' }) w)
      wanted_lands how place cs cs' busy call above agrees at callers _ _ _ (with_value v t kind) =
          let d : ℕ → Held = set_at a u (value v) in
          let under : Below u a d = below_set u u a a (value v) (omega arith) (below_same u a) in
          let low : Below y.first a d = below_less u y.first a d above under in
          both_went w all (same {a = y} call (agrees_below (homes_from 0 f.locals) y.first (running y) y.around f.locals xs a d c agrees low)
          (at_gives v kind (set_here a u (value v)) above busy (at_again place found (use_below g.t n f c a d y k u how found r q at under))) callers)
      wanted_lands how place cs cs' busy call above agrees at callers _ _ _ without_value =
          let d : ℕ → Held = set_at a u code.missing in
          let under : Below u a d = below_set u u a a code.missing (omega arith) (below_same u a) in
          let low : Below y.first a d = below_less u y.first a d above under in
          both_went w all (same {a = y} call (agrees_below (homes_from 0 f.locals) y.first (running y) y.around f.locals xs a d c agrees low) (at_lacks place (set_here a u code.missing)) callers)

    -- back in the caller, or at the end of the thread
    returns_at : (temp : Option ℕ) (v : Option Value) (m : ℕ) (cs : List Caller) (cs' : List (Point Position Own)) → m ≡ g.n → Callers g.t m cs cs'
        → ReturnsAs (access_of_type g.f.result) v temp (given (own g ob tm b) temp)
        → (w : World) → w ≡ actions.with_blocks g.s (over (lowered g.t) (own g ob tm b)).blocks
        → Together g.t (returns_to (here g) v w cs) (turned (left_call structured (blocks_world (lowered g.t) g.thread) g.answer (own g ob tm b) temp (actions.with_blocks g.s b) cs'))
    returns_at temp v _ _ _ e (no_callers m f' there gives) kept w is =
        let now_f : f' ≡ g.f = same_Some f' g.f (sym there ∙ ap (slice_get g.t.funcs) e ∙ g.call.there) in
        let an_int : ReturnsAs (accesses.Number int) v temp (given (own g ob tm b) temp) = subst (λ z. ReturnsAs (access_of_type z) v temp (given (own g ob tm b) temp)) (ap (λ (z : tree.Func). z.result) (sym now_f) ∙ gives) kept in
        subst (λ x. Together g.t (returns_to (here g) v x []) (turned (left_call structured (blocks_world (lowered g.t) g.thread) g.answer (own g ob tm b) temp (actions.with_blocks g.s b) []))) (sym is)
        (subst (λ z. Together g.t (on_done 0 (λ u next. runs.ended next) (acted (actions.with_blocks g.s (over (lowered g.t) (own g ob tm b)).blocks) g.thread g.answer (actions.finish (number_in v))))
        (turned (finished (finished_with g.thread g.answer (own g ob tm b) (actions.with_blocks g.s b) (over (lowered g.t) (own g ob tm b)).blocks z)))) (sym (result_same (own g ob tm b) v temp (given (own g ob tm b) temp) refl an_int))
        (finishes (acted (actions.with_blocks g.s (over (lowered g.t) (own g ob tm b)).blocks) g.thread g.answer (actions.finish (number_in v))) (own g ob tm b)
        (finish_so g.t (actions.with_blocks g.s (over (lowered g.t) (own g ob tm b)).blocks) g.begun g.thread g.answer (number_in v))))
    returns_at temp v _ _ _ e (one_wants {n} {f} {vs = xs} {tm = a} {ob = c} {b = bs} {a = y} {k} {u} {r} {q} {cs} {cs'} m f' place ts there busy call above agrees at callers) kept w is =
        let now_f : f' ≡ g.f = same_Some f' g.f (sym there ∙ ap (slice_get g.t.funcs) e ∙ g.call.there) in
        subst (λ x. Together g.t (plainly g.answer (runs.went (record { function = n; locals = xs; point = after_call (wanted place k) v; callers = cs; touched = [] }) x))
        (turned (if_fits (is_plain g.answer) (threads.went (record { top = record { at = then_ (forms.sets place u (ir.copy u) r) q; own = record { function = n; temps = set_at a u (given (own g ob tm b) temp); objects = c; blocks = (over (lowered g.t) (own g ob tm b)).blocks } }; callers = cs' })
        (actions.with_blocks g.s (over (lowered g.t) (own g ob tm b)).blocks))))) (sym is)
        (plainly_alike g.answer _ _ (actions.with_blocks g.s (over (lowered g.t) (own g ob tm b)).blocks)
        (wanted_lands n f y xs a c k u r q (actions.with_blocks g.s (over (lowered g.t) (own g ob tm b)).blocks) g.begun (over (lowered g.t) (own g ob tm b)).blocks (access_of_type f'.result) place cs cs' busy call above agrees at callers v temp (given (own g ob tm b) temp)
        (subst (λ z. ReturnsAs (access_of_type z) v temp (given (own g ob tm b) temp)) (ap (λ (z : tree.Func). z.result) (sym now_f)) kept)))
    returns_at temp v _ _ _ e (one_drops {n} {f} {vs = xs} {tm = a} {ob = c} {b = bs} {k = k} {r = r} {q = q} {cs} {cs'} m place ts busy call agrees at callers) kept w is =
        subst (λ x. Together g.t (plainly g.answer (runs.went (record { function = n; locals = xs; point = source.begins k; callers = cs; touched = [] }) x))
        (turned (if_fits (is_plain g.answer) (threads.went (record { top = record { at = then_ r q; own = record { function = n; temps = a; objects = c; blocks = (over (lowered g.t) (own g ob tm b)).blocks } }; callers = cs' })
        (actions.with_blocks g.s (over (lowered g.t) (own g ob tm b)).blocks))))) (sym is)
        (plainly_alike g.answer _ _ (actions.with_blocks g.s (over (lowered g.t) (own g ob tm b)).blocks)
        (both_went (actions.with_blocks g.s (over (lowered g.t) (own g ob tm b)).blocks) g.begun (same call agrees (at_begins at) callers)))

    -- a call is left from here
    pub leaves_alike : (a : ℕ → Held) → Stands g vs a ob → (k : Position) (temp : Option ℕ) (v : Option Value) → position.here k ≡ returns temp → ReturnsAs (access_of_type g.f.result) (result_of_call (here g) v) temp (given (own g ob tm b) temp)
        → Alike g (leaves_call (here g) v (now g vs b)) k (own g ob tm b)
    leaves_alike a agrees k temp v stands kept =
        subst (Together g.t (leaves_call (here g) v (now g vs b)))
        (sym (stops_at (lowered g.t) g.thread g.answer g.cs' g.s k (own g ob tm b) (ap (ahead_at structured (blocks_machine (lowered g.t)) (record { at = k; own = own g ob tm b })) stands)))
        (subst (λ (h : Here). Together g.t (leaves_call (here g) v (now g vs b)) (turned (stop_at structured (blocks_machine (lowered g.t)) (blocks_world (lowered g.t) g.thread)
        (start_in (lowered g.t)) g.answer (record { top = record { at = k; own = own g ob tm b }; callers = g.cs' }) (actions.with_blocks g.s b) h))) (sym stands)
        (returns_at temp (result_of_call (here g) v) g.n g.cs g.cs' refl g.callers kept (without_blocks vs (actions.with_blocks g.s b)) (blocks_over g vs tm ob a agrees b)))

    -- main, of a program that calls nothing, gives 0 and has no register for it
    bare_at : (m : ℕ) (cs : List Caller) (cs' : List (Point Position Own)) → Callers g.t m cs cs' → (Calls g.t → ⊥) → (w : World) → w ≡ actions.with_blocks g.s (over (lowered g.t) (own g ob tm b)).blocks
        → Together g.t (returns_to (here g) (Some (values.Num (num int (pos 0)))) w cs) (turned (left_call structured (blocks_world (lowered g.t) g.thread) g.answer (own g ob tm b) None (actions.with_blocks g.s b) cs'))
    bare_at _ _ _ (no_callers m f' there gives) bare w is =
        subst (λ x. Together g.t (returns_to (here g) (Some (values.Num (num int (pos 0)))) x []) (turned (left_call structured (blocks_world (lowered g.t) g.thread) g.answer (own g ob tm b) None (actions.with_blocks g.s b) []))) (sym is)
        (subst (λ z. Together g.t (on_done 0 (λ u next. runs.ended next) (acted (actions.with_blocks g.s (over (lowered g.t) (own g ob tm b)).blocks) g.thread g.answer (actions.finish (Some z))))
        (turned (left_call structured (blocks_world (lowered g.t) g.thread) g.answer (own g ob tm b) None (actions.with_blocks g.s b) []))) (sym zero_is)
        (finishes (acted (actions.with_blocks g.s (over (lowered g.t) (own g ob tm b)).blocks) g.thread g.answer (actions.finish None)) (own g ob tm b)
        (finish_so g.t (actions.with_blocks g.s (over (lowered g.t) (own g ob tm b)).blocks) g.begun g.thread g.answer None)))
      where
        zero_is : (num int (pos 0)).value ≡ pos 0
        zero_is = wrapped_value-in_type int (pos 0) (omega (arith, ints), omega (arith, ints))
    bare_at _ _ _ (one_wants m f' place ts there busy call above agrees at callers) bare w is = absurd (bare busy)
    bare_at _ _ _ (one_drops m place ts busy call agrees at callers) bare w is = absurd (bare busy)

    pub bare_alike : (a : ℕ → Held) → Stands g vs a ob → (Calls g.t → ⊥) → Alike g (returns_to (here g) (Some (values.Num (num int (pos 0)))) (without_blocks vs (actions.with_blocks g.s b)) g.cs) done (own g ob tm b)
    bare_alike a agrees bare =
        subst (Together g.t (returns_to (here g) (Some (values.Num (num int (pos 0)))) (without_blocks vs (actions.with_blocks g.s b)) g.cs))
        (sym (stops_at (lowered g.t) g.thread g.answer g.cs' g.s done (own g ob tm b) refl))
        (bare_at g.n g.cs g.cs' g.callers bare (without_blocks vs (actions.with_blocks g.s b)) (blocks_over g vs tm ob a agrees b))

-- ---- main

is_main : (n m : ℕ) → (n == m) ≡ true → n ≡ m
is_main n m e = grind (arith, nat_tests)

module _ (g : Setting) where
  main_result : (g.n == g.t.main) ≡ true → g.f.result ≡ tree.integer int
  main_result e =
      let h = g.well.main in
      let same_func : h.0 ≡ g.f = same_Some h.0 g.f (sym h.1 ∙ ap (slice_get g.t.funcs) (sym (is_main g.n g.t.main e)) ∙ g.call.there) in
      ap (λ (z : tree.Func). z.result) (sym same_func) ∙ h.2.1

  main_bare : (g.n == g.t.main) ≡ true → registers_of g.f ≡ 0 → Calls g.t → ⊥
  main_bare e none calls =
      let lt = calls g.f (ap (slice_get g.t.funcs) (sym (is_main g.n g.t.main e)) ∙ g.call.there) in
      absurd (omega (arith, lt, none))

  module _ (vs : List Variable) (tm : ℕ → Held) (ob : ℕ → Option ℕ) (b : Blocks) (agrees : Stands g vs tm ob) where
    result_at : (m : Bool) → (g.n == g.t.main) ≡ m → result_of_call (here g) None ≡ (if m then Some (values.Num (num int (pos 0))) else None)
    result_at m e = ap (λ z. if z then Some (values.Num (num int (pos 0))) else None) e

    last_at : (m : Bool) (k : ℕ) → (g.n == g.t.main) ≡ m → registers_of g.f ≡ k → Alike g (leaves_call (here g) None (now g vs b)) (then_ (last_nodes m k) done) (own g ob tm b)
    last_at false k e h =
        then_same (lowered g.t) g.thread g.answer g.cs' g.s g.t _ _ _ _ _ (no_more (lowered g.t) g.thread g.answer g.cs' g.s done (own g ob tm b))
        (leaves_alike g vs tm ob b tm agrees done None None refl (subst (λ z. ReturnsAs (access_of_type g.f.result) z None code.missing) (sym (result_at false e)) without_value))
    last_at true zero e h =
        then_same (lowered g.t) g.thread g.answer g.cs' g.s g.t _ _ _ _ _ (no_more (lowered g.t) g.thread g.answer g.cs' g.s done (own g ob tm b))
        (subst (λ z. Alike g (returns_to (here g) z (without_blocks vs (actions.with_blocks g.s b)) g.cs) done (own g ob tm b)) (sym (result_at true e)) (bare_alike g vs tm ob b tm agrees (main_bare e h)))
    last_at true (suc k) e h =
        let v : Value = values.Num (num int (pos 0)) in
        let kind : HasKind (access_of_type g.f.result) v = subst (λ z. HasKind (access_of_type z) v) (sym (main_result e)) refl in
        set_then (lowered g.t) g.thread g.answer g.cs' g.s g.t _ 0 0 (ir.constant int (pos 0)) (more_nodes (ir.ret 0 (Some 0)) no_nodes) done (own g ob tm b) (value v) refl
        (leaves_alike g vs (set_at tm 0 (value v)) ob b tm agrees (then_ (more_nodes (ir.ret 0 (Some 0)) no_nodes) done) (Some 0) None refl
        (subst (λ z. ReturnsAs (access_of_type g.f.result) z (Some 0) (set_at tm 0 (value v) 0)) (sym (result_at true e)) (subst (ReturnsAs (access_of_type g.f.result) (Some v) (Some 0)) (sym (set_here tm 0 (value v))) (with_value v 0 kind))))

  -- at the end of the body
  pub leave_goes : g.a ≡ outermost g.t.structs g.f → GoesS g in_function (leave_way (here g)) [] (last_nodes (g.n == g.t.main) (registers_of g.f)) done
  leave_goes e = record {
    at = subst (λ (y : Around). AtS g.t g.n g.f y in_function source.leaves [] (last_nodes (g.n == g.t.main) (registers_of g.f)) done) (sym e) at_leaves;
    end = λ vs b tm ob agrees. last_at vs tm ob b agrees (g.n == g.t.main) (registers_of g.f) refl refl;
    breaks = λ z. absurd cc;
    continues = λ z. absurd cc;
    over_breaks = λ z. absurd cc;
    over_nexts = λ z. absurd cc;
  }

  -- a value is returned, or none
  pub caller_goes : (vs : List Variable) (ob : ℕ → Option ℕ) (b : Blocks) (tm : ℕ → Held) → Stands g vs tm ob → (place : ℕ) (rch : Reach) (r : Nodes) (q : Position)
      → GoesE g vs ob b tm (caller_way (here g)) (start g) (access_of_type g.f.result) rch (more_nodes (ir.ret place (Some (start g))) r) q
  caller_goes vs ob b tm agrees place rch r q = record {
    at = at_caller place rch;
    above = omega arith;
    agrees = agrees;
    go = λ v a kind below is points.
        leaves_alike g vs a ob b tm agrees (then_ (more_nodes (ir.ret place (Some (start g))) r) q) (Some (start g)) (Some v) refl (subst (ReturnsAs (access_of_type g.f.result) (Some v) (Some (start g))) (sym is) (with_value v (start g) kind));
  }

  not_main : g.f.result ≡ tree.void → (m : Bool) → (g.n == g.t.main) ≡ m → m ≡ false
  not_main e false h = refl
  not_main e true h = let c : tree.void ≡ tree.integer int = sym e ∙ main_result h in absurd cc

  pub returns_none : (vs : List Variable) (ob : ℕ → Option ℕ) (b : Blocks) (tm : ℕ → Held) → Stands g vs tm ob → (place : ℕ) (r : Nodes) (q : Position) → g.f.result ≡ tree.void
      → Alike g (leaves_call (here g) None (now g vs b)) (then_ (more_nodes (ir.ret place None) r) q) (own g ob tm b)
  returns_none vs ob b tm agrees place r q e =
      leaves_alike g vs tm ob b tm agrees (then_ (more_nodes (ir.ret place None) r) q) None None refl
      (subst (λ z. ReturnsAs (access_of_type g.f.result) z None code.missing) (sym (result_at vs tm ob b agrees false (not_main e (g.n == g.t.main) refl))) without_value)
