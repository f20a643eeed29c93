-- The code of programs is valid and bare, and whole.
use Rattle.std.proofs.Common.{◌≡◌, ℕ, zero, suc, ◌+◌, ◌<◌, ◌≤◌, Bool, true, false, List, [], ◌∷◌, length, map, take, Option, Some, None, refl, ap, sym, subst, ◌∙◌, ◌==◌, arith}
use Rattle.std.proofs.lemmas.Bool.{and_from, lt-ltb}
use Rattle.std.proofs.lemmas.List.Sums.{sum_by-cons}
use Rattle.std.proofs.lemmas.List.{length-map}
use Rattle.std.proofs.lemmas.Option.{slice_get_within, same_Some}
use Rattle.std.specs.Prelude.{slice_get, sum_by}
use Rattle.std.specs.List.{AllByRecursion, list_all}
use Rattle.c_tree.specs.Typed as tree
use Rattle.c_tree.specs.TypedForm.{in_function, Signature, IsFunc, IsGlobal, IsInit, IsWellFormed, signature_of, context_of, taken}
use Rattle.c_tree.specs.TypedLayout.{size_in}
use Rattle.struct_ir.specs.Nodes.{StackObject}
use Rattle.struct_ir.specs.Erased.{func_erased}
use Rattle.struct_ir.specs.Valid.{Scope, outside, are_nodes, scope_of}
use Rattle.struct_ir.specs.Whole.{takes_nothing, is_init_in}
use Rattle.lower_forms.specs.Forms.{home_or_none}
use Rattle.lower_forms.specs.Programs.{home_if, next_home, homes_from, object_of, with_object, objects_of, body_frame, registers_of, last_nodes, func_lowered, funcs_lowered, global_lowered, globals_lowered, lowered}
use Rattle.lower_forms.specs.Laws.{LoweredCodeIsSound, LoweredCodeIsWhole}
use Rattle.lower_forms.proofs.Pieces.{Good, good_none, good_int, good_ret}
use Rattle.lower_forms.proofs.GoodExprs.{Suits, same_of}
use Rattle.lower_forms.proofs.GoodStmts.{in_no_loop, good_row}

-- ---- locals

homes_long : (next : ℕ) (ls : List tree.Local) → length (homes_from next ls) ≡ length ls
homes_long next [] = refl
homes_long next (l ∷ ls) = ap suc (homes_long (next_home l.in_memory next) ls)

first_home : (b : Bool) (next k : ℕ) (o : StackObject) (os : List StackObject) → home_if b next ≡ Some k → k < next + length (with_object b o os)
first_home true next k o os e = omega (arith, same_Some _ _ e)
first_home false next k o os e = absurd cc

later_home : (b : Bool) (next k : ℕ) (o : StackObject) (os : List StackObject) → k < next_home b next + length os → k < next + length (with_object b o os)
later_home true next k o os h = omega (arith, h)
later_home false next k o os h = h

homes_below : (structs : List tree.Layout) (next : ℕ) (ls : List tree.Local) (n k : ℕ) → slice_get (homes_from next ls) n ≡ Some (Some k) → k < next + length (objects_of structs ls)
homes_below structs next [] n k e = absurd cc
homes_below structs next (l ∷ ls) zero k e = first_home l.in_memory next k (object_of structs l) (objects_of structs ls) (same_Some _ _ e)
homes_below structs next (l ∷ ls) (suc n) k e =
    later_home l.in_memory next k (object_of structs l) (objects_of structs ls) (homes_below structs (next_home l.in_memory next) ls n k e)

home_is : (o : Option (Option ℕ)) (k : ℕ) → home_or_none o ≡ Some k → o ≡ Some (Some k)
home_is None k e = absurd cc
home_is (Some h) k e = ap Some e

-- ---- functions

taken_long : {A B : Type 0} (g : A → B) (n : ℕ) (xs : List A) → n ≤ length xs → length (map g (take n xs)) ≡ n
taken_long g zero xs h = refl
taken_long g (suc n) [] h = absurd (omega (arith, h))
taken_long g (suc n) (x ∷ xs) h = ap suc (taken_long g n xs (omega (arith, h)))

params_same : (t : tree.Typed) (main i : ℕ) (fs : List tree.Func) → AllByRecursion (IsFunc t) fs → (n : ℕ) (s : Signature) → slice_get (map signature_of fs) n ≡ Some s
    → slice_get (map (λ g. g.params) (funcs_lowered t.structs main i fs)) n ≡ Some (length s.params)
params_same t main i [] h n s e = absurd cc
params_same t main i (f ∷ fs) h zero s e =
    ap Some (sym (ap (λ (g : Signature). length g.params) (sym (same_Some _ _ e)) ∙ taken_long (λ l. l.ty) f.params f.locals h.0.params))
params_same t main i (f ∷ fs) h (suc n) s e = params_same t main (suc i) fs h.1 n s e

globals_long : (structs : List tree.Layout) (gs : List tree.GlobalVar) → length (globals_lowered structs gs) ≡ length gs
globals_long structs [] = refl
globals_long structs (g ∷ gs) = ap suc (globals_long structs gs)

good_last : (x : Scope) (b : Bool) (n : ℕ) → n ≡ x.temps → Good x outside (last_nodes b n)
good_last x true zero e = good_none x outside
good_last x true (suc n) e =
    good_int x outside 0 0 0 _ (omega (arith, e)) (good_ret x outside 0 (Some 0) _ (lt-ltb 0 x.temps (omega (arith, e))) (good_none x outside))
good_last x false n e = good_none x outside

module _ (t : tree.Typed) (w : IsWellFormed t) where
  suits : (b : Bool) (f : tree.Func) → IsFunc t f → Suits (scope_of (lowered t) (func_lowered t.structs b f)) (context_of t f) (body_frame t.structs f)
  suits b f h = record {
    first = omega arith;
    flag = λ g e. absurd cc;
    local = λ n l e. omega (arith, slice_get_within f.locals n l e);
    object = λ n k e. lt-ltb k (length (objects_of t.structs f.locals)) (omega (arith, homes_below t.structs 0 f.locals n k (home_is (slice_get (homes_from 0 f.locals) n) k e)));
    global = λ n ty e. lt-ltb n _ (omega (arith, slice_get_within (map (λ g. g.ty) t.globals) n ty e, length-map t.globals (λ (g : tree.GlobalVar). g.ty), globals_long t.structs t.globals));
    literal = λ n bs e. lt-ltb n _ (slice_get_within t.literals n bs e);
    params = λ n s e. params_same t t.main 0 t.funcs w.funcs n s e;
  }

  good_func : (b : Bool) (f : tree.Func) → IsFunc t f → Good (scope_of (lowered t) (func_lowered t.structs b f)) outside (func_lowered t.structs b f).nodes
  good_func b f h =
      good_row _ (context_of t f) f.params f.result (body_frame t.structs f) (suits b f h) f.body in_function h.body (omega arith) outside (in_no_loop None outside) [] tt _
      (good_last _ b (registers_of f) refl)

  all_valid : (i : ℕ) (fs : List tree.Func) → AllByRecursion (IsFunc t) fs → list_all (λ f. are_nodes (scope_of (lowered t) f) outside f.nodes) (funcs_lowered t.structs t.main i fs) ≡ true
  all_valid i [] h = refl
  all_valid i (f ∷ fs) h = and_from _ _ (good_func (i == t.main) f h.0).valid (all_valid (suc i) fs h.1)

  all_bare : (i : ℕ) (fs : List tree.Func) → AllByRecursion (IsFunc t) fs → map func_erased (funcs_lowered t.structs t.main i fs) ≡ funcs_lowered t.structs t.main i fs
  all_bare i [] h = refl
  all_bare i (f ∷ fs) h =
      let g = (good_func (i == t.main) f h.0).bare in
      let e : func_erased (func_lowered t.structs (i == t.main) f) ≡ func_lowered t.structs (i == t.main) f
      = λ j. record { params = f.params; temps = registers_of f; slots = 0; objects = objects_of t.structs f.locals; nodes = g j } in
      λ j. e j ∷ all_bare (suc i) fs h.1 j

-- ---- the whole

takes_none : (structs : List tree.Layout) (main i : ℕ) (fs : List tree.Func) (n : ℕ) (f : tree.Func) → slice_get fs n ≡ Some f → f.params ≡ 0
    → takes_nothing (slice_get (funcs_lowered structs main i fs) n) ≡ true
takes_none structs main i [] n f e z = absurd cc
takes_none structs main i (g ∷ fs) zero f e z = same_of g.params 0 (ap (λ (h : tree.Func). h.params) (same_Some _ _ e) ∙ z)
takes_none structs main i (g ∷ fs) (suc n) f e z = takes_none structs main (suc i) fs n f e z

init_in : (literals : List (List ℕ)) (ty : tree.Ty) (v : tree.Init) → IsInit literals ty v → is_init_in (length literals) v ≡ true
init_in literals ty tree.zero_bytes h = refl
init_in literals ty (tree.number s z) h = refl
init_in literals ty (tree.literal_at n) h = lt-ltb n _ h.1

inits_in : (t : tree.Typed) (gs : List tree.GlobalVar) → AllByRecursion (IsGlobal t) gs → list_all (λ g. is_init_in (length t.literals) g.init) (globals_lowered t.structs gs) ≡ true
inits_in t [] h = refl
inits_in t (g ∷ gs) h = and_from _ _ (init_in t.literals g.ty g.init h.0.init) (inits_in t gs h.1)

globals_size : (structs : List tree.Layout) (gs : List tree.GlobalVar) → sum_by (λ g. taken g.size) (globals_lowered structs gs) ≡ sum_by (λ g. taken (size_in structs g.ty)) gs
globals_size structs [] = refl
globals_size structs (g ∷ gs) =
    sum_by-cons (λ (o : Rattle.struct_ir.specs.Nodes.Global). taken o.size) (global_lowered structs g) (globals_lowered structs gs)
    ∙ ap (λ n. taken (size_in structs g.ty) + n) (globals_size structs gs)
    ∙ sym (sum_by-cons (λ (o : tree.GlobalVar). taken (size_in structs o.ty)) g gs)

pub lowered_code_is_sound : LoweredCodeIsSound
lowered_code_is_sound t w = record {
  valid = all_valid t w 0 t.funcs w.funcs;
  bare = ap (λ fs. record { globals = globals_lowered t.structs t.globals; literals = t.literals; funcs = fs; main = t.main }) (all_bare t w 0 t.funcs w.funcs);
}

pub lowered_code_is_whole : LoweredCodeIsWhole
lowered_code_is_whole t w = record {
  main = takes_none t.structs t.main 0 t.funcs t.main w.main.0 w.main.1 w.main.2.0;
  literals = inits_in t t.globals w.globals;
  small = subst (λ n. n + sum_by (λ bs. taken (length bs)) t.literals ≤ 1048576) (sym (globals_size t.structs t.globals)) w.small;
}
