-- Calls of functions, and of the library.
use Rattle.std.proofs.Common.{◌≡◌, ℕ, zero, suc, ◌+◌, ◌-◌, ◌≤◌, ◌==◌, Bool, true, false, List, [], ◌∷◌, ◌++◌, length, map, take, replicate, Option, Some, None, refl, sym, ap, subst, ◌∙◌, arith, add-zero}
use Rattle.std.specs.Prelude.{slice_get}
use Rattle.std.specs.List.{AllByRecursion}
use Rattle.std.proofs.lemmas.Option.{same_Some}
use Rattle.block_store.specs.declared.values.Access.{Access}
use Rattle.block_store.specs.declared.values.Answer.{Answer}
use Rattle.block_store.specs.declared.values.Answer.TheVariants as answers
use Rattle.block_store.specs.declared.values.Value.{Value}
use Rattle.block_store.specs.Actions as actions
use Rattle.block_store.specs.Actions.{World}
use Rattle.block_store.specs.Blocks.{Blocks}
use Rattle.block_store.specs.Runs as runs
use Rattle.c_tree.specs.Typed as tree
use Rattle.c_tree.specs.TypedForm.{Jumps, IsFunc, AreArguments}
use Rattle.c_meaning.specs.Values.{access_of_type}
use Rattle.c_meaning.specs.Control as source
use Rattle.c_meaning.specs.Control.{Variable, Use, Todo, Wait, wanted, dropped, Callee, function, library}
use Rattle.c_meaning.specs.Turns.{plainly, enters, first_locals}
use Rattle.struct_ir.specs.Nodes as ir
use Rattle.struct_ir.specs.Nodes.{Nodes, Func}
use Rattle.struct_ir.specs.Structured.{Position, then_, done}
use Rattle.struct_ir.specs.Threads.{Thread, if_fits, went}
use Rattle.struct_ir.specs.meaning.Blocks.{Held, value, Own}
use Rattle.struct_ir.specs.meaning.Blocks as code
use Rattle.struct_ir.specs.meaning.Threads.{passed, nodes_of, is_plain, turned}
use Rattle.lower_forms.specs.Forms as forms
use Rattle.lower_forms.specs.Forms.{home_or_none, temps_of, sets, found}
use Rattle.lower_forms.specs.Programs.{home_if, next_home, homes_from, func_lowered, funcs_lowered, lowered}
use Rattle.lower_turns.proofs.Rooms.{whole_room}
use Rattle.lower_turns.proofs.Relation.{HasKind, InRegister, no_value, one_value, InBlock, no_block, held_in, AgreesIn, outermost, HasValues, Stand, Calls, AtE, AtS, at_leaves, at_row, Callers, one_wants, one_drops, Together, both_went, both_unfit, same, at_begins, after_args, dropped_args}
use Rattle.lower_turns.proofs.Operands.{fits_access}
use Rattle.lower_turns.proofs.Steps.{stops_at}
use Rattle.lower_turns.proofs.Setting.{Stands, Setting, here, now, own, Alike, start}

-- ---- lists

pub all_at : {A : Type 0} (P : A → Type 0) (xs : List A) (i : ℕ) (x : A) → AllByRecursion P xs → slice_get xs i ≡ Some x → P x
all_at P [] i x h e = absurd cc
all_at P (y ∷ xs) zero x h e = subst P (same_Some y x e) h.0
all_at P (y ∷ xs) (suc i) x h e = all_at P xs i x h.1 e

pub nth_mapped : {A B : Type 0} (g : A → B) (xs : List A) (i : ℕ) (y : B) → slice_get (map g xs) i ≡ Some y → (x : A) × (slice_get xs i ≡ Some x) × (g x ≡ y)
nth_mapped g [] i y e = absurd cc
nth_mapped g (x ∷ xs) zero y e = (x, refl, same_Some (g x) y e)
nth_mapped g (x ∷ xs) (suc i) y e = nth_mapped g xs i y e

lowered_from : (structs : List tree.Layout) (main i : ℕ) (fs : List tree.Func) (m : ℕ) (f : tree.Func) → slice_get fs m ≡ Some f
    → slice_get (funcs_lowered structs main i fs) m ≡ Some (func_lowered structs ((i + m) == main) f)
lowered_from structs main i [] m f e = absurd cc
lowered_from structs main i (g ∷ fs) zero f e =
    let eq : (i == main) ≡ ((i + 0) == main) = ap (λ k. k == main) (sym (add-zero i)) in
    ap Some (ap (func_lowered structs (i == main)) (same_Some g f e) ∙ ap (λ b. func_lowered structs b f) eq)
lowered_from structs main i (g ∷ fs) (suc m) f e =
    let eq : suc i + m ≡ i + suc m = omega arith in
    lowered_from structs main (suc i) fs m f e ∙ ap (λ k. Some (func_lowered structs (k == main) f)) eq

-- a function has its code at its own number
pub nth_lowered : (t : tree.Typed) (m : ℕ) (f : tree.Func) → slice_get t.funcs m ≡ Some f → slice_get (lowered t).funcs m ≡ Some (func_lowered t.structs (m == t.main) f)
nth_lowered t m f e =
    let eq : 0 + m ≡ m = omega arith in
    lowered_from t.structs t.main 0 t.funcs m f e ∙ ap (λ k. Some (func_lowered t.structs (k == t.main) f)) eq

-- ---- what a call begins with

no_variable : (c i : ℕ) → held_in (replicate c source.unset) i ≡ source.unset
no_variable zero i = refl
no_variable (suc c) zero = refl
no_variable (suc c) (suc i) = no_variable c i

unset_there : (how : Access) (x : Variable) → x ≡ source.unset → InRegister how x code.unset
unset_there how x e = subst (λ y. InRegister how y code.unset) (sym e) no_value

first_register : (how : Access) (h : Held) (v : Value) → HasKind how v → h ≡ value v → InRegister how (source.holds v) h
first_register how h v kind e = subst (InRegister how (source.holds v)) (sym e) (one_value v kind)

-- the parameters' types, and that none of them is in memory
abbrev pub ParamsAre : (params : ℕ) → List tree.Local → tree.Exprs → Type 0
ParamsAre params ls all = AreArguments (map (λ l. l.ty) (take params ls)) all × AllByRecursion (λ (l : tree.Local). l.in_memory ≡ false) (take params ls)

new_register : (ls : List tree.Local) (params : ℕ) (all : tree.Exprs) (args : List Value) (tm : ℕ → Held) (u c : ℕ) → ParamsAre params ls all → Stand tm all args u
    → (i : ℕ) (l : tree.Local) → slice_get ls i ≡ Some l → InRegister (access_of_type l.ty) (held_in (map source.holds args ++ replicate c source.unset) i) (passed tm (temps_of all u) i)
new_register [] params all args tm u c h s i l e = absurd cc
new_register (l ∷ ls) zero tree.no_exprs [] tm u c h s i k e = unset_there _ _ (no_variable c i)
new_register (l ∷ ls) zero tree.no_exprs (v ∷ vs) tm u c h s i k e = elim s [ ]
new_register (l ∷ ls) zero (tree.more_exprs x es) args tm u c h s i k e = elim (h.0) [ ]
new_register (l ∷ ls) (suc params) tree.no_exprs args tm u c h s i k e = elim (h.0) [ ]
new_register (l ∷ ls) (suc params) (tree.more_exprs x es) [] tm u c h s i k e = elim s [ ]
new_register (l ∷ ls) (suc params) (tree.more_exprs x es) (v ∷ vs) tm u c h s zero k e =
    let is : l ≡ k = same_Some l k e in
    let how : access_of_type (tree.type_of x) ≡ access_of_type k.ty = fits_access (tree.type_of x) l.ty h.0.0 ∙ ap (λ (z : tree.Local). access_of_type z.ty) is in
    first_register (access_of_type k.ty) (tm u) v (subst (λ z. HasKind z v) how s.0) s.1
new_register (l ∷ ls) (suc params) (tree.more_exprs x es) (v ∷ vs) tm u c h s (suc i) k e = new_register ls params es vs tm (suc u) c (h.0.1, h.1.1) s.2 i k e

no_home : (b : Bool) (next k : ℕ) → b ≡ false → home_if b next ≡ Some k → ⊥
no_home true next k e h = absurd cc
no_home false next k e h = absurd cc

new_block : (ls : List tree.Local) (params : ℕ) (all : tree.Exprs) (args : List Value) (tm : ℕ → Held) (u c next : ℕ) → ParamsAre params ls all → Stand tm all args u
    → (i k : ℕ) → home_or_none (slice_get (homes_from next ls) i) ≡ Some k → held_in (map source.holds args ++ replicate c source.unset) i ≡ source.unset
new_block [] params all args tm u c next h s i k e = absurd cc
new_block (l ∷ ls) zero tree.no_exprs [] tm u c next h s i k e = no_variable c i
new_block (l ∷ ls) zero tree.no_exprs (v ∷ vs) tm u c next h s i k e = elim s [ ]
new_block (l ∷ ls) zero (tree.more_exprs x es) args tm u c next h s i k e = elim (h.0) [ ]
new_block (l ∷ ls) (suc params) tree.no_exprs args tm u c next h s i k e = elim (h.0) [ ]
new_block (l ∷ ls) (suc params) (tree.more_exprs x es) [] tm u c next h s i k e = elim s [ ]
new_block (l ∷ ls) (suc params) (tree.more_exprs x es) (v ∷ vs) tm u c next h s zero k e = absurd (no_home l.in_memory next k h.1.0 e)
new_block (l ∷ ls) (suc params) (tree.more_exprs x es) (v ∷ vs) tm u c next h s (suc i) k e = new_block ls params es vs tm (suc u) c (next_home l.in_memory next) (h.0.1, h.1.1) s.2 i k e

args_length : (ls : List tree.Local) (params : ℕ) (all : tree.Exprs) (args : List Value) (tm : ℕ → Held) (u : ℕ) → ParamsAre params ls all → Stand tm all args u → length args ≤ length ls
args_length [] zero tree.no_exprs [] tm u h s = omega arith
args_length [] (suc params) tree.no_exprs [] tm u h s = omega arith
args_length [] zero tree.no_exprs (v ∷ vs) tm u h s = elim s [ ]
args_length [] (suc params) tree.no_exprs (v ∷ vs) tm u h s = elim s [ ]
args_length [] zero (tree.more_exprs x es) args tm u h s = elim (h.0) [ ]
args_length [] (suc params) (tree.more_exprs x es) args tm u h s = elim (h.0) [ ]
args_length (l ∷ ls) zero tree.no_exprs [] tm u h s = omega arith
args_length (l ∷ ls) zero tree.no_exprs (v ∷ vs) tm u h s = elim s [ ]
args_length (l ∷ ls) zero (tree.more_exprs x es) args tm u h s = elim (h.0) [ ]
args_length (l ∷ ls) (suc params) tree.no_exprs args tm u h s = elim (h.0) [ ]
args_length (l ∷ ls) (suc params) (tree.more_exprs x es) [] tm u h s = elim s [ ]
args_length (l ∷ ls) (suc params) (tree.more_exprs x es) (v ∷ vs) tm u h s = omega (arith, args_length ls params es vs tm (suc u) (h.0.1, h.1.1) s.2)

replicate_long : (c : ℕ) → length (replicate c source.unset) ≡ c
replicate_long zero = refl
replicate_long (suc c) = ap suc (replicate_long c)

variables_long : (args : List Value) (n : ℕ) → length args ≤ n → length (map source.holds args ++ replicate (n - length args) source.unset) ≡ n
variables_long [] n le = replicate_long (n - 0) ∙ omega arith
variables_long (v ∷ vs) zero le = absurd (omega (arith, le))
variables_long (v ∷ vs) (suc n) le =
    let e : suc n - suc (length vs) ≡ n - length vs = omega arith in
    ap suc (ap (λ k. length (map source.holds vs ++ replicate k source.unset)) e ∙ variables_long vs n (omega (arith, le)))

-- the locals of a call that has just begun
pub new_agrees : (t : tree.Typed) (m : ℕ) (f : tree.Func) (params : ℕ) (all : tree.Exprs) (args : List Value) (tm : ℕ → Held) (u : ℕ) → ParamsAre params f.locals all → Stand tm all args u
    → AgreesIn f (outermost t.structs f) (first_locals f args) (passed tm (temps_of all u)) (λ i. None)
new_agrees t m f params all args tm u h s = record {
  count = variables_long args (length f.locals) (args_length f.locals params all args tm u h s);
  low = omega arith;
  switches = tt;
  register = λ i l e none. new_register f.locals params all args tm u (length f.locals - length args) h s i l e;
  block = λ i k e. subst (λ x. InBlock x None) (sym (new_block f.locals params all args tm u (length f.locals - length args) 0 h s i k e)) no_block;
  closed = λ k e. refl;
}

-- ---- a function is entered

-- what waits for a call's value, in the source and in the code
pub data WaitIs (g : Setting) (ob : ℕ → Option ℕ) (tm : ℕ → Held) (place : ℕ) (ty : tree.Ty) : Wait → (u : ℕ) → Nodes → Position → Type 0 where
  wait_wanted : {k : Use} {u : ℕ} {r : Nodes} {q : Position} → HasValues ty → start g ≤ u → AtE g.t g.n g.f ob tm g.a k u (access_of_type ty) found r q → WaitIs g ob tm place ty (wanted place k) u r q
  wait_dropped : {io : Jumps} {k : Todo} {left : List ℕ} {u : ℕ} {r : Nodes} {q : Position} → start g ≤ u → AtS g.t g.n g.f g.a io k left r q → WaitIs g ob tm place ty (dropped k) u r q

abbrev pub nodes_for : Wait → (place : ℕ) → Callee → tree.Exprs → (u : ℕ) → Nodes → Nodes
nodes_for (wanted p k) place callee all u r = after_args place callee all u r
nodes_for (dropped k) place callee all u r = dropped_args place callee all u r

module _ (g : Setting) (busy : Calls g.t) (vs : List Variable) (ob : ℕ → Option ℕ) (b : Blocks) (tm : ℕ → Held) (agrees : Stands g vs tm ob) where
  plainly_alike : (answer : Answer) (x : source.Control) (y : Thread Position Own) (w : World) → Together g.t (runs.went x w) (runs.went y w)
      → Together g.t (plainly answer (runs.went x w)) (turned (if_fits (is_plain answer) (went y w)))
  plainly_alike answers.Plain x y w h = h
  plainly_alike answers.Got x y w h = both_unfit
  plainly_alike answers.None x y w h = both_unfit

  module _ (place m : ℕ) (all : tree.Exprs) (args : List Value) (u : ℕ) (f : tree.Func) (there : slice_get g.t.funcs m ≡ Some f) (params : ParamsAre f.params f.locals all) (stand : Stand tm all args u) where
    enters_with : (kw : Wait) (to : Option ℕ) (r : Nodes) (q : Position)
        → Callers g.t m (record { function = g.n; locals = vs; wait = kw } ∷ g.cs) (record { at = then_ (forms.calls place to m (temps_of all u) r) q; own = own g ob tm b } ∷ g.cs')
        → Alike g (enters (here g) m args kw (now g vs b) (slice_get g.t.funcs m)) (then_ (forms.calls place to m (temps_of all u) r) q) (own g ob tm b)
    enters_with kw to r q callers =
        let k : Position = then_ (forms.calls place to m (temps_of all u) r) q in
        let fits = all_at (IsFunc g.t) g.t.funcs m f g.well.funcs there in
        subst (Together g.t (enters (here g) m args kw (now g vs b) (slice_get g.t.funcs m))) (sym (stops_at (lowered g.t) g.thread g.answer g.cs' g.s k (own g ob tm b) refl))
        (subst (λ (o : Option tree.Func). Together g.t (enters (here g) m args kw (now g vs b) o) (turned (if_fits (is_plain g.answer) (went (record { top = record { at = then_ (nodes_of (slice_get (lowered g.t).funcs m)) done; own = record { function = m; temps = passed tm (temps_of all u); objects = λ i. None; blocks = b } }; callers = record { at = k; own = own g ob tm b } ∷ g.cs' }) (actions.with_blocks g.s b))))) (sym there)
        (subst (λ (o : Option Func). Together g.t (enters (here g) m args kw (now g vs b) (Some f)) (turned (if_fits (is_plain g.answer) (went (record { top = record { at = then_ (nodes_of o) done; own = record { function = m; temps = passed tm (temps_of all u); objects = λ i. None; blocks = b } }; callers = record { at = k; own = own g ob tm b } ∷ g.cs' }) (actions.with_blocks g.s b))))) (sym (nth_lowered g.t m f there))
        (plainly_alike g.answer _ _ (actions.with_blocks g.s b)
        (both_went (actions.with_blocks g.s b) g.begun
        (same (record { there = there; free = λ z. busy }) (new_agrees g.t m f f.params all args tm u params stand) (at_begins (at_row f.body fits.body (whole_room g.t m f) (λ z. busy) at_leaves)) callers)))))

    pub enters_alike : (ty : tree.Ty) → ty ≡ f.result → (kw : Wait) (r : Nodes) (q : Position) → WaitIs g ob tm place ty kw u r q
        → Alike g (enters (here g) m args kw (now g vs b) (slice_get g.t.funcs m)) (then_ (nodes_for kw place (function m) all u r) q) (own g ob tm b)
    enters_alike ty is _ _ _ (wait_wanted {k} {r = r} {q = q} scalar above at) =
        enters_with (wanted place k) (Some u) (sets place u (ir.copy u) r) q
        (one_wants m f place (temps_of all u) there busy g.call above agrees (subst (λ z. AtE g.t g.n g.f ob tm g.a k u (access_of_type z) found r q) is at) g.callers)
    enters_alike ty is _ _ _ (wait_dropped {k = k} {r = r} {q = q} above at) =
        enters_with (dropped k) None r q (one_drops m place (temps_of all u) busy g.call agrees at g.callers)
