-- The text's code: main alone, a flat row with three Looks at most.
use Rattle.std.proofs.Common.{◌≡◌, refl, sym, ap, subst, ◌∙◌, ℕ, ◌+◌, ◌≤◌, Bool, true, false, not, ◌&&◌, List, [], ◌∷◌, length, map, arith}
use Rattle.std.specs.Prelude.{slice_get, slice_set, replicate}
use Rattle.std.specs.List.{list_all, AllByRecursion}
use Rattle.ak_words.specs.Wrapped.{residue, wrapped_value}
use Rattle.struct_ir.specs.Nodes.{Place, Action, load, store, copy_bytes, malloc, calloc, realloc, free, change, compare, print, lock, unlock, destroy, start, join, set, call, step, look, safepoint, begin_object, end_object, plain, if_, loop, break_, next_, ret, Nodes, no_nodes, more_nodes, Func, Ir}
use Rattle.struct_ir.specs.Lists.{bare_place}
use Rattle.struct_ir.specs.Erased.{erased, func_erased}
use Rattle.struct_ir.specs.Placed.{are_due}
use Rattle.struct_ir.specs.Flow.{Shrinks}
use Rattle.struct_ir.specs.Instrs.{Instr, LinearFunc, LinearCode, instrs_of}
use Rattle.struct_ir.specs.Linear.{linear}
use Rattle.struct_ir.proofs.Lawful.{lawful_code_shrinks}
use Rattle.struct_ir.specs.Structured.{done, then_, nodes_of}
use Rattle.pin_flow.specs.Funcs.{IsHoisted}
use Rattle.pin_flow.specs.Laws.{BasesAreKept}
use Rattle.pin_flow.specs.Looks.{some_act, act_looks}
use Rattle.pin_flow.specs.Slots.{bases_below, bases_of, own, IsIn, HasOwnSlots, slot_in}
use Rattle.lower_forms.specs.Programs.{lowered}
use Rattle.struct_ir.specs.Emitted.{SameFrames}
use Rattle.struct_ir.specs.Stands.{StandsAt}
use Rattle.headline_example.specs.Text.{tree}
use Rattle.headline_example.specs.Room.{IsTextsCode}
use Rattle.headline_example.proofs.Rows.{Flat, flat, looks, assigns, stops, assigns_kept, stops_are, few}
use Rattle.headline_example.proofs.Paths.{LooksAt0, looks_at_0, needed}
use Rattle.headline_example.proofs.Alone.{code_with, Fine, FitsAction, FourBytes, word_told, Early, Sits, flow}

-- ---- a row is as fine as what is left of it without Looks and slots

fits_kept : (a : Action) (ps : List Place) (ts : List ℕ) → FitsAction a (map bare_place ps) ts → FitsAction a ps ts
fits_kept (load how) (p ∷ []) [] h = tt
fits_kept (load how) [] ts h = absurd h
fits_kept (load how) (p ∷ []) (t ∷ ts) h = absurd h
fits_kept (load how) (p ∷ q ∷ ps) ts h = absurd h
fits_kept (store how) (p ∷ []) (t ∷ []) h = tt
fits_kept (store how) [] ts h = absurd h
fits_kept (store how) (p ∷ []) [] h = absurd h
fits_kept (store how) (p ∷ []) (t ∷ u ∷ ts) h = absurd h
fits_kept (store how) (p ∷ q ∷ ps) ts h = absurd h
fits_kept free [] (t ∷ []) h = tt
fits_kept free [] [] h = absurd h
fits_kept free [] (t ∷ u ∷ ts) h = absurd h
fits_kept free (p ∷ ps) ts h = absurd h
fits_kept (print pieces) ps ts h = tt
fits_kept (copy_bytes align same) ps ts h = absurd h
fits_kept malloc ps ts h = absurd h
fits_kept calloc ps ts h = absurd h
fits_kept realloc ps ts h = absurd h
fits_kept (change how t) ps ts h = absurd h
fits_kept (compare t) ps ts h = absurd h
fits_kept lock ps ts h = absurd h
fits_kept unlock ps ts h = absurd h
fits_kept destroy ps ts h = absurd h
fits_kept (start function) ps ts h = absurd h
fits_kept join ps ts h = absurd h

four_kept : (temps : List ℕ) (a : Action) (ps : List Place) (ts : List ℕ) → FourBytes a (map bare_place ps) ts temps → FourBytes a ps ts temps
four_kept temps malloc [] (t ∷ []) h = h
four_kept temps malloc [] [] h = absurd h
four_kept temps malloc [] (t ∷ u ∷ ts) h = absurd h
four_kept temps malloc (p ∷ ps) ts h = absurd h
four_kept temps (load how) ps ts h = absurd h
four_kept temps (store how) ps ts h = absurd h
four_kept temps (copy_bytes align same) ps ts h = absurd h
four_kept temps calloc ps ts h = absurd h
four_kept temps realloc ps ts h = absurd h
four_kept temps free ps ts h = absurd h
four_kept temps (change how t) ps ts h = absurd h
four_kept temps (compare t) ps ts h = absurd h
four_kept temps (print pieces) ps ts h = absurd h
four_kept temps lock ps ts h = absurd h
four_kept temps unlock ps ts h = absurd h
four_kept temps destroy ps ts h = absurd h
four_kept temps (start function) ps ts h = absurd h
four_kept temps join ps ts h = absurd h

fine_kept : (ns : Nodes) → Flat ns → Fine (erased ns) → Fine ns
fine_kept no_nodes f h = h
fine_kept (more_nodes (plain place (set to calc)) rest) f h = fine_kept rest f h
fine_kept (more_nodes (plain place (step s)) rest) f h = (fits_kept s.action s.places s.temps h.0, fine_kept rest f h.1)
fine_kept (more_nodes (plain place (look slot base)) rest) f h = fine_kept rest f h
fine_kept (more_nodes (ret place temp) rest) f h = tt
fine_kept (more_nodes (plain place (call c)) rest) f h = absurd f
fine_kept (more_nodes (plain place (safepoint slots)) rest) f h = absurd f
fine_kept (more_nodes (plain place (begin_object i)) rest) f h = absurd f
fine_kept (more_nodes (plain place (end_object i)) rest) f h = absurd f
fine_kept (more_nodes (if_ place temp one other) rest) f h = absurd f
fine_kept (more_nodes (loop place body latch) rest) f h = absurd f
fine_kept (more_nodes (break_ place) rest) f h = absurd f
fine_kept (more_nodes (next_ place) rest) f h = absurd f

early_kept : (ns : Nodes) (temps : List ℕ) → Flat ns → Early (erased ns) temps → Early ns temps
early_kept no_nodes temps f h = h
early_kept (more_nodes (plain place (set to calc)) rest) temps f h = (h.0, early_kept rest (slice_set temps to (word_told calc temps)) f h.1)
early_kept (more_nodes (plain place (step s)) rest) temps f h = (four_kept temps s.action s.places s.temps h.0, fine_kept rest f h.1)
early_kept (more_nodes (plain place (look slot base)) rest) temps f h = early_kept rest temps f h
early_kept (more_nodes (ret place temp) rest) temps f h = absurd h
early_kept (more_nodes (plain place (call c)) rest) temps f h = absurd f
early_kept (more_nodes (plain place (safepoint slots)) rest) temps f h = absurd f
early_kept (more_nodes (plain place (begin_object i)) rest) temps f h = absurd f
early_kept (more_nodes (plain place (end_object i)) rest) temps f h = absurd f
early_kept (more_nodes (if_ place temp one other) rest) temps f h = absurd f
early_kept (more_nodes (loop place body latch) rest) temps f h = absurd f
early_kept (more_nodes (break_ place) rest) temps f h = absurd f
early_kept (more_nodes (next_ place) rest) temps f h = absurd f

-- ---- main

abbrev first_or : Func → List Func → Func
first_or f [] = f
first_or f (g ∷ gs) = g

-- main as the tree is lowered to it
abbrev pub main_lowered : Func
main_lowered = first_or (record { params = 0; temps = 0; slots = 0; objects = []; nodes = no_nodes }) (lowered tree).funcs

record OneFunc (fs : List Func) : Type 0 where
  f : Func
  is : fs ≡ f ∷ []
  left : func_erased f ≡ main_lowered

one_func : (fs : List Func) → map func_erased fs ≡ main_lowered ∷ [] → OneFunc fs
one_func [] e = absurd (cc e)
one_func (f ∷ []) e = record { f = f; is = refl; left = cc e }
one_func (f ∷ g ∷ gs) e = let two : length_of (func_erased f ∷ func_erased g ∷ map func_erased gs) ≡ length_of (main_lowered ∷ []) = ap length_of e in absurd (cc two)
  where
    length_of : List Func → Bool
    length_of [] = false
    length_of (f ∷ []) = false
    length_of (f ∷ g ∷ gs) = true

-- what holds of it
pub record IsMain (f : Func) : Type 0 where
  pub params : f.params ≡ 0
  pub temps : f.temps ≡ 8
  pub slots : f.slots ≡ 1
  pub objects : f.objects ≡ []
  pub flat_ : Flat f.nodes
  pub early : Early f.nodes (replicate 8 0)
  pub few_stops : stops f.nodes ≤ 11

early_first : Early main_lowered.nodes (replicate 8 0)
unfolding residue wrapped_value
early_first = (tt, (tt, (tt, (refl, (tt, (tt, (tt, (tt, (tt, (tt, tt))))))))))

list_one : (b : Bool) → (b && true) ≡ true → b ≡ true
list_one true h = refl
list_one false h = absurd (cc h)

is_main : BasesAreKept → (f : Func) → func_erased f ≡ main_lowered → are_due false false f.nodes ≡ true → HasOwnSlots f → IsHoisted f → IsMain f
is_main bases f e due slots hoisted =
    let temps : f.temps ≡ 8 = ap (λ (g : Func). g.temps) e in
    let left : erased f.nodes ≡ main_lowered.nodes = ap (λ (g : Func). g.nodes) e in
    let bases_are : bases_of f ≡ 0 ∷ [] = ap (λ n. bases_below n f.nodes) temps ∙ bases 8 main_lowered.nodes f.nodes left in
    let flat_ : Flat f.nodes = flat f.nodes due (subst Flat (sym left) tt) in
    let at0 : LooksAt0 f.nodes = looks_at_0 f.nodes flat_
    (subst (λ bs. some_act (λ a. not (own (slot_in bs) a)) f.nodes ≡ false) bases_are slots.own)
    (subst (λ bs. (b : ℕ) → some_act (act_looks b) f.nodes ≡ true → IsIn bs b) bases_are slots.looks_at_bases) in
    let n = few false f.nodes flat_ (needed f.nodes flat_ at0 (hoisted.needed 0)) in
    let a : assigns f.nodes ≡ 2 = assigns_kept f.nodes flat_ ∙ ap assigns left in
    let s : stops f.nodes ≡ looks f.nodes + 8 = stops_are f.nodes flat_ ∙ ap (λ ns. looks f.nodes + stops ns) left in
    record {
      params = ap (λ (g : Func). g.params) e;
      temps = temps;
      slots = slots.few ∙ ap length bases_are;
      objects = ap (λ (g : Func). g.objects) e;
      flat_ = flat_;
      early = early_kept f.nodes (replicate 8 0) flat_ (subst (λ ns. Early ns (replicate 8 0)) (sym left) early_first);
      few_stops = omega (arith, n, a, s);
    }

-- ---- the machine's code

record OneFrame (f : Func) (gs : List LinearFunc) : Type 0 where
  g : LinearFunc
  is : gs ≡ g ∷ []
  params : g.params ≡ f.params
  temps : g.temps ≡ f.temps
  slots : g.slots ≡ f.slots
  objects : g.objects ≡ f.objects

one_frame : (f : Func) (gs : List LinearFunc) → SameFrames (f ∷ []) gs → OneFrame f gs
one_frame f [] h = absurd h
one_frame f (g ∷ []) h = record { g = g; is = refl; params = h.0.0; temps = h.0.1; slots = h.0.2; objects = h.0.3 }
one_frame f (g ∷ k ∷ gs) h = absurd h.1

-- what holds of the code
pub record IsCode (code : LinearCode) : Type 0 where
  pub instrs : List Instr
  pub is : code ≡ code_with instrs
  pub shrinks : Shrinks (flow instrs)
  pub nodes : Nodes
  pub flat_ : Flat nodes
  pub early : Early nodes (replicate 8 0)
  pub few_stops : stops nodes ≤ 11
  pub sits : Sits instrs nodes 0

pub is_code : BasesAreKept → (checked : Ir) (code : LinearCode) → IsTextsCode checked code → IsCode code
is_code bases checked code t =
    let one = one_func checked.funcs (ap (λ (p : Ir). p.funcs) t.left) in
    let f = one.f in
    let due : are_due false false f.nodes ≡ true = list_one (are_due false false f.nodes) (subst (λ fs. list_all (λ (f : Func). are_due false false f.nodes) fs ≡ true) one.is t.due) in
    let own : HasOwnSlots f = (subst (λ fs. AllByRecursion HasOwnSlots fs) one.is t.slots).0 in
    let hoisted : IsHoisted f = (subst (λ fs. AllByRecursion IsHoisted fs) one.is t.hoisted).0 in
    let h = is_main bases f one.left due own hoisted in
    let frame = one_frame f code.funcs (subst (λ fs. SameFrames fs code.funcs) one.is t.emitted.frames) in
    let g = frame.g in
    let g_is : g ≡ record { params = 0; temps = 8; slots = 1; objects = []; instrs = g.instrs } =
    λ i. record { params = (frame.params ∙ h.params) i; temps = (frame.temps ∙ h.temps) i; slots = (frame.slots ∙ h.slots) i; objects = (frame.objects ∙ h.objects) i; instrs = g.instrs } in
    let globals : code.globals ≡ [] = t.emitted.globals ∙ ap (λ (p : Ir). p.globals) t.left in
    let literals : code.literals ≡ [] = t.emitted.literals ∙ ap (λ (p : Ir). p.literals) t.left in
    let main : code.main ≡ 0 = t.emitted.main ∙ ap (λ (p : Ir). p.main) t.left in
    let is : code ≡ code_with g.instrs = λ i. record { globals = globals i; literals = literals i; funcs = (frame.is ∙ ap (λ (g : LinearFunc). g ∷ []) g_is) i; main = main i } in
    let shrinks : Shrinks (flow g.instrs) = subst (λ (c : LinearCode). Shrinks (linear c.funcs)) is (lawful_code_shrinks code.funcs t.lawful) in
    let stands : StandsAt g.instrs 0 (then_ f.nodes done) =
    subst (λ fs. StandsAt (instrs_of fs 0) 0 (then_ f.nodes done)) frame.is (subst (λ fs. StandsAt (instrs_of code.funcs 0) 0 (then_ (nodes_of (slice_get fs 0)) done)) one.is (t.emitted.starts 0)) in
    record {
      instrs = g.instrs;
      is = is;
      shrinks = shrinks;
      nodes = f.nodes;
      flat_ = h.flat_;
      early = h.early;
      few_stops = h.few_stops;
      sits = record { end = stands.stands.0; out = stands.out; next = stands.next; lies = stands.stands.2 };
    }
