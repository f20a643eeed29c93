-- In the code of a well formed program, with Looks and without, globals, stack objects and copies are aligned to 1, 2, 4 or 8 bytes.
use Rattle.std.proofs.Common.{◌≡◌, ℕ, zero, suc, ◌==◌, Bool, true, false, List, [], ◌∷◌, map, refl, sym, subst}
use Rattle.std.proofs.lemmas.Bool.{and_from}
use Rattle.std.specs.List.{AllByRecursion, list_all}
use Rattle.c_tree.specs.Typed as tree
use Rattle.c_tree.specs.TypedForm.{IsWellFormed}
use Rattle.struct_ir.specs.Nodes.{StackObject, Global, Func, Ir}
use Rattle.struct_ir.specs.Erased.{func_erased, ir_erased}
use Rattle.lower_forms.specs.Programs.{with_object, objects_of, body_frame, registers_of, last_nodes, funcs_lowered, globals_lowered, lowered}
use Rattle.code_file.specs.Conditions.{is_alignment, func_is_aligned, ir_is_aligned}
use Rattle.alaska_run.proofs.AlignedTypes.{IsAligned, AreTypesAligned, types_aligned}
use Rattle.alaska_run.proofs.AlignedRows.{AreAligned, nodes_told, nodes_kept}
use Rattle.alaska_run.proofs.AlignedStmts.{row_aligned}

-- these stack objects are
abbrev AreObjectsAligned : List StackObject → Type 0
AreObjectsAligned objects = list_all (λ o. is_alignment o.align) objects ≡ true

-- so are these globals
abbrev AreGlobalsAligned : List Global → Type 0
AreGlobalsAligned globals = list_all (λ g. is_alignment g.align) globals ≡ true

-- a function's objects and copies are
abbrev FuncIsAligned : Func → Type 0
FuncIsAligned f = AreObjectsAligned f.objects × AreAligned f.nodes

-- ---- code without Looks

last_aligned : (b : Bool) (n : ℕ) → AreAligned (last_nodes b n)
last_aligned true zero = tt
last_aligned true (suc n) = (tt, (tt, tt))
last_aligned false n = tt

with_aligned : (b : Bool) (o : StackObject) (objects : List StackObject) → IsAligned o.align → AreObjectsAligned objects → AreObjectsAligned (with_object b o objects)
with_aligned true o objects h k = and_from _ _ h k
with_aligned false o objects h k = k

module _ (structs : List tree.Layout) (types : AreTypesAligned structs) where
  objects_aligned : (locals : List tree.Local) → AreObjectsAligned (objects_of structs locals)
  objects_aligned [] = refl
  objects_aligned (l ∷ locals) = with_aligned l.in_memory _ (objects_of structs locals) (types l.ty) (objects_aligned locals)

  globals_aligned : (gs : List tree.GlobalVar) → AreGlobalsAligned (globals_lowered structs gs)
  globals_aligned [] = refl
  globals_aligned (g ∷ gs) = and_from _ _ (types g.ty) (globals_aligned gs)

  funcs_aligned : (main i : ℕ) (fs : List tree.Func) → AllByRecursion FuncIsAligned (funcs_lowered structs main i fs)
  funcs_aligned main i [] = tt
  funcs_aligned main i (f ∷ fs) = (
    (objects_aligned f.locals, row_aligned (body_frame structs f) types f.body [] _ (last_aligned (i == main) (registers_of f))),
    funcs_aligned main (suc i) fs,
  )

-- ---- and with them

funcs_told : (fs : List Func) → AllByRecursion FuncIsAligned (map func_erased fs) → list_all func_is_aligned fs ≡ true
funcs_told [] h = refl
funcs_told (f ∷ fs) h = and_from _ _ (and_from _ _ h.0.0 (nodes_told f.nodes (nodes_kept f.nodes h.0.1))) (funcs_told fs h.1)

-- so are those of code that is without its Looks, safepoints, slots and lists what a well formed program is lowered to
pub code_aligned : (t : tree.Typed) → IsWellFormed t → (ready : Ir) → ir_erased ready ≡ lowered t → ir_is_aligned ready ≡ true
code_aligned t well ready e =
    let types = types_aligned t.structs well.structs well.apart in
    let globals : AreGlobalsAligned ready.globals = subst (λ (p : Ir). AreGlobalsAligned p.globals) (sym e) (globals_aligned t.structs types t.globals) in
    let funcs : AllByRecursion FuncIsAligned (map func_erased ready.funcs) = subst (λ (p : Ir). AllByRecursion FuncIsAligned p.funcs) (sym e) (funcs_aligned t.structs types t.main 0 t.funcs) in
    and_from _ _ globals (funcs_told ready.funcs funcs)
