-- What a well formed program's code keeps by its type.
use Rattle.std.proofs.Common.{◌≡◌, List, [], ◌∷◌, map, ap, sym, subst, ◌∙◌}
use Rattle.std.specs.List.{AllByRecursion}
use Rattle.c_tree.specs.declared.typed.Func.{Func as CodeFunc}
use Rattle.c_tree.specs.declared.typed.GlobalVar.{GlobalVar as CodeGlobal}
use Rattle.c_tree.specs.declared.typed.Layout.{Layout as CodeLayout}
use Rattle.c_tree.specs.declared.typed.Literal.{Literal as CodeLiteral}
use Rattle.c_tree.specs.declared.typed.Typed.{Typed as CodeTyped}
use Rattle.c_tree.specs.Typed as tree
use Rattle.c_tree.specs.TypedForm.{IsFunc, IsWellFormed}
use Rattle.c_tree.specs.TypedViews.{layout_view, global_view, literal_view, func_view as tree_func_view, typed_view}
use Rattle.struct_ir.specs.declared.code.IrFunc.{IrFunc}
use Rattle.struct_ir.specs.declared.code.IrGlobal.{IrGlobal}
use Rattle.struct_ir.specs.Nodes.{Ir}
use Rattle.struct_ir.specs.Views.{func_view, global_view as ir_global_view}
use Rattle.lower_forms.specs.Laws.{IsSound, IsWhole, AllBounded}
use Rattle.lower_forms.specs.Programs.{HasParams, funcs_lowered, globals_lowered, lowered}
use Rattle.lower_forms.proofs.Bounded.{lowered_code_is_bounded}
use Rattle.lower_forms.proofs.GoodPrograms.{lowered_code_is_sound, lowered_code_is_whole}

pub have_params : (t : tree.Typed) (fs : List tree.Func) → AllByRecursion (IsFunc t) fs → AllByRecursion HasParams fs
have_params t [] h = tt
have_params t (f ∷ fs) h = (h.0.params, have_params t fs h.1)

-- ---- the whole

pub sound : (t : tree.Typed) (p : Ir) → IsWellFormed t → p ≡ lowered t → IsSound p
sound t p w e = subst IsSound (sym e) (lowered_code_is_sound t w)

pub bounded : (t : tree.Typed) (p : Ir) → p ≡ lowered t → AllBounded t p
bounded t p e = subst (AllBounded t) (sym e) (lowered_code_is_bounded t)

pub program_is : (t : CodeTyped) (gs : List IrGlobal) (ls : List CodeLiteral) (fs : List IrFunc) (d1 : List CodeLayout) (d2 : List CodeGlobal) (d3 : List CodeLiteral) (d4 : List CodeLayout) (d5 : List CodeFunc)
    → map ir_global_view gs ≡ globals_lowered (map layout_view d1) (map global_view d2) → map literal_view ls ≡ map literal_view d3
    → map func_view fs ≡ funcs_lowered (map layout_view d4) t.main 0 (map tree_func_view d5)
    → d1 ≡ t.structs.items → d2 ≡ t.globals.items → d3 ≡ t.literals.items → d4 ≡ t.structs.items → d5 ≡ t.funcs.items
    → record { globals = map ir_global_view gs; literals = map literal_view ls; funcs = map func_view fs; main = t.main } ≡ lowered (typed_view t)
program_is t gs ls fs d1 d2 d3 d4 d5 e1 e2 e3 h1 h2 h3 h4 h5 =
    let g : map ir_global_view gs ≡ globals_lowered (map layout_view t.structs.items) (map global_view t.globals.items)
    = e1 ∙ (λ i. globals_lowered (map layout_view (h1 i)) (map global_view (h2 i))) in
    let l : map literal_view ls ≡ map literal_view t.literals.items = e2 ∙ ap (map literal_view) h3 in
    let f : map func_view fs ≡ funcs_lowered (map layout_view t.structs.items) t.main 0 (map tree_func_view t.funcs.items)
    = e3 ∙ (λ i. funcs_lowered (map layout_view (h4 i)) t.main 0 (map tree_func_view (h5 i))) in
    λ i. record { globals = g i; literals = l i; funcs = f i; main = t.main }

pub whole : (t : tree.Typed) (p : Ir) → IsWellFormed t → p ≡ lowered t → IsWhole p
whole t p w e = subst IsWhole (sym e) (lowered_code_is_whole t w)
