-- Functions of a program, one by one.
use Rattle.std.proofs.Common.{◌≡◌, ℕ, zero, suc, ◌≤◌, ◌<◌, List, [], ◌∷◌, length, get_or, map, Bool, true, None, refl, sym, ap, ◌∙◌, subst, arith}
use Rattle.std.specs.Prelude.{slice_get}
use Rattle.std.specs.List.{AllByRecursion, list_all}
use Rattle.c_tree.specs.declared.typed.Literal.{Literal}
use Rattle.c_tree.specs.TypedViews.{literal_view}
use Rattle.struct_ir.specs.declared.code.IrFunc.{IrFunc}
use Rattle.struct_ir.specs.declared.code.IrGlobal.{IrGlobal}
use Rattle.struct_ir.specs.declared.linear.CodeFunc.{CodeFunc}
use Rattle.struct_ir.specs.Nodes.{Func, Ir}
use Rattle.struct_ir.specs.Instrs.{LinearFunc}
use Rattle.struct_ir.specs.LinearViews.{linear_func_view}
use Rattle.struct_ir.specs.Valid.{has_params, are_placed, scope_of, outside, are_nodes, is_valid}
use Rattle.struct_ir.specs.Views.{global_view, func_view}
use Rattle.struct_ir.specs.Whole.{takes_nothing, is_init_in, plain_bytes}
use Rattle.emit_code.specs.inner.Layout.{func_linear}
use Rattle.emit_code.specs.inner.Scoped.{IsScoped}
use Rattle.emit_code.proofs.Safepoints.{left_of, right_of}

abbrev pub is_placed : Func → Bool
is_placed f = are_placed None f.nodes

-- the function at an index has its safepoints
placed_in : (all : List IrFunc) (i : ℕ) (d : IrFunc) → i < length all → list_all is_placed (map func_view all) ≡ true → is_placed (func_view (get_or all i d)) ≡ true
placed_in [] i d lt h = absurd (omega (arith, lt))
placed_in (f ∷ rest) zero d lt h = left_of (is_placed (func_view f)) (list_all is_placed (map func_view rest)) h
placed_in (f ∷ rest) (suc i) d lt h = placed_in rest i d (omega (arith, lt)) (right_of (is_placed (func_view f)) (list_all is_placed (map func_view rest)) h)

pub placed_at : (all : List IrFunc) (i : ℕ) (f : IrFunc) → i < length all → f ≡ get_or all i f → list_all is_placed (map func_view all) ≡ true → is_placed (func_view f) ≡ true
placed_at all i f lt e h = ap (λ x. is_placed (func_view x)) e ∙ placed_in all i f lt h

-- and its scope
scoped_in : (all : List IrFunc) (i : ℕ) (d : IrFunc) → i < length all → AllByRecursion IsScoped (map func_view all) → IsScoped (func_view (get_or all i d))
scoped_in [] i d lt h = absurd (omega (arith, lt))
scoped_in (f ∷ rest) zero d lt h = h.0
scoped_in (f ∷ rest) (suc i) d lt h = scoped_in rest i d (omega (arith, lt)) h.1

pub scoped_at : (all : List IrFunc) (i : ℕ) (f : IrFunc) → i < length all → f ≡ get_or all i f → AllByRecursion IsScoped (map func_view all) → IsScoped (func_view f)
scoped_at all i f lt e h = subst (λ (x : IrFunc). IsScoped (func_view x)) (sym e) (scoped_in all i f lt h)

all_scoped : (p : Ir) (fs : List Func) → list_all (λ f. are_nodes (scope_of p f) outside f.nodes) fs ≡ true → AllByRecursion IsScoped fs
all_scoped p [] e = tt
all_scoped p (f ∷ fs) e =
    let here = are_nodes (scope_of p f) outside f.nodes in
    let rest = list_all (λ g. are_nodes (scope_of p g) outside g.nodes) fs in
    ((scope_of p f, left_of here rest e), all_scoped p fs (right_of here rest e))

pub valid_scoped : (p : Ir) → is_valid p ≡ true → AllByRecursion IsScoped p.funcs
valid_scoped p e = all_scoped p p.funcs e

params_of : (xs : List CodeFunc) → map (λ f. f.params) xs ≡ map (λ g. g.params) (map linear_func_view xs)
params_of [] = refl
params_of (x ∷ xs) = ap (λ l. x.params ∷ l) (params_of xs)

same_main : (fs : List Func) (main : ℕ) → has_params (slice_get (map (λ g. g.params) (map func_linear fs)) main) 0 ≡ takes_nothing (slice_get fs main)
same_main [] main = refl
same_main (f ∷ fs) zero = refl
same_main (f ∷ fs) (suc main) = same_main fs main

pub main_kept : (xs : List CodeFunc) (fs : List Func) (main : ℕ) → map linear_func_view xs ≡ map func_linear fs → takes_nothing (slice_get fs main) ≡ true → has_params (slice_get (map (λ f. f.params) xs) main) 0 ≡ true
main_kept xs fs main e h =
    ap (λ (l : List ℕ). has_params (slice_get l main) 0) (params_of xs ∙ ap (λ (l : List LinearFunc). map (λ g. g.params) l) e) ∙ same_main fs main ∙ h

-- ---- globals and literals

pub inits_kept : (gs hs : List IrGlobal) (ls ms : List Literal) → gs ≡ hs → map literal_view ls ≡ map literal_view ms
    → list_all (λ g. is_init_in (length (map literal_view ms)) g.init) (map global_view hs) ≡ true → list_all (λ g. is_init_in (length (map literal_view ls)) g.init) (map global_view gs) ≡ true
inits_kept gs hs ls ms e f h = (λ i. list_all (λ g. is_init_in (length (f i)) g.init) (map global_view (e i))) ∙ h

pub area_kept : (gs hs : List IrGlobal) (ls ms : List Literal) (most : ℕ) → gs ≡ hs → map literal_view ls ≡ map literal_view ms
    → plain_bytes (map global_view hs) (map literal_view ms) ≤ most → plain_bytes (map global_view gs) (map literal_view ls) ≤ most
area_kept gs hs ls ms most e f h =
    let same : plain_bytes (map global_view gs) (map literal_view ls) ≡ plain_bytes (map global_view hs) (map literal_view ms) = λ i. plain_bytes (map global_view (e i)) (f i) in
    subst (λ (n : ℕ). n ≤ most) (sym same) h
