-- The types of parameters: which are void, and which are pointers to elements.
use Rattle.std.proofs.Common.{◌≡◌, ℕ, suc, ◌-◌, ◌<◌, ◌≤◌, ◌&&◌, ◌==◌, true, false, List, [], ◌∷◌, Option, Some, None, map, take, drop, length, get_or, is_some, ne_eqb, arith, Err, refl, ap, subst, ◌∙◌}
use Rattle.std.proofs.lemmas.List.{take_all}
use Rattle.std.proofs.Math.Seq.{drop-cons}
use Rattle.c_lex.specs.declared.refusal.CompileFault.{CompileFault}
use Rattle.c_lex.specs.declared.refusal.CompileFault.TheVariants.{Refused, NoMemory}
use Rattle.c_tree.specs.declared.syntax.Name.{Name}
use Rattle.c_tree.specs.declared.syntax.Pointer.{Pointer}
use Rattle.c_tree.specs.declared.syntax.Pointer.TheVariants as pointers
use Rattle.c_tree.specs.declared.syntax.ParamDim.{ParamDim as CodeParamDim}
use Rattle.c_tree.specs.declared.typed.CType.{CType}
use Rattle.c_tree.specs.SyntaxViews.{param_dim_view}
use Rattle.c_tree.specs.Typed.{Ty, void, pointer, array, integer, structure, mutex, atomic}
use Rattle.c_typing.specs.Faults.{Judged, typed, faulty, Fails, mapped}
use Rattle.c_typing.specs.Types.{is_void, behind_pointers, arrays_of}
use Rattle.c_typing.specs.Scope.{Context}
use Rattle.c_typing.specs.Judgement.{object_type, plain_type}
use Rattle.c_typing.specs.Programs.{known, adjusted, void_by, is_bare_by}
use Rattle.type_context.specs.Telling.{lacks_memory}
use Rattle.type_context.proofs.Judging.{fails_part}

-- a pointer is not void, whatever stands behind it
pub pointer_no_void : (t : Ty) (ps : List Pointer) → is_void (behind_pointers (pointer t) ps) ≡ false
pointer_no_void t [] = refl
pointer_no_void t (pointers.Star ∷ ps) = pointer_no_void (pointer t) ps
pointer_no_void t (pointers.Const ∷ ps) = pointer_no_void t ps
pointer_no_void t (pointers.Restrict ∷ ps) = pointer_no_void t ps

-- nor is a type that isn't void
pub no_void : (t : Ty) (ps : List Pointer) → is_void t ≡ false → is_void (behind_pointers t ps) ≡ false
no_void t [] h = h
no_void t (pointers.Star ∷ ps) h = pointer_no_void t ps
no_void t (pointers.Const ∷ ps) h = no_void t ps h
no_void t (pointers.Restrict ∷ ps) h = no_void t ps h

-- what is refused is not void
pub refused_no_void : (f : Ty → Ty) (e : CompileFault) (j : Judged Ty) → lacks_memory {A = CType} (Err e) ≡ false → Fails e j → void_by (mapped f j) ≡ false
refused_no_void f NoMemory j k h = cc
refused_no_void f (Refused r) (typed t) k h = cc
refused_no_void f (Refused r) (faulty s ss) k h = refl

-- what is typed is void where its type is
pub typed_void : (f : Ty → Ty) (t : Ty) (j : Judged Ty) → j ≡ typed t → void_by (mapped f j) ≡ is_void (f t)
typed_void f t j h = ap (λ i. void_by (mapped f i)) h

-- void behind pointers is void where both leave it so
pub void_of : (t : Ty) (ps : List Pointer) → is_void (behind_pointers t ps) ≡ (is_void t && is_void (behind_pointers void ps))
void_of void ps = refl
void_of (integer s) ps = no_void (integer s) ps refl
void_of (pointer t) ps = no_void (pointer t) ps refl
void_of (array t n) ps = no_void (array t n) ps refl
void_of (structure n) ps = no_void (structure n) ps refl
void_of (atomic t) ps = no_void (atomic t) ps refl
void_of mutex ps = no_void mutex ps refl

-- behind a star nothing is void
pub star_no_void : (ps : List Pointer) (i : ℕ) (d : Pointer) → i < length ps → get_or ps i d ≡ pointers.Star → behind_pointers void ps ≡ behind_pointers void (drop i ps) → is_void (behind_pointers void ps) ≡ false
star_no_void ps i d h star before =
    ap is_void (before ∙ ap (behind_pointers void) (drop-cons ps i d h ∙ ap (λ q. q ∷ drop (suc i) ps) star)) ∙ pointer_no_void void (drop (suc i) ps)

-- typed forms that are equal are of equals
pub same_typed : {A : Type 0} (x y : A) → typed x ≡ typed y → x ≡ y
same_typed x y h = cc

-- what has a name is not bare
pub bare_named : (o : Option Name) (ds : List CodeParamDim) → is_some o ≡ true → false ≡ is_bare_by o (map param_dim_view ds)
bare_named None ds h = cc
bare_named (Some n) ds h = refl

-- what has none is bare where it has no brackets
pub bare_unnamed : (o : Option Name) (ds : List CodeParamDim) → is_some o ≡ false → (length ds == 0) ≡ is_bare_by o (map param_dim_view ds)
bare_unnamed None [] h = refl
bare_unnamed None (d ∷ ds) h = ne_eqb (length (d ∷ ds)) 0 (λ e. absurd (omega (arith, e)))
bare_unnamed (Some n) ds h = cc

-- where the elements of an array are at fault, the parameter is
pub element_fails : (e : CompileFault) (c : Context) (place : ℕ) (t : Ty) (ss inner : List (Option ℕ)) → 1 ≤ length ss → inner ≡ take (length ss - 1) (drop 1 ss)
    → Fails e (object_type c place (arrays_of t (known inner))) → Fails e (adjusted c place t ss)
element_fails e c place t [] inner h is k = absurd (omega arith)
element_fails e c place t (s ∷ ss) inner h is k =
    let same : inner ≡ ss = is ∙ take_all (length (s ∷ ss) - 1) ss (omega arith) in
    fails_part (object_type c place (arrays_of t (known ss))) (λ element. plain_type place (pointer element)) e (subst (λ l. Fails e (object_type c place (arrays_of t (known l)))) same k)
