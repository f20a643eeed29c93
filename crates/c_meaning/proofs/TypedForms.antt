-- What well formed trees say of types where a value is assigned, returned or dropped.
use Rattle.std.proofs.Common.{◌≡◌, ℕ, true, false, List, [], ◌∷◌, Some, refl, sym, ap, subst, ◌∙◌}
use Rattle.std.specs.Prelude.{slice_get}
use Rattle.ak_words.specs.declared.int_type.IntType.{IntType}
use Rattle.ak_words.specs.declared.operation.Op.{Op}
use Rattle.ak_words.specs.IntType.{int}
use Rattle.c_tree.specs.Typed as tree
use Rattle.c_tree.specs.TypedForm.{IsInteger, IsScalar, Fits, MovesPointer, type_of_result, Converts, IsLvalue, IsAtomicCall, IsLibCall, IsTyped, IsTypedNode, InScope, IsResult, IsFunc, IsLocal}
use Rattle.c_meaning.specs.Values.{is_scalar}
use Rattle.c_meaning.specs.Turns.{is_struct}
use Rattle.c_meaning.proofs.TypedValues.{HasValues, number_operands, integer_scalar, pointer_scalar, sized_pointer}
use Rattle.c_meaning.proofs.TypedLocals.{Site, Stands, at_number, inside_at}
use Rattle.c_meaning.proofs.TypedCalls.{called_func}

-- ---- functions and their locals

pub func_well : (s : Site) → Stands s → IsFunc s.typed s.func
func_well s f = at_number (IsFunc s.typed) s.typed.funcs s.number s.func f.well.funcs f.found

-- a local that isn't in memory is a number or a pointer
pub local_scalar : (s : Site) → Stands s → (number : ℕ) (l : tree.Local) → slice_get s.func.locals number ≡ Some l → l.in_memory ≡ false → IsScalar l.ty
local_scalar s f number l e m = (at_number (IsLocal s.typed.structs) s.func.locals number l (func_well s f).locals e).scalar m

pub returned_scalar : (s result : tree.Ty) → IsResult result → Fits s result → IsScalar result
returned_scalar (tree.integer s) (tree.integer t) r f = tt
returned_scalar (tree.integer s) (tree.atomic t) r f = elim r [ ]
returned_scalar (tree.pointer s) (tree.pointer t) r f = tt
returned_scalar (tree.structure m) (tree.structure n) r f = elim r [ ]
returned_scalar s t r f = elim f [ ]

-- ---- structs

pub fits_struct : (s t : tree.Ty) → Fits s t → is_struct t ≡ true → is_struct s ≡ true
fits_struct (tree.integer s) (tree.integer t) f e = absurd cc
fits_struct (tree.integer s) (tree.atomic t) f e = absurd cc
fits_struct (tree.pointer s) (tree.pointer t) f e = absurd cc
fits_struct (tree.structure m) (tree.structure n) f e = refl
fits_struct s t f e = elim f [ ]

pub fits_no_struct : (s t : tree.Ty) → Fits s t → is_struct t ≡ false → IsScalar s
fits_no_struct (tree.integer s) (tree.integer t) f e = tt
fits_no_struct (tree.integer s) (tree.atomic t) f e = tt
fits_no_struct (tree.pointer s) (tree.pointer t) f e = tt
fits_no_struct (tree.structure m) (tree.structure n) f e = absurd cc
fits_no_struct s t f e = elim f [ ]

-- a number or a pointer is no struct
scalar_no_struct : (ty : tree.Ty) → IsScalar ty → is_struct ty ≡ false
scalar_no_struct (tree.integer t) h = refl
scalar_no_struct (tree.pointer t) h = refl
scalar_no_struct ty h = elim h [ ]

result_no_struct : (ty : tree.Ty) → IsResult ty → is_struct ty ≡ false
result_no_struct tree.void h = refl
result_no_struct (tree.integer t) h = refl
result_no_struct (tree.pointer t) h = refl
result_no_struct ty h = elim h [ ]

converts_no_struct : (s ty : tree.Ty) → Converts s ty → is_struct ty ≡ false
converts_no_struct s tree.void h = refl
converts_no_struct (tree.integer s) (tree.integer t) h = refl
converts_no_struct (tree.atomic s) (tree.integer t) h = refl
converts_no_struct (tree.pointer s) (tree.pointer t) h = refl
converts_no_struct s t h = elim h [ ]

number_result : (op : Op) (a : tree.Ty) → IsInteger a → IsScalar (type_of_result op a)
number_result op (tree.integer t) h = tt
number_result op ty h = elim h [ ]

moved_result : (structs : List tree.Layout) (a b ty : tree.Ty) → MovesPointer structs a b ty → IsScalar ty
moved_result structs (tree.pointer s) (tree.integer t) ty h = subst IsScalar (sym h.1) tt
moved_result structs (tree.integer t) (tree.pointer s) ty h = subst IsScalar (sym h.1) tt
moved_result structs a b ty h = elim h [ ]

same_struct : (ty t : tree.Ty) → ty ≡ t → is_struct t ≡ false → is_struct ty ≡ false
same_struct ty t e n = ap is_struct e ∙ n

atomic_no_struct : (others : IntType → List tree.Ty) (result : IntType → tree.Ty) (all : tree.Exprs) (ty : tree.Ty) → ((t : IntType) → is_struct (result t) ≡ false) → IsAtomicCall others result all ty → is_struct ty ≡ false
atomic_no_struct others result tree.no_exprs ty n h = elim h [ ]
atomic_no_struct others result (tree.more_exprs e rest) ty n h = same_struct ty (result h.0) h.4 (n h.0)

lib_no_struct : (c : InScope) (which : tree.Lib) (all : tree.Exprs) (ty : tree.Ty) → IsLibCall c which all ty → is_struct ty ≡ false
lib_no_struct c (tree.print pieces) all ty h = ap is_struct h.1
lib_no_struct c tree.malloc all ty h = ap is_struct h.1
lib_no_struct c tree.calloc all ty h = ap is_struct h.1
lib_no_struct c tree.realloc all ty h = ap is_struct h.1
lib_no_struct c tree.free all ty h = ap is_struct h.1
lib_no_struct c tree.copy all ty h = ap is_struct h.1
lib_no_struct c (tree.start f) all ty h = ap is_struct h.2
lib_no_struct c tree.join all ty h = ap is_struct h.1
lib_no_struct c tree.mutex_init all ty h = ap is_struct h.1
lib_no_struct c tree.mutex_lock all ty h = ap is_struct h.1
lib_no_struct c tree.mutex_unlock all ty h = ap is_struct h.1
lib_no_struct c tree.mutex_destroy all ty h = ap is_struct h.1
lib_no_struct c tree.atomic_add all ty h = atomic_no_struct (λ s. tree.integer s ∷ []) (λ s. tree.integer s) all ty (λ t. refl) h
lib_no_struct c tree.atomic_sub all ty h = atomic_no_struct (λ s. tree.integer s ∷ []) (λ s. tree.integer s) all ty (λ t. refl) h
lib_no_struct c tree.atomic_swap all ty h = atomic_no_struct (λ s. tree.integer s ∷ []) (λ s. tree.integer s) all ty (λ t. refl) h
lib_no_struct c tree.atomic_compare all ty h = atomic_no_struct (λ s. tree.pointer (tree.integer s) ∷ tree.integer s ∷ []) (λ s. tree.integer int) all ty (λ t. refl) h
lib_no_struct c tree.atomic_store all ty h = atomic_no_struct (λ s. tree.integer s ∷ []) (λ s. tree.void) all ty (λ t. refl) h

-- ---- what is no object is a number, a pointer, or nothing

-- it's an object, a call, or a cast to void
abbrev pub IsPlain : tree.Ty → tree.ExprNode → Type 0
IsPlain ty (tree.literal n) = ⊥
IsPlain ty (tree.global n) = ⊥
IsPlain ty (tree.local n) = ⊥
IsPlain ty (tree.deref e) = ⊥
IsPlain ty (tree.member e m) = ⊥
IsPlain ty (tree.call f args) = ⊥
IsPlain ty (tree.lib which args) = ⊥
IsPlain tree.void (tree.convert e) = ⊥
IsPlain ty node = Unit {0}

converted_scalar : (s ty : tree.Ty) (e : tree.Expr) → Converts s ty → IsPlain ty (tree.convert e) → IsScalar ty
converted_scalar s tree.void e h p = elim p [ ]
converted_scalar (tree.integer s) (tree.integer t) e h p = tt
converted_scalar (tree.atomic s) (tree.integer t) e h p = tt
converted_scalar (tree.pointer s) (tree.pointer t) e h p = tt
converted_scalar s t e h p = elim h [ ]

pub plain_scalar : (c : InScope) (ty : tree.Ty) (node : tree.ExprNode) → IsTypedNode c ty node → IsPlain ty node → IsScalar ty
plain_scalar c ty (tree.num t z) h p = subst IsScalar (sym h.0) tt
plain_scalar c ty tree.null h p = pointer_scalar ty h
plain_scalar c ty (tree.address_of e) h p = subst IsScalar (sym h.2) tt
plain_scalar c ty (tree.decay e) h p = subst IsScalar (sym h.2.3) tt
plain_scalar c ty (tree.convert e) h p = converted_scalar (tree.type_of e) ty e h.1 p
plain_scalar c ty (tree.not_ e) h p = subst IsScalar (sym h.2) tt
plain_scalar c ty (tree.binary op a b) h p = subst IsScalar (sym h.3) (number_result op (tree.type_of a) (number_operands op (tree.type_of a) (tree.type_of b) h.2).0)
plain_scalar c ty (tree.and_also a b) h p = subst IsScalar (sym h.4) tt
plain_scalar c ty (tree.or_else a b) h p = subst IsScalar (sym h.4) tt
plain_scalar c ty (tree.choose a b d) h p = integer_scalar ty h.4
plain_scalar c ty (tree.pointer_add a b) h p = moved_result c.structs (tree.type_of a) (tree.type_of b) ty h.2
plain_scalar c ty (tree.pointer_sub a b) h p = subst IsScalar (sym h.4) (pointer_scalar (tree.type_of a) (sized_pointer c.structs (tree.type_of a) h.2))
plain_scalar c ty (tree.pointer_diff a b) h p = subst IsScalar (sym h.4) tt
plain_scalar c ty (tree.pointer_compare op a b) h p = subst IsScalar (sym h.5) tt
plain_scalar c ty (tree.pointer_test e) h p = subst IsScalar (sym h.2) tt
plain_scalar c ty node h p = elim p [ ]

convert_no_struct : (c : InScope) (ty : tree.Ty) (e : tree.Expr) → IsTypedNode c ty (tree.convert e) → is_struct ty ≡ false
convert_no_struct c ty e h = converts_no_struct (tree.type_of e) ty h.1

call_no_struct : (s : Site) → Stands s → (ty : tree.Ty) (number : ℕ) (all : tree.Exprs) → IsTypedNode (inside_at s).context ty (tree.call number all) → is_struct ty ≡ false
call_no_struct s f ty number all h = let g = called_func s.typed number all ty f.well h.1 in same_struct ty g.func.result g.result (result_no_struct g.func.result g.well.result)

-- an expression of a struct's type is an object
pub struct_lvalue : (s : Site) → Stands s → (ty : tree.Ty) (node : tree.ExprNode) → IsTypedNode (inside_at s).context ty node → is_struct ty ≡ true → IsLvalue node
struct_lvalue s f ty (tree.literal n) h e = tt
struct_lvalue s f ty (tree.global n) h e = tt
struct_lvalue s f ty (tree.local n) h e = tt
struct_lvalue s f ty (tree.deref d) h e = tt
struct_lvalue s f ty (tree.member d m) h e = tt
struct_lvalue s f ty (tree.call number all) h e = let n = call_no_struct s f ty number all h in absurd cc
struct_lvalue s f ty (tree.lib which all) h e = let n = lib_no_struct (inside_at s).context which all ty h.1 in absurd cc
struct_lvalue s f ty (tree.convert d) h e = let n = convert_no_struct (inside_at s).context ty d h in absurd cc
struct_lvalue s f ty (tree.num t z) h e = let n = scalar_no_struct ty (plain_scalar (inside_at s).context ty (tree.num t z) h tt) in absurd cc
struct_lvalue s f ty tree.null h e = let n = scalar_no_struct ty (plain_scalar (inside_at s).context ty tree.null h tt) in absurd cc
struct_lvalue s f ty (tree.address_of d) h e = let n = scalar_no_struct ty (plain_scalar (inside_at s).context ty (tree.address_of d) h tt) in absurd cc
struct_lvalue s f ty (tree.decay d) h e = let n = scalar_no_struct ty (plain_scalar (inside_at s).context ty (tree.decay d) h tt) in absurd cc
struct_lvalue s f ty (tree.not_ d) h e = let n = scalar_no_struct ty (plain_scalar (inside_at s).context ty (tree.not_ d) h tt) in absurd cc
struct_lvalue s f ty (tree.binary op a b) h e = let n = scalar_no_struct ty (plain_scalar (inside_at s).context ty (tree.binary op a b) h tt) in absurd cc
struct_lvalue s f ty (tree.and_also a b) h e = let n = scalar_no_struct ty (plain_scalar (inside_at s).context ty (tree.and_also a b) h tt) in absurd cc
struct_lvalue s f ty (tree.or_else a b) h e = let n = scalar_no_struct ty (plain_scalar (inside_at s).context ty (tree.or_else a b) h tt) in absurd cc
struct_lvalue s f ty (tree.choose a b d) h e = let n = scalar_no_struct ty (plain_scalar (inside_at s).context ty (tree.choose a b d) h tt) in absurd cc
struct_lvalue s f ty (tree.pointer_add a b) h e = let n = scalar_no_struct ty (plain_scalar (inside_at s).context ty (tree.pointer_add a b) h tt) in absurd cc
struct_lvalue s f ty (tree.pointer_sub a b) h e = let n = scalar_no_struct ty (plain_scalar (inside_at s).context ty (tree.pointer_sub a b) h tt) in absurd cc
struct_lvalue s f ty (tree.pointer_diff a b) h e = let n = scalar_no_struct ty (plain_scalar (inside_at s).context ty (tree.pointer_diff a b) h tt) in absurd cc
struct_lvalue s f ty (tree.pointer_compare op a b) h e = let n = scalar_no_struct ty (plain_scalar (inside_at s).context ty (tree.pointer_compare op a b) h tt) in absurd cc
struct_lvalue s f ty (tree.pointer_test d) h e = let n = scalar_no_struct ty (plain_scalar (inside_at s).context ty (tree.pointer_test d) h tt) in absurd cc

pub struct_expr_lvalue : (s : Site) → Stands s → (e : tree.Expr) → IsTyped (inside_at s).context e → is_struct (tree.type_of e) ≡ true → IsLvalue (tree.node_of e)
struct_expr_lvalue s f (tree.at place ty node) t h = struct_lvalue s f ty node t h

pub is_scalar_type : (ty : tree.Ty) → is_scalar ty ≡ true → HasValues ty
is_scalar_type (tree.integer t) e = tt
is_scalar_type (tree.atomic t) e = tt
is_scalar_type (tree.pointer t) e = tt
is_scalar_type tree.void e = absurd cc
is_scalar_type tree.mutex e = absurd cc
is_scalar_type (tree.array t n) e = absurd cc
is_scalar_type (tree.structure n) e = absurd cc
