-- Judging expressions, types and declarators where they stand, from left to right: the typed form, or all the faults (C11 6.5 to 6.7).
use Rattle.std.specs.Prelude.{ℕ, zero, suc, ◌+◌, nat_le, Bool, false, ◌&&◌, ◌||◌, not, if◌then◌else◌, List, [], ◌∷◌, ◌++◌, length, map, Option, Some, None, ℤ, pos, ◌+ℤ◌, unsigned_abs, int_le}
use Rattle.std.specs.List.{list_any}
use Rattle.std.specs.Str.{bytes_eq}
use Rattle.ak_words.specs.declared.int_type.IntType.{IntType}
use Rattle.ak_words.specs.declared.number.Num.{Num}
use Rattle.ak_words.specs.IntType.{char, int, unsigned_long, is_held}
use Rattle.c_lex.specs.declared.refusal.Kind.{Kind}
use Rattle.c_lex.specs.declared.refusal.Kind.TheVariants.{UnknownName, DoubleName, TypeMismatch, BadSize, OutsideSubset, TooMany}
use Rattle.c_tree.specs.declared.syntax.Name.{Name}
use Rattle.c_tree.specs.declared.syntax.Span.{Span}
use Rattle.c_tree.specs.declared.syntax.TypeWord.{TypeWord}
use Rattle.c_tree.specs.declared.syntax.Pointer.{Pointer}
use Rattle.c_tree.specs.declared.syntax.PrefixOp.{PrefixOp}
use Rattle.c_tree.specs.declared.syntax.PrefixOp.TheVariants as prefixes
use Rattle.c_tree.specs.declared.syntax.BinaryOp.{BinaryOp}
use Rattle.c_tree.specs.declared.syntax.BinaryOp.TheVariants as binaries
use Rattle.c_tree.specs.Syntax as source
use Rattle.c_tree.specs.Typed.{Ty, void, integer, atomic, mutex, pointer, array, structure, Piece, Expr, at, num, null, literal, global, local, deref, and_also, or_else, call, lib, Exprs, no_exprs, more_exprs, type_of, node_of, place_of, exprs_of}
use Rattle.c_tree.specs.Typed as trees
use Rattle.c_tree.specs.TypedLayout.{laid_out, greatest_object}
use Rattle.c_typing.specs.Faults.{Judged, typed, faulty, refuse, unless, both, mapped, ◌>>=◌}
use Rattle.c_typing.specs.Types.{same_type, same_types, has_size, is_small, says_nothing, is_atomic_word, atomic_by, named_by, behind_pointers, arrays_of, depth_of, most_depth}
use Rattle.c_typing.specs.Scope.{Library, printf, malloc, calloc, realloc, free, memcpy, thrd_create, thrd_join, mtx_init, mtx_lock, mtx_unlock, mtx_destroy, atomic_store, atomic_load, atomic_add, atomic_sub, atomic_swap, atomic_compare, constant, atomic_type}
use Rattle.c_typing.specs.Scope.{Binding, global_name, local_name, function_name, enumerator_name, type_name, library_name, Context, bytes_of, meaning_of, fresh, within, fits_plain, tag_number, is_struct_tag, with_new_struct, with_tag, is_begun, with_begun, is_enum_tag, is_listed, with_enum, with_listed, with_enumerator, with_struct}
use Rattle.c_typing.specs.Rules.{value_of, is_zero, fitted, or_mismatch, tested, target, address, selected, pointed, minus_by, plus_by, not_by, complement_by, operated, element, chosen, cast, size_number}
use Rattle.c_typing.specs.Constants.{constant_value}
use Rattle.c_typing.specs.Formats.{pieces_of, arguments_for}
use Rattle.c_typing.specs.Literals.{joined_bytes, place_of_parts}
use Rattle.c_tree.specs.TypedForm.{taken}

-- ---- judging in the order of the text

-- a node is judged where it stands, and leaves what the text has shown up to its end
abbrev pub Judging : Type 0 → Type 0
Judging A = Context → Judged A × Context

-- what shows nothing new
abbrev pub lone : {A : Type 0} → Judged A → Judging A
lone j c = (j, c)

-- two parts, one behind the other
abbrev pub in_turn : {A B : Type 0} → Judging A → Judging B → Judging (A × B)
in_turn a b c = let x = a c in let y = b x.1 in (both x.0 y.0, y.1)

-- a node by a rule on its typed parts
abbrev pub ruled : {A B : Type 0} → Judging A → (Context → A → Judged B) → Judging B
ruled a rule c = let x = a c in (x.0 >>= rule x.1, x.1)

-- ---- names and literals

-- a name of the library where an expression stands: a constant is its number; a function of the library is called only
abbrev pub named_by_library : ℕ → Library → Judged Expr
named_by_library place (constant value) = typed (at place (integer int) (num int value))
named_by_library place which = refuse place (OutsideSubset 12)

-- a name where an expression stands, by what it means: an object or a constant; a function's name is called only, or begins a thread
-- (6.5.1); a type's name is none
abbrev pub named : ℕ → Option Binding → Judged Expr
named place (Some (global_name n t)) = typed (at place t (global n))
named place (Some (local_name n t)) = typed (at place t (local n))
named place (Some (function_name n params result)) = refuse place (OutsideSubset 12)
named place (Some (enumerator_name value)) = typed (at place (integer int) (num int value))
named place (Some (type_name t)) = refuse place UnknownName
named place (Some (library_name which)) = named_by_library place which
named place None = refuse place UnknownName

-- a literal is an array of char (6.4.5 p6), and a block of its own
abbrev pub with_literal : Context → List ℕ → Context
with_literal c all = record c { literals = c.literals ++ all ∷ []; plain = c.plain + taken (length all) }

-- a string literal at its place: the next literal of the program, an array of char with an element for each of its bytes
abbrev pub spelled : ℕ → List ℕ → Judging Expr
spelled place all c =
    (mapped (λ u. at place (array (integer char) (length all)) (literal (length c.literals))) (fits_plain c place (length all)), with_literal c all)

-- a name in brackets or not
abbrev pub name_in : source.Expr → Option Name
name_in (source.name n) = Some n
name_in (source.group e) = name_in e
name_in e = None

-- a string literal in brackets or not
abbrev pub text_in : source.Expr → Option (List Span)
text_in (source.text parts) = Some parts
text_in (source.group e) = text_in e
text_in e = None

-- the place of a node: that of its operator, name or first token, in brackets or not
abbrev pub node_place : source.Expr → ℕ
node_place (source.name n) = n.from
node_place (source.call callee args) = callee.from
node_place (source.int place value) = place
node_place (source.char place value) = place
node_place (source.text parts) = place_of_parts parts
node_place (source.null place) = place
node_place (source.group e) = node_place e
node_place (source.prefix place op e) = place
node_place (source.sizeof_type place t) = place
node_place (source.sizeof_expr place e) = place
node_place (source.cast place t e) = place
node_place (source.index place a b) = place
node_place (source.member place e m) = place
node_place (source.arrow place e m) = place
node_place (source.binary place op a b) = place
node_place (source.conditional place e a b) = place

-- the local whose address `&` takes is in memory (6.5.3.2 p1)
abbrev pub with_addressed : Context → Option Binding → Context
with_addressed c (Some (local_name n t)) = record c { addressed = c.addressed ++ n ∷ [] }
with_addressed c m = c

-- what a name means, if there is a name
abbrev pub meaning_in : Context → Option Name → Option Binding
meaning_in c None = None
meaning_in c (Some n) = meaning_of c n

-- ---- operators

-- an operand's value
abbrev pub valued : Judging Expr → Judging Expr
valued e = ruled e (λ c x. typed (value_of x))

-- a binary operator on two values (6.5.13, 6.5.14 for && and ||, whose operands are conditions)
abbrev pub combined : Context → ℕ → BinaryOp → Expr → Expr → Judged Expr
combined c place (binaries.Value op) a b = operated c place op a b
combined c place binaries.AndAnd a b = both (tested place a) (tested place b) >>= λ p. typed (at place (integer int) (and_also p.0 p.1))
combined c place binaries.OrOr a b = both (tested place a) (tested place b) >>= λ p. typed (at place (integer int) (or_else p.0 p.1))

-- a prefix operator on what it takes: `&` an object, and the others a value (C11 6.5.3.2, 6.5.3.3)
abbrev pub prefixed_by : ℕ → PrefixOp → Expr → Judged Expr
prefixed_by place prefixes.Minus x = minus_by place (type_of x) x
prefixed_by place prefixes.Plus x = plus_by place (type_of x) x
prefixed_by place prefixes.Not x = not_by place (type_of x) x
prefixed_by place prefixes.Complement x = complement_by place (type_of x) x
prefixed_by place prefixes.Deref x = target place x
prefixed_by place prefixes.AddressOf x = address place x

-- `&` of an expression, which may be a name: it takes it as an object, which is in memory where it is a local
abbrev pub addressing : ℕ → Option Name → Judging Expr → Judging Expr
addressing place n e c = let x = e c in (x.0 >>= prefixed_by place prefixes.AddressOf, with_addressed x.1 (meaning_in x.1 n))

-- a prefix operator on an expression, which may be a name
abbrev pub prefixed : ℕ → PrefixOp → Option Name → Judging Expr → Judging Expr
prefixed place prefixes.AddressOf n e = addressing place n e
prefixed place op n e = ruled (valued e) (λ c x. prefixed_by place op x)

-- a choice between two by a condition (C11 6.5.15)
abbrev pub choice : (place : ℕ) → (e a b : Expr) → Judged Expr
choice place e a b = tested place e >>= λ t. chosen place t a b

-- ---- calls (6.5.2.2)

-- an argument before those behind it, if all of them fit their parameters
abbrev pub before_fitted : Option Expr → Option (List Expr) → Option (List Expr)
before_fitted (Some e) (Some es) = Some (e ∷ es)
before_fitted None es = None
before_fitted (Some e) None = None

-- as many arguments as parameters, each fitted to its own
abbrev pub fitted_all : List Ty → List Expr → Option (List Expr)
fitted_all [] [] = Some []
fitted_all (t ∷ ts) (e ∷ es) = before_fitted (fitted t e) (fitted_all ts es)
fitted_all [] (e ∷ es) = None
fitted_all (t ∷ ts) [] = None

-- a call of a function, at its name
abbrev pub called : (place n : ℕ) → (params : List Ty) → (result : Ty) → List Expr → Judged Expr
called place n params result args = or_mismatch place (fitted_all params args) >>= λ es. typed (at place result (call n (exprs_of es)))

-- a call of a name of the library, at its name
abbrev pub called_lib : (place : ℕ) → trees.Lib → (params : List Ty) → (result : Ty) → List Expr → Judged Expr
called_lib place which params result args =
    or_mismatch place (fitted_all params args) >>= λ es. typed (at place result (lib which (exprs_of es)))

-- a format, which is a string literal and makes no block, and so is one of the language
abbrev pub format_by : ℕ → Option (List Piece) → Judged (List Piece)
format_by place (Some pieces) = typed pieces
format_by place None = refuse place (OutsideSubset 15)

-- the first argument of printf: the pieces of a string literal; anything else is judged for its faults, and is outside the
-- language (this project's profile)
abbrev pub format_or : Option (List Span) → (place : ℕ) → Judging Expr → Judging (List Piece)
format_or (Some parts) place e c = (format_by place (pieces_of (joined_bytes c.text parts)), c)
format_or None place e c = ruled e (λ d x. refuse place (OutsideSubset 15)) c

-- the place of the first argument past so many, if there is one
abbrev pub place_past : (most : ℕ) → source.Exprs → Option ℕ
place_past most source.no_exprs = None
place_past zero (source.more_exprs e rest) = Some (node_place e)
place_past (suc n) (source.more_exprs e rest) = place_past n rest

-- nothing is wrong where no argument stands past the limit; where one does, it is one too many, at its place
abbrev pub none_past : (count : ℕ) → Option ℕ → Judged (Unit {0})
none_past count None = typed tt
none_past count (Some place) = refuse place (TooMany count)

-- printf, at its name: an argument for each piece that takes one
abbrev pub printed : (place : ℕ) → (List Piece × List Expr) → Judged Expr
printed place p = or_mismatch place (arguments_for p.0 p.1) >>= λ es. typed (at place (integer int) (lib (trees.print p.0) (exprs_of es)))

-- a function `int f(void *)`, with which a thread may begin (7.26.1 p4)
abbrev pub begins_thread : (params : List Ty) → (result : Ty) → Bool
begins_thread params result = same_type result (integer int) && same_types params (pointer void ∷ [])

-- the number of a function, if a thread may begin with it
abbrev pub starting_by : (n : ℕ) → (begins : Bool) → Option ℕ
starting_by n begins = if begins then Some n else None

-- what a thread begins with, by what a name means: the number of a function, or none; nothing is said of what isn't the name of
-- a function
abbrev pub begun_by : Option Binding → Option (Option ℕ)
begun_by (Some (function_name n params result)) = Some (starting_by n (begins_thread params result))
begun_by (Some (library_name (constant value))) = None
begun_by (Some (library_name which)) = Some None
begun_by m = None

-- what a thread begins with; what isn't the name of a function is judged for its faults
abbrev pub begun_or : Option (Option ℕ) → Judging Expr → Judging (Option ℕ)
begun_or (Some begun) e = lone (typed begun)
begun_or None e = ruled e (λ d x. typed None)

-- the second argument of thrd_create, by what it means
abbrev pub starting_or : Option Binding → Judging Expr → Judging (Option ℕ)
starting_or m e = begun_or (begun_by m) e

-- thrd_create, at its name: the place of the number, the function and its argument
abbrev pub started_by : (place : ℕ) → Option ℕ → Option (List Expr) → Judged Expr
started_by place (Some f) (Some es) = typed (at place (integer int) (lib (trees.start f) (exprs_of es)))
started_by place None es = refuse place TypeMismatch
started_by place (Some f) None = refuse place TypeMismatch

-- by its arguments: those before the function, the function if there is one, those behind it
abbrev pub started : (place : ℕ) → (before : List Expr) → Option ℕ → (behind : List Expr) → Judged Expr
started place before f behind = started_by place f (fitted_all (pointer (integer unsigned_long) ∷ pointer void ∷ []) (before ++ behind))

-- the kind of a mutex is the constant 0, which is no operand (this project's profile)
abbrev pub plain_kind : Expr → Judged (Unit {0})
plain_kind e = unless (place_of e) (OutsideSubset 14) (is_zero (node_of e))

-- a call of mtx_init: two arguments, a pointer to the mutex and the kind (C11 7.26.4.2)
abbrev pub init_by : (place : ℕ) → List Expr → Judged Expr
init_by place (m ∷ kind ∷ []) = both (called_lib place trees.mutex_init (pointer mutex ∷ []) (integer int) (m ∷ [])) (plain_kind kind) >>= λ p. typed p.0
init_by place args = refuse place TypeMismatch

-- the type of the atomic number to which a pointer leads, if it leads to one
abbrev pub atomic_at : Ty → Option IntType
atomic_at (pointer (atomic t)) = Some t
atomic_at t = None

-- the type of the one to which the first of these arguments leads
abbrev pub atomic_first : List Expr → Option IntType
atomic_first [] = None
atomic_first (p ∷ args) = atomic_at (type_of p)

-- the types of the arguments of a call on an atomic number of this type (7.17.2.2, 7.17.7)
abbrev pub atomic_params : trees.Lib → IntType → List Ty
atomic_params trees.atomic_compare t = pointer (atomic t) ∷ pointer (integer t) ∷ integer t ∷ []
atomic_params which t = pointer (atomic t) ∷ integer t ∷ []

-- the type of its result: nothing of a store, an int of a compare and exchange, and else the old number (this project's profile)
abbrev pub atomic_result : trees.Lib → IntType → Ty
atomic_result trees.atomic_store t = void
atomic_result trees.atomic_compare t = integer int
atomic_result which t = integer t

-- a call on an atomic number, at its name
abbrev pub called_atomic : (place : ℕ) → trees.Lib → List Expr → Judged Expr
called_atomic place which args = or_mismatch place (atomic_first args) >>= λ t. called_lib place which (atomic_params which t) (atomic_result which t) args

-- a load of an atomic number, at the call's name (7.17.7.2)
abbrev pub loaded : (place : ℕ) → List Expr → Judged Expr
loaded place (p ∷ []) = or_mismatch place (atomic_at (type_of p)) >>= λ t. typed (value_of (at place (atomic t) (deref p)))
loaded place args = refuse place TypeMismatch

-- a name of the library, called with typed arguments
abbrev pub called_library : (place : ℕ) → Library → List Expr → Judged Expr
called_library place malloc args = called_lib place trees.malloc (integer unsigned_long ∷ []) (pointer void) args
called_library place calloc args = called_lib place trees.calloc (integer unsigned_long ∷ integer unsigned_long ∷ []) (pointer void) args
called_library place realloc args = called_lib place trees.realloc (pointer void ∷ integer unsigned_long ∷ []) (pointer void) args
called_library place free args = called_lib place trees.free (pointer void ∷ []) void args
called_library place memcpy args = called_lib place trees.copy (pointer void ∷ pointer void ∷ integer unsigned_long ∷ []) (pointer void) args
called_library place thrd_join args = called_lib place trees.join (integer unsigned_long ∷ pointer (integer int) ∷ []) (integer int) args
called_library place mtx_init args = init_by place args
called_library place mtx_lock args = called_lib place trees.mutex_lock (pointer mutex ∷ []) (integer int) args
called_library place mtx_unlock args = called_lib place trees.mutex_unlock (pointer mutex ∷ []) (integer int) args
called_library place mtx_destroy args = called_lib place trees.mutex_destroy (pointer mutex ∷ []) void args
called_library place atomic_store args = called_atomic place trees.atomic_store args
called_library place atomic_load args = loaded place args
called_library place atomic_add args = called_atomic place trees.atomic_add args
called_library place atomic_sub args = called_atomic place trees.atomic_sub args
called_library place atomic_swap args = called_atomic place trees.atomic_swap args
called_library place atomic_compare args = called_atomic place trees.atomic_compare args
called_library place which args = refuse place TypeMismatch

-- a fault at a place, whatever the arguments are
abbrev pub no_call : (place : ℕ) → Kind → Judging (List Expr) → Judging Expr
no_call place kind args = ruled (in_turn (lone (refuse {A = Unit {0}} place kind)) args) (λ c p. refuse place kind)

-- a call, by what its name means; a name is looked up whether or not the arguments are typed
abbrev pub called_as : Option Binding → (place : ℕ) → (args : Judging (List Expr)) → Judging Expr
called_as (Some (function_name n params result)) place args = ruled args (λ c es. called place n params result es)
called_as (Some (library_name which)) place args = ruled args (λ c es. called_library place which es)
called_as (Some m) place args = no_call place TypeMismatch args
called_as None place args = no_call place UnknownName args

-- the same, where printf and thrd_create judge their arguments in ways of their own
abbrev pub called_by : Option Binding → (place : ℕ) → (args : Judging (List Expr)) → (print start : Judging Expr) → Judging Expr
called_by (Some (library_name printf)) place args print start = print
called_by (Some (library_name thrd_create)) place args print start = start
called_by m place args print start = called_as m place args

-- ---- specifiers (6.7.2)

-- a word, or a type of its own: a struct, an enum, or what the name of a type stands for
pub data Part : Type 0 where
  word : (w : TypeWord) → Part
  whole : (t : Ty) → Part

-- the words among specifiers, without those that say nothing of the type
abbrev pub words_of : List Part → List TypeWord
words_of [] = []
words_of (word w ∷ rest) = if says_nothing w then words_of rest else w ∷ words_of rest
words_of (whole t ∷ rest) = words_of rest

-- how often _Atomic stands among specifiers
abbrev pub atomics_in : List Part → ℕ
atomics_in [] = 0
atomics_in (word w ∷ rest) = if is_atomic_word w then 1 + atomics_in rest else atomics_in rest
atomics_in (whole t ∷ rest) = atomics_in rest

-- the types of their own among specifiers
abbrev pub wholes_of : List Part → List Ty
wholes_of [] = []
wholes_of (word w ∷ rest) = wholes_of rest
wholes_of (whole t ∷ rest) = t ∷ wholes_of rest

-- the type that specifiers name: words that name one, or one type of its own
abbrev pub type_by : List Ty → List TypeWord → Option Ty
type_by [] ws = named_by ws
type_by (t ∷ []) [] = Some t
type_by wholes ws = None

-- the type that they name, if they name one, with _Atomic so often beside it
abbrev pub atomic_if : (count : ℕ) → Option Ty → Option Ty
atomic_if count None = None
atomic_if count (Some t) = atomic_by count t

-- the type that specifiers name; where they name none, a mismatch at this place (C11 6.7.2 p2)
abbrev pub specified : (place : ℕ) → List Part → Judged Ty
specified place parts = or_mismatch place (atomic_if (atomics_in parts) (type_by (wholes_of parts) (words_of parts)))

-- the place of the first specifier
abbrev pub place_of_spec : source.Spec → ℕ
place_of_spec (source.word place w) = place
place_of_spec (source.struct place t) = place
place_of_spec (source.struct_body place t inside) = place
place_of_spec (source.unnamed_struct place inside) = place
place_of_spec (source.enum place t) = place
place_of_spec (source.enum_body place t list) = place
place_of_spec (source.unnamed_enum place list) = place
place_of_spec (source.alias n) = n.from

-- the place of a row of specifiers, that of its first
abbrev pub place_of_specs : source.Specs → ℕ
place_of_specs source.no_specs = 0
place_of_specs (source.more_specs s rest) = place_of_spec s

-- the type that they name, at the place of the first
abbrev pub specs_by : source.Specs → Judging (List Part) → Judging Ty
specs_by specs parts = ruled parts (λ c all. specified (place_of_specs specs) all)

-- ---- declarators (6.7.6)

-- a declarator, once its sizes are known
pub record Declarator : Type 0 where
  pub name : Name
  pub pointers : List Pointer
  pub sizes : List ℕ

-- the type that a declarator makes of another
abbrev pub declared_type : Ty → List Pointer → List ℕ → Ty
declared_type t pointers sizes = arrays_of (behind_pointers t pointers) sizes

-- the size of an array: an integer constant expression from 1 to the greatest object's size, at its own place
abbrev pub dimension_by : ℕ → Option Num → Judged ℕ
dimension_by place None = refuse place BadSize
dimension_by place (Some n) =
    if int_le (pos 1) n.value && int_le n.value (pos greatest_object) then typed (unsigned_abs n.value) else refuse place BadSize

-- the size of an array, by what is written between the brackets and its typed form
abbrev pub dimension : source.Expr → Context → Expr → Judged ℕ
dimension e c x = dimension_by (node_place e) (constant_value c e x)

-- the size of an array, by the expression that stands between the brackets
abbrev pub array_size : source.Expr → Judging Expr → Judging ℕ
array_size e x = ruled (valued x) (dimension e)

-- a type is made of 64 stars and brackets at most
abbrev pub fits_depth : (place : ℕ) → Ty → Judged (Unit {0})
fits_depth place t = unless place (TooMany 15) (nat_le (depth_of t) most_depth)

-- an object has a size, at most the greatest object's, and not too many stars and brackets
abbrev pub object_type : Context → (place : ℕ) → Ty → Judged Ty
object_type c place t = both (unless place BadSize (has_size c.structs t && is_small c.structs t)) (fits_depth place t) >>= λ u. typed t

-- the type of a type name or of a function's result
abbrev pub plain_type : (place : ℕ) → Ty → Judged Ty
plain_type place t = fits_depth place t >>= λ u. typed t

-- the type of the object that a declarator declares; where it has no size or too great a one, a fault at its name
abbrev pub object_declared : Context → Ty → Declarator → Judged Ty
object_declared c t d = object_type c d.name.from (declared_type t d.pointers d.sizes)

-- ---- members of a struct (6.7.2.1)

-- the names that declarators declare
abbrev pub names_in : source.Declarators → List Name
names_in source.no_declarators = []
names_in (source.more_declarators (source.declarator pointers n dims) rest) = n ∷ names_in rest

-- the names that one declaration of members declares
abbrev pub names_of_member : source.Member → List Name
names_of_member (source.members_of specs declarators) = names_in declarators

-- the members of a struct, of which there are 256 at most
abbrev pub most_members : ℕ
most_members = 256

-- a member of this name stands before; behind one too many no names are compared, since the fault that is named stands there or before
abbrev pub is_again : Context → (before : List Name) → Name → Bool
is_again c before n = nat_le (length before) most_members && list_any (λ m. bytes_eq (bytes_of c.text n) (bytes_of c.text m)) before

-- a member's name is declared once in its struct, and there are 256 at most
abbrev pub fresh_member : Context → (before : List Name) → Name → Judged (Unit {0})
fresh_member c before n = both (unless n.from DoubleName (not (is_again c before n))) (within n.from 4 most_members (length before)) >>= λ u. typed tt

-- the type of the object that a declarator declares, by the type that its specifiers name and the sizes of its arrays
abbrev pub object_by : (base : Judged Ty) → List Pointer → Name → Judging (List ℕ) → Judging Ty
object_by base pointers n sizes =
    ruled (in_turn (lone base) sizes) (λ d p. object_declared d p.0 (record { name = n; pointers = pointers; sizes = p.1 }))

-- a member by its declarator: its name among those before it, and beside that its object's type
abbrev pub member_by : (before : List Name) → (base : Judged Ty) → List Pointer → Name → Judging (List ℕ) → Judging (List ℕ × Ty)
member_by before base pointers n sizes c =
    ruled (in_turn (lone (fresh_member c before n)) (object_by base pointers n sizes)) (λ d p. typed (bytes_of d.text n, p.1)) c

-- a struct's size is at most the greatest object's
abbrev pub struct_fits : Context → (place : ℕ) → List (List ℕ × Ty) → Judged (List (List ℕ × Ty))
struct_fits c place all =
    unless place BadSize (nat_le (laid_out c.structs (map (λ (m : List ℕ × Ty). m.1) all)).size greatest_object) >>= λ u. typed all

-- behind the closing brace the struct is declared
abbrev pub closed : Context → (number : ℕ) → Judged (List (List ℕ × Ty)) → Context
closed c number (typed all) = with_struct c number all
closed c number (faulty r rs) = c

-- the tag of a struct is no enum's (6.7.2.3 p2)
abbrev pub is_no_enum : Context → Name → Judged (Unit {0})
is_no_enum c t = unless t.from DoubleName (not (is_enum_tag c t))

-- there are 256 structs with braces at most
abbrev pub braces_fit : Context → (place : ℕ) → Judged (Unit {0})
braces_fit c place = within place 3 256 (length c.begun)

-- a tag's braces: once (6.7.2.3 p1)
abbrev pub opened : Context → Name → Judged (Unit {0})
opened c t = both (unless t.from DoubleName (not (is_begun c (tag_number c t)))) (both (is_no_enum c t) (braces_fit c t.from)) >>= λ u. typed tt

-- the members of a struct up to the closing brace; the second braces of a tag declare nothing
abbrev pub fitting : (place number : ℕ) → (again : Bool) → Judging (List (List ℕ × Ty)) → Judging (List (List ℕ × Ty))
fitting place number again members c =
    let x = members c in
    let all = x.0 >>= struct_fits x.1 place in
    (all, if again then x.1 else closed x.1 number all)

-- the braces of a struct, by what was judged of the opening one
abbrev pub closing : (place number : ℕ) → (opening : Judged (Unit {0})) → (again : Bool) → Judging (List (List ℕ × Ty)) → Judging Part
closing place number opening again members = ruled (in_turn (lone opening) (fitting place number again members)) (λ d p. typed (whole (structure number)))

-- the braces of a struct, behind its tag
abbrev pub braced : Name → Judging (List (List ℕ × Ty)) → Judging Part
braced t members around =
    let c = with_tag around t in
    let number = tag_number c t in
    closing t.from number (opened c t) (is_begun c number) members (with_begun c number)

-- the braces of a struct without a tag, at its word
abbrev pub braced_alone : (place : ℕ) → Judging (List (List ℕ × Ty)) → Judging Part
braced_alone place members around =
    let c = with_new_struct around [] in
    let number = length around.structs in
    closing place number (braces_fit c place) false members (with_begun c number)

-- a struct by its tag; one that wasn't named before isn't declared
abbrev pub tagged : Name → Judging Part
tagged t c = let d = with_tag c t in (is_no_enum c t >>= λ u. typed (whole (structure (tag_number d t))), d)

-- ---- enums, which are int (6.7.2.2; this project's profile)

-- an enum by its tag, which is declared and no struct's (6.7.2.3 p2, p3)
abbrev pub enum_tagged : Context → Name → Judged Part
enum_tagged c t = if is_struct_tag c t then refuse t.from DoubleName else unless t.from UnknownName (is_listed c t) >>= λ u. typed (whole (integer int))

-- the braces of an enum's tag, which has none yet and is no struct's (6.7.2.3 p1)
abbrev pub enum_opened : Context → Name → Judged (Unit {0})
enum_opened c t = unless t.from DoubleName (not (is_enum_tag c t || is_struct_tag c t))

-- the value of an enumerator is an int; where there is none, or another, a mismatch at its name (6.7.2.2 p2)
abbrev pub enumerator_value : (place : ℕ) → Option ℤ → Judged ℤ
enumerator_value place None = refuse place TypeMismatch
enumerator_value place (Some z) = unless place TypeMismatch (is_held int z) >>= λ u. typed z

-- the value of an integer constant expression, as a whole number
abbrev pub whole_value : Option Num → Option ℤ
whole_value None = None
whole_value (Some n) = Some n.value

-- 4,096 enumerators at most
abbrev pub most_enumerators : ℕ
most_enumerators = 4096

-- what is judged at an enumerator's name, whatever its value is
abbrev pub enumerator_fine : Context → Name → Judged (Unit {0} × Unit {0})
enumerator_fine c n = both (fresh c n) (within n.from 12 most_enumerators c.enumerators)

-- an enumerator's value, or 0 where it is at fault: what follows from it is then nowhere seen
abbrev pub or_zero : Judged ℤ → ℤ
or_zero (typed z) = z
or_zero (faulty r rs) = pos 0

-- an enumerator, by its value: its name is in scope directly behind that (6.2.1 p7)
abbrev pub enumerated : Name → Judging ℤ → Judging ℤ
enumerated n value around =
    let v = value around in
    (both (enumerator_fine v.1 n) v.0 >>= λ p. typed p.1, with_enumerator v.1 n (or_zero v.0))

-- an enumerator, and then those behind it, of which the next is one more if it isn't given (6.7.2.2 p3)
abbrev pub and_behind : Judging ℤ → ((next : ℤ) → Judging (Unit {0})) → Judging (Unit {0})
and_behind first rest c =
    let x = first c in
    let y = rest (or_zero x.0 +ℤ pos 1) x.1 in
    (both x.0 y.0 >>= λ p. typed tt, y.1)

-- the braces of an enum behind its tag
abbrev pub enum_braced : Name → Judging (Unit {0}) → Judging Part
enum_braced t list around =
    let x = list (with_enum around t) in
    (both (enum_opened around t) x.0 >>= λ p. typed (whole (integer int)), with_listed x.1 t)

-- ---- names of types (6.7.8)

-- what the name of a type stands for, which may be one of the library's (7.17.6)
abbrev pub aliased : (place : ℕ) → Option Binding → Judged Part
aliased place (Some (type_name t)) = typed (whole t)
aliased place (Some (library_name (atomic_type t))) = typed (whole (atomic t))
aliased place m = refuse place UnknownName

-- ---- the judgement

abbrev mutual
  -- an expression
  pub judged : source.Expr → Judging Expr
  judged (source.name n) c = (named n.from (meaning_of c n), c)
  judged (source.call callee args) c =
      called_by (meaning_of c callee) callee.from (judged_all args) (judged_print callee.from args) (judged_start callee.from args) c
  judged (source.int place n) c = (typed (at place (integer n.ty) (num n.ty n.value)), c)
  judged (source.char place n) c = (typed (at place (integer n.ty) (num n.ty n.value)), c)
  judged (source.text parts) c = spelled (place_of_parts parts) (joined_bytes c.text parts) c
  judged (source.null place) c = (typed (at place (pointer void) null), c)
  judged (source.group e) c = judged e c
  judged (source.prefix place op e) c = prefixed place op (name_in e) (judged e) c
  judged (source.sizeof_type place t) c = ruled (judged_type t) (λ d s. size_number d place s) c
  judged (source.sizeof_expr place e) c = ruled (judged e) (λ d x. size_number d place (type_of x)) c
  judged (source.cast place t e) c = ruled (in_turn (judged_type t) (valued (judged e))) (λ d p. cast place p.0 p.1) c
  judged (source.index place a b) c = ruled (in_turn (valued (judged a)) (valued (judged b))) (λ d p. element d place p.0 p.1) c
  judged (source.member place e m) c = ruled (judged e) (λ d x. selected d place x m) c
  judged (source.arrow place e m) c = ruled (valued (judged e)) (λ d x. pointed d place x m) c
  judged (source.binary place op a b) c = ruled (in_turn (valued (judged a)) (valued (judged b))) (λ d p. combined d place op p.0 p.1) c
  judged (source.conditional place e a b) c =
      ruled (in_turn (valued (judged e)) (in_turn (valued (judged a)) (valued (judged b)))) (λ d p. choice place p.0 p.1.0 p.1.1) c

  -- arguments, from left to right
  pub judged_all : source.Exprs → Judging (List Expr)
  judged_all source.no_exprs c = (typed [], c)
  judged_all (source.more_exprs e rest) c = ruled (in_turn (valued (judged e)) (judged_all rest)) (λ d p. typed (p.0 ∷ p.1)) c

  -- printf: its format, and then the arguments behind it
  pub judged_print : (place : ℕ) → source.Exprs → Judging Expr
  judged_print place source.no_exprs c = (refuse place TypeMismatch, c)
  judged_print place (source.more_exprs e rest) c =
      ruled (in_turn (lone (none_past 7 (place_past 16 rest))) (in_turn (format_or (text_in e) (node_place e) (judged e)) (judged_all rest)))
      (λ d p. printed place p.1) c

  -- thrd_create: the function is its second argument
  pub judged_start : (place : ℕ) → source.Exprs → Judging Expr
  judged_start place source.no_exprs c = (refuse place TypeMismatch, c)
  judged_start place (source.more_exprs e rest) c =
      ruled (in_turn (valued (judged e)) (judged_started rest)) (λ d p. started place (p.0 ∷ []) p.1.0 p.1.1) c

  -- thrd_create behind its first argument: the function, and the arguments behind that
  pub judged_started : source.Exprs → Judging (Option ℕ × List Expr)
  judged_started source.no_exprs c = (typed (None, []), c)
  judged_started (source.more_exprs e rest) c = in_turn (starting_or (meaning_in c (name_in e)) (judged e)) (judged_all rest) c

  -- the name of a type (6.7.7)
  pub judged_type : source.TypeName → Judging Ty
  judged_type (source.type_name specs pointers) c =
      ruled (specs_by specs (judged_parts specs)) (λ d t. plain_type (place_of_specs specs) (behind_pointers t pointers)) c

  -- specifiers
  pub judged_parts : source.Specs → Judging (List Part)
  judged_parts source.no_specs c = (typed [], c)
  judged_parts (source.more_specs s rest) c = ruled (in_turn (judged_spec s) (judged_parts rest)) (λ d p. typed (p.0 ∷ p.1)) c

  -- a specifier: a word, a struct or an enum by its tag, with what stands between its braces or without (C11 6.7.2.3), one without a tag, or
  -- the name of a type
  pub judged_spec : source.Spec → Judging Part
  judged_spec (source.word place w) c = (typed (word w), c)
  judged_spec (source.struct place t) c = tagged t c
  judged_spec (source.struct_body place t members) c = braced t (judged_members [] members) c
  judged_spec (source.unnamed_struct place members) c = braced_alone place (judged_members [] members) c
  judged_spec (source.enum place t) c = (enum_tagged c t, c)
  judged_spec (source.enum_body place t list) c = enum_braced t (judged_enumerators (pos 0) list) c
  judged_spec (source.unnamed_enum place list) c = ruled (judged_enumerators (pos 0) list) (λ d u. typed (whole (integer int))) c
  judged_spec (source.alias n) c = (aliased n.from (meaning_of c n), c)

  -- an enumerator, of this value if none is given
  pub judged_enumerator : (next : ℤ) → source.Enumerator → Judging ℤ
  judged_enumerator next (source.enumerator n comma) c = enumerated n (lone (enumerator_value n.from (Some next))) c
  judged_enumerator next (source.valued n e comma) c =
      enumerated n (ruled (valued (judged e)) (λ d x. enumerator_value n.from (whole_value (constant_value d e x)))) c

  -- enumerators, the first of this value if none is given
  pub judged_enumerators : (next : ℤ) → source.Enumerators → Judging (Unit {0})
  judged_enumerators next source.no_enumerators c = (typed tt, c)
  judged_enumerators next (source.more_enumerators e rest) c = and_behind (judged_enumerator next e) (λ z. judged_enumerators z rest) c

  -- the members of a struct, behind those of these names
  pub judged_members : (before : List Name) → source.Members → Judging (List (List ℕ × Ty))
  judged_members before source.no_members c = (typed [], c)
  judged_members before (source.more_members m rest) c =
      ruled (in_turn (judged_member before m) (judged_members (before ++ names_of_member m) rest)) (λ d p. typed (p.0 ++ p.1)) c

  -- members that are declared together, behind those of these names
  pub judged_member : (before : List Name) → source.Member → Judging (List (List ℕ × Ty))
  judged_member before (source.members_of specs declarators) c =
      let base = specs_by specs (judged_parts specs) c in
      let all = judged_declarators before base.0 declarators base.1 in
      (both base.0 all.0 >>= λ p. typed p.1, all.1)

  -- the declarators of such members, each of a name that none before it has, and of an object
  pub judged_declarators : (before : List Name) → (base : Judged Ty) → source.Declarators → Judging (List (List ℕ × Ty))
  judged_declarators before base source.no_declarators c = (typed [], c)
  judged_declarators before base (source.more_declarators (source.declarator pointers n dims) rest) c =
      ruled (in_turn (member_by before base pointers n (judged_dims dims)) (judged_declarators (before ++ n ∷ []) base rest)) (λ d p. typed (p.0 ∷ p.1)) c

  -- the sizes of an array
  pub judged_dims : source.Exprs → Judging (List ℕ)
  judged_dims source.no_exprs c = (typed [], c)
  judged_dims (source.more_exprs e rest) c =
      ruled (in_turn (array_size e (judged e)) (judged_dims rest)) (λ d p. typed (p.0 ∷ p.1)) c

-- the type that specifiers name
abbrev pub judged_specs : source.Specs → Judging Ty
judged_specs specs = specs_by specs (judged_parts specs)
