-- Judging a file: its structs, globals and functions in the order of the text (C11 6.7, 6.9).
use Rattle.std.specs.Prelude.{ℕ, ◌+◌, Bool, true, false, ◌&&◌, ◌||◌, not, if◌then◌else◌, List, [], ◌∷◌, ◌++◌, length, map, codes, Option, Some, None}
use Rattle.std.specs.List.{list_any}
use Rattle.std.specs.Map.{lookup}
use Rattle.std.specs.Str.{bytes_eq}
use Rattle.std.specs.Option.{is_some}
use Rattle.ak_words.specs.declared.int_type.IntType.{IntType}
use Rattle.ak_words.specs.declared.number.Num.{Num}
use Rattle.ak_words.specs.IntType.{char, int}
use Rattle.ak_words.specs.Num.{num as number}
use Rattle.c_lex.specs.declared.refusal.Kind.TheVariants.{UnknownName, DoubleName, TypeMismatch, BadSize, OutsideSubset}
use Rattle.c_tree.specs.declared.syntax.Name.{Name}
use Rattle.c_tree.specs.declared.syntax.Pointer.{Pointer}
use Rattle.c_tree.specs.Syntax as source
use Rattle.c_tree.specs.Typed.{Ty, void, integer, atomic, pointer, array, structure, mutex, Init, zero_bytes, literal_at, GlobalVar, Func, Typed, Expr, ExprNode, literal, decay, node_of, Stmt, stmts_of}
use Rattle.c_tree.specs.Typed as trees
use Rattle.c_tree.specs.TypedLayout.{size_in}
use Rattle.c_typing.specs.Faults.{Judged, typed, faulty, refuse, unless, both, mapped, ◌>>=◌}
use Rattle.c_typing.specs.Types.{same_int, same_type, same_types, is_void, is_array, value_type, is_struct_or_mutex, has_size, behind_pointers, arrays_of}
use Rattle.c_typing.specs.Scope.{Binding, global_name, function_name, type_name, is_double, with_alias, Frame, Context, at_start, bytes_of, library, fresh, declared, inside, back_to, within, fits_plain}
use Rattle.c_typing.specs.Rules.{is_zero}
use Rattle.c_typing.specs.Constants.{constant_value}
use Rattle.c_typing.specs.Judgement.{Judging, lone, in_turn, ruled, valued, judged, judged_specs, place_of_specs, array_size, object_type, plain_type, Declarator}
use Rattle.c_typing.specs.Statements.{or_int, most_locals, with_local, judged_declarator, object_of, name_of, judged_stmts}
use Rattle.c_typing.specs.Numbering.{Param, passed_type, func_of}
use Rattle.c_tree.specs.TypedForm.{taken, in_function}

-- ---- globals (6.9.2, 6.7.9)

-- NULL, in brackets or not
abbrev pub is_null_word : source.Expr → Bool
is_null_word (source.null place) = true
is_null_word (source.group e) = is_null_word e
is_null_word e = false

-- the literal that a value is the first element of
abbrev pub literal_of : ExprNode → Option ℕ
literal_of (decay (trees.at place ty (literal n))) = Some n
literal_of node = None

-- what an integer of this type, also an atomic one, starts with: the value of an integer constant expression, converted
abbrev pub number_at : IntType → Option Num → Option Init
number_at t None = None
number_at t (Some n) = Some (trees.number t (number t n.value).value)

-- what a pointer to this type starts with where its initialiser is a literal: the literal, if the type is char
abbrev pub string_at : Ty → Option ℕ → Option Init
string_at (integer t) (Some n) = if same_int t char then Some (literal_at n) else None
string_at t n = None

-- what a pointer to this type starts with: null for NULL and the constant 0, or a literal (C11 6.7.9 p4)
abbrev pub pointer_at : Context → Ty → source.Expr → Expr → Option Init
pointer_at c t e x = if is_null_word e || is_zero (node_of x) then Some zero_bytes else string_at t (literal_of (node_of x))

-- what a global of this type starts with, by its initialiser as it is written and as it is typed; arrays, structs and mutexes
-- have none (this project's profile)
abbrev pub init_at : Context → Ty → source.Expr → Expr → Option Init
init_at c (integer t) e x = number_at t (constant_value c e x)
init_at c (atomic t) e x = number_at t (constant_value c e x)
init_at c (pointer t) e x = pointer_at c t e x
init_at c t e x = None

-- what a global starts with; a mismatch at its name where it can't start so
abbrev pub started_with : (place : ℕ) → Option Init → Judged Init
started_with place (Some i) = typed i
started_with place None = refuse place TypeMismatch

-- the initialiser of a global; where there is none it starts with zero bytes (C11 6.7.9 p10)
abbrev pub judged_global_init : (place : ℕ) → Judged Ty → Option source.Expr → Judging Init
judged_global_init place t None c = (typed zero_bytes, c)
judged_global_init place t (Some e) c = ruled (in_turn (lone t) (valued (judged e))) (λ d p. started_with place (init_at d p.0 e p.1)) c

-- behind a global's declarator: it is the last of the globals, its name is in scope, and its bytes are counted
abbrev pub with_global : Context → Name → Ty → Context
with_global c n t = record (declared c n (global_name (length c.globals) t)) { globals = c.globals ++ t ∷ []; plain = c.plain + taken (size_in c.structs t) }

-- what is judged at a global's name
abbrev pub global_fine : Context → Name → Judged Ty → Judged (Unit {0} × (Unit {0} × Unit {0}))
global_fine c n t = both (fresh c n) (both (within n.from 2 4096 (length c.globals)) (t >>= λ s. fits_plain c n.from (size_in c.structs s)))

-- a global, at its name; it is in scope directly behind its declarator
abbrev pub judged_global : Judged Ty → source.InitDeclarator → Judging GlobalVar
judged_global base x around =
    let n = name_of x.declarator in
    let t = object_of base x.declarator around in
    let i = judged_global_init n.from t.0 x.value (with_global t.1 n (or_int t.0)) in
    (both (both (global_fine t.1 n t.0) t.0) i.0 >>= λ p. typed (record { ty = p.0.1; init = p.1 }), i.1)

-- globals that are declared together, in order
abbrev pub judged_globals : Judged Ty → List source.InitDeclarator → Judging (List GlobalVar)
judged_globals base [] c = (typed [], c)
judged_globals base (x ∷ xs) c = ruled (in_turn (judged_global base x) (judged_globals base xs)) (λ d p. typed (p.0 ∷ p.1)) c

-- ---- parameters (6.7.6.3)

-- the place of a parameter: its name, or the first token of its specifiers
abbrev pub place_or : Option Name → ℕ → ℕ
place_or (Some n) place = n.from
place_or None place = place

-- the place of a parameter as it is written
abbrev pub param_place : source.Param → ℕ
param_place p = place_or p.name (place_of_specs (source.specs_of p.specs))

-- a size that lacks, which it may between the outermost brackets alone
abbrev pub lacking : (outermost : Bool) → (place : ℕ) → Judged (Option ℕ)
lacking outermost place = if outermost then typed None else refuse place BadSize

-- a size between brackets, or none
abbrev pub judged_size : (outermost : Bool) → source.ParamDim → Option source.Expr → Judging (Option ℕ)
judged_size outermost d None c = (lacking outermost d.place, c)
judged_size outermost d (Some e) c = ruled (array_size e (judged e)) (λ x n. typed (Some n)) c

-- the sizes that are written, in order, without the one that lacks
abbrev pub known : List (Option ℕ) → List ℕ
known [] = []
known (None ∷ rest) = known rest
known (Some n ∷ rest) = n ∷ known rest

-- the sizes between the brackets behind a parameter, the outermost first
abbrev pub judged_sizes : (outermost : Bool) → List source.ParamDim → Judging (List (Option ℕ))
judged_sizes outermost [] c = (typed [], c)
judged_sizes outermost (d ∷ ds) c = ruled (in_turn (judged_size outermost d d.size) (judged_sizes false ds)) (λ x p. typed (p.0 ∷ p.1)) c

-- an array is a pointer to its elements, and each other type is itself
abbrev pub pointer_for : Ty → Ty
pointer_for (array t n) = pointer t
pointer_for t = t

-- an array becomes a pointer to its elements, which have a size (6.7.6.3 p7, 6.7.6.2 p1), also one that the name of a type stands for
abbrev pub adjusted : Context → (place : ℕ) → Ty → List (Option ℕ) → Judged Ty
adjusted c place t [] = plain_type place (pointer_for t)
adjusted c place t (outermost ∷ inner) = object_type c place (arrays_of t (known inner)) >>= λ element. plain_type place (pointer element)

-- no void and no undeclared struct; other structs and mutexes are outside the language
abbrev pub param_type : Context → (place : ℕ) → Ty → Judged Ty
param_type c place t = unless place BadSize (has_size c.structs t) >>= λ u. unless place (OutsideSubset 13) (not (is_struct_or_mutex t)) >>= λ v. typed t

-- the name of a parameter, if it has one, is new among the parameters (C11 6.7 p3) and none of the library's
abbrev pub fresh_if : Context → Option Name → Judged (Unit {0})
fresh_if c None = typed tt
fresh_if c (Some n) = fresh c n

-- behind a parameter: it is the last of the locals, and its name, if it has one, is in scope
abbrev pub with_param : Context → Option Name → Ty → Context
with_param c None t = record c { locals = c.locals ++ t ∷ [] }
with_param c (Some n) t = with_local c n t

-- the type of a parameter, by the type that its specifiers name, its pointers and its sizes
abbrev pub adjusted_param : Context → (place : ℕ) → (base : Ty) → List Pointer → List (Option ℕ) → Judged Ty
adjusted_param c place base pointers sizes = adjusted c place (behind_pointers base pointers) sizes >>= param_type c place

-- the type of a parameter, behind its specifiers
abbrev pub param_object : (base : Judged Ty) → source.Param → Judging Ty
param_object base p = ruled (in_turn (lone base) (judged_sizes true p.dims)) (λ c x. adjusted_param c (param_place p) x.0 p.pointers x.1)

-- what is judged at a parameter, whatever its type is: there are 16 at most, and they count among the function's locals
abbrev pub param_fine : Context → (place : ℕ) → Option Name → Judged (Unit {0} × (Unit {0} × Unit {0}))
param_fine c place name = both (fresh_if c name) (both (within place 6 16 (length c.locals)) (within place 5 most_locals (length c.locals)))

-- a parameter, behind its specifiers
abbrev pub param_behind : (base : Judged Ty) → source.Param → Judging Param
param_behind base p around =
    let t = param_object base p around in
    (both (param_fine t.1 (param_place p) p.name) t.0 >>= λ x. typed (record { place = param_place p; ty = x.1 }), with_param t.1 p.name (or_int t.0))

-- a parameter
abbrev pub judged_param : source.Param → Judging Param
judged_param p around = let s = judged_specs (source.specs_of p.specs) around in param_behind s.0 p s.1

-- parameters, from left to right
abbrev pub judged_params : List source.Param → Judging (List Param)
judged_params [] c = (typed [], c)
judged_params (p ∷ ps) c = ruled (in_turn (judged_param p) (judged_params ps)) (λ d x. typed (x.0 ∷ x.1)) c

-- a single unnamed parameter of type void is none (6.7.6.3 p10)
abbrev pub is_bare_by : Option Name → List source.ParamDim → Bool
is_bare_by None [] = true
is_bare_by n dims = false

-- a parameter without a name and without brackets behind it
abbrev pub is_bare : source.Param → Bool
is_bare p = is_bare_by p.name p.dims

-- the type that was judged is void
abbrev pub void_by : Judged Ty → Bool
void_by (typed t) = is_void t
void_by (faulty r rs) = false

-- a parameter is none where it has no name and no brackets and its type is void
abbrev pub is_none : (base : Judged Ty) → source.Param → Bool
is_none base p = is_bare p && void_by (mapped (λ t. behind_pointers t p.pointers) base)

-- no parameter at all where that is what is written, and else these
abbrev pub none_if : Context → source.Param → (is_none : Bool) → Judging (List Param) → Judging (List Param)
none_if around p true params c = (typed [], (judged_specs (source.specs_of p.specs) c).1)
none_if around p false params c = params c

-- what stands between the brackets of a function's declarator: `void` alone, or parameters
abbrev pub judged_param_list : List source.Param → Judging (List Param)
judged_param_list (p ∷ []) c = none_if c p (is_none (judged_specs (source.specs_of p.specs) c).0 p) (judged_params (p ∷ [])) c
judged_param_list ps c = judged_params ps c

-- ---- functions (6.9.1)

-- the name that an external declaration gives a body, if it does
abbrev pub defined_name : List ℕ → source.Rest → List (List ℕ)
defined_name text (source.function pointers n params (Some body)) = bytes_of text n ∷ []
defined_name text rest = []

-- the name that it gives a body, if it does; a typedef gives none
abbrev pub defined_by : List ℕ → source.External → List (List ℕ)
defined_by text (source.types_by specs declarators) = []
defined_by text (source.external_of storage specs rest) = defined_name text rest

-- the names of the functions of a file that have a body, in the order of the text: a function's number is its place among them
abbrev pub defined_names : List ℕ → List source.External → List (List ℕ)
defined_names text [] = []
defined_names text (x ∷ xs) = defined_by text x ++ defined_names text xs

-- how many names stand before this one: a function's number among those that have a body
abbrev pub place_of_name : List ℕ → List (List ℕ) → ℕ
place_of_name q [] = 0
place_of_name q (name ∷ names) = if bytes_eq q name then 0 else 1 + place_of_name q names

-- a function's name meant nothing before at file scope, or a function (6.7 p3, p4)
abbrev pub once : (place : ℕ) → Option Binding → Judged (Unit {0})
once place (Some (function_name n ps r)) = typed tt
once place (Some m) = refuse place DoubleName
once place None = typed tt

-- the type of a function is the one that its name was declared with before, if it was (C11 6.7 p4)
abbrev pub agrees : (place : ℕ) → (params : List Ty) → (result : Ty) → Option Binding → Judged (Unit {0})
agrees place params result (Some (function_name n ps r)) = unless place TypeMismatch (same_types params ps && same_type result r)
agrees place params result m = typed tt

-- the name was not declared as a function before
abbrev pub is_new : Option Binding → Bool
is_new (Some (function_name n ps r)) = false
is_new m = true

-- a function's name where it is first declared: a body for it stands somewhere in the file, and it is within the limit of names
-- (this project's profile)
abbrev pub first_time : Context → (names : List (List ℕ)) → Name → Bool → Judged (Unit {0})
first_time c names n false = typed tt
first_time c names n true =
    both (unless n.from UnknownName (list_any (bytes_eq (bytes_of c.text n)) names)) (within n.from 1 8192 (length c.functions)) >>= λ u. typed tt

-- a function has one body (6.9 p3)
abbrev pub one_body : Context → Name → Option source.Body → Judged (Unit {0})
one_body c n None = typed tt
one_body c n (Some body) = unless n.from DoubleName (not (list_any (bytes_eq (bytes_of c.text n)) c.bodies))

-- what the name meant before at file scope
abbrev pub before_name : Context → Name → Option Binding
before_name c n = lookup (bytes_eq (bytes_of c.text n)) c.inner

-- no name of the library
abbrev pub not_library : Context → Name → Judged (Unit {0})
not_library c n = unless n.from DoubleName (not (is_some (lookup (bytes_eq (bytes_of c.text n)) library)))

-- no array is a result (6.7.6.3 p1), and no struct and no mutex (this project's profile)
abbrev pub result_type : (place : ℕ) → Ty → Judged Ty
result_type place t =
    both (unless place TypeMismatch (not (is_array t))) (unless place (OutsideSubset 13) (not (is_struct_or_mutex t))) >>= λ u. plain_type place t

-- what a function returns, by the type that its specifiers name; of an atomic number the number
abbrev pub result_of : (place : ℕ) → (base : Judged Ty) → List Pointer → Judged Ty
result_of place base pointers = base >>= λ t. result_type place (value_type (behind_pointers t pointers))

-- what is judged at a function's name, whatever its type is
abbrev pub name_fine : Context → (names : List (List ℕ)) → Name → Option source.Body → Judged (Unit {0})
name_fine c names n body =
    both (both (not_library c n) (once n.from (before_name c n))) (both (first_time c names n (is_new (before_name c n))) (one_body c n body)) >>= λ u. typed tt

-- a function that is declared again has the type that it had
abbrev pub type_fine : Context → Name → List Param → Ty → Judged (Unit {0})
type_fine c n params result = agrees n.from (map passed_type params) result (before_name c n)

-- the same, where its parameters and its result are typed
abbrev pub types_fine : Context → Name → Judged (List Param) → Judged Ty → Judged (Unit {0})
types_fine c n params result = both params result >>= λ p. type_fine c n p.0 p.1

-- all that is judged at a function's name
abbrev pub head_fine : Context → (names : List (List ℕ)) → Name → Option source.Body → Judged (List Param) → Judged Ty → Judged (Unit {0} × Unit {0})
head_fine c names n body params result = both (name_fine c names n body) (types_fine c n params result)

-- the types of parameters, or none where one is at fault
abbrev pub types_or : Judged (List Param) → List Ty
types_or (typed ps) = map passed_type ps
types_or (faulty r rs) = []

-- behind its declarator the function's name is in scope
abbrev pub with_name : Context → Name → Context
with_name c n = record c { functions = if list_any (bytes_eq (bytes_of c.text n)) c.functions then c.functions else c.functions ++ bytes_of c.text n ∷ [] }

-- behind a function's declarator: its name is in scope with this type
abbrev pub with_function : Context → (names : List (List ℕ)) → Name → List Ty → Ty → Context
with_function c names n params result = declared (with_name c n) n (function_name (place_of_name (bytes_of c.text n) names) params result)

-- behind a function's body: its name has one
abbrev pub with_body : Context → Name → Context
with_body c n = record c { bodies = if list_any (bytes_eq (bytes_of c.text n)) c.bodies then c.bodies else c.bodies ++ bytes_of c.text n ∷ [] }

-- the parameters of a function stand in a scope of their own (6.2.1 p4), and are the first of its locals
abbrev pub before_params : Context → Context
before_params around = record (inside around) { locals = []; addressed = [] }

-- the body of a function stands in the scope of its parameters (6.2.1 p4), which is around no other
abbrev pub in_scope_of : (params : Frame) → Context → Context
in_scope_of params c = record c { inner = params; outer = c.outer ++ c.inner ∷ [] }

-- the one function that a definition makes, of its parameters, its result and its body
abbrev pub func_by : Judged (List Param) → Judged Ty → Context → Judged (List Stmt) → Judged (List Func)
func_by params result c body = both (both params result) body >>= λ p. typed (func_of p.0.0 c.locals c.addressed p.0.1 (stmts_of p.1) ∷ [])

-- its body, or none
abbrev pub judged_body : Judged (List Param) → Judged Ty → Option source.Body → Judging (List Func)
judged_body params result None c = (typed [], c)
judged_body params result (Some body) c =
    let x = judged_stmts (or_int result) in_function (source.stmts_of body.items) c in (func_by params result x.1 x.0, x.1)

-- behind a body, with all that it has shown; its scopes are left
abbrev pub body_behind : Context → Name → Option source.Body → Context → Context
body_behind around n None c = around
body_behind around n (Some body) c = with_body (back_to around c) n

-- a body in the scope of the parameters, or none, and what is left behind it
abbrev pub body_within : (scope : Frame) → Judged (List Param) → Judged Ty → Name → Option source.Body → Judging (List Func)
body_within scope params result n body c =
    let x = judged_body params result body (in_scope_of scope c) in (x.0, body_behind c n body x.1)

-- a function's declaration or definition. Its parameters' scope is its own; its name is in scope behind its declarator
abbrev pub judged_function : (names : List (List ℕ)) → Judged Ty → List Pointer → Name → List source.Param → Option source.Body → Judging (List Func)
judged_function names base pointers n params body around =
    let result = result_of n.from base pointers in
    let ps = judged_param_list params (before_params around) in
    let c = back_to around ps.1 in
    let x = body_within ps.1.inner ps.0 result n body (with_function c names n (types_or ps.0) (or_int result)) in
    (both (head_fine c names n body ps.0 result) x.0 >>= λ p. typed p.1, x.1)

-- ---- names of types (6.7.8)

-- what a name of a type stands for: an array has a size; each other type may stand, also one without
abbrev pub alias_by : Context → (place : ℕ) → Ty → List ℕ → Judged Ty
alias_by c place t [] = plain_type place t
alias_by c place t sizes = object_type c place (arrays_of t sizes)

-- the type that a typedef's declarator declares
abbrev pub alias_declared : Context → Ty → Declarator → Judged Ty
alias_declared c t d = alias_by c d.name.from (behind_pointers t d.pointers) d.sizes

-- a name that meant nothing before at file scope, or the same type (6.7 p3)
abbrev pub same_alias : (place : ℕ) → Option Binding → Ty → Judged (Unit {0})
same_alias place (Some (type_name s)) t = unless place TypeMismatch (same_type s t)
same_alias place (Some m) t = refuse place DoubleName
same_alias place None t = typed tt

-- 1,024 names of types at most; one that is declared again is none more
abbrev pub alias_fits : Context → Name → (is_new : Bool) → Judged (Unit {0})
alias_fits c n false = typed tt
alias_fits c n true = within n.from 11 1024 c.aliases

-- what is judged at the name of a type, whatever that is
abbrev pub alias_fine : Context → Name → Judged (Unit {0} × Unit {0})
alias_fine c n = both (not_library c n) (alias_fits c n (not (is_double c n)))

-- the name of a type: it is in scope directly behind its declarator
abbrev pub judged_alias : Judged Ty → source.Declarator → Judging (Unit {0})
judged_alias base d around =
    let n = name_of d in
    let t = ruled (in_turn (lone base) (judged_declarator d)) (λ c p. alias_declared c p.0 p.1) around in
    (both (alias_fine t.1 n) (t.0 >>= same_alias n.from (before_name t.1 n)) >>= λ p. typed tt, with_alias t.1 n (or_int t.0))

-- names of types that are declared together, in order
abbrev pub judged_aliases : Judged Ty → List source.Declarator → Judging (Unit {0})
judged_aliases base [] c = (typed tt, c)
judged_aliases base (d ∷ ds) c = ruled (in_turn (judged_alias base d) (judged_aliases base ds)) (λ e p. typed tt) c

-- ---- files (6.9)

-- what an external declaration makes
pub record Made : Type 0 where
  pub globals : List GlobalVar
  pub funcs : List Func

-- what two parts of a file make, one behind the other
abbrev pub joined : Made → Made → Made
joined m n = record { globals = m.globals ++ n.globals; funcs = m.funcs ++ n.funcs }

-- what stands behind the specifiers of an external declaration: nothing, a function, or globals
abbrev pub judged_rest : (names : List (List ℕ)) → Judged Ty → source.Rest → Judging Made
judged_rest names base source.nothing c = (typed (record { globals = []; funcs = [] }), c)
judged_rest names base (source.function pointers n params body) c =
    ruled (judged_function names base pointers n params body) (λ d fs. typed (record { globals = []; funcs = fs })) c
judged_rest names base (source.variables declarators) c = ruled (judged_globals base declarators) (λ d gs. typed (record { globals = gs; funcs = [] })) c

-- specifiers, and what stands behind them
abbrev pub behind_specs : {A : Type 0} → List source.Spec → (Judged Ty → Judging A) → Judging A
behind_specs specs behind around =
    let base = judged_specs (source.specs_of specs) around in
    let rest = behind base.0 base.1 in
    (both base.0 rest.0 >>= λ p. typed p.1, rest.1)

-- a typedef makes no object and no function
abbrev pub no_objects : Made
no_objects = record { globals = []; funcs = [] }

-- an external declaration: its specifiers, and what stands behind them
abbrev pub judged_external : (names : List (List ℕ)) → source.External → Judging Made
judged_external names (source.types_by specs declarators) around =
    ruled (behind_specs specs (λ base. judged_aliases base declarators)) (λ c u. typed no_objects) around
judged_external names (source.external_of storage specs rest) around = behind_specs specs (λ base. judged_rest names base rest) around

-- external declarations, in the order of the text
abbrev pub judged_externals : (names : List (List ℕ)) → List source.External → Judging Made
judged_externals names [] c = (typed (record { globals = []; funcs = [] }), c)
judged_externals names (x ∷ xs) c = ruled (in_turn (judged_external names x) (judged_externals names xs)) (λ d p. typed (joined p.0 p.1)) c

-- a function `int main(void)` (5.1.2.2.1)
abbrev pub is_main : Option Binding → Bool
is_main (Some (function_name n [] (integer t))) = same_int t int
is_main m = false

-- the number of main, which has a body; else its name is unknown at the text's end (5.1.2.2.1, this project's profile)
abbrev pub has_main : Context → (names : List (List ℕ)) → Judged ℕ
has_main c names =
    unless (length c.text) UnknownName (is_main (lookup (bytes_eq (codes "main")) c.inner) && list_any (bytes_eq (codes "main")) names)
    >>= λ u. typed (place_of_name (codes "main") names)

-- the typed tree of what a file's declarations made
abbrev pub program_of : Context → Made → ℕ → Typed
program_of c made main = record { structs = c.structs; globals = made.globals; literals = c.literals; funcs = made.funcs; main = main }

-- a file, judged from its first declaration on, with main asked for at its end
abbrev pub whole_file : source.File → Context → Judged Typed
whole_file f c =
    let names = defined_names c.text f.externals in
    let x = judged_externals names f.externals c in
    both x.0 (has_main x.1 names) >>= λ p. typed (program_of x.1 p.0 p.1)

-- the typed tree of a file of this text, or all its faults
abbrev pub judged_file : List ℕ → source.File → Judged Typed
judged_file text f = whole_file f (at_start text)
