-- What names mean where a node stands, and what the text has shown before it (C11 6.2.1, 6.2.3, 7.1.3).
use Rattle.std.specs.Prelude.{ℕ, ◌+◌, ◌==◌, nat_le, nat_lt, Bool, ◌&&◌, ◌||◌, not, if◌then◌else◌, List, [], ◌∷◌, ◌++◌, length, map, set, codes, slice_get, Option, Some, None, ℤ, pos}
use Rattle.std.specs.List.{slice_range, list_any}
use Rattle.std.specs.Map.{lookup}
use Rattle.std.specs.Option.{is_some}
use Rattle.std.specs.Str.{bytes_eq}
use Rattle.ak_words.specs.declared.int_type.IntType.{IntType}
use Rattle.ak_words.specs.IntType.{int, unsigned_int, long, unsigned_long}
use Rattle.c_lex.specs.declared.refusal.Kind.TheVariants.{DoubleName, TooMany}
use Rattle.c_tree.specs.declared.syntax.Name.{Name}
use Rattle.c_tree.specs.Typed.{Ty, Layout}
use Rattle.c_tree.specs.TypedLayout.{laid_out}
use Rattle.c_typing.specs.Faults.{Judged, unless}
use Rattle.c_tree.specs.TypedForm.{taken}

-- ---- the library

-- a name of the library: a call, of which atomic_init and atomic_store are one, and so are the two of compare and exchange; an int; or an
-- atomic type
pub data Library : Type 0 where
  printf : Library
  malloc : Library
  calloc : Library
  realloc : Library
  free : Library
  memcpy : Library
  thrd_create : Library
  thrd_join : Library
  mtx_init : Library
  mtx_lock : Library
  mtx_unlock : Library
  mtx_destroy : Library
  atomic_store : Library
  atomic_load : Library
  atomic_add : Library
  atomic_sub : Library
  atomic_swap : Library
  atomic_compare : Library
  constant : (value : ℤ) → Library
  atomic_type : (t : IntType) → Library

-- the names of the library that the language has (7.17, 7.21, 7.22, 7.24, 7.26)
unfoldable pub library : List (List ℕ × Library)
library = (codes "printf", printf) ∷ (codes "malloc", malloc) ∷ (codes "calloc", calloc) ∷ (codes "realloc", realloc)
    ∷ (codes "free", free) ∷ (codes "memcpy", memcpy)
    ∷ (codes "thrd_create", thrd_create) ∷ (codes "thrd_join", thrd_join)
    ∷ (codes "mtx_init", mtx_init) ∷ (codes "mtx_lock", mtx_lock) ∷ (codes "mtx_unlock", mtx_unlock) ∷ (codes "mtx_destroy", mtx_destroy)
    ∷ (codes "atomic_init", atomic_store) ∷ (codes "atomic_store", atomic_store) ∷ (codes "atomic_load", atomic_load)
    ∷ (codes "atomic_fetch_add", atomic_add) ∷ (codes "atomic_fetch_sub", atomic_sub) ∷ (codes "atomic_exchange", atomic_swap)
    ∷ (codes "atomic_compare_exchange_strong", atomic_compare) ∷ (codes "atomic_compare_exchange_weak", atomic_compare)
    ∷ (codes "mtx_plain", constant (pos 0)) ∷ (codes "thrd_success", constant (pos 0)) ∷ (codes "thrd_error", constant (pos 1))
    ∷ (codes "atomic_int", atomic_type int) ∷ (codes "atomic_uint", atomic_type unsigned_int)
    ∷ (codes "atomic_long", atomic_type long) ∷ (codes "atomic_ulong", atomic_type unsigned_long) ∷ []

-- ---- names

-- what a name means: an object of file scope or a local by its number, a function by its number, an enumerator, which is an int, a type
-- (C11 6.7.8), or a name of the library
pub data Binding : Type 0 where
  global_name : (n : ℕ) (t : Ty) → Binding
  local_name : (n : ℕ) (t : Ty) → Binding
  function_name : (n : ℕ) (params : List Ty) (result : Ty) → Binding
  enumerator_name : (value : ℤ) → Binding
  type_name : (t : Ty) → Binding
  library_name : (which : Library) → Binding

-- one scope: the bytes of each name, and what it means, in order of declaration
abbrev pub Frame : Type 0
Frame = List (List ℕ × Binding)

-- what stands before a node: the text; the tags of structs in the order in which they were first named, no bytes for a struct without a
-- tag, each with its struct's layout and the names of its members, which has no member where the struct isn't declared yet; the structs
-- whose braces were begun; the tags of enums whose braces were begun, and of those whose braces have ended; how many enumerators and how
-- many names of types there are; the literals that make a block; the bytes that globals and literals take; the names of the functions, and of
-- those that have a body; the scopes, the innermost first and then those around it from the outermost on; the types of the function's locals, and the numbers of those
-- whose address is taken
pub record Context : Type 0 where
  pub text : List ℕ
  pub tags : List (List ℕ)
  pub structs : List Layout
  pub members : List (List (List ℕ))
  pub begun : List ℕ
  pub enums : List (List ℕ)
  pub listed : List (List ℕ)
  pub enumerators : ℕ
  pub aliases : ℕ
  pub literals : List (List ℕ)
  pub plain : ℕ
  pub globals : List Ty
  pub functions : List (List ℕ)
  pub bodies : List (List ℕ)
  pub inner : Frame
  pub outer : List Frame
  pub locals : List Ty
  pub addressed : List ℕ

-- before the first token
abbrev pub at_start : List ℕ → Context
at_start text = record {
  text = text;
  tags = [];
  structs = [];
  members = [];
  begun = [];
  enums = [];
  listed = [];
  enumerators = 0;
  aliases = 0;
  literals = [];
  plain = 0;
  globals = [];
  functions = [];
  bodies = [];
  inner = [];
  outer = [];
  locals = [];
  addressed = [];
}

-- the bytes of a name
unfoldable pub bytes_of : List ℕ → Name → List ℕ
bytes_of text n = if nat_le n.from n.to && nat_le n.to (length text) then slice_range text n.from n.to else []

-- the first where there is one, and else the second
abbrev pub or_else : {A : Type 0} → Option A → Option A → Option A
or_else (Some x) o = Some x
or_else None o = o

-- what the innermost scope that declares it says
abbrev pub found : List Frame → List ℕ → Option Binding
found [] q = None
found (around ∷ inner) q = or_else (found inner q) (lookup (bytes_eq q) around)

-- a name of the library
abbrev pub of_library : Option Library → Option Binding
of_library None = None
of_library (Some which) = Some (library_name which)

-- what a name means in a context; the library's names are declared around all else
abbrev pub meaning_of : Context → Name → Option Binding
meaning_of c n =
    let q = bytes_of c.text n in
    or_else (lookup (bytes_eq q) c.inner) (or_else (found c.outer q) (of_library (lookup (bytes_eq q) library)))

-- the innermost scope has the name, or the library
abbrev pub is_double : Context → Name → Bool
is_double c n = is_some (lookup (bytes_eq (bytes_of c.text n)) c.inner) || is_some (lookup (bytes_eq (bytes_of c.text n)) library)

-- a name is declared once in its scope, and one of the library not at all (6.7 p3; for a global this project's profile)
abbrev pub fresh : Context → Name → Judged (Unit {0})
fresh c n = unless n.from DoubleName (not (is_double c n))

-- after a declaration: the innermost scope has the name, and what it first meant there
abbrev pub declared : Context → Name → Binding → Context
declared c n m = if is_double c n then c else record c { inner = c.inner ++ (bytes_of c.text n, m) ∷ [] }

-- into a scope of its own (6.8.2, 6.8.5)
abbrev pub inside : Context → Context
inside c = record c { inner = []; outer = c.outer ++ c.inner ∷ [] }

-- back to the scopes around, with all that the text has shown meanwhile
abbrev pub back_to : Context → Context → Context
back_to around c = record c { inner = around.inner; outer = around.outer }

-- ---- counts

-- fewer than so many were there before
abbrev pub within : (place count : ℕ) → (most before : ℕ) → Judged (Unit {0})
within place count most before = unless place (TooMany count) (nat_lt before most)

-- what globals and literals may take
abbrev pub most_plain : ℕ
most_plain = 1048576

-- an object of so many bytes more, at a place: where it passes what they may take, it is one too many
abbrev pub fits_plain : Context → (place size : ℕ) → Judged (Unit {0})
fits_plain c place size = unless place (TooMany 9) (nat_le (c.plain + taken size) most_plain)

-- ---- tags

-- the number of a tag among these: how many were named before it
abbrev pub tag_among : List ℕ → List (List ℕ) → ℕ
tag_among q [] = 0
tag_among q (tag ∷ tags) = if bytes_eq q tag then 0 else 1 + tag_among q tags

-- the number of a tag in a context: its struct's number
abbrev pub tag_number : Context → Name → ℕ
tag_number c n = tag_among (bytes_of c.text n) c.tags

-- the tag names a struct
abbrev pub is_struct_tag : Context → Name → Bool
is_struct_tag c n = list_any (bytes_eq (bytes_of c.text n)) c.tags

-- one struct more, which isn't declared: with this tag, or with none, which are no bytes
abbrev pub with_new_struct : Context → (tag : List ℕ) → Context
with_new_struct c tag = record c { tags = c.tags ++ tag ∷ []; structs = c.structs ++ laid_out [] [] ∷ []; members = c.members ++ [] ∷ [] }

-- after a tag was named: where it wasn't before, it's a struct that isn't declared
abbrev pub with_tag : Context → Name → Context
with_tag c n = if is_struct_tag c n then c else with_new_struct c (bytes_of c.text n)

-- a struct's braces were begun
abbrev pub is_begun : Context → ℕ → Bool
is_begun c number = list_any (λ other. other == number) c.begun

-- after a struct's opening brace: its braces are begun
abbrev pub with_begun : Context → ℕ → Context
with_begun c number = record c { begun = c.begun ++ number ∷ [] }

-- the tag names an enum: its braces were begun
abbrev pub is_enum_tag : Context → Name → Bool
is_enum_tag c n = list_any (bytes_eq (bytes_of c.text n)) c.enums

-- the enum of this tag is declared: its braces have ended
abbrev pub is_listed : Context → Name → Bool
is_listed c n = list_any (bytes_eq (bytes_of c.text n)) c.listed

-- after an enum's opening brace
abbrev pub with_enum : Context → Name → Context
with_enum c n = record c { enums = c.enums ++ bytes_of c.text n ∷ [] }

-- after its closing brace
abbrev pub with_listed : Context → Name → Context
with_listed c n = record c { listed = c.listed ++ bytes_of c.text n ∷ [] }

-- behind an enumerator: its name is in scope
abbrev pub with_enumerator : Context → Name → (value : ℤ) → Context
with_enumerator c n value = record (declared c n (enumerator_name value)) { enumerators = c.enumerators + 1 }

-- behind a typedef's declarator: its name is in scope; where it was before, nothing is new
abbrev pub with_alias : Context → Name → Ty → Context
with_alias c n t = record (declared c n (type_name t)) { aliases = if is_double c n then c.aliases else c.aliases + 1 }

-- a struct is declared with these members
abbrev pub with_struct : Context → ℕ → List (List ℕ × Ty) → Context
with_struct c number all = record c {
  structs = set c.structs number (laid_out c.structs (map (λ (m : List ℕ × Ty). m.1) all));
  members = set c.members number (map (λ (m : List ℕ × Ty). m.0) all);
}

-- the number of a member among names
abbrev pub member_among : ℕ → List ℕ → List (List ℕ) → Option ℕ
member_among before q [] = None
member_among before q (name ∷ names) = if bytes_eq q name then Some before else member_among (before + 1) q names

-- the number of a member, and its type
abbrev pub member_typed : ℕ → Option Ty → Option (ℕ × Ty)
member_typed m None = None
member_typed m (Some t) = Some (m, t)

-- the member of this number of a struct, and its type, if there are such a struct and such a member
abbrev pub member_numbered : Option Layout → Option ℕ → Option (ℕ × Ty)
member_numbered (Some l) (Some m) = member_typed m (slice_get l.types m)
member_numbered None m = None
member_numbered (Some l) None = None

-- the number of the member of this name, if there are such a struct and such a member
abbrev pub member_in : Option (List (List ℕ)) → List ℕ → Option ℕ
member_in None q = None
member_in (Some names) q = member_among 0 q names

-- the member of this name of a struct, if it is declared and has one
abbrev pub member_of : Context → (number : ℕ) → Name → Option (ℕ × Ty)
member_of c number n = member_numbered (slice_get c.structs number) (member_in (slice_get c.members number) (bytes_of c.text n))
