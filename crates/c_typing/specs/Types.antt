-- Types, compared and completed (C11 6.2.5, 6.2.7, 6.7.2).
use Rattle.std.specs.Prelude.{refl, ℕ, zero, suc, nat_le, nat_lt, nat_eq, Bool, true, false, ◌+◌, ◌&&◌, List, [], ◌∷◌, slice_get, Option, Some, None, if◌then◌else◌}
use Rattle.std.specs.Bool.{beq}
use Rattle.std.specs.List.{list_all}
use Rattle.std.specs.Map.{lookup}
use Rattle.ak_words.specs.declared.int_type.IntType.{IntType}
use Rattle.ak_words.specs.IntType.{char, int, unsigned_int, long, unsigned_long}
use Rattle.c_tree.specs.declared.syntax.TypeWord.{TypeWord}
use Rattle.c_tree.specs.declared.syntax.TypeWord.TheVariants as words
use Rattle.c_tree.specs.declared.syntax.Pointer.{Pointer}
use Rattle.c_tree.specs.declared.syntax.Pointer.TheVariants as pointers
use Rattle.c_tree.specs.Typed.{Ty, void, integer, atomic, mutex, pointer, array, structure, Layout}
use Rattle.c_tree.specs.TypedLayout.{greatest_object, size_in, layout_size}

-- one integer type
abbrev pub same_int : IntType → IntType → Bool
same_int s t = beq s.signed t.signed && nat_eq s.bits t.bits

-- one type
abbrev pub same_type : Ty → Ty → Bool
same_type void void = true
same_type (integer s) (integer t) = same_int s t
same_type (atomic s) (atomic t) = same_int s t
same_type mutex mutex = true
same_type (pointer s) (pointer t) = same_type s t
same_type (array s m) (array t n) = same_type s t && nat_eq m n
same_type (structure m) (structure n) = nat_eq m n
same_type s t = false

-- one list of types
abbrev pub same_types : List Ty → List Ty → Bool
same_types [] [] = true
same_types (s ∷ ss) (t ∷ ts) = same_type s t && same_types ss ts
same_types [] (t ∷ ts) = false
same_types (s ∷ ss) [] = false

-- the type void (C11 6.2.5 p19)
abbrev pub is_void : Ty → Bool
is_void void = true
is_void t = false

-- an array type (C11 6.2.5 p20)
abbrev pub is_array : Ty → Bool
is_array (array t n) = true
is_array t = false

-- a number, also an atomic one, or a pointer
abbrev pub is_scalar : Ty → Bool
is_scalar (integer t) = true
is_scalar (atomic t) = true
is_scalar (pointer t) = true
is_scalar t = false

-- the type of what is read from an object of a type: from an atomic number the number (6.3.2.1 p2)
abbrev pub value_type : Ty → Ty
value_type (atomic t) = integer t
value_type t = t

-- what can't be a parameter, a result or the type of a cast
abbrev pub is_struct_or_mutex : Ty → Bool
is_struct_or_mutex (structure n) = true
is_struct_or_mutex mutex = true
is_struct_or_mutex t = false

-- complete: void has no size, and neither has a struct that isn't declared (6.2.5 p19, p22); a declared one has a byte at least
abbrev pub has_size : List Layout → Ty → Bool
has_size structs void = false
has_size structs (integer t) = true
has_size structs (atomic t) = true
has_size structs mutex = true
has_size structs (pointer t) = true
has_size structs (array t n) = has_size structs t
has_size structs (structure n) = nat_lt 0 (layout_size (slice_get structs n))

-- a struct that is declared, or no struct
abbrev pub is_declared : List Layout → Ty → Bool
is_declared structs (structure n) = has_size structs (structure n)
is_declared structs t = true

-- at most the greatest object's size
abbrev pub is_small : List Layout → Ty → Bool
is_small structs t = nat_le (size_in structs t) greatest_object

-- ---- the words of a declaration (6.7.2 p2)

-- const, register and auto say nothing of the type, and _Atomic only that it is atomic
abbrev pub says_nothing : TypeWord → Bool
says_nothing words.Const = true
says_nothing words.Register = true
says_nothing words.Auto = true
says_nothing words.Atomic = true
says_nothing w = false

-- the words in the order of their declaration
abbrev pub word_number : TypeWord → ℕ
word_number words.Void = 0
word_number words.Char = 1
word_number words.Short = 2
word_number words.Int = 3
word_number words.Long = 4
word_number words.Signed = 5
word_number words.Unsigned = 6
word_number words.SizeT = 7
word_number words.ThrdT = 8
word_number words.MtxT = 9
word_number words.Const = 10
word_number words.Register = 11
word_number words.Auto = 12
word_number words.Atomic = 13

-- how often a word stands in a list
abbrev pub times : TypeWord → List TypeWord → ℕ
times w [] = 0
times w (v ∷ vs) = if nat_eq (word_number w) (word_number v) then 1 + times w vs else times w vs

-- the words that name types
abbrev pub naming_words : List TypeWord
naming_words = words.Void ∷ words.Char ∷ words.Short ∷ words.Int ∷ words.Long ∷ words.Signed ∷ words.Unsigned ∷ words.SizeT ∷ words.ThrdT ∷ words.MtxT ∷ []

-- the same words, in whatever order
abbrev pub same_words : List TypeWord → List TypeWord → Bool
same_words ws vs = list_all (λ w. nat_eq (times w ws) (times w vs)) naming_words

-- unsigned char has 8 bits (this project's profile)
abbrev pub unsigned_char : IntType
unsigned_char = record { signed = false; bits = 8; known_width = refl }

-- short has 16 bits, with a sign (this project's profile)
abbrev pub short : IntType
short = record { signed = true; bits = 16; known_width = refl }

-- unsigned short has 16 bits, without a sign (this project's profile)
abbrev pub unsigned_short : IntType
unsigned_short = record { signed = false; bits = 16; known_width = refl }

-- the lists of words that name a type; `long long` is `long`, and `char` is `signed char` (this project's profile)
unfoldable pub type_words : List (List TypeWord × Ty)
type_words = (words.Void ∷ [], void)
    ∷ (words.Char ∷ [], integer char)
    ∷ (words.Signed ∷ words.Char ∷ [], integer char)
    ∷ (words.Unsigned ∷ words.Char ∷ [], integer unsigned_char)
    ∷ (words.Short ∷ [], integer short)
    ∷ (words.Signed ∷ words.Short ∷ [], integer short)
    ∷ (words.Short ∷ words.Int ∷ [], integer short)
    ∷ (words.Signed ∷ words.Short ∷ words.Int ∷ [], integer short)
    ∷ (words.Unsigned ∷ words.Short ∷ [], integer unsigned_short)
    ∷ (words.Unsigned ∷ words.Short ∷ words.Int ∷ [], integer unsigned_short)
    ∷ (words.Int ∷ [], integer int)
    ∷ (words.Signed ∷ [], integer int)
    ∷ (words.Signed ∷ words.Int ∷ [], integer int)
    ∷ (words.Unsigned ∷ [], integer unsigned_int)
    ∷ (words.Unsigned ∷ words.Int ∷ [], integer unsigned_int)
    ∷ (words.Long ∷ [], integer long)
    ∷ (words.Signed ∷ words.Long ∷ [], integer long)
    ∷ (words.Long ∷ words.Int ∷ [], integer long)
    ∷ (words.Signed ∷ words.Long ∷ words.Int ∷ [], integer long)
    ∷ (words.Unsigned ∷ words.Long ∷ [], integer unsigned_long)
    ∷ (words.Unsigned ∷ words.Long ∷ words.Int ∷ [], integer unsigned_long)
    ∷ (words.Long ∷ words.Long ∷ [], integer long)
    ∷ (words.Signed ∷ words.Long ∷ words.Long ∷ [], integer long)
    ∷ (words.Long ∷ words.Long ∷ words.Int ∷ [], integer long)
    ∷ (words.Signed ∷ words.Long ∷ words.Long ∷ words.Int ∷ [], integer long)
    ∷ (words.Unsigned ∷ words.Long ∷ words.Long ∷ [], integer unsigned_long)
    ∷ (words.Unsigned ∷ words.Long ∷ words.Long ∷ words.Int ∷ [], integer unsigned_long)
    ∷ (words.SizeT ∷ [], integer unsigned_long)
    ∷ (words.ThrdT ∷ [], integer unsigned_long)
    ∷ (words.MtxT ∷ [], mutex)
    ∷ []

-- the type that words name, if they name one
abbrev pub named_by : List TypeWord → Option Ty
named_by ws = lookup (same_words ws) type_words

-- the word _Atomic (6.7.3)
abbrev pub is_atomic_word : TypeWord → Bool
is_atomic_word words.Atomic = true
is_atomic_word w = false

-- a number of 32 or 64 bits: of those that there are, one of 32 at least
abbrev pub is_promoted : IntType → Bool
is_promoted t = nat_le 32 t.bits

-- a type with _Atomic so often beside it: not at all, or once beside a number of 32 or 64 bits, which becomes atomic (6.7.3 p3; this project's
-- profile)
abbrev pub atomic_by : (count : ℕ) → Ty → Option Ty
atomic_by zero t = Some t
atomic_by (suc zero) (integer t) = if is_promoted t then Some (atomic t) else None
atomic_by count t = None

-- ---- pointers and arrays (6.7.6.1, 6.7.6.2)

-- a pointer for each star; const and restrict say nothing of the type
abbrev pub behind_pointers : Ty → List Pointer → Ty
behind_pointers t [] = t
behind_pointers t (pointers.Star ∷ ps) = behind_pointers (pointer t) ps
behind_pointers t (pointers.Const ∷ ps) = behind_pointers t ps
behind_pointers t (pointers.Restrict ∷ ps) = behind_pointers t ps

-- how many stars and brackets made a type, those behind the names of types in it counted
abbrev pub depth_of : Ty → ℕ
depth_of void = 0
depth_of (integer t) = 0
depth_of (atomic t) = 0
depth_of mutex = 0
depth_of (pointer t) = 1 + depth_of t
depth_of (array t n) = 1 + depth_of t
depth_of (structure n) = 0

-- stars and dimensions of one declarator or type name, with all those behind the name of its type
abbrev pub most_depth : ℕ
most_depth = 64

-- arrays of these sizes, the outermost first
abbrev pub arrays_of : Ty → List ℕ → Ty
arrays_of t [] = t
arrays_of t (n ∷ ns) = array (arrays_of t ns) n
