-- What the code's context is.
use Rattle.std.specs.Prelude.{ℕ, List, map, Option, Some, None}
use Rattle.std.specs.Borrow.{Bor}
use Rattle.ak_words.specs.declared.int_type.IntType.{IntType}
use Rattle.ak_words.specs.IntType.{int, unsigned_int, long, unsigned_long}
use Rattle.c_tree.specs.declared.typed.CType.{CType}
use Rattle.c_tree.specs.Typed.{Ty}
use Rattle.c_tree.specs.TypedViews.{type_view, layout_view, literal_view}
use Rattle.type_context.specs.declared.context.Context.{Context as CodeContext}
use Rattle.type_context.specs.declared.context.MemberType.{MemberType}
use Rattle.type_context.specs.declared.names.AtomicType.{AtomicType as CodeAtomic}
use Rattle.type_context.specs.declared.names.AtomicType.TheVariants as atomics
use Rattle.type_context.specs.declared.names.Library.{Library as CodeLibrary}
use Rattle.type_context.specs.declared.names.Library.TheVariants as codes
use Rattle.type_context.specs.declared.names.Binding.{Binding as CodeMeaning}
use Rattle.type_context.specs.declared.names.Binding.TheVariants as meanings
use Rattle.c_typing.specs.Scope.{Library, printf, malloc, calloc, realloc, free, memcpy, thrd_create, thrd_join, mtx_init, mtx_lock, mtx_unlock, mtx_destroy, atomic_store, atomic_load, atomic_add, atomic_sub, atomic_swap, atomic_compare, constant, atomic_type}
use Rattle.c_typing.specs.Scope.{Binding, global_name, local_name, function_name, enumerator_name, type_name, library_name, Frame, Context}

-- the types that those of the code stand for
abbrev pub types_view : List CType → List Ty
types_view ts = map type_view ts

-- the type of the numbers of an atomic type of the library
abbrev pub number_view : CodeAtomic → IntType
number_view atomics.Int = int
number_view atomics.UnsignedInt = unsigned_int
number_view atomics.Long = long
number_view atomics.UnsignedLong = unsigned_long

-- the name of the library that one of the code stands for
abbrev pub library_view : CodeLibrary → Library
library_view codes.Printf = printf
library_view codes.Malloc = malloc
library_view codes.Calloc = calloc
library_view codes.Realloc = realloc
library_view codes.Free = free
library_view codes.Memcpy = memcpy
library_view codes.ThrdCreate = thrd_create
library_view codes.ThrdJoin = thrd_join
library_view codes.MtxInit = mtx_init
library_view codes.MtxLock = mtx_lock
library_view codes.MtxUnlock = mtx_unlock
library_view codes.MtxDestroy = mtx_destroy
library_view codes.AtomicStore = atomic_store
library_view codes.AtomicLoad = atomic_load
library_view codes.AtomicAdd = atomic_add
library_view codes.AtomicSub = atomic_sub
library_view codes.AtomicSwap = atomic_swap
library_view codes.AtomicCompare = atomic_compare
library_view (codes.Constant value) = constant value
library_view (codes.AtomicType t) = atomic_type (number_view t)

-- a name of the library, and what it is
abbrev pub library_entry : Bor (List ℕ) × CodeLibrary → List ℕ × Library
library_entry e = (e.0.now, library_view e.1)

-- what a name means, by what the code holds
abbrev pub binding_view : CodeMeaning → Binding
binding_view (meanings.Global n t) = global_name n (type_view t)
binding_view (meanings.Local n t) = local_name n (type_view t)
binding_view (meanings.Function n params result) = function_name n (types_view params.items) (type_view result)
binding_view (meanings.Enumerator value) = enumerator_name value
binding_view (meanings.Type t) = type_name (type_view t)
binding_view (meanings.Library which) = library_name (library_view which)

-- what was found
abbrev pub seen : Option (Bor CodeMeaning) → Option Binding
seen None = None
seen (Some b) = Some (binding_view b.now)

-- one scope: the bytes of each name, and what it means
abbrev pub meaning_entry : Bor (List ℕ) × CodeMeaning → List ℕ × Binding
meaning_entry e = (e.0.now, binding_view e.1)

-- one scope: its names in order, each with what it means
abbrev pub frame_view : List (Bor (List ℕ) × CodeMeaning) → Frame
frame_view es = map meaning_entry es

-- bytes that lie in the text
abbrev pub bytes_view : List (Bor (List ℕ)) → List (List ℕ)
bytes_view bs = map (λ b. b.now) bs

-- what stands before a node, by what the code holds
abbrev pub context_view : CodeContext → Context
context_view c = record {
  text = c.text.now;
  tags = bytes_view c.tags.items;
  structs = map layout_view c.structs.items;
  members = map (λ m. bytes_view m.items) c.members.items;
  begun = c.begun.items;
  enums = bytes_view c.enums.items;
  listed = bytes_view c.listed.items;
  enumerators = c.enumerators;
  aliases = c.aliases;
  literals = map literal_view c.literals.items;
  plain = c.plain;
  globals = types_view c.globals.items;
  functions = bytes_view c.functions.keys;
  bodies = bytes_view c.bodies.keys;
  inner = frame_view c.inner.entries;
  outer = map (λ f. frame_view f.entries) c.outer.items;
  locals = types_view c.locals.items;
  addressed = c.addressed.items;
}

-- a member of a struct, as it is declared, and as it is found
abbrev pub member_type_view : MemberType → List ℕ × Ty
member_type_view m = (m.name.now, type_view m.ty)

-- the members of a struct, as they are declared
abbrev pub members_view : List MemberType → List (List ℕ × Ty)
members_view ms = map member_type_view ms

-- the number of a member that was found, and its type
abbrev pub member_view : ℕ × CType → ℕ × Ty
member_view m = (m.0, type_view m.1)
