-- Actions of a code file, with their places: a tag of one byte and its fields.
use Rattle.std.specs.Prelude.{ℕ, Bool, List, [], ◌∷◌, Option, Some, None}
use Rattle.ak_words.specs.declared.int_type.IntType.{IntType}
use Rattle.block_store.specs.declared.values.Access.{Access}
use Rattle.block_store.specs.declared.values.Change.{Change}
use Rattle.block_store.specs.declared.values.Change.TheVariants as changes
use Rattle.c_tree.specs.Typed as tree
use Rattle.c_tree.specs.Typed.{Piece}
use Rattle.struct_ir.specs.Nodes as ir
use Rattle.struct_ir.specs.Nodes.{Action, Place, Step}
use Rattle.formats.specs.Formats.{Format, nothing, seen, ◌▸◌, byte, one_of, u32, u64, list, tagged}
use Rattle.code_file.specs.Numbers.{u32_or_none, flag, int_type, access, piece_bits}

-- ---- where an access goes: base:u32, index:u32 or none, scale:u32, offset:u64, slot:u32

-- a place that has a slot
abbrev pub make_place : ℕ × (Option ℕ × (ℕ × (ℕ × ℕ))) → Place
make_place x = record { base = x.0; index = x.1.0; scale = x.1.1.0; offset = x.1.1.1.0; slot = Some x.1.1.1.1 }

-- the slot of a place; a place without one has no spelling
abbrev pub slot_of : Option ℕ → ℕ
slot_of None = 0
slot_of (Some slot) = slot

-- the parts of a place
abbrev pub place_parts : Place → ℕ × (Option ℕ × (ℕ × (ℕ × ℕ)))
place_parts p = (p.base, (p.index, (p.scale, (p.offset, slot_of p.slot))))

-- its parts in order
unfoldable pub place : Format Place
place = seen make_place place_parts (u32 ▸ u32_or_none ▸ u32 ▸ u64 ▸ u32)

-- ---- pieces of what is printed

-- what a piece is
pub data PieceTag : Type 0 where
  bytes signed unsigned hexadecimal character text : PieceTag

-- the tag's byte
abbrev pub piece_number : PieceTag → ℕ
piece_number bytes = 0
piece_number signed = 1
piece_number unsigned = 2
piece_number hexadecimal = 3
piece_number character = 4
piece_number text = 5

-- the tags behind the first one
abbrev pub other_pieces : List PieceTag
other_pieces = signed ∷ unsigned ∷ hexadecimal ∷ character ∷ text ∷ []

-- one byte
abbrev pub piece_tag : Format PieceTag
piece_tag = one_of bytes other_pieces piece_number

-- the fields behind a tag
abbrev pub PieceFields : PieceTag → Type 0
PieceFields bytes = List ℕ
PieceFields signed = ℕ
PieceFields unsigned = ℕ
PieceFields hexadecimal = ℕ
PieceFields character = Unit {0}
PieceFields text = Unit {0}

-- bytes; a number of bits, for the three that write a number; nothing
abbrev pub piece_fields : (t : PieceTag) → Format (PieceFields t)
piece_fields bytes = list byte
piece_fields signed = piece_bits
piece_fields unsigned = piece_bits
piece_fields hexadecimal = piece_bits
piece_fields character = nothing
piece_fields text = nothing

-- the piece of a tag and its fields
abbrev pub make_piece : (t : PieceTag) → PieceFields t → Piece
make_piece bytes all = tree.bytes all
make_piece signed n = tree.signed n
make_piece unsigned n = tree.unsigned n
make_piece hexadecimal n = tree.hexadecimal n
make_piece character x = tree.character
make_piece text x = tree.text

-- the tag and the fields of a piece
abbrev pub piece_parts : Piece → (t : PieceTag) × PieceFields t
piece_parts (tree.bytes all) = (bytes, all)
piece_parts (tree.signed n) = (signed, n)
piece_parts (tree.unsigned n) = (unsigned, n)
piece_parts (tree.hexadecimal n) = (hexadecimal, n)
piece_parts tree.character = (character, tt)
piece_parts tree.text = (text, tt)

-- a tag and its fields
unfoldable pub piece : Format Piece
piece = tagged piece_tag piece_fields make_piece piece_parts

-- ---- how a number is changed: 0 by a sum, 1 by another in its place

-- its number
abbrev pub change_number : Change → ℕ
change_number changes.Add = 0
change_number changes.Swap = 1

-- one byte
unfoldable pub change_way : Format Change
change_way = one_of changes.Add (changes.Swap ∷ []) change_number

-- ---- actions

-- what an action is
pub data ActionTag : Type 0 where
  load store copy malloc free print lock unlock destroy start join calloc realloc change compare : ActionTag

-- the tag's byte
abbrev pub action_number : ActionTag → ℕ
action_number load = 0
action_number store = 1
action_number copy = 2
action_number malloc = 3
action_number free = 4
action_number print = 5
action_number lock = 6
action_number unlock = 7
action_number destroy = 8
action_number start = 9
action_number join = 10
action_number calloc = 11
action_number realloc = 12
action_number change = 13
action_number compare = 14

-- the tags behind the first one
abbrev pub other_actions : List ActionTag
other_actions = store ∷ copy ∷ malloc ∷ free ∷ print ∷ lock ∷ unlock ∷ destroy ∷ start ∷ join ∷ calloc ∷ realloc ∷ change ∷ compare ∷ []

-- one byte
abbrev pub action_tag : Format ActionTag
action_tag = one_of load other_actions action_number

-- the fields behind a tag
abbrev pub ActionFields : ActionTag → Type 0
ActionFields load = Access
ActionFields store = Access
ActionFields copy = ℕ × Bool
ActionFields malloc = Unit {0}
ActionFields free = Unit {0}
ActionFields print = List Piece
ActionFields lock = Unit {0}
ActionFields unlock = Unit {0}
ActionFields destroy = Unit {0}
ActionFields start = ℕ
ActionFields join = Unit {0}
ActionFields calloc = Unit {0}
ActionFields realloc = Unit {0}
ActionFields change = Change × IntType
ActionFields compare = IntType

-- a type of an access, for a load and a store; an alignment and whether a copy may be to itself; pieces; a function; how a number is
-- changed and its type; a type; and else nothing
abbrev pub action_fields : (t : ActionTag) → Format (ActionFields t)
action_fields load = access
action_fields store = access
action_fields copy = u32 ▸ flag
action_fields malloc = nothing
action_fields free = nothing
action_fields print = list piece
action_fields lock = nothing
action_fields unlock = nothing
action_fields destroy = nothing
action_fields start = u32
action_fields join = nothing
action_fields calloc = nothing
action_fields realloc = nothing
action_fields change = change_way ▸ int_type
action_fields compare = int_type

-- the action of a tag and its fields
abbrev pub make_action : (t : ActionTag) → ActionFields t → Action
make_action load how = ir.load how
make_action store how = ir.store how
make_action copy x = ir.copy_bytes x.0 x.1
make_action malloc x = ir.malloc
make_action free x = ir.free
make_action print pieces = ir.print pieces
make_action lock x = ir.lock
make_action unlock x = ir.unlock
make_action destroy x = ir.destroy
make_action start n = ir.start n
make_action join x = ir.join
make_action calloc x = ir.calloc
make_action realloc x = ir.realloc
make_action change x = ir.change x.0 x.1
make_action compare t = ir.compare t

-- the tag and the fields of an action
abbrev pub action_parts : Action → (t : ActionTag) × ActionFields t
action_parts (ir.load how) = (load, how)
action_parts (ir.store how) = (store, how)
action_parts (ir.copy_bytes align same) = (copy, (align, same))
action_parts ir.malloc = (malloc, tt)
action_parts ir.free = (free, tt)
action_parts (ir.print pieces) = (print, pieces)
action_parts ir.lock = (lock, tt)
action_parts ir.unlock = (unlock, tt)
action_parts ir.destroy = (destroy, tt)
action_parts (ir.start function) = (start, function)
action_parts ir.join = (join, tt)
action_parts ir.calloc = (calloc, tt)
action_parts ir.realloc = (realloc, tt)
action_parts (ir.change how t) = (change, (how, t))
action_parts (ir.compare t) = (compare, t)

-- a tag and its fields
unfoldable pub action : Format Action
action = tagged action_tag action_fields make_action action_parts

-- ---- one action: it, list(access), to:u32 or none, list(temp:u32), list(slot:u32)

-- the step of these parts
abbrev pub make_step : Action × (List Place × (Option ℕ × (List ℕ × List ℕ))) → Step
make_step x = record { action = x.0; places = x.1.0; to = x.1.1.0; temps = x.1.1.1.0; slots = x.1.1.1.1 }

-- its parts
abbrev pub step_parts : Step → Action × (List Place × (Option ℕ × (List ℕ × List ℕ)))
step_parts s = (s.action, (s.places, (s.to, (s.temps, s.slots))))

-- its parts in order
unfoldable pub step : Format Step
step = seen make_step step_parts (action ▸ list place ▸ u32_or_none ▸ list u32 ▸ list u32)
