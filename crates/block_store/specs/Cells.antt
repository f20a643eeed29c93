-- The cells that a value is stored as, and the value that cells are read as.
use Rattle.std.specs.Prelude.{ℕ, ◌+◌, ◌*◌, ◌/◌, Bool, true, false, ◌&&◌, ◌==◌, if◌then◌else◌, List, [], ◌∷◌, map, replicate, Option, Some, None, Result, Err, pos}
use Rattle.std.specs.Option.{option_map, ok_or}
use Rattle.std.specs.List.{range_with_len}
use Rattle.ak_words.specs.declared.rule.Rule.{Rule}
use Rattle.ak_words.specs.declared.rule.Rule.TheVariants.{C4, C16}
use Rattle.ak_words.specs.Bytes.{low_bytes}
use Rattle.ak_words.specs.Num.{num}
use Rattle.ak_words.specs.Wrapped.{bit_pattern}
use Rattle.block_store.specs.declared.values.Access.{Access}
use Rattle.block_store.specs.declared.values.Access.TheVariants as accesses
use Rattle.block_store.specs.declared.values.Cell.{Cell}
use Rattle.block_store.specs.declared.values.Cell.TheVariants.{Unknown, Byte, Part}
use Rattle.block_store.specs.declared.values.Ptr.{Ptr}
use Rattle.block_store.specs.declared.values.Ptr.TheVariants.{Null, To}
use Rattle.block_store.specs.declared.values.Value.{Value}
use Rattle.block_store.specs.declared.values.Value.TheVariants as values

-- how many bytes an access takes, which is also its alignment
abbrev pub size_of : Access → ℕ
size_of (accesses.Number t) = t.bits / 8
size_of accesses.Pointer = 8

-- the access that a value fits
abbrev pub access_of : Value → Access
access_of (values.Num n) = accesses.Number n.ty
access_of (values.Pointer p) = accesses.Pointer

-- null is stored as eight zero bytes, and another pointer as its parts 0 to 7 (this project's profile)
abbrev pub pointer_cells : Ptr → List Cell
pointer_cells Null = replicate 8 (Byte 0)
pointer_cells (To block offset) = map (Part block offset) (range_with_len 0 8)

-- the cells that a value is stored as: of a number its bytes in two's complement, the lowest first (C11 6.2.6)
abbrev pub cells_of : Value → List Cell
cells_of (values.Num n) = map Byte (low_bytes (n.ty.bits / 8) (bit_pattern n.ty n.value))
cells_of (values.Pointer p) = pointer_cells p

-- one of the cells was never written
abbrev pub has_unknown : List Cell → Bool
has_unknown [] = false
has_unknown (Unknown ∷ cells) = true
has_unknown (cell ∷ cells) = has_unknown cells

-- the number whose bytes the cells are, the lowest first, where each is a byte
abbrev pub number_of : List Cell → Option ℕ
number_of [] = Some 0
number_of (Byte low ∷ cells) = option_map (λ high. low + 256 * high) (number_of cells)
number_of (cell ∷ cells) = None

-- the same as a reading: C4 where a cell was never written, and C16 where one belongs to a pointer
abbrev pub read_number : List Cell → Result ℕ Rule
read_number cells = if has_unknown cells then Err C4 else ok_or (number_of cells) C16

-- the cells are the parts of this pointer, from part k on, in order
abbrev pub are_parts : (block offset k : ℕ) → List Cell → Bool
are_parts block offset k [] = true
are_parts block offset k (Part b o p ∷ cells) = (b == block) && (o == offset) && (p == k) && are_parts block offset (k + 1) cells
are_parts block offset k (cell ∷ cells) = false

-- each cell is a zero byte
abbrev pub are_zeros : List Cell → Bool
are_zeros [] = true
are_zeros (Byte b ∷ cells) = (b == 0) && are_zeros cells
are_zeros (cell ∷ cells) = false

-- the pointer that eight cells hold: zero bytes are null, and parts are a pointer where they are those of one, in order
abbrev pub pointer_of : List Cell → Option Ptr
pointer_of (Part block offset part ∷ cells) = if are_parts block offset 0 (Part block offset part ∷ cells) then Some (To block offset) else None
pointer_of cells = if are_zeros cells then Some Null else None

-- the value that an access takes the cells for, where they hold one of its kind
abbrev pub value_of : Access → List Cell → Option Value
value_of (accesses.Number t) cells = option_map (λ bits. values.Num (num t (pos bits))) (number_of cells)
value_of accesses.Pointer cells = option_map values.Pointer (pointer_of cells)

-- what reading the cells gives: C4 where one was never written, and C16 where they hold no value of the access's kind
abbrev pub read : Access → List Cell → Result Value Rule
read how cells = if has_unknown cells then Err C4 else ok_or (value_of how cells) C16
