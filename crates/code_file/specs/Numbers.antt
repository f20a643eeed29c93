-- Numbers of a code file. They are little-endian; a list is its count of four bytes and then its items.
use Rattle.std.specs.Prelude.{refl, ℕ, zero, suc, ◌+◌, ◌-◌, ◌/◌, Bool, true, false, ◌||◌, ◌==◌, if◌then◌else◌, List, [], ◌∷◌, Option, Some, None, ℤ, pos}
use Rattle.ak_words.specs.declared.int_type.IntType.{IntType}
use Rattle.ak_words.specs.IntType.{char, int, long, unsigned_int, unsigned_long}
use Rattle.ak_words.specs.Wrapped.{bit_pattern, wrapped_value}
use Rattle.block_store.specs.declared.values.Access.{Access}
use Rattle.block_store.specs.declared.values.Access.TheVariants as accesses
use Rattle.formats.specs.Formats.{Format, one_byte, seen, ◌▸◌, byte_below, one_of, number, u32, exactly}

-- ---- a number or none, which is 4294967295

-- what four bytes of this number say
abbrev pub option_at : ℕ → Option ℕ
option_at n = if n == 4294967295 then None else Some n

-- the number of four bytes that say it
abbrev pub number_of : Option ℕ → ℕ
number_of None = 4294967295
number_of (Some n) = n

-- four bytes
unfoldable pub u32_or_none : Format (Option ℕ)
u32_or_none = seen option_at number_of u32

-- ---- a flag: 0 or 1

-- its number
abbrev pub flag_number : Bool → ℕ
flag_number false = 0
flag_number true = 1

-- one byte
unfoldable pub flag : Format Bool
flag = one_of false (true ∷ []) flag_number

-- ---- the type of a number: 0 to 3 are signed and 4 to 7 unsigned, of 8, 16, 32 and 64 bits each

-- the place of a width among the four
abbrev pub width_number : ℕ → ℕ
width_number bits = if bits == 8 then 0 else (if bits == 16 then 1 else (if bits == 32 then 2 else 3))

-- the number of a type
abbrev pub type_number : IntType → ℕ
type_number t = (if t.signed then 0 else 4) + width_number t.bits

-- short
abbrev pub short : IntType
short = record { signed = true; bits = 16; known_width = refl }

-- unsigned char
abbrev pub unsigned_char : IntType
unsigned_char = record { signed = false; bits = 8; known_width = refl }

-- unsigned short
abbrev pub unsigned_short : IntType
unsigned_short = record { signed = false; bits = 16; known_width = refl }

-- the types behind the first one
abbrev pub other_types : List IntType
other_types = short ∷ int ∷ long ∷ unsigned_char ∷ unsigned_short ∷ unsigned_int ∷ unsigned_long ∷ []

-- one byte
unfoldable pub int_type : Format IntType
int_type = one_of char other_types type_number

-- ---- a type of an access: that of a number, or 8 for a pointer

-- its number
abbrev pub access_number : Access → ℕ
access_number (accesses.Number t) = type_number t
access_number accesses.Pointer = 8

-- the accesses behind the first one
abbrev pub other_accesses : List Access
other_accesses = accesses.Number short ∷ accesses.Number int ∷ accesses.Number long ∷ accesses.Number unsigned_char ∷ accesses.Number unsigned_short ∷ accesses.Number unsigned_int ∷ accesses.Number unsigned_long ∷ accesses.Pointer ∷ []

-- one byte
unfoldable pub access : Format Access
access = one_of (accesses.Number char) other_accesses access_number

-- ---- the value of a number: its bits, with zeros above its type's width, in eight bytes

-- so many zero bytes
abbrev pub zeros : ℕ → List ℕ
zeros zero = []
zeros (suc n) = 0 ∷ zeros n

-- the value of a type
unfoldable pub value : IntType → Format ℤ
value t = seen (λ x. wrapped_value t (pos x.0)) (λ z. (bit_pattern t z, tt)) (number (t.bits / 8) ▸ exactly (zeros (8 - t.bits / 8)))

-- ---- how many bits a piece of a format writes: 32 or 64

-- one byte
unfoldable pub piece_bits : Format ℕ
piece_bits = one_byte (λ b. (b == 32) || (b == 64)) 32
