-- The text that a pointer points to (C11 7.1.1 p1: a string).
use Rattle.std.specs.Prelude.{ℕ, zero, suc, List, [], ◌∷◌, length, drop, Option, Some, None, Result, Ok, Err}
use Rattle.ak_words.specs.declared.rule.Rule.{Rule}
use Rattle.ak_words.specs.declared.rule.Rule.TheVariants.{C4, C5, C16}
use Rattle.block_store.specs.declared.values.Cell.{Cell}
use Rattle.block_store.specs.declared.values.Cell.TheVariants.{Unknown, Byte, Part}
use Rattle.block_store.specs.declared.values.Ptr.{Ptr}
use Rattle.block_store.specs.declared.values.Ptr.TheVariants.{Null, To}
use Rattle.block_store.specs.Blocks.{Block, Blocks, live}

-- a byte before the text that was read behind it
abbrev pub behind_byte : ℕ → Result (List ℕ) Rule → Result (List ℕ) Rule
behind_byte byte (Err rule) = Err rule
behind_byte byte (Ok bytes) = Ok (byte ∷ bytes)

-- the bytes before the first zero byte: each cell is read in turn, so the block's end breaks C5, a cell that was never written C4,
-- and one of a pointer C16
abbrev pub text_of : List Cell → Result (List ℕ) Rule
text_of [] = Err C5
text_of (Byte zero ∷ cells) = Ok []
text_of (Byte (suc n) ∷ cells) = behind_byte (suc n) (text_of cells)
text_of (Unknown ∷ cells) = Err C4
text_of (Part block offset part ∷ cells) = Err C16

-- the text in a block from an offset on, if it lives
abbrev pub text_in : (offset : ℕ) → Option Block → Result (List ℕ) Rule
text_in offset None = Err C5
text_in offset (Some b) = text_of (drop offset b.cells)

-- the text that a pointer points to
abbrev pub text_at : Blocks → Ptr → Result (List ℕ) Rule
text_at blocks Null = Err C5
text_at blocks (To name offset) = text_in offset (live blocks name)

-- its length
abbrev pub length_of : Result (List ℕ) Rule → Result ℕ Rule
length_of (Err rule) = Err rule
length_of (Ok bytes) = Ok (length bytes)

-- the length of the text that a pointer points to, without the zero byte at its end
abbrev pub text_len : Blocks → Ptr → Result ℕ Rule
text_len blocks at = length_of (text_at blocks at)
