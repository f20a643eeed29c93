-- What printf writes (C11 7.21.6.1).
use Rattle.std.specs.Prelude.{ℕ, ◌-◌, ◌^◌, ℤ, pos, neg_ℤ, ◌+ℤ◌, Bool, true, false, List, [], ◌∷◌, decimal}
use Rattle.std.specs.Fmt.{signed_decimal, digits}
use Rattle.ak_words.specs.Wrapped.{residue}
use Rattle.c_tree.specs.Typed.{Piece, bytes, signed, unsigned, hexadecimal, character, text}

-- a number of so many bits that is congruent to n: from -half on
abbrev pub signed_value : (bits : ℕ) → ℤ → ℤ
signed_value bits n = neg_ℤ (pos (2 ^ (bits - 1))) +ℤ pos (residue (2 ^ bits) (n +ℤ pos (2 ^ (bits - 1))))

-- what a piece writes for a number, which is first converted to the piece's type
abbrev pub written : Piece → ℤ → List ℕ
written (bytes all) n = all
written (signed bits) n = signed_decimal (signed_value bits n)
written (unsigned bits) n = decimal (residue (2 ^ bits) n)
written (hexadecimal bits) n = digits 16 false (residue (2 ^ bits) n)
written character n = residue 256 n ∷ []
written text n = []

-- the piece takes a number of the arguments
abbrev pub takes_number : Piece → Bool
takes_number (bytes all) = false
takes_number (signed bits) = true
takes_number (unsigned bits) = true
takes_number (hexadecimal bits) = true
takes_number character = true
takes_number text = false

-- the piece takes a pointer to a text of the arguments
abbrev pub takes_text : Piece → Bool
takes_text text = true
takes_text piece = false

-- the parts of a print, in order: for each piece the bytes that it writes, or the text that it takes; the numbers and the texts
-- are the arguments of these two kinds, each in order
abbrev pub parts : {T Part : Type 0} → (bytes_part : List ℕ → Part) → (text_part : T → Part) → List Piece → List ℤ → List T → List Part
parts b t [] numbers texts = []
parts b t (bytes all ∷ pieces) numbers texts = b all ∷ parts b t pieces numbers texts
parts b t (text ∷ pieces) numbers (at ∷ texts) = t at ∷ parts b t pieces numbers texts
parts b t (text ∷ pieces) numbers [] = parts b t pieces numbers []
parts b t (piece ∷ pieces) (n ∷ numbers) texts = b (written piece n) ∷ parts b t pieces numbers texts
parts b t (piece ∷ pieces) [] texts = parts b t pieces [] texts
