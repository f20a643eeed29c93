-- The conversions and the pieces of a format, as the code has them.
use Rattle.std.specs.Prelude.{ℕ, Bool, true, false, List, [], ◌∷◌, ◌++◌, length}
use Rattle.std.specs.Borrow.{Bor}
use Rattle.c_tree.specs.Typed.{Piece, bytes, signed, unsigned, hexadecimal, character, text}
use Rattle.type_nodes.specs.declared.formats.Spelled.{Spelled}
use Rattle.type_nodes.specs.declared.formats.Spelled.TheVariants as codes
use Rattle.type_nodes.specs.declared.formats.Pieces.{Pieces}
use Rattle.c_typing.specs.Formats.{Conversion, before_pieces}
use Rattle.type_rules.specs.ListViews.{pieces_view}

-- the piece that a conversion of the code is
abbrev pub spelled_view : Spelled → Piece
spelled_view (codes.Signed bits) = signed bits
spelled_view (codes.Unsigned bits) = unsigned bits
spelled_view (codes.Hex bits) = hexadecimal bits
spelled_view codes.Char = character
spelled_view codes.Text = text
spelled_view codes.Percent = bytes (37 ∷ [])

-- the conversion that a row of the code's table is: its spelling and its piece
abbrev pub row_view : Bor (List ℕ) × Spelled → Conversion
row_view row = (row.0.now, spelled_view row.1)

-- how long a conversion's spelling is, and its piece
abbrev pub measured : Conversion → ℕ × Piece
measured c = (length c.0, c.1)

-- the same, as the code found it
abbrev pub found_view : ℕ × Spelled → ℕ × Piece
found_view f = (f.0, spelled_view f.1)

-- a piece of bytes as they stand
abbrev pub is_bytes : Piece → Bool
is_bytes (bytes all) = true
is_bytes piece = false

-- bytes that are gathered before other pieces
abbrev pub before_run : List ℕ → List Piece → List Piece
before_run [] pieces = pieces
before_run (b ∷ bs) pieces = before_pieces (bytes (b ∷ bs)) pieces

-- the pieces so far, before others
abbrev pub so_far : Pieces → List Piece → List Piece
so_far p rest = pieces_view p.done ++ before_run p.run.items rest
