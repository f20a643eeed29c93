-- The formats of printf (C11 7.21.6.1; this project's profile has no flags, widths and precisions).
use Rattle.std.specs.Prelude.{ℕ, zero, suc, ◌-◌, nat_eq, if◌then◌else◌, List, [], ◌∷◌, ◌++◌, length, codes, Option, Some, None}
use Rattle.std.specs.List.{starts_with, find}
use Rattle.std.specs.Option.{option_map}
use Rattle.ak_words.specs.IntType.{promoted_type}
use Rattle.c_tree.specs.Typed.{Ty, integer, pointer, Piece, bytes, signed, unsigned, hexadecimal, character, text, Expr, type_of}
use Rattle.c_typing.specs.Rules.{converted}

-- a conversion: how it is spelled, and the piece that it is
abbrev pub Conversion : Type 0
Conversion = List ℕ × Piece

-- the conversions; `l`, `ll` and `z` demand a number of 64 bits, and without them it has 32
unfoldable pub conversions : List Conversion
conversions = (codes "%d", signed 32) ∷ (codes "%i", signed 32) ∷ (codes "%u", unsigned 32) ∷ (codes "%x", hexadecimal 32)
    ∷ (codes "%ld", signed 64) ∷ (codes "%li", signed 64) ∷ (codes "%lu", unsigned 64) ∷ (codes "%lx", hexadecimal 64)
    ∷ (codes "%lld", signed 64) ∷ (codes "%lli", signed 64) ∷ (codes "%llu", unsigned 64) ∷ (codes "%llx", hexadecimal 64)
    ∷ (codes "%zd", signed 64) ∷ (codes "%zi", signed 64) ∷ (codes "%zu", unsigned 64) ∷ (codes "%zx", hexadecimal 64)
    ∷ (codes "%c", character) ∷ (codes "%s", text) ∷ (codes "%%", bytes (37 ∷ [])) ∷ []

-- bytes before other pieces: those that stand side by side are one piece
abbrev pub before_pieces : Piece → List Piece → List Piece
before_pieces (bytes front) (bytes rest ∷ pieces) = bytes (front ++ rest) ∷ pieces
before_pieces piece pieces = piece ∷ pieces

-- the conversion that the bytes begin with
abbrev pub conversion_at : List ℕ → Option Conversion
conversion_at all = find (λ (x : Conversion). starts_with nat_eq all x.0) conversions

-- a conversion before the pieces behind it, which begin where its spelling ends
abbrev pub with_conversion : Option Conversion → (behind : ℕ → Option (List Piece)) → Option (List Piece)
with_conversion None behind = None
with_conversion (Some (spelling, piece)) behind = option_map (before_pieces piece) (behind (length spelling - 1))

-- the pieces of a format, which ends at a zero byte; none where a `%` begins no conversion. The bytes that the last conversion
-- still takes are passed over
abbrev pub pieces_from : (passed_over : ℕ) → List ℕ → Option (List Piece)
pieces_from passed_over [] = Some []
pieces_from (suc n) (byte ∷ rest) = pieces_from n rest
pieces_from zero (byte ∷ rest) =
    if nat_eq byte 0 then Some []
    else (if nat_eq byte 37 then with_conversion (conversion_at (byte ∷ rest)) (λ n. pieces_from n rest)
    else option_map (before_pieces (bytes (byte ∷ []))) (pieces_from 0 rest))

-- the pieces of a whole format, if each `%` in it begins a conversion
abbrev pub pieces_of : List ℕ → Option (List Piece)
pieces_of all = pieces_from 0 all

-- ---- the arguments behind a format

-- a number for a piece that writes one of so many bits, promoted (6.5.2.2 p6)
abbrev pub number_for : (bits : ℕ) → Ty → Expr → Option Expr
number_for bits (integer t) e = if nat_eq (promoted_type t).bits bits then Some (converted t (promoted_type t) e) else None
number_for bits t e = None

-- a pointer to char, signed or not
abbrev pub text_for : Ty → Expr → Option Expr
text_for (pointer (integer t)) e = if nat_eq t.bits 8 then Some e else None
text_for t e = None

-- what a piece takes of the arguments
abbrev pub argument_for : Piece → Expr → Option Expr
argument_for (bytes all) e = None
argument_for (signed bits) e = number_for bits (type_of e) e
argument_for (unsigned bits) e = number_for bits (type_of e) e
argument_for (hexadecimal bits) e = number_for bits (type_of e) e
argument_for character e = number_for 32 (type_of e) e
argument_for text e = text_for (type_of e) e

-- an argument before those behind it, if all of them fit their pieces
abbrev pub before_argument : Option Expr → Option (List Expr) → Option (List Expr)
before_argument (Some e) (Some es) = Some (e ∷ es)
before_argument None es = None
before_argument (Some e) None = None

-- one argument for each piece that takes one, and no more
abbrev pub arguments_for : List Piece → List Expr → Option (List Expr)
arguments_for [] [] = Some []
arguments_for [] (e ∷ es) = None
arguments_for (bytes all ∷ pieces) es = arguments_for pieces es
arguments_for (piece ∷ pieces) [] = None
arguments_for (piece ∷ pieces) (e ∷ es) = before_argument (argument_for piece e) (arguments_for pieces es)
