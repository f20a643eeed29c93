-- The classes of bytes that a text is made of (C11 5.2.1).
use Rattle.std.specs.Prelude.{ℕ, ◌==◌, nat_le, Bool, ◌&&◌, ◌||◌, not}

-- from the one byte to the other
abbrev pub is_between : ℕ → ℕ → ℕ → Bool
is_between low high byte = nat_le low byte && nat_le byte high

-- white space: tab, line feed, vertical tab, form feed, carriage return and the blank
abbrev pub is_white : ℕ → Bool
is_white byte = is_between 9 13 byte || byte == 32

-- 0 to 9
abbrev pub is_digit : ℕ → Bool
is_digit byte = is_between 48 57 byte

-- 0 to 7
abbrev pub is_octal_digit : ℕ → Bool
is_octal_digit byte = is_between 48 55 byte

-- 0 to 9, A to F, a to f
abbrev pub is_hex_digit : ℕ → Bool
is_hex_digit byte = is_digit byte || is_between 65 70 byte || is_between 97 102 byte

-- a letter or _
abbrev pub is_letter : ℕ → Bool
is_letter byte = is_between 65 90 byte || is_between 97 122 byte || byte == 95

-- what a name may go on with
abbrev pub is_name_byte : ℕ → Bool
is_name_byte byte = is_letter byte || is_digit byte

-- any byte but the one that ends a line
abbrev pub is_in_line : ℕ → Bool
is_in_line byte = not (byte == 10)
