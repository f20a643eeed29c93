use Rattle.std.specs.Prelude.{refl, ◌-◌, ◌^◌, nat_lt, true, false, ℤ, pos, neg_ℤ, ◌+ℤ◌, ◌≤ℤ◌, ◌<ℤ◌, int_le, int_lt, Bool, ◌&&◌, if◌then◌else◌}
use Rattle.ak_words.specs.declared.int_type.IntType.{IntType}

-- char, which is signed (this project's profile)
abbrev pub char : IntType
char = record { signed = true; bits = 8; known_width = refl }

-- int
abbrev pub int : IntType
int = record { signed = true; bits = 32; known_width = refl }

-- unsigned int
abbrev pub unsigned_int : IntType
unsigned_int = record { signed = false; bits = 32; known_width = refl }

-- long
abbrev pub long : IntType
long = record { signed = true; bits = 64; known_width = refl }

-- unsigned long, which is also size_t
abbrev pub unsigned_long : IntType
unsigned_long = record { signed = false; bits = 64; known_width = refl }

-- the least number of a type: -2^(bits - 1) where it is signed, and else 0 (C11 6.2.6.2)
abbrev pub least : IntType → ℤ
least t = if t.signed then neg_ℤ (pos (2 ^ (t.bits - 1))) else pos 0

-- a type of k bits holds the 2^k whole numbers from its least one on
abbrev pub IsInRange : IntType → ℤ → Type 0
IsInRange t z = (least t ≤ℤ z) × (z <ℤ (least t +ℤ pos (2 ^ t.bits)))

-- the same as a test
abbrev pub is_held : IntType → ℤ → Bool
is_held t z = int_le (least t) z && int_lt z (least t +ℤ pos (2 ^ t.bits))

-- every type below 32 bits becomes int, and each other stays as it is (C11 6.3.1.1)
abbrev pub promoted_type : IntType → IntType
promoted_type t = if nat_lt t.bits 32 then int else t

-- the wider of two types, and at equal width the second unless the first is unsigned
abbrev pub wider : IntType → IntType → IntType
wider a b = if nat_lt a.bits b.bits then b else (if nat_lt b.bits a.bits then a else (if a.signed then b else a))

-- the common type of two operands: each is promoted, and the wider is taken, at equal width the unsigned one (C11 6.3.1.8)
abbrev pub common_type : IntType → IntType → IntType
common_type a b = wider (promoted_type a) (promoted_type b)
