-- Arithmetic and comparison of pointers (C11 6.5.6, 6.5.8, 6.5.9). A pointer to a dead block may be copied, and nothing else (C9).
use Rattle.std.specs.Prelude.{ℕ, ◌==◌, ◌&&◌, not, nat_le, Bool, true, false, if◌then◌else◌, length, Option, Some, None, Result, Ok, Err, ℤ, pos, negsuc, ◌+ℤ◌, ◌-ℤ◌, ◌*ℤ◌, unsigned_abs, ◌%◌}
use Rattle.std.specs.Int.{int_div_euclid}
use Rattle.ak_words.specs.declared.operation.Op.{Op}
use Rattle.ak_words.specs.declared.operation.Op.TheVariants as ops
use Rattle.ak_words.specs.declared.rule.Rule.{Rule}
use Rattle.ak_words.specs.declared.rule.Rule.TheVariants.{C7, C8, C9}
use Rattle.block_store.specs.declared.values.Ptr.{Ptr}
use Rattle.block_store.specs.declared.values.Ptr.TheVariants.{Null, To}
use Rattle.block_store.specs.Blocks.{Block, Blocks, live}

-- ---- sums

-- the pointer to a whole offset of a block of this size, or C7 outside 0 to the size
abbrev pub within : (size name : ℕ) → ℤ → Result Ptr Rule
within size name (pos offset) = if nat_le offset size then Ok (To name offset) else Err C7
within size name (negsuc n) = Err C7

-- a pointer into a block, moved by a whole number of bytes: C9 where the block is dead, then C7
abbrev pub moved_in : (name offset : ℕ) → (by : ℤ) → Option Block → Result Ptr Rule
moved_in name offset by None = Err C9
moved_in name offset by (Some b) = within (length b.cells) name (pos offset +ℤ by)

-- null moves by 0 alone
abbrev pub moved_null : (by : ℤ) → Result Ptr Rule
moved_null (pos n) = if n == 0 then Ok Null else Err C7
moved_null (negsuc n) = Err C7

-- a pointer moved by a whole number of bytes (C11 6.5.6 p8)
abbrev pub moved : Blocks → Ptr → (by : ℤ) → Result Ptr Rule
moved blocks Null by = moved_null by
moved blocks (To name offset) by = moved_in name offset by (live blocks name)

-- a pointer plus an index into elements of this size, which is a whole number
abbrev pub indexed : Blocks → Ptr → (index : ℤ) → (size : ℕ) → Result Ptr Rule
indexed blocks p index size = moved blocks p (index *ℤ pos size)

-- ---- use of a pointer's value

-- the block lives
abbrev pub lives_in : Option Block → Bool
lives_in None = false
lives_in (Some b) = true

-- the pointer is null or points into a live block
abbrev pub is_usable : Blocks → Ptr → Bool
is_usable blocks Null = true
is_usable blocks (To name offset) = lives_in (live blocks name)

-- a result of two pointers, where both may be used
abbrev pub both_usable : {A : Type 0} → Blocks → (p q : Ptr) → Result A Rule → Result A Rule
both_usable blocks p q r = if is_usable blocks p && is_usable blocks q then r else Err C9

-- is it other than null (C11 6.5.3.3 p5, 6.8.4.1 p2)
abbrev pub is_other_than_null : Ptr → Bool
is_other_than_null Null = false
is_other_than_null (To name offset) = true

-- whether a pointer counts as true, as one other than null does; C9 of a dead block
abbrev pub tested : Blocks → Ptr → Result Bool Rule
tested blocks p = if is_usable blocks p then Ok (is_other_than_null p) else Err C9

-- ---- equality, order and difference

-- the same pointer; pointers into different blocks differ (C11 6.5.9p6; this project's profile where one points behind a block's end)
abbrev pub is_same : (p q : Ptr) → Bool
is_same Null Null = true
is_same Null (To name offset) = false
is_same (To name offset) Null = false
is_same (To b o) (To c u) = (b == c) && (o == u)

-- how far p stands behind q in their block: C8 where they point into different blocks, or one alone is null
abbrev pub distance : (p q : Ptr) → Result ℤ Rule
distance Null Null = Ok (pos 0)
distance Null (To name offset) = Err C8
distance (To name offset) Null = Err C8
distance (To b o) (To c u) = if b == c then Ok (pos o -ℤ pos u) else Err C8

-- a test of the distance
abbrev pub by_distance : (ℤ → Bool) → Result ℤ Rule → Result Bool Rule
by_distance test (Ok z) = Ok (test z)
by_distance test (Err rule) = Err rule

-- the distance is below 0: the first pointer stands before the second
abbrev pub is_below_0 : ℤ → Bool
is_below_0 (pos n) = false
is_below_0 (negsuc n) = true

-- what a comparison of two usable pointers answers; an operation that compares nothing has none (C8)
abbrev pub related : Op → (p q : Ptr) → Result Bool Rule
related ops.Eq p q = Ok (is_same p q)
related ops.Ne p q = Ok (not (is_same p q))
related ops.Lt p q = by_distance is_below_0 (distance p q)
related ops.Ge p q = by_distance (λ z. not (is_below_0 z)) (distance p q)
related ops.Gt p q = by_distance is_below_0 (distance q p)
related ops.Le p q = by_distance (λ z. not (is_below_0 z)) (distance q p)
related _ p q = Err C8

-- a comparison (C11 6.5.8 p5, 6.5.9 p6): C9 of a dead block, then C8
abbrev pub compared : Blocks → Op → (p q : Ptr) → Result Bool Rule
compared blocks op p q = both_usable blocks p q (related op p q)

-- the distance in elements of this size, or C8 where it's no multiple of it (of 0, only 0 is one)
abbrev pub in_elements : (size : ℕ) → Result ℤ Rule → Result ℤ Rule
in_elements size (Err rule) = Err rule
in_elements size (Ok z) = if unsigned_abs z % size == 0 then Ok (int_div_euclid z (pos size)) else Err C8

-- a difference (C11 6.5.6 p9): C9 of a dead block, then C8
abbrev pub difference : Blocks → (p q : Ptr) → (size : ℕ) → Result ℤ Rule
difference blocks p q size = both_usable blocks p q (in_elements size (distance p q))
