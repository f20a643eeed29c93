-- What a value is stored as is read as that value again.
use Rattle.std.proofs.Common.{◌≡◌, refl, ap, ◌∙◌, ℕ, zero, suc, ◌+◌, ◌*◌, ◌/◌, ◌%◌, ◌^◌, ◌<◌, List, [], ◌∷◌, map, Some, Ok, arith, pos}
use Rattle.std.proofs.lemmas.Bool.Decides.{nat_tests}
use Rattle.std.specs.Prelude.{true, false, ◌==◌, IsTrue}
use Rattle.std.specs.Option.{option_map}
use Rattle.ak_words.specs.declared.int_type.IntType.{IntType}
use Rattle.ak_words.specs.declared.number.Num.{Num}
use Rattle.ak_words.specs.Num.{num}
use Rattle.ak_words.specs.Width.{is_width}
use Rattle.ak_words.specs.Wrapped.{bit_pattern}
use Rattle.ak_words.specs.inner.InRange.{residue-below}
use Rattle.ak_words.specs.Bytes.{low_bytes}
use Rattle.ak_words.proofs.Bytes.{low_bytes-suc}
use Rattle.ak_words.proofs.Numbers.{num-residue}
use Rattle.std.proofs.Math.Pow.{pow_pos}
use Rattle.block_store.specs.declared.values.Access.TheVariants as accesses
use Rattle.block_store.specs.declared.values.Cell.{Cell}
use Rattle.block_store.specs.declared.values.Cell.TheVariants.{Byte}
use Rattle.block_store.specs.declared.values.Ptr.TheVariants.{Null, To}
use Rattle.block_store.specs.declared.values.Value.{Value}
use Rattle.block_store.specs.declared.values.Value.TheVariants as values
use Rattle.block_store.specs.Cells.{access_of, cells_of, has_unknown, number_of, read}

-- bytes are written cells
has_unknown-bytes : (bs : List ℕ) → has_unknown (map Byte bs) ≡ false
has_unknown-bytes [] = refl
has_unknown-bytes (b ∷ bs) = has_unknown-bytes bs

-- the bytes of a number give it back
number_of-bytes : (k n : ℕ) → n < 256 ^ k → number_of (map Byte (low_bytes k n)) ≡ Some n
number_of-bytes zero n h = ap Some (omega arith)
number_of-bytes (suc k) n h =
    let small : n / 256 < 256 ^ k = omega arith in
    ap (λ bs. number_of (map Byte bs)) (low_bytes-suc k n) ∙ ap (λ r. option_map (λ high. n % 256 + 256 * high) r) (number_of-bytes k (n / 256) small) ∙ (let e : n % 256 + 256 * (n / 256) ≡ n = omega arith in ap Some e)

-- a width in bits is eight times one in bytes
width_bytes : (n : ℕ) → IsTrue (is_width n) → 256 ^ (n / 8) ≡ 2 ^ n
width_bytes n h = grind (arith, nat_tests)

-- reading cells that are all written, and hold a number
read_number : (t : IntType) (cells : List Cell) (n : ℕ) → has_unknown cells ≡ false → number_of cells ≡ Some n → read (accesses.Number t) cells ≡ Ok (values.Num (num t (pos n)))
read_number t cells n p q = rw (p, q) refl

-- a number is found equal to itself
same : (n : ℕ) → (n == n) ≡ true
same n = grind (arith, nat_tests)

-- what a value is stored as, read by the access that it fits, is the value
pub read-cells_of : (v : Value) → read (access_of v) (cells_of v) ≡ Ok v
read-cells_of (values.Num n) =
    let p = bit_pattern n.ty n.value in
    let small : p < 256 ^ (n.ty.bits / 8) = rw (width_bytes n.ty.bits n.ty.known_width) (residue-below n.value (2 ^ n.ty.bits) (pow_pos n.ty.bits)) in
    read_number n.ty (cells_of (values.Num n)) p (has_unknown-bytes (low_bytes (n.ty.bits / 8) p)) (number_of-bytes (n.ty.bits / 8) p small) ∙ ap (λ (m : Num). Ok (values.Num m)) (num-residue n)
read-cells_of (values.Pointer Null) = refl
read-cells_of (values.Pointer (To b o)) = simp (same b, same o)
