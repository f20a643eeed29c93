-- Prints that break no rule: the bytes of numbers and texts, part by part, with room for so many.
use Rattle.std.proofs.Common.{◌≡◌, ℕ, ℤ, ◌-◌, ◌*◌, ◌^◌, ◌≤◌, pos, neg_ℤ, ◌+ℤ◌, Bool, true, false, ◌||◌, ◌==◌, List, [], ◌∷◌, ◌++◌, length, Result, Ok, Err, refl, sym, ap, ◌∙◌, inl, inr, arith, length-append}
use Rattle.std.specs.Prelude.{if◌then◌else◌, nat_le, decimal}
use Rattle.std.specs.List.{list_all}
use Rattle.std.specs.Fmt.{signed_decimal, digits}
use Rattle.std.proofs.lemmas.Bool.{cases_lt, le-leb, eqb-true, and_parts}
use Rattle.std.proofs.lemmas.Bool.Decides.{nat_tests}
use Rattle.std.proofs.lemmas.Int.{ints}
use Rattle.std.proofs.Math.Nat.{mul_assoc}
use Rattle.std.proofs.Math.Pow.{pow_pos}
use Rattle.ak_words.specs.declared.rule.Rule.{Rule}
use Rattle.ak_words.specs.Wrapped.{residue}
use Rattle.ak_words.proofs.Residues.{residue_same, powers}
use Rattle.c_tree.specs.Typed.{Piece}
use Rattle.c_tree.specs.Typed as pieces
use Rattle.c_tree.specs.TypedPrinting.{written, parts}
use Rattle.block_store.specs.declared.values.Ptr.{Ptr}
use Rattle.block_store.specs.Blocks.{Blocks}
use Rattle.block_store.specs.Actions as source
use Rattle.block_store.specs.Actions.{printed_bytes, joined_bytes, all_bytes}
use Rattle.arena_meaning.specs.Arena.{Storage}
use Rattle.struct_ir.specs.Valid.{has_width, is_piece}
use Rattle.flat_words.specs.Words.{word_of}
use Rattle.flat_meaning.specs.Words.{Target}
use Rattle.flat_meaning.specs.Printing as flat
use Rattle.flat_meaning.specs.Printing.{Read, reads, too_long, behind, read_part, and_then, read_parts}
use Rattle.flat_meaning.specs.Actions.{printed_parts}
use Rattle.flat_meaning.specs.Names.{Name}
use Rattle.flat_simulation.specs.inner.World.{BlocksStand, GoesTo}
use Rattle.flat_simulation.specs.inner.Operands.{TargetsStand}
use Rattle.flat_simulation.proofs.Numbers.{word_apart}
use Rattle.flat_simulation.proofs.Texts.{fitted, text_stands}

-- ---- numbers

-- of a sum's word the lower bits are those of the sum
word_residue : (k : ℕ) (z c : ℤ) → k ≤ 64 → residue (2 ^ k) (pos (word_of z) +ℤ c) ≡ residue (2 ^ k) (z +ℤ c)
word_residue k z c le =
    let x = word_apart z in
    let q = 2 ^ (64 - k) in
    let m = 2 ^ k in
    let whole : q * m ≡ 2 ^ 64 = powers k 64 le in
    let left : x.1 * q * m ≡ x.1 * 2 ^ 64 = mul_assoc x.1 q m ∙ ap (λ n. x.1 * n) whole in
    let right : x.0 * q * m ≡ x.0 * 2 ^ 64 = mul_assoc x.0 q m ∙ ap (λ n. x.0 * n) whole in
    residue_same m (pos (word_of z) +ℤ c) (z +ℤ c) (x.1 * q) (x.0 * q) (pow_pos k) (omega (arith, ints, left, right, x.2))

same_residue : (k : ℕ) (z : ℤ) → k ≤ 64 → residue (2 ^ k) (pos (word_of z)) ≡ residue (2 ^ k) z
same_residue k z le =
    let x = word_apart z in
    let q = 2 ^ (64 - k) in
    let m = 2 ^ k in
    let whole : q * m ≡ 2 ^ 64 = powers k 64 le in
    let left : x.1 * q * m ≡ x.1 * 2 ^ 64 = mul_assoc x.1 q m ∙ ap (λ n. x.1 * n) whole in
    let right : x.0 * q * m ≡ x.0 * 2 ^ 64 = mul_assoc x.0 q m ∙ ap (λ n. x.0 * n) whole in
    residue_same m (pos (word_of z)) z (x.1 * q) (x.0 * q) (pow_pos k) (omega (arith, ints, left, right, x.2))

has_room : (bits : ℕ) → has_width bits ≡ true → bits ≤ 64
has_room bits e = by_first (bits == 32) (bits == 64) refl refl e
  where
    by_first : (a b : Bool) → (bits == 32) ≡ a → (bits == 64) ≡ b → (a || b) ≡ true → bits ≤ 64
    by_first true b one two f = omega (arith, eqb-true bits 32 one)
    by_first false true one two f = omega (arith, eqb-true bits 64 two)
    by_first false false one two f = absurd cc

-- a piece writes of a number's word what it writes of the number
pub written_word : (piece : Piece) (z : ℤ) → is_piece piece ≡ true → written piece (pos (word_of z)) ≡ written piece z
written_word (pieces.bytes all) z ok = refl
written_word (pieces.signed bits) z ok =
    ap (λ r. signed_decimal (neg_ℤ (pos (2 ^ (bits - 1))) +ℤ pos r)) (word_residue bits z (pos (2 ^ (bits - 1))) (has_room bits ok))
written_word (pieces.unsigned bits) z ok = ap decimal (same_residue bits z (has_room bits ok))
written_word (pieces.hexadecimal bits) z ok = ap (digits 16 false) (same_residue bits z (has_room bits ok))
written_word pieces.character z ok = ap (λ r. r ∷ []) (same_residue 8 z (omega arith))
written_word pieces.text z ok = refl

-- ---- parts

-- the same bytes, or a text at the pointer's address
abbrev pub PartStands : List Name → Blocks → Storage → source.Printed → flat.Printed → Type 0
PartStands names blocks s (source.bytes all) (flat.bytes these) = these ≡ all
PartStands names blocks s (source.bytes all) (flat.text a) = ⊥
PartStands names blocks s (source.text p) (flat.bytes these) = ⊥
PartStands names blocks s (source.text p) (flat.text a) = GoesTo names blocks s p a

-- one by one
abbrev pub PartsStand : List Name → Blocks → Storage → List source.Printed → List flat.Printed → Type 0
PartsStand names blocks s [] [] = Unit {0}
PartsStand names blocks s [] (q ∷ qs) = ⊥
PartsStand names blocks s (p ∷ ps) [] = ⊥
PartsStand names blocks s (p ∷ ps) (q ∷ qs) = PartStands names blocks s p q × PartsStand names blocks s ps qs

-- numbers have these words
abbrev pub HaveWords : List ℤ → List ℕ → Type 0
HaveWords [] [] = Unit {0}
HaveWords [] (w ∷ ws) = ⊥
HaveWords (z ∷ zs) [] = ⊥
HaveWords (z ∷ zs) (w ∷ ws) = (w ≡ word_of z) × HaveWords zs ws

module _ (names : List Name) (blocks : Blocks) (s : Storage) where
  -- what the machine prints, piece by piece
  abbrev there : List Piece → List Target → List ℕ → List flat.Printed
  there ps targets words = printed_parts ps targets words

  abbrev here : List Piece → List Ptr → List ℤ → List source.Printed
  here ps places numbers = parts source.bytes source.text ps numbers places

  -- a piece that takes a number
  number_part : (piece : Piece) (z : ℤ) (w : ℕ) → is_piece piece ≡ true → w ≡ word_of z → written piece (pos w) ≡ written piece z
  number_part piece z w ok is = ap (λ k. written piece (pos k)) is ∙ written_word piece z ok

  pub parts_stand : (ps : List Piece) (places : List Ptr) (targets : List Target) (numbers : List ℤ) (words : List ℕ) → list_all is_piece ps ≡ true
      → TargetsStand names blocks s places targets → HaveWords numbers words → PartsStand names blocks s (here ps places numbers) (there ps targets words)
  parts_stand [] places targets numbers words ok goes have = tt
  parts_stand (pieces.bytes all ∷ ps) places targets numbers words ok goes have = (refl, parts_stand ps places targets numbers words (and_parts (is_piece (pieces.bytes all)) _ ok).1 goes have)
  parts_stand (pieces.text ∷ ps) [] [] numbers words ok goes have = parts_stand ps [] [] numbers words (and_parts (is_piece pieces.text) _ ok).1 goes have
  parts_stand (pieces.text ∷ ps) [] (a ∷ targets) numbers words ok goes have = absurd goes
  parts_stand (pieces.text ∷ ps) (p ∷ places) [] numbers words ok goes have = absurd goes
  parts_stand (pieces.text ∷ ps) (p ∷ places) (a ∷ targets) numbers words ok goes have = (goes.0.goes, parts_stand ps places targets numbers words (and_parts (is_piece pieces.text) _ ok).1 goes.1 have)
  parts_stand (pieces.signed bits ∷ ps) places targets [] [] ok goes have = parts_stand ps places targets [] [] (and_parts (is_piece (pieces.signed bits)) _ ok).1 goes have
  parts_stand (pieces.signed bits ∷ ps) places targets [] (w ∷ words) ok goes have = absurd have
  parts_stand (pieces.signed bits ∷ ps) places targets (z ∷ numbers) [] ok goes have = absurd have
  parts_stand (pieces.signed bits ∷ ps) places targets (z ∷ numbers) (w ∷ words) ok goes have =
      let two = and_parts (is_piece (pieces.signed bits)) _ ok in
      (number_part (pieces.signed bits) z w two.0 have.0, parts_stand ps places targets numbers words two.1 goes have.1)
  parts_stand (pieces.unsigned bits ∷ ps) places targets [] [] ok goes have = parts_stand ps places targets [] [] (and_parts (is_piece (pieces.unsigned bits)) _ ok).1 goes have
  parts_stand (pieces.unsigned bits ∷ ps) places targets [] (w ∷ words) ok goes have = absurd have
  parts_stand (pieces.unsigned bits ∷ ps) places targets (z ∷ numbers) [] ok goes have = absurd have
  parts_stand (pieces.unsigned bits ∷ ps) places targets (z ∷ numbers) (w ∷ words) ok goes have =
      let two = and_parts (is_piece (pieces.unsigned bits)) _ ok in
      (number_part (pieces.unsigned bits) z w two.0 have.0, parts_stand ps places targets numbers words two.1 goes have.1)
  parts_stand (pieces.hexadecimal bits ∷ ps) places targets [] [] ok goes have = parts_stand ps places targets [] [] (and_parts (is_piece (pieces.hexadecimal bits)) _ ok).1 goes have
  parts_stand (pieces.hexadecimal bits ∷ ps) places targets [] (w ∷ words) ok goes have = absurd have
  parts_stand (pieces.hexadecimal bits ∷ ps) places targets (z ∷ numbers) [] ok goes have = absurd have
  parts_stand (pieces.hexadecimal bits ∷ ps) places targets (z ∷ numbers) (w ∷ words) ok goes have =
      let two = and_parts (is_piece (pieces.hexadecimal bits)) _ ok in
      (number_part (pieces.hexadecimal bits) z w two.0 have.0, parts_stand ps places targets numbers words two.1 goes have.1)
  parts_stand (pieces.character ∷ ps) places targets [] [] ok goes have = parts_stand ps places targets [] [] (and_parts (is_piece pieces.character) _ ok).1 goes have
  parts_stand (pieces.character ∷ ps) places targets [] (w ∷ words) ok goes have = absurd have
  parts_stand (pieces.character ∷ ps) places targets (z ∷ numbers) [] ok goes have = absurd have
  parts_stand (pieces.character ∷ ps) places targets (z ∷ numbers) (w ∷ words) ok goes have =
      let two = and_parts (is_piece pieces.character) _ ok in
      (number_part pieces.character z w two.0 have.0, parts_stand ps places targets numbers words two.1 goes have.1)

-- ---- what is read

-- two that break no rule
pub record AreJoined (first after : Result (List ℕ) Rule) (all : List ℕ) : Type 0 where
  pub before : List ℕ
  pub rest : List ℕ
  pub first_is : first ≡ Ok before
  pub after_is : after ≡ Ok rest
  pub whole : before ++ rest ≡ all

pub are_joined : (first after : Result (List ℕ) Rule) (all : List ℕ) → joined_bytes first after ≡ Ok all → AreJoined first after all
are_joined (Err rule) after all e = absurd cc
are_joined (Ok before) (Err rule) all e = absurd cc
are_joined (Ok before) (Ok rest) all e = record { before = before; rest = rest; first_is = refl; after_is = refl; whole = cc }

-- with room for both, or not
fitted_both : (first rest : List ℕ) (room : ℕ) (more : (room : ℕ) → Read) → ((room : ℕ) → more room ≡ fitted room rest) → and_then (fitted room first) room more ≡ fitted room (first ++ rest)
fitted_both first rest room more go = elim (cases_lt room (length first)) [
  | inl long ↦
      let here : nat_le (length first) room ≡ false = grind (arith, nat_tests) in
      let sum = length-append first rest in
      let there : nat_le (length (first ++ rest)) room ≡ false = grind (arith, nat_tests, sum) in
      ap (λ b. and_then (if b then reads first else too_long) room more) here ∙ sym (ap (λ b. if b then reads (first ++ rest) else too_long) there)
  | inr fits ↦
      let here : nat_le (length first) room ≡ true = le-leb (length first) room fits in
      ap (λ b. and_then (if b then reads first else too_long) room more) here ∙ ap (behind first) (go (room - length first)) ∙ behind_fitted fits
]
  where
    behind_fitted : length first ≤ room → behind first (fitted (room - length first) rest) ≡ fitted room (first ++ rest)
    behind_fitted fits = elim (cases_lt (room - length first) (length rest)) [
      | inl long ↦
          let here : nat_le (length rest) (room - length first) ≡ false = grind (arith, nat_tests) in
          let sum = length-append first rest in
          let there : nat_le (length (first ++ rest)) room ≡ false = grind (arith, nat_tests, sum) in
          ap (λ b. behind first (if b then reads rest else too_long)) here ∙ sym (ap (λ b. if b then reads (first ++ rest) else too_long) there)
      | inr short ↦
          let here : nat_le (length rest) (room - length first) ≡ true = le-leb (length rest) (room - length first) short in
          let there : nat_le (length (first ++ rest)) room ≡ true = le-leb (length (first ++ rest)) room (omega (arith, length-append first rest)) in
          ap (λ b. behind first (if b then reads rest else too_long)) here ∙ sym (ap (λ b. if b then reads (first ++ rest) else too_long) there)
    ]

module _ (names : List Name) (blocks : Blocks) (s : Storage) (stand : BlocksStand names blocks s) where
  pub part_read : (p : source.Printed) (q : flat.Printed) (room : ℕ) (all : List ℕ) → PartStands names blocks s p q → printed_bytes blocks p ≡ Ok all → read_part s.bytes q room ≡ fitted room all
  part_read (source.bytes these) (flat.bytes those) room all is e = let same : these ≡ all = cc in ap (fitted room) (is ∙ same)
  part_read (source.bytes these) (flat.text a) room all is e = absurd is
  part_read (source.text p) (flat.bytes those) room all is e = absurd is
  part_read (source.text p) (flat.text a) room all goes e = text_stands names blocks s stand p a room all goes e

  -- all parts are read that have room, and those that haven't end the print
  pub parts_read : (ps : List source.Printed) (qs : List flat.Printed) (all : List ℕ) → PartsStand names blocks s ps qs → all_bytes blocks ps ≡ Ok all → (room : ℕ) → read_parts s.bytes qs room ≡ fitted room all
  parts_read [] [] all is e room = let none : [] ≡ all = cc in sym (ap (λ b. if b then reads [] else too_long) (le-leb 0 room (omega arith))) ∙ ap (fitted room) none
  parts_read [] (q ∷ qs) all is e room = absurd is
  parts_read (p ∷ ps) [] all is e room = absurd is
  parts_read (p ∷ ps) (q ∷ qs) all is e room =
      let j = are_joined (printed_bytes blocks p) (all_bytes blocks ps) all e in
      ap (λ r. and_then r room (read_parts s.bytes qs)) (part_read p q room j.before is.0 j.first_is)
      ∙ fitted_both j.before j.rest room (read_parts s.bytes qs) (λ k. parts_read ps qs j.rest is.1 j.after_is k)
      ∙ ap (fitted room) j.whole
