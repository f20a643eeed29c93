-- The block that a realloc makes: it's the last one, and as large as was asked for.
use Rattle.std.proofs.Common.{◌≡◌, ◌<◌, ◌≤◌, ◌-◌, Bool, true, false, if◌then◌else◌, ℕ, zero, suc, List, [], ◌∷◌, ◌++◌, length, replicate, take, set, Option, Some, None, Result, Ok, Err, refl, ap, ◌∙◌, inl, inr, arith}
use Rattle.std.proofs.lemmas.Bool.{cases_lt}
use Rattle.std.proofs.lemmas.List.{length-append, length-replicate, length-take-le, set-append_left}
use Rattle.ak_words.specs.declared.rule.Rule.{Rule}
use Rattle.ak_words.specs.declared.rule.Rule.TheVariants.{C10}
use Rattle.block_store.specs.declared.values.BlockKind.TheVariants as kinds
use Rattle.block_store.specs.declared.values.Cell.{Cell}
use Rattle.block_store.specs.declared.values.Cell.TheVariants.{Unknown}
use Rattle.block_store.specs.declared.values.Ptr.{Ptr}
use Rattle.block_store.specs.declared.values.Ptr.TheVariants.{Null, To}
use Rattle.block_store.specs.Blocks.{Block, Blocks, live, made, made_with, ended, is_freeable, freed, cells_in, resized, renewed}
use Rattle.block_meaning.specs.Asking.{size_of_block, size_of_last}

-- the block that was made last is the last one
pub last_made : (blocks : Blocks) (b : Option Block) → size_of_last (blocks ++ b ∷ []) ≡ size_of_block b
last_made [] b = refl
last_made (x ∷ []) b = refl
last_made (x ∷ y ∷ more) b = last_made (y ∷ more) b

-- as large as it was to be
pub last_is : (blocks : Blocks) (size : ℕ) (first : Cell) → size_of_last (made blocks size kinds.Heap first) ≡ size
last_is blocks size first = last_made blocks (Some (record { kind = kinds.Heap; cells = replicate size first })) ∙ length-replicate size first

-- what may be freed has a name that was given
freeable_named : (blocks : Blocks) (name offset : ℕ) → is_freeable offset (live blocks name) ≡ true → name < length blocks
freeable_named [] name offset h = absurd cc
freeable_named (b ∷ blocks) zero offset h = omega arith
freeable_named (b ∷ blocks) (suc name) offset h = omega (arith, freeable_named blocks name offset h)

take_all : (n : ℕ) (cells : List Cell) → length cells ≤ n → length (take n cells) ≡ length cells
take_all zero [] le = refl
take_all zero (x ∷ xs) le = absurd (omega (arith, le))
take_all (suc n) [] le = refl
take_all (suc n) (x ∷ xs) le = ap suc (take_all n xs (omega (arith, le)))

length-resized : (size : ℕ) (cells : List Cell) → length (resized size cells) ≡ size
length-resized size cells = elim (cases_lt size (length cells)) [
  | inl less ↦ length-append (take size cells) (replicate (size - length cells) Unknown) ∙ omega (arith, less, length-take-le size cells (omega (arith, less)), length-replicate (size - length cells) Unknown)
  | inr more ↦ length-append (take size cells) (replicate (size - length cells) Unknown) ∙ omega (arith, more, length-replicate (size - length cells) Unknown, take_all size cells more)
]

-- the end of the old block leaves the new one the last
last_but_ended : (blocks : Blocks) (name size : ℕ) (cells : List Cell) → name < length blocks → size_of_last (ended (made_with blocks (resized size cells)) name) ≡ size
last_but_ended blocks name size cells h =
    let b : Option Block = Some (record { kind = kinds.Heap; cells = resized size cells }) in
    ap size_of_last (set-append_left blocks (b ∷ []) name None h) ∙ last_made (set blocks name None) b ∙ length-resized size cells

-- what comes of a realloc and what of a free: both break the rule, or the one makes a block of this size that is the last one, and the
-- other does its work
abbrev pub Renewal : (size : ℕ) → (renewed freed : Result Blocks Rule) → Type 0
Renewal size (Ok new) (Ok left) = size_of_last new ≡ size
Renewal size (Err rule) (Err other) = Unit {0}
Renewal size (Ok new) (Err other) = ⊥
Renewal size (Err rule) (Ok left) = ⊥

renewal_if : (blocks : Blocks) (name size : ℕ) (cells : List Cell) (b : Bool) → (b ≡ true → name < length blocks)
    → Renewal size (if b then Ok (ended (made_with blocks (resized size cells)) name) else Err C10) (if b then Ok (ended blocks name) else Err C10)
renewal_if blocks name size cells true h = last_but_ended blocks name size cells (h refl)
renewal_if blocks name size cells false h = tt

pub renewal : (blocks : Blocks) (at : Ptr) (size : ℕ) → Renewal size (renewed blocks at size) (freed blocks at)
renewal blocks Null size = last_is blocks size Unknown
renewal blocks (To name offset) size = renewal_if blocks name size (cells_in (live blocks name)) (is_freeable offset (live blocks name)) (freeable_named blocks name offset)
