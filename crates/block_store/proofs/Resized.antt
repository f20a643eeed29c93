-- A list that is cut or filled up.
use Rattle.std.proofs.Common.{◌≡◌, ◌∙◌, ℕ, ◌-◌, List, ◌++◌, length, take, replicate, ap, inl, inr, arith}
use Rattle.std.specs.Prelude.{min}
use Rattle.std.proofs.lemmas.Bool.{cases_lt}
use Rattle.std.proofs.lemmas.List.{length-take, take_all}
use Rattle.block_store.specs.declared.values.Cell.{Cell}
use Rattle.block_store.specs.declared.values.Cell.TheVariants.{Unknown}
use Rattle.block_store.specs.Blocks.{resized}

-- of a list's first cells, as many as a new block can have, the new block is made as of all
pub kept_resized : (size k : ℕ) (cells : List Cell) → k ≡ min (length cells) size → resized size (take k cells) ≡ resized size cells
kept_resized size k cells is = elim (cases_lt (length cells) size) [
  | inl less ↦
      let whole : take k cells ≡ cells = take_all k cells (omega (arith, is, less)) in
      ap (resized size) whole
  | inr more ↦
      let cut : k ≡ size = omega (arith, is, more) in
      let long : length (take size cells) ≡ size = length-take size cells ∙ omega (arith, more) in
      let none : size - length (take size cells) ≡ size - length cells = omega (arith, long, more) in
      let twice : take size (take size cells) ≡ take size cells = take_all size (take size cells) (omega (arith, long)) in
      ap (λ (n : ℕ). resized size (take n cells)) cut ∙ (λ i. twice i ++ replicate (none i) Unknown)
]
