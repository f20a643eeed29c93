-- The accesses of numbers stand where the types of numbers do.
use Rattle.std.proofs.Common.{◌≡◌, ℕ, zero, suc, ◌<◌, refl, arith}
use Rattle.block_store.specs.declared.values.Access.TheVariants as accesses
use Rattle.ak_words.specs.IntType.{char}
use Rattle.formats.specs.Formats.{at_number}
use Rattle.code_file.specs.Numbers.{other_types, other_accesses}

pub number_at : (n : ℕ) → n < 8 → accesses.Number (at_number char other_types n) ≡ at_number (accesses.Number char) other_accesses n
number_at zero h = refl
number_at (suc zero) h = refl
number_at (suc (suc zero)) h = refl
number_at (suc (suc (suc zero))) h = refl
number_at (suc (suc (suc (suc zero)))) h = refl
number_at (suc (suc (suc (suc (suc zero))))) h = refl
number_at (suc (suc (suc (suc (suc (suc zero)))))) h = refl
number_at (suc (suc (suc (suc (suc (suc (suc zero))))))) h = refl
number_at (suc (suc (suc (suc (suc (suc (suc (suc n)))))))) h = absurd (omega arith)
