-- How many bytes are read of a text.
use Rattle.std.proofs.Common.{◌≡◌, ℕ, zero, suc, ◌+◌, ◌-◌, length, arith, List, [], ◌∷◌, ◌++◌, Option, Some, None, Result, Ok, Err, refl, ap, ◌∙◌, length-append}
use Rattle.ak_words.specs.declared.rule.Rule.{Rule}
use Rattle.block_store.specs.declared.values.Cell.{Cell}
use Rattle.block_store.specs.declared.values.Cell.TheVariants.{Unknown, Byte, Part}
use Rattle.block_store.specs.declared.values.Ptr.{Ptr}
use Rattle.block_store.specs.declared.values.Ptr.TheVariants.{Null, To}
use Rattle.block_store.specs.Blocks.{Block, Blocks, live}
use Rattle.block_store.specs.Texts.{behind_byte, text_of, text_in, text_at}
use Rattle.block_store.specs.Actions.{Reached, joined_bytes, bytes_read, cells_from, reading, reading_text, reading_on}

one_more : (n k : ℕ) (rest : Result (List ℕ) Rule) (bytes : List ℕ) → ((more : List ℕ) → rest ≡ Ok more → k ≡ suc (length more)) → behind_byte n rest ≡ Ok bytes → suc k ≡ suc (length bytes)
one_more n k (Ok more) bytes h e = let f : bytes ≡ n ∷ more = cc in rw f (ap suc (h more refl))
one_more n k (Err rule) bytes h e = absurd cc

count_of : (cells : List Cell) (bytes : List ℕ) → text_of cells ≡ Ok bytes → bytes_read cells ≡ suc (length bytes)
count_of [] bytes e = absurd cc
count_of (Byte zero ∷ cells) bytes e = let f : bytes ≡ [] = cc in rw f refl
count_of (Byte (suc n) ∷ cells) bytes e = one_more (suc n) (bytes_read cells) (text_of cells) bytes (count_of cells) e
count_of (Unknown ∷ cells) bytes e = absurd cc
count_of (Part block offset part ∷ cells) bytes e = absurd cc

count_behind : (cells : List Cell) (before after : List ℕ) (r : Result (List ℕ) Rule) → text_of cells ≡ r → Ok after ≡ joined_bytes (Ok before) r → length after - length before + 1 ≡ bytes_read cells
count_behind cells before after (Ok bytes) e f =
    let g : after ≡ before ++ bytes = cc in
    let h : length after ≡ length before + length bytes = ap length g ∙ length-append before bytes in
    omega (arith, h, count_of cells bytes e)
count_behind cells before after (Err rule) e f = absurd cc

read_in : (name offset : ℕ) (b : Option Block) (before after : List ℕ) → Ok after ≡ joined_bytes (Ok before) (text_in offset b)
    → reading (length after - length before + 1) (To name offset) ≡ reading (bytes_read (cells_from offset b)) (To name offset)
read_in name offset None before after e = absurd cc
read_in name offset (Some b) before after e = ap (λ n. reading n (To name offset)) (count_behind (cells_from offset (Some b)) before after (text_in offset (Some b)) refl e)

-- a text that is gathered behind other bytes is read with the zero byte that ends it
pub text_read : (blocks : Blocks) (at : Ptr) (before after : List ℕ) (m n : ℕ) → m ≡ length before → n ≡ length after → Ok after ≡ joined_bytes (Ok before) (text_at blocks at) → reading (n - m + 1) at ≡ reading_text blocks at
text_read blocks Null before after m n f g e = refl
text_read blocks (To name offset) before after m n f g e = rw (f, g) (read_in name offset (live blocks name) before after e)

-- behind a part that was gathered the next is read
pub read_on : (before after : List ℕ) (first : Result (List ℕ) Rule) (more : List Reached) → Ok after ≡ joined_bytes (Ok before) first → reading_on first more ≡ more
read_on before after (Ok bytes) more e = refl
read_on before after (Err rule) more e = absurd cc
