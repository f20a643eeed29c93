-- What a realloc comes to, by what a free would come to.
use Rattle.std.proofs.Common.{◌≡◌, ◌^◌, ℕ, Bool, true, false, if◌then◌else◌, nat_lt, List, [], length, Some, Result, Ok, Err, refl}
use Rattle.ak_words.specs.declared.rule.Rule.{Rule}
use Rattle.ak_words.specs.declared.rule.Rule.TheVariants.{C10}
use Rattle.block_store.specs.declared.values.Answer.{Answer}
use Rattle.block_store.specs.declared.values.Answer.TheVariants as answers
use Rattle.block_store.specs.declared.values.Ptr.{Ptr}
use Rattle.block_store.specs.declared.values.Ptr.TheVariants.{Null, To}
use Rattle.block_store.specs.declared.values.Value.TheVariants as values
use Rattle.block_store.specs.Actions.{World, Reached, went, unfit, broke, under, renews, acted, reallocate, telling, with_blocks, with_reached}
use Rattle.block_store.specs.Blocks.{Blocks, live, is_freeable, freed, renewed, answer_of}

-- a realloc that breaks a rule breaks it under each answer
broken_under : (w : World) (size : ℕ) (answer : Answer) (reached : List Reached) (r : Result Blocks Rule) (rule : Rule) → r ≡ Err rule → broke rule ≡ telling reached (under answer (renews w size r))
broken_under w size answers.Plain reached r rule e = rw e refl
broken_under w size answers.Got reached r rule e = rw e refl
broken_under w size answers.None reached r rule e = rw e refl

broken_if : (b : Bool) (x y : Blocks) (rule : Rule) → Err rule ≡ answer_of (if b then Ok x else Err C10) → ◌≡◌ {A = Result Blocks Rule} (if b then Ok y else Err C10) (Err rule)
broken_if true x y rule e = cc
broken_if false x y rule e = cc

renewed_broken : (blocks : Blocks) (at : Ptr) (size : ℕ) (rule : Rule) → Err rule ≡ answer_of (freed blocks at) → renewed blocks at size ≡ Err rule
renewed_broken blocks Null size rule e = cc
renewed_broken blocks (To name offset) size rule e = broken_if (is_freeable offset (live blocks name)) _ _ rule e

pub realloc_broken : (w : World) (thread : ℕ) (answer : Answer) (at : Ptr) (size : ℕ) (rule : Rule) → Err rule ≡ answer_of (freed w.blocks at) → broke rule ≡ acted w thread answer (reallocate at size)
realloc_broken w thread answer at size rule e = broken_under w size answer _ (renewed w.blocks at size) rule (renewed_broken w.blocks at size rule e)

-- and one of what may be freed has a new block to give
abbrev Goes : Result Blocks Rule → Type 0
Goes r = (new : Blocks) × (r ≡ Ok new)

goes_if : (b : Bool) (x y : Blocks) → Ok tt ≡ answer_of (if b then Ok x else Err C10) → Goes (if b then Ok y else Err C10)
goes_if true x y e = (y, refl)
goes_if false x y e = absurd cc

renewed_goes : (blocks : Blocks) (at : Ptr) (size : ℕ) → Ok tt ≡ answer_of (freed blocks at) → Goes (renewed blocks at size)
renewed_goes blocks Null size e = (_, refl)
renewed_goes blocks (To name offset) size e = goes_if (is_freeable offset (live blocks name)) _ _ e

pub realloc_plain : (w : World) (thread : ℕ) (at : Ptr) (size : ℕ) → Ok tt ≡ answer_of (freed w.blocks at) → unfit ≡ acted w thread answers.Plain (reallocate at size)
realloc_plain w thread at size e = let g = renewed_goes w.blocks at size e in rw g.1 refl

pub realloc_none : (w : World) (thread : ℕ) (at : Ptr) (size : ℕ) → Ok tt ≡ answer_of (freed w.blocks at) → went (Some (values.Pointer Null)) (with_reached w []) ≡ acted w thread answers.None (reallocate at size)
realloc_none w thread at size e = let g = renewed_goes w.blocks at size e in rw g.1 refl

pub realloc_large : (w : World) (thread : ℕ) (at : Ptr) (size : ℕ) → Ok tt ≡ answer_of (freed w.blocks at) → nat_lt size (2 ^ 32) ≡ false → unfit ≡ acted w thread answers.Got (reallocate at size)
realloc_large w thread at size e large = let g = renewed_goes w.blocks at size e in rw (g.1, large) refl

-- ---- a realloc that is told that it gets its block

pub renewal_broke : (w : World) (size : ℕ) (reached : List Reached) (r : Result Blocks Rule) (rule : Rule) → r ≡ Err rule → broke rule ≡ telling reached (renews w size r).got
renewal_broke w size reached r rule e = rw e refl

pub renewal_went : (w : World) (size : ℕ) (reached : List Reached) (r : Result Blocks Rule) (new : Blocks) → r ≡ Ok new → nat_lt size (2 ^ 32) ≡ true
    → went (Some (values.Pointer (To (length w.blocks) 0))) (with_reached (with_blocks w new) reached) ≡ telling reached (renews w size r).got
renewal_went w size reached r new e fits = rw (e, fits) refl
