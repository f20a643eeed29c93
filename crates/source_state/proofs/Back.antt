-- The log leads back to where the store was kept.
use Rattle.std.proofs.Common.{◌≡◌, ℕ, zero, suc, ◌-◌, List, [], ◌∷◌, ◌++◌, length, take, set, Option, refl, sym, ap, ◌∙◌, arith, length-append}
use Rattle.std.proofs.lemmas.List.{take_at}
use Rattle.block_store.specs.Blocks.{Block, Blocks, live, ended}
use Rattle.block_store.specs.Undo.{Ended as Gone}
use Rattle.source_state.specs.declared.kept.Change.{Change}
use Rattle.source_state.specs.declared.kept.Change.TheVariants.{Made, Ended}
use Rattle.source_state.specs.inner.Back.{back_by, back_by_all}

pub back_last : (cs : List Change) (c : Change) (blocks : Blocks) → back_by_all (cs ++ c ∷ []) blocks ≡ back_by_all cs (back_by c blocks)
back_last [] c blocks = refl
back_last (d ∷ cs) c blocks = ap (back_by d) (back_last cs c blocks)

-- what is put back
pub put_back_ended : (blocks : Blocks) (name : ℕ) → set (ended blocks name) name (live blocks name) ≡ blocks
put_back_ended [] name = refl
put_back_ended (b ∷ blocks) zero = refl
put_back_ended (b ∷ blocks) (suc name) = ap (λ rest. b ∷ rest) (put_back_ended blocks name)

-- what is cut off again
pub cut_back : (blocks : Blocks) (b : Option Block) → take (length (blocks ++ b ∷ []) - 1) (blocks ++ b ∷ []) ≡ blocks
cut_back blocks b = take_at blocks (b ∷ []) (length (blocks ++ b ∷ []) - 1) (omega (arith, length-append blocks (b ∷ [])))

pub back_ended : (log : List Change) (blocks : Blocks) (name : ℕ) → back_by_all (log ++ Ended (record { name = name; block = live blocks name }) ∷ []) (ended blocks name) ≡ back_by_all log blocks
back_ended log blocks name = back_last log _ _ ∙ ap (back_by_all log) (put_back_ended blocks name)

pub back_made : (log : List Change) (blocks : Blocks) (b : Option Block) → back_by_all (log ++ Made ∷ []) (blocks ++ b ∷ []) ≡ back_by_all log blocks
back_made log blocks b = back_last log Made _ ∙ ap (back_by_all log) (cut_back blocks b)

-- the same where a call's own names stand for these values
pub ended_back : (log log' : List Change) (blocks blocks' kept : Blocks) (name : ℕ) (gone : Gone) → log' ≡ log ++ Ended gone ∷ [] → gone ≡ record { name = name; block = live blocks name } → blocks' ≡ ended blocks name → kept ≡ back_by_all log blocks → back_by_all log' blocks' ≡ kept
ended_back log log' blocks blocks' kept name gone e f g h = rw (e, f, g, h) (back_ended log blocks name)

pub made_back : (log log' : List Change) (blocks blocks' kept : Blocks) (b : Option Block) → log' ≡ log ++ Made ∷ [] → blocks' ≡ blocks ++ b ∷ [] → kept ≡ back_by_all log blocks → back_by_all log' blocks' ≡ kept
made_back log log' blocks blocks' kept b e f h = rw (e, f, h) (back_made log blocks b)

pub popped_back : (log log' : List Change) (c : Change) (blocks blocks' : Blocks) → log ≡ log' ++ c ∷ [] → blocks' ≡ back_by c blocks → back_by_all log' blocks' ≡ back_by_all log blocks
popped_back log log' c blocks blocks' e f = rw (e, f) (sym (back_last log' c blocks))
