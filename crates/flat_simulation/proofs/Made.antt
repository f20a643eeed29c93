-- Threads that were made, over named blocks and over flat memory, one by one.
use Rattle.std.proofs.Common.{◌≡◌, ℕ, zero, suc, ◌+◌, List, [], ◌∷◌, ◌++◌, length, Some, None, refl, ap, subst, ◌∙◌, arith}
use Rattle.std.specs.Prelude.{slice_get, slice_set}
use Rattle.std.specs.Prelude as std
use Rattle.block_store.specs.Blocks.{Blocks}
use Rattle.block_store.specs.Actions.{ThreadRecord, World}
use Rattle.struct_ir.specs.Nodes.{Ir}
use Rattle.flat_meaning.specs.Memory.{Made, Memory}
use Rattle.flat_meaning.specs.Names.{Name}
use Rattle.flat_meaning.specs.Image.{Layout}
use Rattle.flat_meaning.specs.Stands as agreed
use Rattle.flat_simulation.specs.inner.Aged.{Aged}
use Rattle.flat_simulation.specs.inner.Values.{AnyBlock}
use Rattle.flat_simulation.specs.inner.Calls.{DataStands}
use Rattle.flat_simulation.specs.inner.Worlds.{MadeStands, AllMadeStand, WorldStands}
use Rattle.flat_simulation.proofs.Blocks.{aged_name}
use Rattle.flat_simulation.proofs.Values.{pointer_later, pointer_agrees, cells_agree}

module _ (names : List Name) (blocks : Blocks) where
  pub made_length : (ts : List ThreadRecord) (us : List Made) → AllMadeStand names blocks ts us → length us ≡ length ts
  made_length [] [] stand = refl
  made_length [] (u ∷ us) stand = absurd stand
  made_length (t ∷ ts) [] stand = absurd stand
  made_length (t ∷ ts) (u ∷ us) stand = ap suc (made_length ts us stand.1)

  -- one more
  pub made_more : (ts : List ThreadRecord) (us : List Made) (t : ThreadRecord) (u : Made) → AllMadeStand names blocks ts us → MadeStands names blocks t u → AllMadeStand names blocks (ts ++ t ∷ []) (us ++ u ∷ [])
  made_more [] [] t u stand new = (new, tt)
  made_more [] (v ∷ us) t u stand new = absurd stand
  made_more (x ∷ ts) [] t u stand new = absurd stand
  made_more (x ∷ ts) (v ∷ us) t u stand new = (stand.0, made_more ts us t u stand.1 new)

  -- the one of a number
  pub made_at : (ts : List ThreadRecord) (us : List Made) (k : ℕ) (t : ThreadRecord) → AllMadeStand names blocks ts us → slice_get ts k ≡ Some t → (u : Made) × (slice_get us k ≡ Some u) × MadeStands names blocks t u
  made_at [] us k t stand e = absurd cc
  made_at (x ∷ ts) [] k t stand e = absurd stand
  made_at (x ∷ ts) (v ∷ us) zero t stand e = let is : x ≡ t = cc in (v, refl, subst (λ y. MadeStands names blocks y v) is stand.0)
  made_at (x ∷ ts) (v ∷ us) (suc k) t stand e = made_at ts us k t stand.1 e

  pub none_made : (ts : List ThreadRecord) (us : List Made) (k : ℕ) → AllMadeStand names blocks ts us → slice_get ts k ≡ None → slice_get us k ≡ None
  none_made [] [] k stand e = refl
  none_made [] (u ∷ us) k stand e = absurd stand
  none_made (t ∷ ts) [] k stand e = absurd stand
  none_made (t ∷ ts) (u ∷ us) zero stand e = absurd cc
  none_made (t ∷ ts) (u ∷ us) (suc k) stand e = none_made ts us k stand.1 e

  -- one that has changed in both
  pub made_set : (ts : List ThreadRecord) (us : List Made) (k : ℕ) (t : ThreadRecord) (u : Made) → AllMadeStand names blocks ts us → MadeStands names blocks t u → AllMadeStand names blocks (std.set ts k t) (slice_set us k u)
  made_set [] [] k t u stand new = tt
  made_set [] (v ∷ us) k t u stand new = absurd stand
  made_set (x ∷ ts) [] k t u stand new = absurd stand
  made_set (x ∷ ts) (v ∷ us) zero t u stand new = (new, stand.1)
  made_set (x ∷ ts) (v ∷ us) (suc k) t u stand new = (stand.0, made_set ts us k t u stand.1 new)

  -- or in the first alone
  pub made_staged : (ts : List ThreadRecord) (us : List Made) (k : ℕ) (t : ThreadRecord) (u : Made) → AllMadeStand names blocks ts us → slice_get us k ≡ Some u → MadeStands names blocks t u → AllMadeStand names blocks (std.set ts k t) us
  made_staged [] [] k t u stand at new = tt
  made_staged [] (v ∷ us) k t u stand at new = absurd stand
  made_staged (x ∷ ts) [] k t u stand at new = absurd stand
  made_staged (x ∷ ts) (v ∷ us) zero t u stand at new = let is : u ≡ v = cc in (subst (λ y. MadeStands names blocks t y) is new, stand.1)
  made_staged (x ∷ ts) (v ∷ us) (suc k) t u stand at new = (stand.0, made_staged ts us k t u stand.1 at new)

  made_agrees : (t : ThreadRecord) (u : Made) → MadeStands names blocks t u → agreed.MadeStands names blocks t u
  made_agrees t u stand = record { function = stand.function; argument = pointer_agrees names blocks AnyBlock t.argument u.argument stand.argument; result = stand.result }

  all_made_agree : (ts : List ThreadRecord) (us : List Made) → AllMadeStand names blocks ts us → agreed.AllMadeStand names blocks ts us
  all_made_agree [] [] stand = tt
  all_made_agree [] (u ∷ us) stand = absurd stand
  all_made_agree (t ∷ ts) [] stand = absurd stand
  all_made_agree (t ∷ ts) (u ∷ us) stand = (made_agrees t u stand.0, all_made_agree ts us stand.1)

-- when the blocks have aged
module _ (names all : List Name) (blocks later : Blocks) (aged : Aged names all blocks later) where
  pub made_later : (ts : List ThreadRecord) (us : List Made) → AllMadeStand names blocks ts us → AllMadeStand all later ts us
  made_later [] [] stand = tt
  made_later [] (u ∷ us) stand = absurd stand
  made_later (t ∷ ts) [] stand = absurd stand
  made_later (t ∷ ts) (u ∷ us) stand =
      (record { function = stand.0.function; argument = pointer_later names all blocks later aged AnyBlock AnyBlock (λ block below known. tt) t.argument u.argument stand.0.argument; result = stand.0.result }, made_later ts us stand.1)

-- loaded data lies where it lay
pub data_later : (y : Layout) (p : Ir) (names all : List Name) (blocks later : Blocks) → Aged names all blocks later → DataStands y p names AnyBlock blocks → DataStands y p all AnyBlock later
data_later y p names all blocks later aged stands = record {
  globals = λ n below. (let at = stands.globals n below in record { known = tt; made = omega (arith, at.made, aged.ages.more); at = aged_name names all blocks later aged n at.made ∙ at.at });
  literals = λ n below. (let at = stands.literals n below in record { known = tt; made = omega (arith, at.made, aged.ages.more); at = aged_name names all blocks later aged (length p.globals + n) at.made ∙ at.at });
}

-- what is shared stands, and so it agrees
pub world_agrees : (y : Layout) (p : Ir) (names : List Name) (w : World) (m : Memory) → WorldStands y p names w m → agreed.WorldStands names w m
world_agrees y p names w m stand = record {
  names_stand = stand.blocks.names_stand;
  cells = cells_agree names w.blocks m.storage stand.blocks.memory;
  output = stand.output;
  threads = all_made_agree names w.blocks w.threads m.threads stand.threads;
}
