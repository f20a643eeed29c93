-- A world that has gone on: its blocks have aged, and each block that was made since has a name behind the others.
use Rattle.std.specs.Prelude.{◌≡◌, List, length}
use Rattle.ak_words.specs.Prefix.{IsPrefix}
use Rattle.block_store.specs.Blocks.{Blocks}
use Rattle.flat_meaning.specs.Names.{Name}
use Rattle.flat_meaning.specs.Stands.{Ages}

-- the blocks have aged, and of the names, one for each block, those that there were stand first
pub record Aged (names all : List Name) (blocks later : Blocks) : Type 0 where
  pub ages : Ages blocks later
  pub first : IsPrefix names all
  pub each : length names ≡ length blocks
  pub each_later : length all ≡ length later
