-- The world in which structured code begins over blocks, and the names of its blocks; and the names that events make.
use Rattle.std.specs.Prelude.{◌≡◌, ℕ, ◌+◌, List, [], ◌∷◌, ◌++◌}
use Rattle.ak_words.specs.Prefix.{IsPrefix}
use Rattle.struct_ir.specs.Nodes.{Global}
use Rattle.flat_meaning.specs.Image.{Layout, Image, global_address, literal_address}
use Rattle.flat_meaning.specs.Accesses.{Choice, got}
use Rattle.flat_meaning.specs.Events.{Serve, Event, local, look, act, barrier}
use Rattle.flat_meaning.specs.Names.{Name, plain, ids_in}

-- ---- the start

-- the names of the globals, the first of them with this number
abbrev pub global_names : Layout → (number : ℕ) → List Global → List Name
global_names x number [] = []
global_names x number (g ∷ gs) = plain (global_address x number) ∷ global_names x (number + 1) gs

-- and of the literals
abbrev pub literal_names : Layout → (number : ℕ) → List (List ℕ) → List Name
literal_names x number [] = []
literal_names x number (l ∷ ls) = plain (literal_address x number) ∷ literal_names x (number + 1) ls

-- the names at the start
abbrev pub first_names : Layout → List Name
first_names x = global_names x 0 x.globals ++ literal_names x 0 x.literals

-- ---- names that events make

-- the id of a choice
abbrev pub chosen_id : Choice → List ℕ
chosen_id (got id place) = id ∷ []
chosen_id choice = []

-- those of allocations that are served
abbrev pub served_ids : List Serve → List ℕ
served_ids [] = []
served_ids (v ∷ vs) = chosen_id v.choice ++ served_ids vs

-- the ids that events hand out, in order
abbrev pub ids_of : List Event → List ℕ
ids_of [] = []
ids_of (local thread ∷ es) = ids_of es
ids_of (look thread ∷ es) = ids_of es
ids_of (act thread choice ∷ es) = chosen_id choice ++ ids_of es
ids_of (barrier moves served ∷ es) = served_ids served ++ ids_of es

-- globals and literals lie where they were loaded, and the n-th heap block has the n-th id that the events hand out
pub record AreMadeBy {P : Type 0} (x : Image P) (es : List Event) (names : List Name) : Type 0 where
  pub loaded : IsPrefix (first_names x.layout) names
  pub ids : ids_in names ≡ ids_of es
