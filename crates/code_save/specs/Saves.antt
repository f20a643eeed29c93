-- What saving gives, and which code can be saved.
use Rattle.std.specs.Prelude.{ℕ, suc, ◌<◌, ◌≤◌, max, Bool, true, ◌&&◌, List, [], ◌∷◌, length, map, is_some, Result, Ok, Err}
use Rattle.std.specs.List.{list_all}
use Rattle.struct_ir.specs.Nodes.{Place, Act, places_of, Node, plain, if_, loop, break_, next_, ret, Nodes, no_nodes, more_nodes, Ir}
use Rattle.code_file.specs.Files.{file}
use Rattle.code_file.specs.Calls.{ir_bare}
use Rattle.code_file.specs.Conditions.{is_lawful, most_file_bytes, IsFile}
use Rattle.code_save.specs.declared.fault.SaveFault.{SaveFault}
use Rattle.code_save.specs.declared.fault.SaveFault.TheVariants.{TooDeep, TooLong, NoMemory}

-- ---- which code can be saved

-- each place that an act accesses has its slot
abbrev pub act_is_seated : Act → Bool
act_is_seated a = list_all (λ (x : Place). is_some x.slot) (places_of a)

abbrev mutual
  -- so in a node
  pub node_is_seated : Node → Bool
  node_is_seated (plain place a) = act_is_seated a
  node_is_seated (if_ place temp one other) = are_seated one && are_seated other
  node_is_seated (loop place body latch) = are_seated body && are_seated latch
  node_is_seated (break_ place) = true
  node_is_seated (next_ place) = true
  node_is_seated (ret place temp) = true

  -- and in a row of nodes
  pub are_seated : Nodes → Bool
  are_seated no_nodes = true
  are_seated (more_nodes n rest) = node_is_seated n && are_seated rest

-- in each function
abbrev pub is_seated : Ir → Bool
is_seated p = list_all (λ f. are_seated f.nodes) p.funcs

-- such code that meets the conditions of a code file, but for how deep its nodes are nested and how long the file is
abbrev pub can_be_saved : Ir → Bool
can_be_saved p = is_seated p && is_lawful p

-- ---- how deep nodes are nested

abbrev mutual
  -- how deep the rows within a node are
  pub node_depth : Node → ℕ
  node_depth (plain place a) = 0
  node_depth (if_ place temp one other) = max (depth one) (depth other)
  node_depth (loop place body latch) = max (depth body) (depth latch)
  node_depth (break_ place) = 0
  node_depth (next_ place) = 0
  node_depth (ret place temp) = 0

  -- how deep a row is: one level, where it has a node, and what is within
  pub depth : Nodes → ℕ
  depth no_nodes = 0
  depth (more_nodes n rest) = max (suc (node_depth n)) (depth rest)

-- the deepest of such numbers, or 0
abbrev pub most_of : List ℕ → ℕ
most_of [] = 0
most_of (n ∷ rest) = max n (most_of rest)

-- the depth of the deepest function
abbrev pub deepest : Ir → ℕ
deepest p = most_of (map (λ f. depth f.nodes) p.funcs)

-- ---- saving

-- the bytes that spell the code
abbrev pub spelling : Ir → List ℕ
spelling p = (file 1024).spell (ir_bare p)

-- the bytes are the code file that spells the code; or its nodes are nested deeper than 1,024; or they aren't, and the spelling is longer
-- than a file may be; want of memory is free
abbrev pub Saves : Ir → Result (List ℕ) SaveFault → Type 0
Saves p (Ok bytes) = IsFile bytes (ir_bare p)
Saves p (Err TooDeep) = 1024 < deepest p
Saves p (Err TooLong) = (deepest p ≤ 1024) × (most_file_bytes < length (spelling p))
Saves p (Err NoMemory) = Unit {0}
