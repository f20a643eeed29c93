-- The world in which structured code begins, and that in which linear code does: the blocks of its globals and literals, and one
-- thread, in main.
use Rattle.std.specs.Prelude.{ℕ, ◌+◌, List, ◌++◌, length, map, Option, Some, None}
use Rattle.ak_words.specs.Num.{num}
use Rattle.block_store.specs.declared.values.Ptr.TheVariants.{To}
use Rattle.block_store.specs.declared.values.Value.{Value}
use Rattle.block_store.specs.declared.values.Value.TheVariants as values
use Rattle.block_store.specs.Blocks.{Block, Blocks, literal_block, global_block}
use Rattle.block_store.specs.Actions.{World, first_world}
use Rattle.c_tree.specs.Typed.{Init, zero_bytes, number, literal_at}
use Rattle.struct_ir.specs.Nodes.{Global, Ir}
use Rattle.struct_ir.specs.Instrs.{LinearCode}

-- the first value of a global, where it has one; the block of a literal comes behind those of the globals, of which there are so many
abbrev pub first_value : (globals : ℕ) → Init → Option Value
first_value globals zero_bytes = None
first_value globals (number t z) = Some (values.Num (num t z))
first_value globals (literal_at n) = Some (values.Pointer (To (globals + n) 0))

-- the block of a global at the start, of its size
abbrev pub block_of : (globals : ℕ) → Global → Option Block
block_of globals g = global_block g.size (first_value globals g.init)

-- the blocks at the start: the globals in order, then the literals in order
abbrev pub first_blocks : List Global → (literals : List (List ℕ)) → Blocks
first_blocks globals literals = map (block_of (length globals)) globals ++ map literal_block literals

-- the world in which structured code begins: its first blocks, nothing printed, and one thread, in main (C11 5.1.2)
abbrev pub start : Ir → World
start p = first_world (first_blocks p.globals p.literals) p.main

-- the world in which linear code begins
abbrev pub linear_start : LinearCode → World
linear_start p = first_world (first_blocks p.globals p.literals) p.main
