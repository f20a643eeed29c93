-- Looks, safepoints, slots and lists are nothing over named blocks.
use Rattle.std.specs.Prelude.{ℕ}
use Rattle.block_store.specs.declared.values.Answer.{Answer}
use Rattle.block_store.specs.Actions.{World as Shared}
use Rattle.struct_ir.specs.Nodes.{Ir}
use Rattle.struct_ir.specs.Structured.{Position, structured}
use Rattle.struct_ir.specs.Lists.{listless}
use Rattle.struct_ir.specs.Erased.{at_erased}
use Rattle.struct_ir.specs.MapsTurns.{thread_mapped, AllCarry, IsMapped}
use Rattle.struct_ir.specs.Threads.{Thread, turn}
use Rattle.struct_ir.specs.meaning.Blocks.{Own, blocks_machine}
use Rattle.struct_ir.specs.meaning.Threads.{blocks_world, start_in}

-- in each turn, of each thread and under each answer, erased code does what the code does
abbrev pub ErasedCodeMeansTheSame : Type 0
ErasedCodeMeansTheSame =
    (p : Ir) (thread : ℕ) (answer : Answer) (t : Thread Position Own) (w : Shared) → AllCarry (listless structured) structured at_erased t.callers
    → IsMapped (listless structured) structured at_erased (turn structured (blocks_machine p) (blocks_world p thread) (start_in p) answer t w)
    (turn structured (blocks_machine p) (blocks_world p thread) (λ f. at_erased (start_in p f)) answer (thread_mapped at_erased t) w)
