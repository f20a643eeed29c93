-- What a journal of checked code means for the code it means for each program of which that keeps every turn.
use Rattle.std.proofs.Common.{length, Option, Some, None, sym}
use Rattle.block_store.specs.Runs.{own_at}
use Rattle.c_meaning.specs.Alike.{AsDeep}
use Rattle.c_meaning.specs.Control.{Control}
use Rattle.c_meaning.specs.Meaning as source
use Rattle.c_tree.specs.Typed.{Typed}
use Rattle.struct_ir.specs.Nodes.{Ir}
use Rattle.struct_ir.specs.Structured.{Position}
use Rattle.struct_ir.specs.Threads.{Thread}
use Rattle.struct_ir.specs.meaning.Blocks.{Own}
use Rattle.struct_ir.specs.meaning.Start.{start}
use Rattle.struct_ir.specs.meaning.Threads.{program_of}
use Rattle.lower_turns.specs.Turns.{KeepsEveryTurn, ErasedKeepsEveryTurn, CallsAreAsDeep}
use Rattle.flat_machine.specs.Replays.{final_at}
use Rattle.flat_replay.specs.Laws.{JournalsMeanTheSource, JournalsOfCheckedCodeAreMeant}
use Rattle.flat_replay.proofs.Transport.{DeepAlike, SameRuns, meaning_too}

module _ (t : Typed) (p : Ir) where
  -- as many calls wait, in the words of Transport
  deep_alike : (c : Option Control) (k : Option (Thread Position Own)) → AsDeep (source.program t) (program_of p) c k → DeepAlike (λ t. length t.callers) (λ c. length c.callers) k c
  deep_alike None None h = tt
  deep_alike None (Some k) h = absurd h
  deep_alike (Some c) None h = absurd h
  deep_alike (Some c) (Some k) h = sym h

  -- code that keeps every turn of a program has its runs
  same_runs : CallsAreAsDeep → KeepsEveryTurn t p → SameRuns (program_of p) (start p) (λ k. length k.callers) (source.program t) (source.start t) (λ c. length c.callers)
  same_runs deep keeps = record {
    shown = keeps;
    deep = λ order u v at there thread. deep_alike (own_at v.own thread) (own_at u.own thread) (deep t p keeps order v u there at thread);
  }

-- from what lower_turns says of code without its Looks, safepoints, slots and lists, and from the meaning of checked code
pub journals_mean_the_source : ErasedKeepsEveryTurn → CallsAreAsDeep → JournalsOfCheckedCodeAreMeant → JournalsMeanTheSource
journals_mean_the_source erased deep meant t p keeps checked code emitted lawful program s log x replays =
    meaning_too (program_of p) (start p) (λ k. length k.callers) (source.program t) (source.start t) (λ c. length c.callers)
    (same_runs t p deep ((erased t p).0 keeps))
    log s (final_at code s log x) (meant p checked code emitted lawful program s log x replays)
