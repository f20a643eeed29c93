-- Where the stack objects of a call lie.
use Rattle.std.specs.Prelude.{◌≢◌, ℕ, ◌+◌, ◌<◌, ◌≤◌, length}
use Rattle.c_tree.specs.TypedForm.{taken}
use Rattle.flat_store.specs.Flat.{first_address}
use Rattle.struct_ir.specs.Nodes.{Ir}
use Rattle.flat_meaning.specs.Image.{Layout, stack_address}
use Rattle.flat_meaning.specs.Words.{Words, object_address}
use Rattle.flat_meaning.specs.Names.{Apart}
use Rattle.flat_simulation.specs.inner.Calls.{objects_in, object_size}

-- in the thread's stack, above what its callers use and below the sub-heaps, apart from one another
pub record FrameLies (y : Layout) (p : Ir) (thread start function : ℕ) (q : Words) : Type 0 where
  pub low : first_address ≤ stack_address y thread
  pub above : (i : ℕ) → i < length (objects_in p function) → stack_address y thread + q.below.stack ≤ object_address y thread q i
  pub inside : (i : ℕ) → i < length (objects_in p function) → object_address y thread q i + taken (object_size p function i) ≤ stack_address y thread + y.limits.stack
  pub below : stack_address y thread + y.limits.stack ≤ start
  pub apart : (i j : ℕ) → i ≢ j → i < length (objects_in p function) → j < length (objects_in p function)
      → Apart (object_address y thread q i) (taken (object_size p function i)) (object_address y thread q j) (taken (object_size p function j))
