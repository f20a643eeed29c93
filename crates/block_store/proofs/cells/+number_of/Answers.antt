use Rattle.std.proofs.Common.{arith}
use Rattle.block_store.proofs.Bytes.{high_fits}
use Rattle.block_store.proofs.cells.+number_of.Goals as goal

pub overflow_mul-result : goal.overflow_mul-result
overflow_mul-result t c = omega (arith, high_fits c.in-Some.high _ c.in-Some.ensures.bound (omega arith))

pub overflow_add-result : goal.overflow_add-result
overflow_add-result t c = omega (arith, high_fits c.in-Some.high _ c.in-Some.ensures.bound (omega arith))
