use Rattle.std.proofs.Common.{arith, rules}
use Rattle.source_expressions.proofs.Products.{product_of}
use Rattle.source_expressions.proofs.calls.product.Goals as goal

pub overflow_mul-result : goal.overflow_mul-result
overflow_mul-result c = omega (arith, product_of c.args.count c.args.size c.unsigned_abs.result c.unsigned_abs-2.result (search rules) (search rules))
