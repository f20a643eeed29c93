use Rattle.std.proofs.Common.{◌≡◌, ◌*◌, ◌+◌, ◌-◌, ◌≤◌, ◌<◌, ◌^◌, suc, arith, ap, ◌∙◌}
use Rattle.formats.proofs.Numbers.{wider, narrow}
use Rattle.code_file.proofs.numbers.+number_at.Goals as goal

pub overflow_mul-result : goal.overflow_mul-result
overflow_mul-result t c = let b : 0 + 256 * c.in_ok-high.high < 2 ^ 64 = narrow c.args.count 0 c.in_ok-high.high c.requires (omega arith) (omega arith) c.in_ok-high.ensures.below in omega arith

pub overflow_add-result : goal.overflow_add-result
overflow_add-result t c = let b : c.from.result + 256 * c.in_ok-high.high < 2 ^ 64 = narrow c.args.count c.from.result c.in_ok-high.high c.requires (omega arith) (omega (arith, c.in_ok-low.ensures.below)) c.in_ok-high.ensures.below in omega arith

pub returns-clause-below : goal.returns-clause-below
returns-clause-below t c = wider c.args.count c.from.result c.in_ok-high.high (omega arith) (omega (arith, c.in_ok-low.ensures.below)) c.in_ok-high.ensures.below
