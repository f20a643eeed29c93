use Rattle.std.proofs.Common.{◌≡◌, ◌++◌, ◌∷◌, []}
use Rattle.std.proofs.lemmas.Result.{err_from_is_err_and}
use Rattle.formats.specs.Formats.{u32, list}
use Rattle.formats.proofs.Loops.{with_front, goes_on, ends, is_done, begins, begins_not}
use Rattle.code_file.proofs.Fails.{passes}
use Rattle.code_file.proofs.actions.few_numbers_at.Goals as goal

pub returns-in_err-count : goal.returns-in_err-count
returns-in_err-count c =
    let p = err_from_is_err_and c.from_residual.result c.from_residual.ensures.1 in
    rw (p.1, p.2) (passes c.in_err-count.field-0.0 (u32.read c.args.bytes.now) ((list u32).read c.args.bytes.now) (begins_not u32 c.args.bytes.now) c.in_err-count.ensures)

pub loop-init : goal.loop-init
loop-init c = rw c.new-numbers.ensures.items (begins u32 c.in_ok-count.count c.args.bytes.now c.in_ok-count.begin.now c.in_ok-count.ensures)

pub returns-in_err-number : goal.returns-in_err-number
returns-in_err-number c =
    let p = err_from_is_err_and c.from_residual-in_err-number.result c.from_residual-in_err-number.ensures.1 in
    rw (p.1, p.2) (passes c.in_err-number.field-0.0 (u32.read c.loop.rest.now) ((list u32).read c.args.bytes.now)
    (λ n e. ends u32 c.loop.numbers.items c.in_ok-count.count c.loop.counter c.loop.rest.now n ((list u32).read c.args.bytes.now) c.loop-test.true e c.loop.invariant) c.in_err-number.ensures)

pub loop-preserved : goal.loop-preserved
loop-preserved c =
    rw c.in_ok-push.ensures.ok (goes_on u32 c.loop.numbers.items c.in_ok-count.count c.loop.counter c.loop.rest.now c.in_ok-number.number c.in_ok-number.after.now ((list u32).read c.args.bytes.now) c.loop-test.true c.in_ok-number.ensures c.loop.invariant)

pub returns : goal.returns
returns c = is_done u32 c.loop.numbers.items c.in_ok-count.count c.loop.counter c.loop.rest.now ((list u32).read c.args.bytes.now) c.loop-test.false c.loop.invariant
