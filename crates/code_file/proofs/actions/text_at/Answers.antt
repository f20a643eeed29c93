use Rattle.std.proofs.Common.{◌≡◌, Ok, take, drop, arith}
use Rattle.std.proofs.lemmas.Result.{err_from_is_err_and}
use Rattle.std.proofs.lemmas.Grind.{common_steps}
use Rattle.formats.specs.Formats.{byte, u32, list}
use Rattle.formats.proofs.Made.{u32_lawful}
use Rattle.formats.proofs.Reading.{AreBytes, rest_bytes, text_begins_not, text_short, text_whole}
use Rattle.code_file.proofs.Fails.{passes}
use Rattle.code_file.proofs.actions.text_at.Goals as goal

pub returns-in_err-count : goal.returns-in_err-count
returns-in_err-count c =
    let p = err_from_is_err_and c.from_residual.result c.from_residual.ensures.1 in
    rw (p.1, p.2) (passes c.in_err-count.field-0.0 (u32.read c.args.bytes.now) ((list byte).read c.args.bytes.now) (text_begins_not c.args.bytes.now) c.in_err-count.ensures)

pub returns-then-rest-count : goal.returns-then-rest-count
returns-then-rest-count c =
    let h : AreBytes c.in_ok-count.rest.now = rest_bytes u32 u32_lawful c.args.bytes.now c.in_ok-count.rest.now c.in_ok-count.count (λ i. omega (arith, c.type_inv.bytes i)) c.in_ok-count.ensures in
    text_short c.args.bytes.now c.in_ok-count.rest.now c.in_ok-count.count c.in_ok-count.ensures h c.if-rest-count.true

pub returns : goal.returns
returns c =
    let h : AreBytes c.in_ok-count.rest.now = rest_bytes u32 u32_lawful c.args.bytes.now c.in_ok-count.rest.now c.in_ok-count.count (λ i. omega (arith, c.type_inv.bytes i)) c.in_ok-count.ensures in
    let e = text_whole c.args.bytes.now c.in_ok-count.rest.now c.in_ok-count.count c.in_ok-count.ensures h c.if-rest-count.false in
    first_of (grind (arith, common_steps, e), cc (e, c.split_at.ensures.front, c.split_at.ensures.back, c.in_ok-from_slice.ensures))
