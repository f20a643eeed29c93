use Rattle.std.proofs.Common.{◌≡◌, arith}
use Rattle.code_file.specs.RawViews.{raw_view}
use Rattle.code_file.proofs.Loaded.{loaded, same, left_within, is_bad}
use Rattle.code_file.proofs.reading.read_code.Goals as goal

pub returns-in-Ok-clause-reads : goal.returns-in-Ok-clause-reads
returns-in-Ok-clause-reads c = loaded 1024 c.args.bytes.now (raw_view c.in-Ok.code) c.in-Ok.ensures

pub returns-in-Ok-clause-same : goal.returns-in-Ok-clause-same
returns-in-Ok-clause-same c = λ x s. same 1024 c.args.bytes.now (raw_view c.in-Ok.code) x (loaded 1024 c.args.bytes.now (raw_view c.in-Ok.code) c.in-Ok.ensures) s

pub returns-in-Err-Bad-clause-reads : goal.returns-in-Err-Bad-clause-reads
returns-in-Err-Bad-clause-reads c =
    let e = rw c.in-Err-Bad.field-0-is at c.in-Err-Bad.ensures in
    let le = left_within 1024 c.args.bytes.now c.in-Err-Bad.left e in
    is_bad c.args.bytes.now c.in-Err-Bad.left c.min-left.result e (omega (arith, le, c.min-left.ensures))
