use Rattle.std.proofs.Common.{◌≡◌, ◌-◌, map}
use Rattle.formats.specs.Formats.{byte, u32, list, rows}
use Rattle.formats.proofs.Loops.{with_front}
use Rattle.code_file.specs.Files.{func}
use Rattle.code_file.specs.RawViews.{raw_func_view}
use Rattle.code_file.proofs.reading.funcs_at.Given as goal

abbrev pub invariant-loop : goal.invariant-loop
invariant-loop l = with_front (map raw_func_view l.all.items) ((rows (func l.depth) (l.count - l.counter)).read l.rest) ≡ (list (func l.depth)).read l.bytes
