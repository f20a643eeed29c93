use Rattle.std.proofs.Common.{◌≡◌, ◌-◌, map}
use Rattle.formats.specs.Formats.{byte, u32, list, rows}
use Rattle.formats.proofs.Loops.{with_front}
use Rattle.code_file.specs.Files.{global}
use Rattle.struct_ir.specs.Views.{global_view}
use Rattle.code_file.proofs.reading.globals_at.Given as goal

abbrev pub invariant-loop : goal.invariant-loop
invariant-loop l = with_front (map global_view l.all.items) ((rows global (l.count - l.counter)).read l.rest) ≡ (list global).read l.bytes
