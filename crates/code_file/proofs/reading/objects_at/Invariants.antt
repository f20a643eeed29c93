use Rattle.std.proofs.Common.{◌≡◌, ◌-◌, map}
use Rattle.formats.specs.Formats.{byte, u32, list, rows}
use Rattle.formats.proofs.Loops.{with_front}
use Rattle.code_file.specs.Files.{object}
use Rattle.struct_ir.specs.Views.{object_view}
use Rattle.code_file.proofs.reading.objects_at.Given as goal

abbrev pub invariant-loop : goal.invariant-loop
invariant-loop l = with_front (map object_view l.all.items) ((rows object (l.count - l.counter)).read l.rest) ≡ (list object).read l.bytes
