use Rattle.std.proofs.Common.{◌≡◌, ◌-◌, map}
use Rattle.formats.specs.Formats.{byte, u32, list, rows}
use Rattle.formats.proofs.Loops.{with_front}
use Rattle.c_tree.specs.TypedViews.{literal_view}
use Rattle.code_file.proofs.reading.literals_at.Given as goal

abbrev pub invariant-loop : goal.invariant-loop
invariant-loop l = with_front (map literal_view l.all.items) ((rows (list byte) (l.count - l.counter)).read l.rest) ≡ (list (list byte)).read l.bytes
