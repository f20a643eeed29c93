use Rattle.std.proofs.Common.{◌≡◌, ◌-◌, map}
use Rattle.formats.specs.Formats.{u32, list, rows}
use Rattle.formats.proofs.Loops.{with_front}
use Rattle.code_file.specs.Actions.{place}
use Rattle.struct_ir.specs.Views.{place_view}
use Rattle.code_file.proofs.actions.places_at.Given as goal

abbrev pub invariant-loop : goal.invariant-loop
invariant-loop l = with_front (map place_view l.places.items) ((rows place (l.count - l.counter)).read l.rest) ≡ (list place).read l.bytes
