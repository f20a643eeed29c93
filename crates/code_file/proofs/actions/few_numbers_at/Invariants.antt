use Rattle.std.proofs.Common.{◌≡◌, ◌-◌}
use Rattle.formats.specs.Formats.{u32, list, rows}
use Rattle.formats.proofs.Loops.{with_front}
use Rattle.code_file.proofs.actions.few_numbers_at.Given as goal

abbrev pub invariant-loop : goal.invariant-loop
invariant-loop l = with_front (l.numbers.items) ((rows u32 (l.count - l.counter)).read l.rest) ≡ (list u32).read l.bytes
