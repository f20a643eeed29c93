-- The report of a run.
use Rattle.std.specs.Prelude.{ℕ, ◌*◌, length, sum_by}
use Rattle.sub_heaps.specs.SubHeaps.{extent_of}
use Rattle.run_report.specs.declared.report.Report.{Report}
use Rattle.flat_machine.specs.Shares.{Shared}

-- what threads share, with so many entries of the journal
abbrev pub report_of : Shared → (entries : ℕ) → Report
report_of s entries = let h = s.memory.storage.heaps in record {
  threads = length s.memory.threads;
  entries = entries;
  barriers = s.barriers.count;
  moved_objects = s.barriers.objects;
  moved_bytes = s.barriers.bytes;
  emptied = s.barriers.emptied;
  live_objects = length h.objects;
  live_bytes = sum_by (λ o. o.size) h.objects;
  extent = extent_of h;
  heap = h.count * h.size;
  last = s.barriers.last;
}
