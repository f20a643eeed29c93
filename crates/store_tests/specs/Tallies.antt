-- A count of calls with a journal of them, which the tests put under a lock, and its laws as an object.
use Rattle.std.specs.Prelude.{◌≡◌, ℕ, ◌==◌, Bool, nat_lt, if◌then◌else◌, List, [], ◌∷◌, ◌++◌, length, Option, Some, None}
use Rattle.std.proofs.Common.{ap, sym, ◌∙◌}
use Rattle.std.proofs.lemmas.List.Elements.{filter-append}
use Rattle.std.proofs.lemmas.List.{append-nil}
use Rattle.ak_trace.specs.declared.entry.Entry.{Entry}
use Rattle.ak_trace.specs.Log.{Log}
use Rattle.ak_trace.specs.Kinds.{out}
use Rattle.turn_lock.specs.Histories.{of_worker}
use Rattle.turn_lock.specs.inner.Own.{own_if}

-- the journal has just these entries and this limit, and the count is how many entries there are
abbrev pub IsTally : (limit : ℕ) → List Entry → Log → ℕ → Type 0
IsTally limit log journal count = (journal.entries ≡ log) × (count ≡ length log) × (journal.limit ≡ limit)

-- the number is the next one of the worker, which numbers its calls from 0
abbrev pub IsNext : List Entry → ℕ → ℕ → Type 0
IsNext log worker number = number ≡ length (of_worker worker log)

-- the entry of a call
abbrev pub call_entry : ℕ → ℕ → Entry
call_entry worker number = record { kind = out; worker = worker; thread = 0; how = 0; local = 0; zero = 0; id = number; place = 0 }

-- the journal is not full
abbrev pub has_room : Log → Bool
has_room journal = nat_lt (length journal.entries) journal.limit

-- the count before the call, if the journal has room for the call
abbrev pub count_before : Log → ℕ → Option ℕ
count_before journal count = if has_room journal then Some count else None

-- the entry of the call, if the journal has room for it
abbrev pub entries_left : Log → ℕ → ℕ → List Entry
entries_left journal worker number = if has_room journal then call_entry worker number ∷ [] else []

-- entries of other workers leave the next number as it is
pub next_stays : (log more : List Entry) (worker number : ℕ) → IsNext log worker number → of_worker worker more ≡ [] → IsNext (log ++ more) worker number
next_stays log more worker number next none =
    let same : of_worker worker (log ++ more) ≡ of_worker worker log = filter-append (λ (e : Entry). e.worker == worker) log more ∙ (ap (λ (z : List Entry). of_worker worker log ++ z) none ∙ append-nil (of_worker worker log)) in
    next ∙ sym (ap length same)

-- the entry of a call is its worker's own
pub left_own : (journal : Log) (worker number : ℕ) → of_worker worker (entries_left journal worker number) ≡ entries_left journal worker number
left_own journal worker number = own_if (has_room journal) (call_entry worker number)
