-- Threads that were made, begin and end.
use Rattle.std.proofs.Common.{◌≡◌, ◌≢◌, ℕ, ◌<◌, true, false, eqb, ltb, List, [], ◌∷◌, ◌++◌, length, map, get_or, Some, refl, ap, sym, ◌∙◌, arith}
use Rattle.std.specs.Prelude.{slice_get, slice_set}
use Rattle.std.proofs.lemmas.Bool.Decides.{nat_tests}
use Rattle.std.proofs.lemmas.List.{map-set, length-map}
use Rattle.std.proofs.lemmas.Option.{slice_get-map, slice_get_read}
use Rattle.flat_store.specs.Flat.{HasBytes, first_outside, with_bytes}
use Rattle.flat_store.specs.Word.{low_bytes}
use Rattle.flat_store.proofs.Firsts.{none_outside}
use Rattle.arena_meaning.specs.Arena.{Storage}
use Rattle.ak_trace.specs.declared.endings.TrapKind.TheVariants as kinds
use Rattle.flat_meaning.specs.Accesses as actions
use Rattle.flat_meaning.specs.Accesses.{within}
use Rattle.flat_meaning.specs.Actions.{may_start, started, joined_if, joined_at}
use Rattle.flat_meaning.specs.Memory.{Made, Memory, beginning, ended_if, with_thread, written}
use Rattle.flat_meaning.specs.Words.{Target}
use Rattle.flat_machine.specs.declared.done.Done.{Done}
use Rattle.flat_machine.specs.declared.done.Done.TheVariants as dones
use Rattle.flat_machine.specs.declared.made.MadeThread.{MadeThread}
use Rattle.flat_machine.specs.declared.turned.Turned.{Turned}
use Rattle.flat_machine.specs.Shares.{Shared}
use Rattle.flat_machine.specs.inner.Dones.{Does, with_memory}
use Rattle.flat_machine.specs.inner.Shares.{made_view}
use Rattle.flat_machine.proofs.Doing.{does_go, within_none, if_so, if_not}

-- the thread of a number
pub made_there : (items : List MadeThread) (number : ℕ) (t : MadeThread) → number < length items → t ≡ get_or items number t → slice_get (map made_view items) number ≡ Some (made_view t)
made_there items number t within is = slice_get-map made_view items number ∙ rw (slice_get_read items (length items) number t refl within is) refl

-- it has ended with a word
pub made_ended : (items : List MadeThread) (number : ℕ) (t : MadeThread) (word : ℕ) → number < length items → t ≡ get_or items number t
    → map made_view (slice_set items number (record t { result = Some word })) ≡ ended_if (map made_view items) number word (slice_get (map made_view items) number)
made_ended items number t word within is =
    map-set made_view items number (record t { result = Some word })
    ∙ sym (ap (ended_if (map made_view items) number word) (made_there items number t within is))

pub made_within : (items : List MadeThread) (number : ℕ) → number < length (map made_view items) → number < length items
made_within items number within = simp length-map at within

-- ---- a thread is made

module _ (v : Shared) (function : ℕ) (to : Target) (argument number : ℕ) where
  -- its number was stored
  pub does_start : (storage : Storage) (threads : List Made) (r : Done) (t : Turned) → r ≡ dones.Went (Some 0) t → number ≡ length v.memory.threads → number < 64 → HasBytes v.memory.storage.bytes to.address 8
      → storage ≡ record v.memory.storage { bytes = with_bytes v.memory.storage.bytes to.address (low_bytes 8 number) } → threads ≡ v.memory.threads ++ (beginning function argument ∷ [])
      → Does v (with_memory v (record { storage = storage; output = v.memory.output; threads = threads; leaving = v.memory.leaving })) r (started 64 function to argument v.memory)
  does_start storage threads r t r_is number_is few has storage_is threads_are =
      let m : Memory = v.memory in
      let may : may_start 64 m ≡ true = rw (← number_is) (below number few) in
      let after : Memory = with_thread (written m to.address (low_bytes 8 (length m.threads))) (beginning function argument) in
      let d_is : started 64 function to argument m ≡ actions.went (Some 0) after = if_so (may_start 64 m) _ _ may ∙ within_none kinds.Start (first_outside m.storage.bytes to.address 8) _ (none_outside _ _ _ has) in
      does_go v r _ _ after (Some 0) t r_is d_is (rw (storage_is, threads_are, number_is) refl)
    where
      below : (n : ℕ) → n < 64 → ltb n 64 ≡ true
      below n few = grind (arith, nat_tests)

-- ---- a thread is joined

-- that has ended, where its result is wanted
pub joined_is : (m : Memory) (items : List MadeThread) → m.threads ≡ map made_view items → (number : ℕ) (t : MadeThread) (word : ℕ) → number < length items → t ≡ get_or items number t → t.result ≡ Some word → (to : Target) → to.pointer ≢ 0
    → joined_if to (slice_get m.threads number) m ≡ within kinds.Join (first_outside m.storage.bytes to.address 4) (actions.went (Some 0) (written m to.address (low_bytes 4 word)))
joined_is m items threads_are number t word within is result_is to wanted =
    let there : slice_get m.threads number ≡ Some (made_view t) = rw threads_are (made_there items number t within is) in
    let not_null : eqb to.pointer 0 ≡ false = differs to.pointer wanted in
    ap (λ o. joined_if to o m) there ∙ ap (λ o. joined_at to o m) result_is ∙ if_not (eqb to.pointer 0) _ _ not_null
  where
    differs : (n : ℕ) → n ≢ 0 → eqb n 0 ≡ false
    differs n other = grind (arith, nat_tests)
