-- What a broken rule makes of an action.
use Rattle.std.proofs.Common.{◌≡◌, ◌<◌, ◌/◌, ℕ, zero, suc, length, get_or, arith, ℤ, Bool, if◌then◌else◌, List, [], ◌∷◌, ◌++◌, map, set, Option, Some, Result, Ok, Err, OnErr, ap, sym, ◌∙◌, refl, append_assoc}
use Rattle.std.specs.Prelude.{slice_get}
use Rattle.std.specs.Option.{option_map}
use Rattle.std.proofs.lemmas.List.{map-set}
use Rattle.std.proofs.lemmas.Option.{slice_get-map}
use Rattle.ak_words.specs.declared.rule.Rule.{Rule}
use Rattle.block_store.specs.declared.values.Ptr.{Ptr}
use Rattle.block_store.specs.Blocks.{Blocks, answer_of}
use Rattle.block_store.specs.Atomics.{Changed, Compared, old_number, store_after_change, found_equal, store_after_compare}
use Rattle.ak_words.specs.declared.int_type.IntType.{IntType}
use Rattle.ak_words.specs.declared.number.Num.{Num}
use Rattle.ak_words.specs.Num.{num}
use Rattle.ak_words.specs.Op.{truth}
use Rattle.block_store.specs.declared.values.Value.{Value}
use Rattle.block_store.specs.declared.values.Value.TheVariants as values
use Rattle.block_store.specs.Actions as actions
use Rattle.block_store.specs.Actions.{World, Reached, broke, went, changes, changes_number, compares, compare_writes, int_value, reading, writing, with_blocks, with_reached, starts, staged, joined_bytes, telling}
use Rattle.source_state.specs.declared.world.Stage.{Stage}
use Rattle.source_state.specs.declared.world.ThreadRecord.{ThreadRecord}
use Rattle.source_state.specs.Worlds.{stage_of, thread_of}

pub changes_err : (reached : List Reached) (w : World) (r : Result Blocks Rule) (rule : Rule) → Err rule ≡ answer_of r → broke rule ≡ telling reached (changes w r)
changes_err reached w (Ok blocks) rule e = cc
changes_err reached w (Err other) rule e = cc

pub starts_err : (reached : List Reached) (w : World) (function : ℕ) (argument : Ptr) (r : Result Blocks Rule) (rule : Rule) → Err rule ≡ answer_of r → broke rule ≡ telling reached (starts w function argument r)
starts_err reached w function argument (Ok blocks) rule e = cc
starts_err reached w function argument (Err other) rule e = cc

-- a number that isn't changed, and two that aren't compared
pub change_err : (reached : List Reached) (w : World) (r : Result Changed Rule) (rule : Rule) → Err rule ≡ old_number r → broke rule ≡ telling reached (changes_number w r)
change_err reached w (Ok c) rule e = cc
change_err reached w (Err other) rule e = cc

pub compare_err : (reached : List Reached) (w : World) (r : Result Compared Rule) (rule : Rule) → Err rule ≡ found_equal r → broke rule ≡ telling reached (compares w r)
compare_err reached w (Ok c) rule e = cc
compare_err reached w (Err other) rule e = cc

-- the store is as it was
pub change_kept : (result : Result Num Rule) (r : Result Changed Rule) (old new : Blocks) → result ≡ old_number r → new ≡ store_after_change r old → OnErr result (new ≡ old)
change_kept (Ok n) r old new answer after = tt
change_kept (Err rule) (Ok c) old new answer after = absurd cc
change_kept (Err rule) (Err other) old new answer after = after

pub compare_kept : (result : Result Bool Rule) (r : Result Compared Rule) (old new : Blocks) → result ≡ found_equal r → new ≡ store_after_compare r old → OnErr result (new ≡ old)
compare_kept (Ok equal) r old new answer after = tt
compare_kept (Err rule) (Ok c) old new answer after = absurd cc
compare_kept (Err rule) (Err other) old new answer after = after

-- two numbers that are compared: what is written is told as it turned out
pub compare_went : (w : World) (at want to : Ptr) (ty : IntType) (bytes : ℕ) (value : Option Value) (blocks : Blocks) (r : Result Compared Rule) (equal : Bool)
    → bytes ≡ ty.bits / 8 → value ≡ int_value (truth equal) → blocks ≡ store_after_compare r w.blocks → Ok equal ≡ found_equal r → to ≡ (if equal then at else want)
    → went value (with_reached (with_blocks w blocks) ((reading bytes at ++ reading bytes want) ++ writing bytes to)) ≡ telling ((reading (ty.bits / 8) at ++ reading (ty.bits / 8) want) ++ compare_writes at want ty r) (compares w r)
compare_went w at want to ty bytes value blocks (Ok c) equal size is after found place =
    let same : equal ≡ c.equal = cc in rw (size, is, after, place, same) refl
compare_went w at want to ty bytes value blocks (Err rule) equal size is after found place = absurd cc

-- what is gathered behind bytes
pub gathered_err : (before : List ℕ) (first rest : Result (List ℕ) Rule) (rule : Rule) → Err rule ≡ joined_bytes (Ok before) first → Err rule ≡ joined_bytes (Ok before) (joined_bytes first rest)
gathered_err before (Ok a) rest rule e = cc
gathered_err before (Err other) rest rule e = e

pub gathered_ok : (before bytes : List ℕ) (first rest : Result (List ℕ) Rule) → Ok bytes ≡ joined_bytes (Ok before) first → joined_bytes (Ok bytes) rest ≡ joined_bytes (Ok before) (joined_bytes first rest)
gathered_ok before bytes (Ok a) (Ok b) e = let f : bytes ≡ before ++ a = cc in rw (f, append_assoc)
gathered_ok before bytes (Ok a) (Err rule) e = refl
gathered_ok before bytes (Err rule) rest e = cc

-- an element that is there
pub get_some : (ts : List ThreadRecord) (n : ℕ) (t : ThreadRecord) → n < length ts → t ≡ get_or ts n t → slice_get ts n ≡ Some t
get_some [] n t h e = absurd (omega (arith, h))
get_some (x ∷ ts) zero t h e = ap Some (sym e)
get_some (x ∷ ts) (suc n) t h e = get_some ts n t (omega (arith, h)) e

-- a thread of another stage
pub stage_set : (blocks : Blocks) (output : List ℕ) (reached : List Reached) (ts : List ThreadRecord) (n : ℕ) (t : ThreadRecord) (s : Stage) → slice_get ts n ≡ Some t →
    ◌≡◌ {A = World} (record { blocks = blocks; output = output; threads = map thread_of (set ts n (record { function = t.function; argument = t.argument; stage = s })); reached = reached }) (staged (record { blocks = blocks; output = output; threads = map thread_of ts; reached = reached }) n (stage_of s))
stage_set blocks output reached ts n t s e =
    let g : slice_get (map thread_of ts) n ≡ Some (thread_of t) = slice_get-map thread_of ts n ∙ ap (option_map thread_of) e in
    rw g (ap (λ (l : List actions.ThreadRecord). record { blocks = blocks; output = output; threads = l; reached = reached }) (map-set thread_of ts n (record { function = t.function; argument = t.argument; stage = s })))

pub number_at : (t u : IntType) (n : Num) (y : ℤ) → n ≡ num t y → t ≡ u → values.Num n ≡ values.Num (num u y)
number_at t u n y e f = ap values.Num (e ∙ ap (λ (v : IntType). num v y) f)
