-- Which answers an action takes, and a turn that ends with it.
use Rattle.std.proofs.Common.{◌≡◌, ◌↔◌, ℕ, ◌^◌, ◌<◌, ◌≤◌, ◌==◌, Bool, true, false, List, ◌++◌, length, Option, Some, None, Ok, Err, ℤ, refl, sym, subst, arith, ltb-true, ltb-false}
use Rattle.std.specs.Prelude.{Result, if◌then◌else◌, slice_get, nat_lt}
use Rattle.ak_words.specs.declared.rule.Rule.{Rule}
use Rattle.ak_words.specs.declared.rule.Rule.TheVariants.{C14}
use Rattle.block_store.specs.declared.values.Answer.{Answer}
use Rattle.block_store.specs.declared.values.Answer.TheVariants as answers
use Rattle.block_store.specs.declared.values.BlockKind.TheVariants as kinds
use Rattle.block_store.specs.declared.values.Ptr.{Ptr}
use Rattle.block_store.specs.declared.values.Ptr.TheVariants.{To}
use Rattle.block_store.specs.declared.values.Value.{Value}
use Rattle.block_store.specs.declared.values.Value.TheVariants as values
use Rattle.block_store.specs.Actions as actions
use Rattle.block_store.specs.Actions.{World, ThreadRecord, Stage, SharedAction, Done, Reached, acted, under, outcomes, telling}
use Rattle.block_store.specs.Atomics.{Changed, changed, Compared, compared}
use Rattle.block_store.specs.Blocks.{Blocks, made, loaded, stored, copied, freed, renewed}
use Rattle.block_store.specs.Mutexes.{locked, unlocked, destroyed}
use Rattle.block_store.specs.Runs as runs
use Rattle.block_store.specs.Runs.{Turn}
use Rattle.c_meaning.specs.Control.{Control}
use Rattle.c_meaning.specs.Turns.{plainly}
use Rattle.c_meaning.specs.Sound.{TakesRenewed, Takes, End, breaking, quiet, acting, FitsEnd, ComesOutAs, EndsAs, IsUnfit}

-- ---- actions

abbrev Refuses : Done → Type 0
Refuses actions.unfit = Unit {0}
Refuses d = ⊥

gives_fits : (w : World) (r : Result Value Rule) → Refuses (actions.gives w r) → ⊥
gives_fits w (Ok v) h = h
gives_fits w (Err rule) h = h

changes_fits : (w : World) (r : Result Blocks Rule) → Refuses (actions.changes w r) → ⊥
changes_fits w (Ok blocks) h = h
changes_fits w (Err rule) h = h

waits_fits : (w : World) (r : Result (Option Blocks) Rule) → Refuses (actions.changes_or_waits w r) → ⊥
waits_fits w (Ok (Some blocks)) h = h
waits_fits w (Ok None) h = h
waits_fits w (Err rule) h = h

passes_fits : (w : World) (r : Result (Unit {0}) Rule) → Refuses (actions.passes w r) → ⊥
passes_fits w (Ok u) h = h
passes_fits w (Err rule) h = h

prints_fits : (w : World) (r : Result (List ℕ) Rule) → Refuses (actions.prints w r) → ⊥
prints_fits w (Ok all) h = h
prints_fits w (Err rule) h = h

changes_number_fits : (w : World) (r : Result Changed Rule) → Refuses (actions.changes_number w r) → ⊥
changes_number_fits w (Ok c) h = h
changes_number_fits w (Err rule) h = h

compares_fits : (w : World) (r : Result Compared Rule) → Refuses (actions.compares w r) → ⊥
compares_fits w (Ok c) h = h
compares_fits w (Err rule) h = h

starts_fits : (w : World) (function : ℕ) (argument : Ptr) (r : Result Blocks Rule) → Refuses (actions.starts w function argument r) → ⊥
starts_fits w function argument (Ok blocks) h = h
starts_fits w function argument (Err rule) h = h

joins_fits : (w : World) (thread : ℕ) (z : ℤ) (r : Result Blocks Rule) → Refuses (actions.joins w thread z r) → ⊥
joins_fits w thread z (Ok blocks) h = h
joins_fits w thread z (Err rule) h = h

joins_at_fits : (w : World) (thread : ℕ) (to : Ptr) (stage : Stage) → Refuses (actions.joins_at w thread to stage) → ⊥
joins_at_fits w thread to actions.running h = h
joins_at_fits w thread to (actions.returned z) h = joins_fits w thread z (actions.stored_unless_null w.blocks to z) h
joins_at_fits w thread to (actions.joined z) h = h

joins_if_fits : (w : World) (thread : ℕ) (to : Ptr) (o : Option ThreadRecord) → Refuses (actions.joins_if w thread to o) → ⊥
joins_if_fits w thread to None h = h
joins_if_fits w thread to (Some x) h = joins_at_fits w thread to x.stage h

joined_fits_if : (b : Bool) (d : Done) → (Refuses d → ⊥) → Refuses (if b then actions.broke C14 else d) → ⊥
joined_fits_if true d n h = h
joined_fits_if false d n h = n h

joined_fits : (w : World) (self thread : ℕ) (to : Ptr) → Refuses (actions.joined_by w self thread to) → ⊥
joined_fits w self thread to = joined_fits_if (self == thread) (actions.joins_if w thread to (slice_get w.threads thread)) (joins_if_fits w thread to (slice_get w.threads thread))

-- an answer is taken, or isn't
abbrev Exactly : Done → Type 0 → Type 0
Exactly d P = (Refuses d → ⊥) ↔ P

telling_exactly : (reached : List Reached) (d : Done) (P : Type 0) → Exactly d P → Exactly (telling reached d) P
telling_exactly reached (actions.went v w) P e = e
telling_exactly reached actions.blocked P e = e
telling_exactly reached actions.unfit P e = e
telling_exactly reached (actions.broke rule) P e = e

taken : (d : Done) → (Refuses d → ⊥) → Exactly d (Unit {0})
taken d n = (λ m. tt, λ u. n)

not_taken : Exactly actions.unfit ⊥
not_taken = (λ n. n tt, λ e h. e)

not_below : (a b : ℕ) → b ≤ a → a < b → ⊥
not_below a b e h = omega arith

allocated_taken : (size : ℕ) (d : Done) (b : Bool) → (Refuses d → ⊥) → nat_lt size (2 ^ 32) ≡ b → Exactly (if b then d else actions.unfit) (size < 2 ^ 32)
allocated_taken size d true n e = (λ m. ltb-true size (2 ^ 32) e, λ l. n)
allocated_taken size d false n e = (λ m. absurd (m tt), λ l h. not_below size (2 ^ 32) (ltb-false size (2 ^ 32) e) l)

renewed_takes : (w : World) (size : ℕ) (r : Result Blocks Rule) (answer : Answer) → Exactly (under answer (actions.renews w size r)) (TakesRenewed r size answer)
renewed_takes w size (Err rule) answers.Plain = taken (actions.broke rule) (λ h. h)
renewed_takes w size (Err rule) answers.Got = taken (actions.broke rule) (λ h. h)
renewed_takes w size (Err rule) answers.None = taken (actions.broke rule) (λ h. h)
renewed_takes w size (Ok blocks) answers.Plain = not_taken
renewed_takes w size (Ok blocks) answers.Got = allocated_taken size (actions.went (Some (values.Pointer (To (length w.blocks) 0))) (actions.with_blocks w blocks)) (nat_lt size (2 ^ 32)) (λ h. h) refl
renewed_takes w size (Ok blocks) answers.None = taken (actions.refused_allocation w) (λ h. h)

under_takes : (w : World) (thread : ℕ) (action : SharedAction) (answer : Answer) → Exactly (under answer (outcomes w thread action)) (Takes w action answer)
under_takes w thread (actions.load at how) answers.Plain = taken (actions.gives w (loaded w.blocks at how)) (gives_fits w (loaded w.blocks at how))
under_takes w thread (actions.load at how) answers.Got = not_taken
under_takes w thread (actions.load at how) answers.None = not_taken
under_takes w thread (actions.store at v) answers.Plain = taken (actions.changes w (stored w.blocks at v)) (changes_fits w (stored w.blocks at v))
under_takes w thread (actions.store at v) answers.Got = not_taken
under_takes w thread (actions.store at v) answers.None = not_taken
under_takes w thread (actions.copy to from n align same) answers.Plain = taken (actions.changes w (copied w.blocks to from n align same)) (changes_fits w (copied w.blocks to from n align same))
under_takes w thread (actions.copy to from n align same) answers.Got = not_taken
under_takes w thread (actions.copy to from n align same) answers.None = not_taken
under_takes w thread (actions.allocate size first) answers.Plain = not_taken
under_takes w thread (actions.allocate size first) answers.Got = allocated_taken size (actions.went (Some (values.Pointer (To (length w.blocks) 0))) (actions.with_blocks w (made w.blocks size kinds.Heap first))) (nat_lt size (2 ^ 32)) (λ h. h) refl
under_takes w thread (actions.allocate size first) answers.None = taken (actions.refused_allocation w) (λ h. h)
under_takes w thread (actions.reallocate at size) answer = renewed_takes w size (renewed w.blocks at size) answer
under_takes w thread (actions.change at ty how by) answers.Plain = taken (actions.changes_number w (changed w.blocks at ty how by)) (changes_number_fits w (changed w.blocks at ty how by))
under_takes w thread (actions.change at ty how by) answers.Got = not_taken
under_takes w thread (actions.change at ty how by) answers.None = not_taken
under_takes w thread (actions.compare at want ty new) answers.Plain = taken (actions.compares w (compared w.blocks at want ty new)) (compares_fits w (compared w.blocks at want ty new))
under_takes w thread (actions.compare at want ty new) answers.Got = not_taken
under_takes w thread (actions.compare at want ty new) answers.None = not_taken
under_takes w thread (actions.free at) answers.Plain = taken (actions.changes w (freed w.blocks at)) (changes_fits w (freed w.blocks at))
under_takes w thread (actions.free at) answers.Got = not_taken
under_takes w thread (actions.free at) answers.None = not_taken
under_takes w thread (actions.print parts) answers.Plain = taken (actions.prints w (actions.all_bytes w.blocks parts)) (prints_fits w (actions.all_bytes w.blocks parts))
under_takes w thread (actions.print parts) answers.Got = not_taken
under_takes w thread (actions.print parts) answers.None = not_taken
under_takes w thread (actions.lock at) answers.Plain = taken (actions.changes_or_waits w (locked w.blocks at thread)) (waits_fits w (locked w.blocks at thread))
under_takes w thread (actions.lock at) answers.Got = not_taken
under_takes w thread (actions.lock at) answers.None = not_taken
under_takes w thread (actions.unlock at) answers.Plain = taken (actions.changes w (unlocked w.blocks at thread)) (changes_fits w (unlocked w.blocks at thread))
under_takes w thread (actions.unlock at) answers.Got = not_taken
under_takes w thread (actions.unlock at) answers.None = not_taken
under_takes w thread (actions.destroy at) answers.Plain = taken (actions.passes w (destroyed w.blocks at)) (passes_fits w (destroyed w.blocks at))
under_takes w thread (actions.destroy at) answers.Got = not_taken
under_takes w thread (actions.destroy at) answers.None = not_taken
under_takes w thread (actions.start to function argument) answers.Plain = not_taken
under_takes w thread (actions.start to function argument) answers.Got =
    taken (actions.starts w function argument (stored w.blocks to (actions.next_number w))) (starts_fits w function argument (stored w.blocks to (actions.next_number w)))
under_takes w thread (actions.start to function argument) answers.None = taken (actions.refused_start w) (λ h. h)
under_takes w thread (actions.join number to) answers.Plain = taken (actions.joined_by w thread number to) (joined_fits w thread number to)
under_takes w thread (actions.join number to) answers.Got = not_taken
under_takes w thread (actions.join number to) answers.None = not_taken
under_takes w thread (actions.finish value) answers.Plain = taken (actions.went None (actions.staged w thread (actions.returned (actions.result_of value)))) (λ h. h)
under_takes w thread (actions.finish value) answers.Got = not_taken
under_takes w thread (actions.finish value) answers.None = not_taken

-- an action takes just these answers
pub action_takes : (w : World) (thread : ℕ) (action : SharedAction) (answer : Answer) → Exactly (acted w thread answer action) (Takes w action answer)
action_takes w thread action answer =
    telling_exactly (actions.reads_of w action ++ actions.writes_of w answer action) (under answer (outcomes w thread action)) (Takes w action answer) (under_takes w thread action answer)

-- ---- turns

comes_out : (place : ℕ) (d : Done) (t : Turn Control) (P : Type 0) → ComesOutAs place d t → Exactly d P → (IsUnfit t → ⊥) ↔ P
comes_out place (actions.went v w) (runs.went own x) P c e = e
comes_out place (actions.went v w) (runs.ended x) P c e = e
comes_out place (actions.went v w) runs.blocked P c e = elim c [ ]
comes_out place (actions.went v w) runs.unfit P c e = elim c [ ]
comes_out place (actions.went v w) (runs.broke rule p) P c e = elim c [ ]
comes_out place actions.blocked runs.blocked P c e = e
comes_out place actions.blocked t P c e = elim c [ ]
comes_out place actions.unfit runs.unfit P c e = e
comes_out place actions.unfit t P c e = elim c [ ]
comes_out place (actions.broke rule) t P c e = subst (λ (u : Turn Control). (IsUnfit u → ⊥) ↔ P) (sym c) e

plain_takes : (own : Control) (w : World) (answer : Answer) → (IsUnfit (plainly answer (runs.went own w)) → ⊥) ↔ FitsEnd (quiet own w) answer
plain_takes own w answers.Plain = (λ n. tt, λ u h. h)
plain_takes own w answers.Got = (λ n. n tt, λ e h. e)
plain_takes own w answers.None = (λ n. n tt, λ e h. e)

-- a turn doesn't take just the answers that don't fit its end
pub end_takes : (thread : ℕ) (t : Answer → Turn Control) (e : End) → EndsAs thread t e → (answer : Answer) → (IsUnfit (t answer) → ⊥) ↔ FitsEnd e answer
end_takes thread t (breaking rule place) h answer = subst (λ (u : Turn Control). (IsUnfit u → ⊥) ↔ Unit {0}) (sym (h.1 answer)) (λ n. tt, λ u i. i)
end_takes thread t (quiet own w) h answer = subst (λ (u : Turn Control). (IsUnfit u → ⊥) ↔ FitsEnd (quiet own w) answer) (sym (h answer)) (plain_takes own w answer)
end_takes thread t (acting place action w) h answer = comes_out place (acted w thread answer action) (t answer) (Takes w action answer) (h answer) (action_takes w thread action answer)
