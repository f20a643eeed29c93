-- What comes of an action that is done.
use Rattle.std.proofs.Common.{◌≡◌, ℕ, zero, suc, Bool, true, false, List, [], ◌∷◌, ◌++◌, length, set, Option, Some, None, Result, Ok, Err, ℤ, refl, subst, ◌==◌, ◌^◌, nat_lt, if◌then◌else◌}
use Rattle.std.specs.Prelude.{slice_get}
use Rattle.std.specs.List.{AllByRecursion}
use Rattle.ak_words.specs.declared.int_type.IntType.{IntType}
use Rattle.ak_words.specs.declared.rule.Rule.{Rule}
use Rattle.ak_words.specs.declared.rule.Rule.TheVariants.{C14}
use Rattle.ak_words.specs.IntType.{int}
use Rattle.block_store.specs.declared.values.Access.{Access}
use Rattle.block_store.specs.declared.values.Access.TheVariants as accesses
use Rattle.block_store.specs.declared.values.Answer.{Answer}
use Rattle.block_store.specs.declared.values.Answer.TheVariants as answers
use Rattle.block_store.specs.declared.values.Cell.{Cell}
use Rattle.block_store.specs.declared.values.Change.{Change}
use Rattle.block_store.specs.declared.values.Ptr.{Ptr}
use Rattle.block_store.specs.declared.values.Ptr.TheVariants.{To}
use Rattle.block_store.specs.declared.values.Value.{Value}
use Rattle.block_store.specs.declared.values.Value.TheVariants as values
use Rattle.block_store.specs.Actions.{World, ThreadRecord, Stage, running, returned, joined, at_stage, staged, staged_if, with_blocks, Done, went, blocked, unfit, broke, under, settled, chosen, gives, changes, changes_or_waits, passes, all_bytes, prints, changes_number, compares, renews, starts, next_number, stored_unless_null, joins, joins_at, joins_if, result_of, acted, beginning}
use Rattle.block_store.specs.Actions as actions
use Rattle.block_store.specs.Atomics.{Changed, changed, Compared, compared}
use Rattle.block_store.specs.Blocks.{Blocks, made, loaded, stored, copied, freed, renewed}
use Rattle.block_store.specs.Mutexes.{locked, unlocked, destroyed}
use Rattle.block_store.specs.Actions.{Printed, Reached, telling}
use Rattle.c_tree.specs.Typed as tree
use Rattle.c_meaning.proofs.TypedActions.{OldIs, old_is}
use Rattle.lower_turns.proofs.Relation.{HasKind, CanBegin, AllBegin}
use Rattle.lower_turns.proofs.Values.{loaded_kind}
use Rattle.block_store.specs.declared.values.BlockKind.TheVariants.{Heap}

-- a value of this kind came of it, or none did
abbrev pub GivesKind : Access → Option Value → Type 0
GivesKind how None = ⊥
GivesKind how (Some v) = HasKind how v

abbrev pub GivesNone : Option Value → Type 0
GivesNone None = Unit {0}
GivesNone (Some v) = ⊥

module _ (t : tree.Typed) where
  -- what came of it, where it was done
  abbrev pub IfWent : (Option Value → Type 0) → Done → Type 0
  IfWent P (went v w) = P v × AllBegin t w
  IfWent P blocked = Unit {0}
  IfWent P unfit = Unit {0}
  IfWent P (broke rule) = Unit {0}

  pub if_went : (P : Option Value → Type 0) (d : Done) (v : Option Value) (w : World) → IfWent P d → d ≡ went v w → P v × AllBegin t w
  if_went P d v w h e = subst (IfWent P) e h

  settled_so : (P : Option Value → Type 0) (answer : Answer) (d : Done) → IfWent P d → IfWent P (under answer (settled d))
  settled_so P answers.Plain d h = h
  settled_so P answers.Got d h = tt
  settled_so P answers.None d h = tt

  chosen_so : (P : Option Value → Type 0) (answer : Answer) (d e : Done) → IfWent P d → IfWent P e → IfWent P (under answer (chosen d e))
  chosen_so P answers.Plain d e h k = tt
  chosen_so P answers.Got d e h k = h
  chosen_so P answers.None d e h k = k

  gives_so : (how : Access) (w : World) (r : Result Value Rule) → AllBegin t w → ((v : Value) → r ≡ Ok v → HasKind how v) → IfWent (GivesKind how) (gives w r)
  gives_so how w (Ok v) a h = (h v refl, a)
  gives_so how w (Err rule) a h = tt

  changes_so : (w : World) (r : Result Blocks Rule) → AllBegin t w → IfWent GivesNone (changes w r)
  changes_so w (Ok b) a = (tt, a)
  changes_so w (Err rule) a = tt

  waits_so : (w : World) (r : Result (Option Blocks) Rule) → AllBegin t w → IfWent GivesNone (changes_or_waits w r)
  waits_so w (Ok (Some b)) a = (tt, a)
  waits_so w (Ok None) a = tt
  waits_so w (Err rule) a = tt

  passes_so : (w : World) (r : Result (Unit {0}) Rule) → AllBegin t w → IfWent GivesNone (passes w r)
  passes_so w (Ok u) a = (tt, a)
  passes_so w (Err rule) a = tt

  allocated_so : (w : World) (size : ℕ) (first : Cell) (b : Bool) → AllBegin t w
      → IfWent (GivesKind accesses.Pointer) (if b then went (Some (values.Pointer (To (length w.blocks) 0))) (with_blocks w (made w.blocks size Heap first)) else unfit)
  allocated_so w size first true a = (tt, a)
  allocated_so w size first false a = tt

  changes_number_so : (s : IntType) (w : World) (r : Result Changed Rule) → OldIs s r → AllBegin t w → IfWent (GivesKind (accesses.Number s)) (changes_number w r)
  changes_number_so s w (Ok c) o a = (o, a)
  changes_number_so s w (Err rule) o a = tt

  compares_so : (w : World) (r : Result Compared Rule) → AllBegin t w → IfWent (GivesKind (accesses.Number int)) (compares w r)
  compares_so w (Ok c) a = (refl, a)
  compares_so w (Err rule) a = tt

  renews_so : (w : World) (size : ℕ) (r : Result Blocks Rule) → AllBegin t w → (answer : Answer) → IfWent (GivesKind accesses.Pointer) (under answer (renews w size r))
  renews_so w size (Err rule) a answers.Plain = tt
  renews_so w size (Err rule) a answers.Got = tt
  renews_so w size (Err rule) a answers.None = tt
  renews_so w size (Ok b) a answers.Plain = tt
  renews_so w size (Ok b) a answers.Got = got (nat_lt size (2 ^ 32))
    where
      got : (fits : Bool) → IfWent (GivesKind accesses.Pointer) (if fits then went (Some (values.Pointer (To (length w.blocks) 0))) (with_blocks w b) else unfit)
      got true = (tt, a)
      got false = tt
  renews_so w size (Ok b) a answers.None = (tt, a)

  prints_so : (w : World) (r : Result (List ℕ) Rule) → AllBegin t w → IfWent (GivesKind (accesses.Number int)) (prints w r)
  prints_so w (Ok all) a = (refl, a)
  prints_so w (Err rule) a = tt

  all_more : (xs : List ThreadRecord) (x : ThreadRecord) → AllByRecursion (λ (h : ThreadRecord). CanBegin t h.function) xs → CanBegin t x.function → AllByRecursion (λ (h : ThreadRecord). CanBegin t h.function) (xs ++ x ∷ [])
  all_more [] x a c = (c, tt)
  all_more (y ∷ xs) x a c = (a.0, all_more xs x a.1 c)

  starts_so : (w : World) (m : ℕ) (argument : Ptr) (r : Result Blocks Rule) → AllBegin t w → CanBegin t m → IfWent (GivesKind (accesses.Number int)) (starts w m argument r)
  starts_so w m argument (Ok b) a c = (refl, all_more w.threads (beginning m argument) a c)
  starts_so w m argument (Err rule) a c = tt

  all_set : (xs : List ThreadRecord) (i : ℕ) (x : ThreadRecord) → AllByRecursion (λ (h : ThreadRecord). CanBegin t h.function) xs → CanBegin t x.function → AllByRecursion (λ (h : ThreadRecord). CanBegin t h.function) (set xs i x)
  all_set [] i x a c = tt
  all_set (y ∷ xs) zero x a c = (c, a.1)
  all_set (y ∷ xs) (suc i) x a c = (a.0, all_set xs i x a.1 c)

  all_at : (xs : List ThreadRecord) (i : ℕ) (x : ThreadRecord) → AllByRecursion (λ (h : ThreadRecord). CanBegin t h.function) xs → slice_get xs i ≡ Some x → CanBegin t x.function
  all_at [] i x a e = absurd cc
  all_at (y ∷ xs) zero x a e = let same : y ≡ x = cc in subst (λ (h : ThreadRecord). CanBegin t h.function) same a.0
  all_at (y ∷ xs) (suc i) x a e = all_at xs i x a.1 e

  staged_at : (w : World) (i : ℕ) (stage : Stage) (o : Option ThreadRecord) → slice_get w.threads i ≡ o → AllBegin t w → AllBegin t (staged_if w i stage o)
  staged_at w i stage None e a = a
  staged_at w i stage (Some x) e a = all_set w.threads i (at_stage stage x) a (all_at w.threads i x a e)

  pub staged_so : (w : World) (i : ℕ) (stage : Stage) → AllBegin t w → AllBegin t (staged w i stage)
  staged_so w i stage a = staged_at w i stage (slice_get w.threads i) refl a

  joins_so : (w : World) (i : ℕ) (z : ℤ) (r : Result Blocks Rule) → AllBegin t w → IfWent (GivesKind (accesses.Number int)) (joins w i z r)
  joins_so w i z (Ok b) a = (refl, staged_so (with_blocks w b) i (joined z) a)
  joins_so w i z (Err rule) a = tt

  joins_at_so : (w : World) (i : ℕ) (to : Ptr) (stage : Stage) → AllBegin t w → IfWent (GivesKind (accesses.Number int)) (joins_at w i to stage)
  joins_at_so w i to running a = tt
  joins_at_so w i to (returned z) a = joins_so w i z (stored_unless_null w.blocks to z) a
  joins_at_so w i to (joined z) a = tt

  joins_if_so : (w : World) (i : ℕ) (to : Ptr) (o : Option ThreadRecord) → AllBegin t w → IfWent (GivesKind (accesses.Number int)) (joins_if w i to o)
  joins_if_so w i to None a = tt
  joins_if_so w i to (Some x) a = joins_at_so w i to x.stage a

  joined_by_so : (w : World) (i : ℕ) (to : Ptr) (b : Bool) → AllBegin t w → IfWent (GivesKind (accesses.Number int)) (if b then broke C14 else joins_if w i to (slice_get w.threads i))
  joined_by_so w i to true a = tt
  joined_by_so w i to false a = joins_if_so w i to (slice_get w.threads i) a

  telling_so : (P : Option Value → Type 0) (reached : List Reached) (d : Done) → IfWent P d → IfWent P (telling reached d)
  telling_so P reached (went v w) h = h
  telling_so P reached blocked h = h
  telling_so P reached unfit h = h
  telling_so P reached (broke rule) h = h

  -- ---- the table of the actions

  module _ (w : World) (all : AllBegin t w) (thread : ℕ) (answer : Answer) where
    pub load_so : (at : Ptr) (how : Access) → IfWent (GivesKind how) (acted w thread answer (actions.load at how))
    load_so at how = telling_so _ _ _ (settled_so _ answer _ (gives_so how w (loaded w.blocks at how) all (loaded_kind w.blocks at how)))

    pub store_so : (at : Ptr) (v : Value) → IfWent GivesNone (acted w thread answer (actions.store at v))
    store_so at v = telling_so _ _ _ (settled_so _ answer _ (changes_so w (stored w.blocks at v) all))

    pub copy_so : (to from : Ptr) (n align : ℕ) (same : Bool) → IfWent GivesNone (acted w thread answer (actions.copy to from n align same))
    copy_so to from n align same = telling_so _ _ _ (settled_so _ answer _ (changes_so w (copied w.blocks to from n align same) all))

    pub allocate_so : (size : ℕ) (first : Cell) → IfWent (GivesKind accesses.Pointer) (acted w thread answer (actions.allocate size first))
    allocate_so size first = telling_so _ _ _ (chosen_so _ answer _ _ (allocated_so w size first (nat_lt size (2 ^ 32)) all) (tt, all))

    pub reallocate_so : (at : Ptr) (size : ℕ) → IfWent (GivesKind accesses.Pointer) (acted w thread answer (actions.reallocate at size))
    reallocate_so at size = telling_so _ _ _ (renews_so w size (renewed w.blocks at size) all answer)

    pub change_so : (at : Ptr) (s : IntType) (how : Change) (by : ℤ) → IfWent (GivesKind (accesses.Number s)) (acted w thread answer (actions.change at s how by))
    change_so at s how by = telling_so _ _ _ (settled_so _ answer _ (changes_number_so s w (changed w.blocks at s how by) (old_is s w.blocks at how by) all))

    pub compare_so : (at want : Ptr) (s : IntType) (new : ℤ) → IfWent (GivesKind (accesses.Number int)) (acted w thread answer (actions.compare at want s new))
    compare_so at want s new = telling_so _ _ _ (settled_so _ answer _ (compares_so w (compared w.blocks at want s new) all))

    pub free_so : (at : Ptr) → IfWent GivesNone (acted w thread answer (actions.free at))
    free_so at = telling_so _ _ _ (settled_so _ answer _ (changes_so w (freed w.blocks at) all))

    pub print_so : (parts : List Printed) → IfWent (GivesKind (accesses.Number int)) (acted w thread answer (actions.print parts))
    print_so parts = telling_so _ _ _ (settled_so _ answer _ (prints_so w (all_bytes w.blocks parts) all))

    pub lock_so : (at : Ptr) → IfWent GivesNone (acted w thread answer (actions.lock at))
    lock_so at = telling_so _ _ _ (settled_so _ answer _ (waits_so w (locked w.blocks at thread) all))

    pub unlock_so : (at : Ptr) → IfWent GivesNone (acted w thread answer (actions.unlock at))
    unlock_so at = telling_so _ _ _ (settled_so _ answer _ (changes_so w (unlocked w.blocks at thread) all))

    pub destroy_so : (at : Ptr) → IfWent GivesNone (acted w thread answer (actions.destroy at))
    destroy_so at = telling_so _ _ _ (settled_so _ answer _ (passes_so w (destroyed w.blocks at) all))

    pub start_so : (to : Ptr) (m : ℕ) (argument : Ptr) → CanBegin t m → IfWent (GivesKind (accesses.Number int)) (acted w thread answer (actions.start to m argument))
    start_so to m argument c = telling_so _ _ _ (chosen_so _ answer _ _ (starts_so w m argument (stored w.blocks to (next_number w)) all c) (refl, all))

    pub join_so : (i : ℕ) (to : Ptr) → IfWent (GivesKind (accesses.Number int)) (acted w thread answer (actions.join i to))
    join_so i to = telling_so _ _ _ (settled_so _ answer _ (joined_by_so w i to (thread == i) all))

    pub finish_so : (v : Option ℤ) → IfWent GivesNone (acted w thread answer (actions.finish v))
    finish_so v = telling_so _ _ _ (settled_so _ answer _ (tt, staged_so w thread (returned (result_of v)) all))
