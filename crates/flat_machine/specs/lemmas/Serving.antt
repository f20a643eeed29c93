-- An allocation that waits for room, and that serving it gives a word.
use Rattle.std.proofs.Common.{◌≡◌, ℕ, ◌*◌, Bool, true, false, cond, eqb, List, [], map, Option, Some, None, refl, sym, subst}
use Rattle.std.specs.Prelude.{is_some}
use Rattle.arena_meaning.specs.Arena.{Storage}
use Rattle.struct_ir.specs.Nodes.{Action, Place, Step}
use Rattle.struct_ir.specs.Instrs.{Instr}
use Rattle.struct_ir.specs.Linear.{instr_here}
use Rattle.flat_meaning.specs.Accesses as actions
use Rattle.flat_meaning.specs.Accesses.{allocated, zeroed, renewed, guarded, null}
use Rattle.flat_meaning.specs.Actions.{acted_on_memory}
use Rattle.flat_meaning.specs.Image.{Layout}
use Rattle.flat_meaning.specs.Memory.{Memory}
use Rattle.flat_meaning.specs.Words.{Words, target_of, word_at}
use Rattle.flat_threads.specs.declared.wait.Wait.{Wait}
use Rattle.flat_threads.specs.declared.wait.Wait.TheVariants.{Room, Mutex}
use Rattle.flat_threads.specs.declared.wait.Wait.TheVariants as waits
use Rattle.flat_machine.specs.Choices.{action_choice, got_or, served_choice}
use Rattle.flat_machine.specs.Readiness.{wants_room}
use Rattle.flat_machine.specs.lemmas.Waiting.{IsMalloc, IsSized, Operands, of_malloc, of_calloc, of_realloc}

-- what wants room waits for room
pub room_waits : (w : Option Wait) → wants_room w ≡ true → w ≡ Some Room
room_waits None e = absurd cc
room_waits (Some Room) e = refl
room_waits (Some (Mutex address)) e = absurd cc
room_waits (Some (waits.Thread number)) e = absurd cc

-- where an allocation stands an instruction stands
pub instr_there : (o : Option Instr) → IsMalloc (instr_here o) → (i : Instr) × (o ≡ Some i)
instr_there None m = absurd (let w = m.there in cc)
instr_there (Some i) m = (i, refl)

-- something was given
pub record Gives (d : actions.Done) : Type 0 where
  pub word : Option ℕ
  pub after : Memory
  pub is : d ≡ actions.went word after

-- serving an allocation always gives something
allocates : (o q : Option ℕ) (size : ℕ) (m : Memory) → Gives (allocated (got_or o q null) size m)
allocates None q size m = record { word = Some 0; after = m; is = refl }
allocates (Some id) None size m = record { word = Some 0; after = m; is = refl }
allocates (Some id) (Some place) size m = record { word = _; after = _; is = refl }

zeroes : (o q : Option ℕ) (size : ℕ) (m : Memory) → Gives (zeroed (got_or o q null) size m)
zeroes None q size m = record { word = Some 0; after = m; is = refl }
zeroes (Some id) None size m = record { word = Some 0; after = m; is = refl }
zeroes (Some id) (Some place) size m = record { word = _; after = _; is = refl }

renews : (o q : Option ℕ) (word size : ℕ) (m : Memory) → Gives (renewed (got_or o q null) word size m)
renews None q word size m = record { word = Some 0; after = m; is = refl }
renews (Some id) None word size m = record { word = Some 0; after = m; is = refl }
renews (Some id) (Some place) word size m = record { word = _; after = _; is = refl }

guards : (leaving : Option (List ℕ)) (word : ℕ) (s : Storage) (d : actions.Done) → is_some leaving ≡ true → Gives d → Gives (guarded leaving word s d)
guards None word s d some g = absurd cc
guards (Some words) word s d some g = g

either : (b : Bool) (d e : actions.Done) → Gives d → Gives e → Gives (cond b d e)
either true d e g h = g
either false d e g h = h

gives_by : (x : Layout) (k : ℕ) (l : Words) (a : Action) (temps : List ℕ) → Operands a temps → (m : Memory) → is_some m.leaving ≡ true → Gives (acted_on_memory x k (action_choice (served_choice m.storage) l a temps) a [] (map (word_at l) temps) m)
gives_by x k l _ _ (of_malloc size) m some = allocates _ _ (word_at l size) m
gives_by x k l _ _ (of_calloc count size) m some = zeroes _ _ (word_at l count * word_at l size) m
gives_by x k l _ _ (of_realloc word size) m some =
    let w = word_at l word in
    let n = word_at l size in
    let choice = served_choice m.storage w n in
    either (eqb w 0) (allocated choice n m) (guarded m.leaving w m.storage (renewed choice w n m)) (allocates _ _ n m) (guards m.leaving w m.storage (renewed choice w n m) some (renews _ _ w n m))

pub gives : (x : Layout) (k : ℕ) (l : Words) (temps : ℕ) (s : Step) → IsSized temps s → (m : Memory) → is_some m.leaving ≡ true
    → Gives (acted_on_memory x k (action_choice (served_choice m.storage) l s.action s.temps) s.action (map (target_of l) s.places) (map (word_at l) s.temps) m)
gives x k l temps s h m some =
    subst (λ (places : List Place). Gives (acted_on_memory x k (action_choice (served_choice m.storage) l s.action s.temps) s.action (map (target_of l) places) (map (word_at l) s.temps) m)) (sym h.no_places) (gives_by x k l s.action s.temps h.operands m some)
