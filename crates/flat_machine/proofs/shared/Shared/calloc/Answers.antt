use Rattle.std.proofs.Common.{◌≡◌, ◌*◌, ◌≤◌, ℕ, ◌∙◌, inl, inr, sym, subst, refl}
use Rattle.arena_meaning.specs.Changes.{after_alloc_zero}
use Rattle.flat_meaning.specs.Accesses.{Choice, wait, zeroed}
use Rattle.flat_machine.specs.Choices.{malloc_choice}
use Rattle.flat_machine.specs.Shares.{Shared}
use Rattle.arena_meaning.specs.declared.answers.Alloced.TheVariants as answers
use Rattle.flat_meaning.specs.Memory.{with_storage}
use Rattle.flat_threads.specs.declared.wait.Wait.TheVariants.{Room}
use Rattle.flat_machine.specs.declared.done.Done.TheVariants as dones
use Rattle.flat_machine.specs.Turns.{malloc_turned}
use Rattle.flat_machine.specs.inner.Dones.{Does, Went}
use Rattle.flat_machine.specs.contracts.shared.Shared.{the_view}
use Rattle.flat_machine.proofs.Doing.{does_same, with_arena}
use Rattle.flat_machine.proofs.Mallocs.{AnswerIs, above_is, chosen, does_alloc, does_null, leaves_zero, sized_is, went_alloc, went_null}
use Rattle.flat_machine.proofs.shared.Shared.calloc.Goals as goal
use Rattle.flat_machine.proofs.shared.Shared.calloc.Goals.{in-Got, in-NoGap}

pub returns-in_default-clause-does : goal.returns-in_default-clause-does
returns-in_default-clause-does c =
    let s = c.args.self.now in
    let n = c.args.count * c.args.size in
    subst (λ (k : Choice). Does s s c.null.result (zeroed k n s.memory)) (sym (above_is s.memory.storage n c.in_default.ensures.above)) (does_null s c.null.result (λ k. zeroed k n s.memory) refl c.null.ensures)

pub returns-in_default-clause-told : goal.returns-in_default-clause-told
returns-in_default-clause-told c =
    let s = c.args.self.now in
    subst (λ (k : Choice). Went c.null.result (malloc_turned k)) (sym (above_is s.memory.storage (c.args.count * c.args.size) c.in_default.ensures.above)) (went_null c.null.result c.null.ensures)

-- the answer, as it is told
answer_is : (c : goal.Joined-alloc_zero) → AnswerIs c.alloc_zero.result c.match-alloc_zero.result (dones.Waits Room)
answer_is c =
    elim c.match-alloc_zero.branch [
      | in-Got w ↦ rw w.in-Got.is (w.result-is ∙ w.got.ensures)
      | in-NoGap w ↦ elim w.in-NoGap.is [ inl e ↦ rw e w.result-is | inr e ↦ rw e w.result-is ]
    ]

-- what was chosen
choice_is : (c : goal.Joined-alloc_zero) → malloc_choice (the_view c.self.inside).memory.storage 0 c.in-Some.bytes ≡ chosen c.alloc_zero.result wait
choice_is c =
    let v = the_view c.self.inside in
    let within : c.in-Some.bytes ≤ v.memory.storage.heaps.size = subst (λ (s : Shared). c.in-Some.bytes ≤ s.memory.storage.heaps.size) (sym c.self.view_is) c.in-Some.ensures.within in
    sized_is v.memory.storage c.self.invariant.0.consistent c.in-Some.bytes c.alloc_zero.result within c.alloc_zero.ensures.answer

pub returns-clause-does : goal.returns-clause-does
returns-clause-does c =
    let v = the_view c.self.inside in
    let n = c.in-Some.bytes in
    subst (λ (n : ℕ). Does c.args.self.now (with_arena v c.alloc_zero.new.self) c.match-alloc_zero.result (zeroed (malloc_choice c.args.self.now.memory.storage 0 n) n c.args.self.now.memory)) c.in-Some.ensures.product
    (does_same v c.args.self.now _ c.match-alloc_zero.result (λ s. zeroed (malloc_choice s.memory.storage 0 n) n s.memory) c.self.view_is
    (subst (λ (k : Choice). Does v (with_arena v c.alloc_zero.new.self) c.match-alloc_zero.result (zeroed k n v.memory)) (sym (choice_is c))
    (does_alloc v (with_arena v c.alloc_zero.new.self) c.match-alloc_zero.result (λ k. zeroed k n v.memory) (λ id place. with_storage v.memory (after_alloc_zero v.memory.storage n (answers.Got id place))) (λ id place. refl) refl
    c.alloc_zero.result (leaves_zero v c.alloc_zero.new.self n c.alloc_zero.result c.alloc_zero.ensures.after) (answer_is c))))

pub returns-clause-told : goal.returns-clause-told
returns-clause-told c =
    subst (λ (n : ℕ). Went c.match-alloc_zero.result (malloc_turned (malloc_choice c.args.self.now.memory.storage 0 n))) c.in-Some.ensures.product
    (subst (λ s. Went c.match-alloc_zero.result (malloc_turned (malloc_choice s.memory.storage 0 c.in-Some.bytes))) c.self.view_is
    (subst (λ (k : Choice). Went c.match-alloc_zero.result (malloc_turned k)) (sym (choice_is c)) (went_alloc c.alloc_zero.result c.match-alloc_zero.result (answer_is c))))
