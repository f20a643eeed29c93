use Rattle.std.proofs.Common.{◌≡◌, ◌∙◌, inl, inr, ap, sym, subst, refl, arith}
use Rattle.sub_heaps.specs.SubHeaps.{SubHeaps}
use Rattle.arena_meaning.specs.Changes.{after_alloc}
use Rattle.arena_meaning.specs.declared.answers.Alloced.TheVariants as answers
use Rattle.flat_meaning.specs.Accesses.{Choice, wait, allocated}
use Rattle.flat_meaning.specs.Memory.{with_storage}
use Rattle.flat_threads.specs.declared.wait.Wait.TheVariants.{Room}
use Rattle.flat_machine.specs.declared.done.Done.TheVariants as dones
use Rattle.flat_machine.specs.Choices.{malloc_choice}
use Rattle.flat_machine.specs.Turns.{malloc_turned}
use Rattle.flat_machine.specs.inner.Dones.{Does, Went}
use Rattle.flat_machine.specs.contracts.shared.Shared.{the_view}
use Rattle.flat_machine.proofs.Doing.{does_same, with_arena}
use Rattle.flat_machine.proofs.Mallocs.{AnswerIs, chosen, sized_is, does_alloc, leaves_alloc, went_alloc}
use Rattle.flat_machine.proofs.shared.Shared.malloc.Goals as goal
use Rattle.flat_machine.proofs.shared.Shared.malloc.Goals.{in-Got, in-NoGap}

-- the answer, as it is told
answer_is : (c : goal.Joined-alloc) → AnswerIs c.alloc.result c.match-alloc.result (dones.Waits Room)
answer_is c =
    elim c.match-alloc.branch [
      | in-Got w ↦ rw w.in-Got.is (w.result-is ∙ w.got.ensures)
      | in-NoGap w ↦ elim w.in-NoGap.is [ inl e ↦ rw e w.result-is | inr e ↦ rw e w.result-is ]
    ]

-- what was chosen
choice_is : (c : goal.Joined-alloc) → malloc_choice (the_view c.self.inside).memory.storage 0 c.args.size ≡ chosen c.alloc.result wait
choice_is c = let v = the_view c.self.inside in sized_is v.memory.storage c.heaps.ensures.consistent c.args.size c.alloc.result (omega (arith, ap (λ (h : SubHeaps). h.size) c.heaps.ensures.heaps)) c.alloc.ensures.answer

pub returns-clause-does : goal.returns-clause-does
returns-clause-does c =
    let v = the_view c.self.inside in
    does_same v c.args.self.now _ c.match-alloc.result (λ s. allocated (malloc_choice s.memory.storage 0 c.args.size) c.args.size s.memory) c.self.view_is
    (subst (λ (k : Choice). Does v (with_arena v c.alloc.new.self) c.match-alloc.result (allocated k c.args.size v.memory)) (sym (choice_is c))
    (does_alloc v (with_arena v c.alloc.new.self) c.match-alloc.result (λ k. allocated k c.args.size v.memory) (λ id place. with_storage v.memory (after_alloc v.memory.storage c.args.size (answers.Got id place))) (λ id place. refl) refl
    c.alloc.result (leaves_alloc v c.alloc.new.self c.args.size c.alloc.result c.alloc.ensures.after) (answer_is c)))

pub returns-clause-told : goal.returns-clause-told
returns-clause-told c =
    subst (λ s. Went c.match-alloc.result (malloc_turned (malloc_choice s.memory.storage 0 c.args.size))) c.self.view_is
    (subst (λ (k : Choice). Went c.match-alloc.result (malloc_turned k)) (sym (choice_is c)) (went_alloc c.alloc.result c.match-alloc.result (answer_is c)))
