use Rattle.std.proofs.Common.{◌≡◌, ◌∙◌, Some, inl, inr, sym, subst, refl}
use Rattle.arena_meaning.specs.Changes.{after_alloc}
use Rattle.arena_meaning.specs.declared.answers.Alloced.TheVariants as answers
use Rattle.flat_meaning.specs.Accesses.{Choice, null, allocated}
use Rattle.flat_meaning.specs.Memory.{with_storage}
use Rattle.flat_machine.specs.declared.done.Done.TheVariants as dones
use Rattle.flat_machine.specs.declared.turned.Turned.TheVariants as code
use Rattle.flat_machine.specs.Choices.{served_choice}
use Rattle.flat_machine.specs.Turns.{malloc_turned}
use Rattle.flat_machine.specs.inner.Dones.{Does, Went}
use Rattle.flat_machine.specs.contracts.shared.Shared.{the_view}
use Rattle.flat_machine.proofs.Doing.{does_same, with_arena}
use Rattle.flat_machine.proofs.Mallocs.{AnswerIs, chosen, chosen_is, does_serve, leaves_alloc, went_serve}
use Rattle.flat_machine.proofs.shared.Shared.serve_malloc.Goals as goal
use Rattle.flat_machine.proofs.shared.Shared.serve_malloc.Goals.{in-Got, in-NoGap}

-- the answer, as it is told
answer_is : (c : goal.Joined-alloc) → AnswerIs c.alloc.result c.match-alloc.result (dones.Went (Some 0) code.GotNull)
answer_is c =
    elim c.match-alloc.branch [
      | in-Got w ↦ rw w.in-Got.is (w.result-is ∙ w.got.ensures)
      | in-NoGap w ↦ elim w.in-NoGap.is [ inl e ↦ rw e (w.result-is ∙ w.null.ensures) | inr e ↦ rw e (w.result-is ∙ w.null.ensures) ]
    ]

-- what was chosen
choice_is : (c : goal.Joined-alloc) → served_choice (the_view c.self.inside).memory.storage 0 c.args.size ≡ chosen c.alloc.result null
choice_is c = let v = the_view c.self.inside in chosen_is v.memory.storage c.args.size c.alloc.result null c.alloc.ensures.answer

pub returns-clause-does : goal.returns-clause-does
returns-clause-does c =
    let v = the_view c.self.inside in
    does_same v c.args.self.now _ c.match-alloc.result (λ s. allocated (served_choice s.memory.storage 0 c.args.size) c.args.size s.memory) c.self.view_is
    (subst (λ (k : Choice). Does v (with_arena v c.alloc.new.self) c.match-alloc.result (allocated k c.args.size v.memory)) (sym (choice_is c))
    (does_serve v (with_arena v c.alloc.new.self) c.match-alloc.result (λ k. allocated k c.args.size v.memory) (λ id place. with_storage v.memory (after_alloc v.memory.storage c.args.size (answers.Got id place))) (λ id place. refl) refl
    c.alloc.result (leaves_alloc v c.alloc.new.self c.args.size c.alloc.result c.alloc.ensures.after) (answer_is c)))

pub returns-clause-told : goal.returns-clause-told
returns-clause-told c =
    subst (λ s. Went c.match-alloc.result (malloc_turned (served_choice s.memory.storage 0 c.args.size))) c.self.view_is
    (subst (λ (k : Choice). Went c.match-alloc.result (malloc_turned k)) (sym (choice_is c)) (went_serve c.alloc.result c.match-alloc.result (answer_is c)))
