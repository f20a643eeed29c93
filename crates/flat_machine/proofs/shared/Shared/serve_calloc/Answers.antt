use Rattle.std.proofs.Common.{◌≡◌, ◌*◌, ℕ, Some, ◌∙◌, inl, inr, sym, subst, refl}
use Rattle.arena_meaning.specs.Changes.{after_alloc_zero}
use Rattle.flat_meaning.specs.Accesses.{Choice, null, zeroed}
use Rattle.flat_machine.specs.Choices.{served_choice}
use Rattle.arena_meaning.specs.declared.answers.Alloced.TheVariants as answers
use Rattle.flat_meaning.specs.Memory.{with_storage}
use Rattle.flat_machine.specs.declared.done.Done.TheVariants as dones
use Rattle.flat_machine.specs.declared.turned.Turned.TheVariants as code
use Rattle.flat_machine.specs.Turns.{malloc_turned}
use Rattle.flat_machine.specs.inner.Dones.{Does, Went}
use Rattle.flat_machine.specs.contracts.shared.Shared.{the_view}
use Rattle.flat_machine.proofs.Doing.{does_same, with_arena}
use Rattle.flat_machine.proofs.Mallocs.{AnswerIs, above_served, chosen, chosen_is, does_null, does_serve, leaves_zero, went_null, went_serve}
use Rattle.flat_machine.proofs.shared.Shared.serve_calloc.Goals as goal
use Rattle.flat_machine.proofs.shared.Shared.serve_calloc.Goals.{in-Got, in-NoGap}

pub returns-in_default-clause-does : goal.returns-in_default-clause-does
returns-in_default-clause-does c =
    let s = c.args.self.now in
    let n = c.args.count * c.args.size in
    subst (λ (k : Choice). Does s s c.null.result (zeroed k n s.memory)) (sym (above_served s.memory.storage n c.in_default.ensures.above)) (does_null s c.null.result (λ k. zeroed k n s.memory) refl c.null.ensures)

pub returns-in_default-clause-told : goal.returns-in_default-clause-told
returns-in_default-clause-told c =
    let s = c.args.self.now in
    subst (λ (k : Choice). Went c.null.result (malloc_turned k)) (sym (above_served s.memory.storage (c.args.count * c.args.size) c.in_default.ensures.above)) (went_null c.null.result c.null.ensures)

-- the answer, as it is told
answer_is : (c : goal.Joined-alloc_zero) → AnswerIs c.alloc_zero.result c.match-alloc_zero.result (dones.Went (Some 0) code.GotNull)
answer_is c =
    elim c.match-alloc_zero.branch [
      | in-Got w ↦ rw w.in-Got.is (w.result-is ∙ w.got.ensures)
      | in-NoGap w ↦ elim w.in-NoGap.is [ inl e ↦ rw e (w.result-is ∙ w.null-in-NoGap.ensures) | inr e ↦ rw e (w.result-is ∙ w.null-in-NoGap.ensures) ]
    ]

-- what was chosen
choice_is : (c : goal.Joined-alloc_zero) → served_choice (the_view c.self.inside).memory.storage 0 c.in-Some.bytes ≡ chosen c.alloc_zero.result null
choice_is c = let v = the_view c.self.inside in chosen_is v.memory.storage c.in-Some.bytes c.alloc_zero.result null c.alloc_zero.ensures.answer

pub returns-clause-does : goal.returns-clause-does
returns-clause-does c =
    let v = the_view c.self.inside in
    let n = c.in-Some.bytes in
    subst (λ (n : ℕ). Does c.args.self.now (with_arena v c.alloc_zero.new.self) c.match-alloc_zero.result (zeroed (served_choice c.args.self.now.memory.storage 0 n) n c.args.self.now.memory)) c.in-Some.ensures.product
    (does_same v c.args.self.now _ c.match-alloc_zero.result (λ s. zeroed (served_choice s.memory.storage 0 n) n s.memory) c.self.view_is
    (subst (λ (k : Choice). Does v (with_arena v c.alloc_zero.new.self) c.match-alloc_zero.result (zeroed k n v.memory)) (sym (choice_is c))
    (does_serve v (with_arena v c.alloc_zero.new.self) c.match-alloc_zero.result (λ k. zeroed k n v.memory) (λ id place. with_storage v.memory (after_alloc_zero v.memory.storage n (answers.Got id place))) (λ id place. refl) refl
    c.alloc_zero.result (leaves_zero v c.alloc_zero.new.self n c.alloc_zero.result c.alloc_zero.ensures.after) (answer_is c))))

pub returns-clause-told : goal.returns-clause-told
returns-clause-told c =
    subst (λ (n : ℕ). Went c.match-alloc_zero.result (malloc_turned (served_choice c.args.self.now.memory.storage 0 n))) c.in-Some.ensures.product
    (subst (λ s. Went c.match-alloc_zero.result (malloc_turned (served_choice s.memory.storage 0 c.in-Some.bytes))) c.self.view_is
    (subst (λ (k : Choice). Went c.match-alloc_zero.result (malloc_turned k)) (sym (choice_is c)) (went_serve c.alloc_zero.result c.match-alloc_zero.result (answer_is c))))
