use Rattle.std.proofs.Common.{◌∙◌, ap, sym, subst}
use Rattle.std.specs.Prelude.{is_some}
use Rattle.flat_meaning.specs.Accesses.{Choice, null, reallocated}
use Rattle.flat_machine.specs.Choices.{served_choice}
use Rattle.flat_machine.specs.Shares.{Shared}
use Rattle.arena_meaning.specs.declared.answers.Alloced.TheVariants as answers
use Rattle.flat_machine.specs.Turns.{malloc_turned}
use Rattle.flat_machine.specs.inner.Dones.{Does, Went}
use Rattle.flat_machine.specs.contracts.shared.Shared.{the_view}
use Rattle.flat_machine.proofs.Doing.{does_same}
use Rattle.flat_machine.specs.inner.Dones.{with_memory}
use Rattle.flat_machine.proofs.Mallocs.{chosen_is, does_nothing, does_serve, gets_later, left_later, none_chosen, none_copied, not_zero, null_later, parts_later, went_null, went_serve}
use Rattle.flat_machine.proofs.Nulls.{some_words}
use Rattle.flat_machine.proofs.shared.Shared.serve_realloc.Goals as goal

pub returns-in-Got-clause-does : goal.returns-in-Got-clause-does
returns-in-Got-clause-does c =
    let v = the_view c.self.inside in
    let word = c.args.word in
    let size = c.args.size in
    let words = some_words v.memory.leaving (ap (λ (s : Shared). is_some s.memory.leaving) c.self.view_is ∙ c.requires.serves) in
    let not_null = not_zero word c.if-word-eq0.false in
    let a = answers.Got c.in-Got.id c.in-Got.place in
    let choice = chosen_is v.memory.storage size a null c.in-Got.ensures.answer in
    let parts = parts_later v word size c.in-Got.id c.in-Got.place words.0 c.is_live-live.result c.alloc_copy.new.self c.add_if.new.self words.1 c.is_live-live.ensures.test c.in-Got.ensures.after c.add_if.ensures in
    does_same v c.args.self.now _ c.got.result (λ s. reallocated (served_choice s.memory.storage word size) word size s.memory) c.self.view_is
    (subst (λ (k : Choice). Does v (with_memory v (record { storage = c.alloc_copy.new.self; output = v.memory.output; threads = v.memory.threads; leaving = c.add_if.new.self })) c.got.result (reallocated k word size v.memory)) (sym choice)
    (does_serve v (with_memory v (record { storage = c.alloc_copy.new.self; output = v.memory.output; threads = v.memory.threads; leaving = c.add_if.new.self })) c.got.result (λ k. reallocated k word size v.memory) (left_later v word size not_null words.0) (gets_later v word size not_null words.0 words.1) (null_later v word size not_null words.0 words.1)
    a (ap (with_memory v) parts) c.got.ensures))

pub returns-in-Got-clause-told : goal.returns-in-Got-clause-told
returns-in-Got-clause-told c =
    let v = the_view c.self.inside in
    let a = answers.Got c.in-Got.id c.in-Got.place in
    subst (λ s. Went c.got.result (malloc_turned (served_choice s.memory.storage c.args.word c.args.size))) c.self.view_is
    (subst (λ (k : Choice). Went c.got.result (malloc_turned k)) (sym (chosen_is v.memory.storage c.args.size a null c.in-Got.ensures.answer)) (went_serve a c.got.result c.got.ensures))

pub returns-in-NoGap-clause-does : goal.returns-in-NoGap-clause-does
returns-in-NoGap-clause-does c =
    let v = the_view c.self.inside in
    let word = c.args.word in
    let size = c.args.size in
    let words = some_words v.memory.leaving (ap (λ (s : Shared). is_some s.memory.leaving) c.self.view_is ∙ c.requires.serves) in
    let not_null = not_zero word c.if-word-eq0.false in
    let choice = chosen_is v.memory.storage size c.alloc_copy.result null c.alloc_copy.ensures.answer ∙ none_chosen c.alloc_copy.result null c.in-NoGap.is in
    does_same v c.args.self.now _ c.null.result (λ s. reallocated (served_choice s.memory.storage word size) word size s.memory) c.self.view_is
    (does_nothing v c.alloc_copy.new.self c.null.result (reallocated (served_choice v.memory.storage word size) word size v.memory) (none_copied v.memory.storage c.alloc_copy.new.self word size c.alloc_copy.result c.in-NoGap.is c.alloc_copy.ensures.after) c.null.ensures
    (ap (λ k. reallocated k word size v.memory) choice ∙ null_later v word size not_null words.0 words.1))

pub returns-in-NoGap-clause-told : goal.returns-in-NoGap-clause-told
returns-in-NoGap-clause-told c =
    let v = the_view c.self.inside in
    let choice = chosen_is v.memory.storage c.args.size c.alloc_copy.result null c.alloc_copy.ensures.answer ∙ none_chosen c.alloc_copy.result null c.in-NoGap.is in
    subst (λ s. Went c.null.result (malloc_turned (served_choice s.memory.storage c.args.word c.args.size))) c.self.view_is
    (subst (λ (k : Choice). Went c.null.result (malloc_turned k)) (sym choice) (went_null c.null.result c.null.ensures))
