use Rattle.std.proofs.Common.{◌≡◌, ◌≤◌, true, None, ◌∙◌, ap, sym, subst, refl, arith}
use Rattle.arena_meaning.specs.Changes.{is_live_start, without_id}
use Rattle.handle_words.specs.Handle.{id_of}
use Rattle.flat_meaning.specs.Accesses.{Choice, wait, reallocated}
use Rattle.flat_machine.specs.Choices.{malloc_choice}
use Rattle.flat_machine.specs.Shares.{Shared}
use Rattle.sub_heaps.specs.SubHeaps.{SubHeaps}
use Rattle.arena_meaning.specs.Arena.{IsLiveStart, Storage}
use Rattle.arena_meaning.specs.declared.answers.Alloced.TheVariants as answers
use Rattle.flat_threads.specs.declared.wait.Wait.TheVariants.{Room}
use Rattle.flat_machine.specs.declared.done.Done.TheVariants as dones
use Rattle.flat_machine.specs.Turns.{malloc_turned}
use Rattle.flat_machine.specs.inner.Dones.{Does, Went}
use Rattle.flat_machine.specs.contracts.shared.Shared.{the_view}
use Rattle.flat_machine.proofs.Doing.{does_same, with_arena}
use Rattle.flat_meaning.proofs.LiveStarts.{live_starts_are_told}
use Rattle.flat_machine.proofs.Mallocs.{does_alloc, does_wait, ended, gets_now, live_renewable, live_stays, none_chosen, none_copied, not_zero, sized_is, waits_now, went_alloc}
use Rattle.flat_machine.proofs.shared.Shared.realloc.Goals as goal

pub returns-in-Got-clause-does : goal.returns-in-Got-clause-does
returns-in-Got-clause-does c =
    let v = the_view c.self.inside in
    let word = c.args.word in
    let size = c.args.size in
    let live : is_live_start v.memory.storage word ≡ true = sym c.is_live.ensures.test ∙ c.if-not-is_live.false in
    let idle : v.memory.leaving ≡ None = ap (λ (s : Shared). s.memory.leaving) c.self.view_is ∙ c.requires in
    let not_null = not_zero word c.if-word-eq0.false in
    let small : size ≤ v.memory.storage.heaps.size = omega (arith, ap (λ (h : SubHeaps). h.size) c.heaps.ensures.heaps) in
    let a = answers.Got c.in-Got.id c.in-Got.place in
    let choice = live_renewable v.memory.storage word size live ∙ sized_is v.memory.storage c.self.invariant.0.consistent size a small c.in-Got.ensures.answer in
    let stays = live_stays v.memory.storage word size c.in-Got.id c.in-Got.place c.in-Got.ensures.answer.0.free ((live_starts_are_told v.memory.storage word).0 live) in
    let freed = c.free.ensures.freed (subst (λ (s : Storage). IsLiveStart s word) (sym c.in-Got.ensures.after) stays) ∙ ap (λ (s : Storage). without_id s (id_of word)) c.in-Got.ensures.after in
    does_same v c.args.self.now _ c.got.result (λ s. reallocated (malloc_choice s.memory.storage word size) word size s.memory) c.self.view_is
    (subst (λ (k : Choice). Does v (with_arena v c.free.new.self) c.got.result (reallocated k word size v.memory)) (sym choice)
    (does_alloc v (with_arena v c.free.new.self) c.got.result (λ k. reallocated k word size v.memory) (ended v word size not_null) (gets_now v word size not_null idle live) (waits_now v word size not_null idle live)
    a (ap (with_arena v) freed) c.got.ensures))

pub returns-in-Got-clause-told : goal.returns-in-Got-clause-told
returns-in-Got-clause-told c =
    let v = the_view c.self.inside in
    let word = c.args.word in
    let size = c.args.size in
    let live : is_live_start v.memory.storage word ≡ true = sym c.is_live.ensures.test ∙ c.if-not-is_live.false in
    let small : size ≤ v.memory.storage.heaps.size = omega (arith, ap (λ (h : SubHeaps). h.size) c.heaps.ensures.heaps) in
    let a = answers.Got c.in-Got.id c.in-Got.place in
    let choice = live_renewable v.memory.storage word size live ∙ sized_is v.memory.storage c.self.invariant.0.consistent size a small c.in-Got.ensures.answer in
    subst (λ s. Went c.got.result (malloc_turned (malloc_choice s.memory.storage word size))) c.self.view_is
    (subst (λ (k : Choice). Went c.got.result (malloc_turned k)) (sym choice) (went_alloc a c.got.result c.got.ensures))

pub returns-in-NoGap-clause-does : goal.returns-in-NoGap-clause-does
returns-in-NoGap-clause-does c =
    let v = the_view c.self.inside in
    let word = c.args.word in
    let size = c.args.size in
    let live : is_live_start v.memory.storage word ≡ true = sym c.is_live.ensures.test ∙ c.if-not-is_live.false in
    let idle : v.memory.leaving ≡ None = ap (λ (s : Shared). s.memory.leaving) c.self.view_is ∙ c.requires in
    let not_null = not_zero word c.if-word-eq0.false in
    let small : size ≤ v.memory.storage.heaps.size = omega (arith, ap (λ (h : SubHeaps). h.size) c.heaps.ensures.heaps) in
    let choice = live_renewable v.memory.storage word size live ∙ sized_is v.memory.storage c.self.invariant.0.consistent size c.alloc_copy.result small c.alloc_copy.ensures.answer ∙ none_chosen c.alloc_copy.result wait c.in-NoGap.is in
    does_same v c.args.self.now _ (dones.Waits Room) (λ s. reallocated (malloc_choice s.memory.storage word size) word size s.memory) c.self.view_is
    (does_wait v c.alloc_copy.new.self (reallocated (malloc_choice v.memory.storage word size) word size v.memory) (none_copied v.memory.storage c.alloc_copy.new.self word size c.alloc_copy.result c.in-NoGap.is c.alloc_copy.ensures.after)
    (ap (λ k. reallocated k word size v.memory) choice ∙ waits_now v word size not_null idle live))

pub returns-in-NoGap-clause-told : goal.returns-in-NoGap-clause-told
returns-in-NoGap-clause-told c = tt

pub returns-in-NoGap-clause-waits : goal.returns-in-NoGap-clause-waits
returns-in-NoGap-clause-waits c = refl
