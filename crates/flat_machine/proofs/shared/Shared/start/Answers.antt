use Rattle.std.proofs.Common.{◌≡◌, ◌∙◌, ◌++◌, ◌∷◌, [], ◌<◌, List, map, length, ap, sym, refl, arith}
use Rattle.std.proofs.lemmas.List.{map-append, length-map}
use Rattle.flat_meaning.specs.Actions.{started}
use Rattle.flat_meaning.specs.Memory.{beginning}
use Rattle.flat_threads.specs.Targets.{target_view}
use Rattle.flat_machine.specs.declared.made.MadeThread.{MadeThread}
use Rattle.flat_machine.specs.inner.Shares.{made_view}
use Rattle.flat_machine.specs.contracts.shared.Shared.{the_view}
use Rattle.flat_machine.proofs.Doing.{does_same}
use Rattle.flat_machine.proofs.Threads.{does_start}
use Rattle.flat_machine.proofs.shared.Shared.start.Goals as goal

pub returns-clause-does : goal.returns-clause-does
returns-clause-does c =
    let v = the_view c.self.inside in
    let to = target_view c.args.to in
    let items : List MadeThread = c.self.inside.threads.items in
    let number : c.from.result ≡ length items = c.from.ensures ∙ c.len-number.ensures ∙ c.self.inside.threads.ok.0 in
    let number_is : c.from.result ≡ length (map made_view items) = number ∙ sym (length-map items made_view) in
    let few : c.from.result < 64 = omega arith in
    let threads : map made_view c.push_reserved.new.self.items ≡ map made_view items ++ (beginning c.args.function c.args.argument ∷ []) = ap (map made_view) c.push_reserved.ensures.items ∙ map-append made_view items _ in
    does_same v c.args.self.now _ _ (λ s. started 64 c.args.function to c.args.argument s.memory) c.self.view_is
    (does_start v c.args.function to c.args.argument c.from.result c.store.new.self (map made_view c.push_reserved.new.self.items) _ _ refl number_is few (c.in_default.ensures.within.0 refl) c.in_default.ensures.stored threads)
