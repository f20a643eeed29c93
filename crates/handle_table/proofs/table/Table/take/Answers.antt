use Rattle.std.proofs.Common.{◌≡◌, refl, Some, ◌++◌, ◌∷◌, [], subst, sym, set, true, false, ap, ◌∙◌, arith, rules, length, ◌<◌}
use Rattle.std.proofs.lemmas.Bool.{false≢true}
use Rattle.std.specs.Vec.{vec_len}
use Rattle.std.specs.BinaryHeap.{heap_len}
use Rattle.handle_table.specs.Table.{IsLeastFree, IsFull}
use Rattle.handle_table.specs.inner.Kept.{table_of}
use Rattle.handle_table.proofs.Kept.{top-taken, top-least, top-kept, set-table, full, fresh-least, push-table}
use Rattle.handle_table.proofs.table.Table.take.Goals as goal

pub index_mut-requires : goal.index_mut-requires
index_mut-requires c =
    let long : vec_len c.self.inside.addresses ≡ length c.self.inside.addresses.items = search rules in
    omega (arith, long, top-taken _ _ _ _ _ _ c.self.invariant c.in-Some.field-0 _ c.in-Some.ensures.permutation)

pub invariant_of-self : goal.invariant_of-self
invariant_of-self c =
    rw c.pop.ensures.capacity (top-kept _ _ _ _ _ _ c.self.invariant c.in-Some.field-0 _ c.in-Some.ensures.permutation _ (c.in-Some.ensures.heap_order c.self.invariant.ordered).0 c.in-Some.ensures.len)

pub returns-in-Some-clause-least : goal.returns-in-Some-clause-least
returns-in-Some-clause-least c =
    subst (λ t. IsLeastFree t c.in-Some.field-0.0) c.self.view_is (top-least _ _ _ _ _ _ c.self.invariant c.in-Some.field-0 _ c.in-Some.ensures.permutation (c.in-Some.ensures.heap_order c.self.invariant.ordered).1)

pub returns-in-Some-clause-taken : goal.returns-in-Some-clause-taken
returns-in-Some-clause-taken c =
    subst (λ t. table_of c.self.inside.ids (set c.self.inside.addresses.items c.in-Some.field-0.0 (Some 0)) ≡ set t c.in-Some.field-0.0 (Some 0)) c.self.view_is (set-table c.self.inside.ids c.self.inside.addresses.items c.in-Some.field-0.0 (Some 0) (top-taken _ _ _ _ _ _ c.self.invariant c.in-Some.field-0 _ c.in-Some.ensures.permutation))

pub returns-in-Some-clause-none : goal.returns-in-Some-clause-none
returns-in-Some-clause-none c =
    let found = returns-in-Some-clause-least c in
    (λ none. absurd (false≢true (sym none)), λ all. absurd (false≢true (sym found.free.1 ∙ all c.in-Some.field-0.0 found.free.0)))

pub returns-clause-least : goal.returns-clause-least
returns-clause-least c =
    let is : c.len-id.result ≡ length c.self.inside.addresses.items = search rules in
    let none : heap_len c.self.inside.given ≡ 0 = search rules in
    let room : length c.self.inside.addresses.items < c.self.inside.ids = omega (arith, c.self.invariant.within, is, c.if-id-self.false) in
    subst (λ i. IsLeastFree c.args.self.now i) (sym is) (subst (λ t. IsLeastFree t (length c.self.inside.addresses.items)) c.self.view_is (fresh-least _ _ _ _ _ _ c.self.invariant none room))

pub returns-clause-taken : goal.returns-clause-taken
returns-clause-taken c =
    let is : c.len-id.result ≡ length c.self.inside.addresses.items = search rules in
    let room : length c.self.inside.addresses.items < c.self.inside.ids = omega (arith, c.self.invariant.within, is, c.if-id-self.false) in
    rw (c.push_reserved.ensures.items, is) (subst (λ t. table_of c.self.inside.ids (c.self.inside.addresses.items ++ Some 0 ∷ []) ≡ set t (length c.self.inside.addresses.items) (Some 0)) c.self.view_is (push-table c.self.inside.ids c.self.inside.addresses.items (Some 0) room))

pub returns-clause-none : goal.returns-clause-none
returns-clause-none c =
    let found = returns-clause-least c in
    (λ none. absurd (false≢true (sym none)), λ all. absurd (false≢true (sym found.free.1 ∙ all c.len-id.result found.free.0)))

pub returns-then-id-self-clause-none : goal.returns-then-id-self-clause-none
returns-then-id-self-clause-none c =
    let is : c.len-id.result ≡ length c.self.inside.addresses.items = search rules in
    let none : heap_len c.self.inside.given ≡ 0 = search rules in
    (λ _. subst IsFull c.self.view_is (full _ _ _ _ _ _ c.self.invariant none (omega (arith, is, c.if-id-self.true))), λ _. refl)
