use Rattle.std.proofs.Common.{◌≡◌, None, IsSome, subst, sym, set, refl}
use Rattle.handle_table.specs.Table.{IsInUse}
use Rattle.handle_table.specs.inner.Kept.{table_of}
use Rattle.handle_table.proofs.Kept.{set-table, taken_from_use, address-taken, give-kept}
use Rattle.handle_table.proofs.table.Table.give.Goals as goal

pub invariant_of-self : goal.invariant_of-self
invariant_of-self c =
    let used = subst (λ t. IsInUse t c.args.id) (sym c.self.view_is) c.requires in
    let within = taken_from_use c.self.inside.ids c.self.inside.addresses.items c.args.id used in
    give-kept _ _ _ _ _ _ c.self.invariant c.args.id within (subst IsSome (address-taken c.self.inside.ids c.self.inside.addresses.items c.args.id) used) _ _ _ _ refl c.in-Ok.ensures.permutation (c.in-Ok.ensures.heap_order c.self.invariant.ordered) c.in-Ok.ensures.len c.in-Ok.ensures.capacity

pub returns-clause-given : goal.returns-clause-given
returns-clause-given c =
    let used = subst (λ t. IsInUse t c.args.id) (sym c.self.view_is) c.requires in
    subst (λ t. table_of c.self.inside.ids (set c.self.inside.addresses.items c.args.id None) ≡ set t c.args.id None) c.self.view_is (set-table c.self.inside.ids c.self.inside.addresses.items c.args.id None (taken_from_use c.self.inside.ids c.self.inside.addresses.items c.args.id used))
