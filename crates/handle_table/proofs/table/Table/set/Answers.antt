use Rattle.std.proofs.Common.{◌≡◌, Some, subst, sym, set}
use Rattle.handle_table.specs.Table.{IsInUse}
use Rattle.handle_table.specs.inner.Kept.{table_of}
use Rattle.handle_table.proofs.Kept.{set-table, taken_from_use}
use Rattle.handle_table.proofs.table.Table.set.Goals as goal

pub returns-clause-set : goal.returns-clause-set
returns-clause-set c =
    let used = subst (λ t. IsInUse t c.args.id) (sym c.self.view_is) c.requires in
    subst (λ t. table_of c.self.inside.ids (set c.self.inside.addresses.items c.args.id (Some c.args.at)) ≡ set t c.args.id (Some c.args.at)) c.self.view_is (set-table c.self.inside.ids c.self.inside.addresses.items c.args.id (Some c.args.at) (taken_from_use c.self.inside.ids c.self.inside.addresses.items c.args.id used))
