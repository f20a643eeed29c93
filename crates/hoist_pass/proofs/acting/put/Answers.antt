use Rattle.std.proofs.Common.{sym, ◌∙◌}
use Rattle.mark_sets.proofs.Bits.{assigned, on_both}
use Rattle.hoist_pass.proofs.acting.put.Goals as goal

pub returns-in-Some : goal.returns-in-Some
returns-in-Some c =
    on_both c.insert.result c.insert.ensures.there c.insert.ensures.others
    (λ there others. assigned c.args.marks.now c.requires c.args.b c.in-Some.j c.args.set.now.items c.insert.new.set.items (sym c.bit.ensures ∙ c.in-Some.is) others there)
