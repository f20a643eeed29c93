use Rattle.std.proofs.Common.{◌||◌, ap, ◌∙◌, arith}
use Rattle.std.specs.Prelude.{nat_eq}
use Rattle.type_locals.proofs.Marked.{set_marked}
use Rattle.type_locals.proofs.marks.Marks.add.Goals as goal

pub returns : goal.returns
returns c = λ k.
    set_marked c.args.n k c.grow.new.self.table.items c.set.new.self.table.items (omega (arith, c.in_ok-grow.ensures.room)) c.set.ensures
    ∙ ap (λ b. nat_eq k c.args.n || b) (c.in_ok-grow.ensures.same k)
