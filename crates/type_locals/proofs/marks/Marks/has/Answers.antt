use Rattle.std.proofs.Common.{false, get_or, sym, ap, ◌∙◌, arith}
use Rattle.type_locals.proofs.Marked.{is_marked}
use Rattle.type_locals.proofs.marks.Marks.has.Goals as goal

pub returns-in-Some : goal.returns-in-Some
returns-in-Some c =
    let n = c.args.n in
    c.in-Some.ensures.lookup.4 (omega arith) false ∙ ap (λ l. get_or l n false) c.deref.ensures.value ∙ sym (is_marked n c.args.self.now.table.items)

pub returns-in-None : goal.returns-in-None
returns-in-None c =
    let n = c.args.n in
    c.in-None.ensures.lookup.4 (omega arith) false ∙ ap (λ l. get_or l n false) c.deref.ensures.value ∙ sym (is_marked n c.args.self.now.table.items)
