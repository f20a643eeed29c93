use Rattle.std.proofs.Common.{◌≡◌, drop}
use Rattle.c_tree.specs.Typed.{Stmts}
use Rattle.c_typing.specs.Numbering.{copies}
use Rattle.type_locals.specs.inner.Numbers.{furthers_view, followed}
use Rattle.type_locals.proofs.locals.copies.Given as goal

-- the declarations so far, and the rest
abbrev pub invariant-loop-i : goal.invariant-loop-i
invariant-loop-i l = (body : Stmts) → followed l.all.items (copies l.params l.i (furthers_view (drop l.i l.further)) body) ≡ followed l.fn.all.items (copies l.params 0 (furthers_view l.further) body)
