use Rattle.std.proofs.Common.{◌≡◌, take, map}
use Rattle.type_locals.specs.inner.Numbers.{furthers_view, locals_view, further_local}
use Rattle.type_locals.proofs.locals.further_of.Given as goal

-- the locals so far
abbrev pub invariant-further : goal.invariant-further
invariant-further l = locals_view l.all.items ≡ map further_local (furthers_view (take l.x-index l.further))
