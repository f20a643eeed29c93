use Rattle.std.proofs.Common.{◌≡◌, take, map}
use Rattle.type_locals.specs.LocalViews.{params_view}
use Rattle.type_locals.specs.inner.Numbers.{locals_view, param_local}
use Rattle.type_locals.proofs.locals.params_of.Given as goal

-- the locals so far
abbrev pub invariant-params : goal.invariant-params
invariant-params l = locals_view l.all.items ≡ map param_local (params_view (take l.p-index l.params))
