use Rattle.std.proofs.Common.{◌≡◌, ◌++◌, drop}
use Rattle.c_typing.specs.Numbering.{addressed_params}
use Rattle.type_locals.specs.inner.Marking.{marked}
use Rattle.type_locals.specs.LocalViews.{params_view}
use Rattle.type_locals.specs.inner.Numbers.{furthers_view}
use Rattle.type_locals.proofs.locals.further_params.Given as goal

-- those that were found, and the rest
abbrev pub invariant-loop-k : goal.invariant-loop-k
invariant-loop-k l = furthers_view l.all.items ++ addressed_params l.k (params_view (drop l.k l.params)) (marked l.addressed) ≡ addressed_params 0 (params_view l.params) (marked l.addressed)
