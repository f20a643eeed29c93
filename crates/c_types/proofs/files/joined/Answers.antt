use Rattle.std.proofs.Common.{sym, ◌∙◌}
use Rattle.c_types.proofs.Externals.{made_fault, made_both}
use Rattle.type_context.specs.inner.Outcomes as outcomes
use Rattle.c_types.proofs.files.joined.Goals as goal

pub returns-in_err-all : goal.returns-in_err-all
returns-in_err-all c = made_fault (outcomes.joined c.args.all c.args.next) c.in_err-all.field-0.0 c.from_residual.result (sym c.both.ensures ∙ c.in_err-all.was) c.from_residual.ensures.1

pub returns : goal.returns
returns c = made_both (outcomes.joined c.args.all c.args.next) (c.in_ok-all.all, c.in_ok-all.next) _ (sym c.both.ensures ∙ c.in_ok-all.was) c.in_ok-append.ensures.items c.in_ok-append-2.ensures.items
