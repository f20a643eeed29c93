use Rattle.std.proofs.Common.{map}
use Rattle.std.specs.List.{list_all}
use Rattle.std.proofs.lemmas.Result.{err_from_is_err_and}
use Rattle.code_file.specs.RawViews.{raw_func_view, raw_view}
use Rattle.code_file.specs.Conditions.{has_parameters}
use Rattle.code_load.proofs.FilledRows.{passes}
use Rattle.code_load.proofs.Lawful.{without_registers}
use Rattle.code_load.proofs.filling.fill_code.Goals as goal

pub returns-in_err-funcs : goal.returns-in_err-funcs
returns-in_err-funcs c =
    let p = err_from_is_err_and c.from_residual.result c.from_residual.ensures.1 in
    rw (p.1, p.2) (passes c.in_err-funcs.field-0.0 (list_all has_parameters (map raw_func_view c.args.raw.funcs.items)) _ (without_registers (raw_view c.args.raw)) c.in_err-funcs.ensures)
