use Rattle.std.proofs.Common.{◌≡◌, ◌&&◌, true, sym, ap, ◌∙◌}
use Rattle.struct_ir.specs.Valid.{is_valid}
use Rattle.struct_ir.specs.WholeViews.{ir_view}
use Rattle.code_file.specs.Conditions.{ir_is_aligned}
use Rattle.code_load.proofs.Lawful.{by_its_type}
use Rattle.code_load.proofs.filling.is_lawful.Goals as goal

pub returns-then-is_valid : goal.returns-then-is_valid
returns-then-is_valid c =
    let x = c.args.ir.now in
    let valid : is_valid (ir_view x) ≡ true = sym c.is_valid.ensures ∙ c.if-is_valid.true in
    c.is_aligned.ensures ∙ (ap (λ b. b && ir_is_aligned (ir_view x)) (sym valid) ∙ by_its_type x)
