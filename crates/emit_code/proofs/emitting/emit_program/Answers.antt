use Rattle.std.proofs.Common.{map, ◌∙◌}
use Rattle.struct_ir.specs.ValidCode.{is_valid_code}
use Rattle.struct_ir.specs.Views.{global_view, func_view}
use Rattle.struct_ir.specs.WholeViews.{ir_view}
use Rattle.emit_code.proofs.Program.{main_kept, valid_scoped, inits_kept, area_kept}
use Rattle.emit_code.proofs.ValidCode.{code_valid}
use Rattle.emit_code.proofs.emitting.emit_program.Goals as goal

pub emit_funcs-requires-clause-scoped : goal.emit_funcs-requires-clause-scoped
emit_funcs-requires-clause-scoped c = rw c.deref-3.ensures.value (valid_scoped (ir_view c.args.ir.now) c.requires.valid)

pub invariant_of-result-clause-main_takes_nothing : goal.invariant_of-result-clause-main_takes_nothing
invariant_of-result-clause-main_takes_nothing c =
    let p = c.args.ir.now in
    main_kept c.in_ok-funcs.funcs.items (map func_view p.funcs.items) p.main (rw c.deref-3.ensures.value at c.in_ok-funcs.ensures) p.main_takes_nothing

pub invariant_of-result-clause-literals_are_there : goal.invariant_of-result-clause-literals_are_there
invariant_of-result-clause-literals_are_there c =
    let p = c.args.ir.now in
    let globals = c.in_ok-globals.ensures.items_if_clones_equal (λ x y e. e) ∙ c.deref.ensures.value in
    let literals = rw c.deref-2.ensures.value at c.in_ok-literals.ensures in
    inits_kept c.in_ok-globals.globals.items p.globals.items c.in_ok-literals.literals.items p.literals.items globals literals p.literals_are_there

pub invariant_of-result-clause-fits_the_plain_area : goal.invariant_of-result-clause-fits_the_plain_area
invariant_of-result-clause-fits_the_plain_area c =
    let p = c.args.ir.now in
    let globals = c.in_ok-globals.ensures.items_if_clones_equal (λ x y e. e) ∙ c.deref.ensures.value in
    let literals = rw c.deref-2.ensures.value at c.in_ok-literals.ensures in
    area_kept c.in_ok-globals.globals.items p.globals.items c.in_ok-literals.literals.items p.literals.items 1048576 globals literals p.fits_the_plain_area

pub invariant_of-result-clause-is_valid : goal.invariant_of-result-clause-is_valid
invariant_of-result-clause-is_valid c =
    let p = ir_view c.args.ir.now in
    let globals = c.in_ok-globals.ensures.items_if_clones_equal (λ x y e. e) ∙ c.deref.ensures.value in
    let literals = rw c.deref-2.ensures.value at c.in_ok-literals.ensures in
    let funcs = rw c.deref-3.ensures.value at c.in_ok-funcs.ensures in
    (λ i. is_valid_code (record { globals = map global_view (globals i); literals = literals i; funcs = funcs i; main = p.main })) ∙ code_valid p c.requires.valid
