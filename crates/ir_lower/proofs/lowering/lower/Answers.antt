use Rattle.c_tree.specs.TypedViews.{typed_view}
use Rattle.ir_lower.proofs.Programs.{program_is, sound, bounded, whole}
use Rattle.ir_lower.proofs.lowering.lower.Goals as goal

pub invariant_of-result : goal.invariant_of-result
invariant_of-result c =
    let w = whole (typed_view c.args.typed.now) _ c.requires (program_is c.args.typed.now c.in_ok-globals.globals.items c.in_ok-literals.literals.items c.in_ok-funcs.funcs.items c.deref.result.now c.deref-2.result.now c.deref-3.result.now c.deref-4.result.now c.deref-5.result.now
    c.in_ok-globals.ensures c.in_ok-literals.ensures c.in_ok-funcs.ensures c.deref.ensures.value c.deref-2.ensures.value c.deref-3.ensures.value c.deref-4.ensures.value c.deref-5.ensures.value) in
    record { main_takes_nothing = w.main; literals_are_there = w.literals; fits_the_plain_area = w.small }

pub returns-clause-valid : goal.returns-clause-valid
returns-clause-valid c = (sound (typed_view c.args.typed.now) _ c.requires (program_is c.args.typed.now c.in_ok-globals.globals.items c.in_ok-literals.literals.items c.in_ok-funcs.funcs.items c.deref.result.now c.deref-2.result.now c.deref-3.result.now c.deref-4.result.now c.deref-5.result.now
    c.in_ok-globals.ensures c.in_ok-literals.ensures c.in_ok-funcs.ensures c.deref.ensures.value c.deref-2.ensures.value c.deref-3.ensures.value c.deref-4.ensures.value c.deref-5.ensures.value)).valid

pub returns-clause-bare : goal.returns-clause-bare
returns-clause-bare c = (sound (typed_view c.args.typed.now) _ c.requires (program_is c.args.typed.now c.in_ok-globals.globals.items c.in_ok-literals.literals.items c.in_ok-funcs.funcs.items c.deref.result.now c.deref-2.result.now c.deref-3.result.now c.deref-4.result.now c.deref-5.result.now
    c.in_ok-globals.ensures c.in_ok-literals.ensures c.in_ok-funcs.ensures c.deref.ensures.value c.deref-2.ensures.value c.deref-3.ensures.value c.deref-4.ensures.value c.deref-5.ensures.value)).bare

pub returns-clause-bounded : goal.returns-clause-bounded
returns-clause-bounded c = bounded (typed_view c.args.typed.now) _ (program_is c.args.typed.now c.in_ok-globals.globals.items c.in_ok-literals.literals.items c.in_ok-funcs.funcs.items c.deref.result.now c.deref-2.result.now c.deref-3.result.now c.deref-4.result.now c.deref-5.result.now
    c.in_ok-globals.ensures c.in_ok-literals.ensures c.in_ok-funcs.ensures c.deref.ensures.value c.deref-2.ensures.value c.deref-3.ensures.value c.deref-4.ensures.value c.deref-5.ensures.value)
