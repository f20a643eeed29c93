use Rattle.std.proofs.Common.{ap, ◌∙◌, sym, arith}
use Rattle.std.proofs.lemmas.Option.{slice_get_within}
use Rattle.flat_meaning.specs.Stages.{room_for}
use Rattle.flat_threads.specs.Contexts.{own_image}
use Rattle.flat_threads.proofs.Loaded.{flat_at, flat_count}
use Rattle.flat_threads.proofs.Threads.{calls_function}
use Rattle.flat_threads.proofs.Standing.{calls_this}
use Rattle.flat_threads.proofs.before.may_enter.Goals as goal

pub index-requires : goal.index-requires
index-requires c =
    let f = calls_function c.args.program.now c.instr.ensures.program c.args.calls.now c.requires c.instr.result.now c.in-Enter.node c.deref.result.now c.instr.ensures.is c.in-Enter.is c.deref.ensures in
    let n = flat_count _ c.args.program.now c.program.view_is c.program.inside.funcs.items c.program.invariant.0 in
    let lt = slice_get_within c.args.program.now.funcs c.deref.result.now.function f.0 f.1 in
    omega (arith, n, lt)

pub returns-in-Enter : goal.returns-in-Enter
returns-in-Enter c = λ function e.
    let f = calls_function c.args.program.now c.instr.ensures.program c.args.calls.now c.requires c.instr.result.now c.in-Enter.node c.deref.result.now c.instr.ensures.is c.in-Enter.is c.deref.ensures in
    let same = calls_this c.args.program.now c.args.calls.now c.instr.result.now c.in-Enter.node c.deref.result.now function c.instr.ensures.is c.in-Enter.is c.deref.ensures e in
    c.has_room.ensures c.deref.result.now.function f.0 f.1 (flat_at _ c.args.program.now c.program.view_is c.program.inside.funcs.items c.program.invariant.0 c.deref.result.now.function f.0 c.index.result.now f.1 c.index.ensures)
    ∙ ap (room_for (own_image c.args.program.now) c.args.calls.now) (sym same)
