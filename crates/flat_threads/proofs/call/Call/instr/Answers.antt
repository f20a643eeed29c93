use Rattle.std.proofs.Common.{arith, subst}
use Rattle.flat_threads.specs.Contexts.{IsProgram}
use Rattle.flat_threads.proofs.Loaded.{program_is, instr_count, few_instrs}
use Rattle.flat_threads.proofs.call.Call.instr.Goals as goal

pub index-requires-2 : goal.index-requires-2
index-requires-2 c =
    let n = instr_count c.program.inside.code c.args.program.now c.program.view_is c.args.self.now.function c.requires.0 c.requires.1 c.index.result.now c.index.ensures in
    omega (arith, n, c.requires.2)

pub returns-clause-small : goal.returns-clause-small
returns-clause-small c =
    let n = few_instrs c.program.inside.code c.args.program.now c.program.view_is c.program.inside.funcs.items c.program.invariant.0 c.args.self.now.function c.requires.0 c.requires.1 in
    omega (arith, n, c.requires.2)

pub returns-clause-program : goal.returns-clause-program
returns-clause-program c = subst IsProgram c.program.view_is (program_is c.program.inside.code)
