use Rattle.std.proofs.Common.{sym, subst, arith}
use Rattle.c_grammar.specs.declared.terminal.Terminal.{Terminal}
use Rattle.c_grammar.specs.Language.{or_too_deep}
use Rattle.c_grammar.specs.inner.TerminalFiles.{refusal_of, RefusesTokens}
use Rattle.c_grammar.specs.inner.Readers.{unexpected, sunk, past}
use Rattle.c_parse.proofs.CodeFiles.{whole_parses, whole_within, whole_refuses}
use Rattle.c_parse.proofs.whole.parse_terminals.Goals as goal

pub overflow_sub-terminal : goal.overflow_sub-terminal
overflow_sub-terminal c =
    let read = rw c.in-Err-Unexpected.field-0-is at c.in-Err-Unexpected.ensures in
    (whole_within c.args.terminals.now c.requires unexpected c.in-Err-Unexpected.left read).1

pub bounds-terminals-terminals : goal.bounds-terminals-terminals
bounds-terminals-terminals c =
    let read = rw c.in-Err-Unexpected.field-0-is at c.in-Err-Unexpected.ensures in
    let within = whole_within c.args.terminals.now c.requires unexpected c.in-Err-Unexpected.left read in
    omega (arith, within.0, within.1)

pub overflow_sub-terminal-in-Err-Sunk : goal.overflow_sub-terminal-in-Err-Sunk
overflow_sub-terminal-in-Err-Sunk c =
    let read = rw c.in-Err-Sunk.field-0-is at c.in-Err-Sunk.ensures in
    (whole_within c.args.terminals.now c.requires sunk c.in-Err-Sunk.left read).1

pub bounds-terminals-terminals-in-Err-Sunk : goal.bounds-terminals-terminals-in-Err-Sunk
bounds-terminals-terminals-in-Err-Sunk c =
    let read = rw c.in-Err-Sunk.field-0-is at c.in-Err-Sunk.ensures in
    let within = whole_within c.args.terminals.now c.requires sunk c.in-Err-Sunk.left read in
    omega (arith, within.0, within.1)

pub overflow_sub-place : goal.overflow_sub-place
overflow_sub-place c =
    let read = rw c.in-Err-Over.field-0-is at c.in-Err-Over.ensures in
    (whole_within c.args.terminals.now c.requires (past c.in-Err-Over.kind) c.in-Err-Over.left read).1

pub bounds-terminals-terminals-in-Err-Over : goal.bounds-terminals-terminals-in-Err-Over
bounds-terminals-terminals-in-Err-Over c =
    let read = rw c.in-Err-Over.field-0-is at c.in-Err-Over.ensures in
    let within = whole_within c.args.terminals.now c.requires (past c.in-Err-Over.kind) c.in-Err-Over.left read in
    omega (arith, within.0, within.1)

pub bounds-terminals-terminals-in-Err-Over-2 : goal.bounds-terminals-terminals-in-Err-Over-2
bounds-terminals-terminals-in-Err-Over-2 c =
    let read = rw c.in-Err-Over.field-0-is at c.in-Err-Over.ensures in
    let within = whole_within c.args.terminals.now c.requires (past c.in-Err-Over.kind) c.in-Err-Over.left read in
    omega (arith, within.0, within.1)

pub returns-in-Ok-clause-found : goal.returns-in-Ok-clause-found
returns-in-Ok-clause-found c = whole_parses c.args.terminals.now _ _ _ c.in-Ok.ensures

pub returns-in-Err-Unexpected-clause-refused : goal.returns-in-Err-Unexpected-clause-refused
returns-in-Err-Unexpected-clause-refused c =
    let read = rw c.in-Err-Unexpected.field-0-is at c.in-Err-Unexpected.ensures in
    let P : Terminal → Type 0 = λ t. RefusesTokens c.args.terminals.now (record { place = t.from; kind = refusal_of t.kind }) in
    rw c.refusal_of.ensures (subst P (sym c.index-terminals-terminals.is) (whole_refuses c.args.terminals.now c.requires unexpected c.in-Err-Unexpected.left read c.index-terminals-terminals.result))

pub returns-in-Err-Sunk-clause-refused : goal.returns-in-Err-Sunk-clause-refused
returns-in-Err-Sunk-clause-refused c =
    let read = rw c.in-Err-Sunk.field-0-is at c.in-Err-Sunk.ensures in
    let P : Terminal → Type 0 = λ t. RefusesTokens c.args.terminals.now (record { place = t.from; kind = or_too_deep (refusal_of t.kind) }) in
    rw (c.or_too_deep.ensures, c.refusal_of-in-Err-Sunk.ensures) (subst P (sym c.index-terminals-terminals-in-Err-Sunk.is) (whole_refuses c.args.terminals.now c.requires sunk c.in-Err-Sunk.left read c.index-terminals-terminals-in-Err-Sunk.result))

pub returns-in-Err-Over-clause-refused : goal.returns-in-Err-Over-clause-refused
returns-in-Err-Over-clause-refused c =
    let read = rw c.in-Err-Over.field-0-is at c.in-Err-Over.ensures in
    whole_refuses c.args.terminals.now c.requires (past c.in-Err-Over.kind) c.in-Err-Over.left read c.index-terminals-terminals-in-Err-Over.result
