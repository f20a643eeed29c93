use Rattle.std.proofs.Common.{◌-◌, [], arith}
use Rattle.std.proofs.lemmas.List.{map-append}
use Rattle.std.proofs.lemmas.Result.{err_from_is_err_and}
use Rattle.c_tree.specs.SyntaxViews.{boxed_stmt_view}
use Rattle.c_grammar.specs.inner.Readers.{pushed}
use Rattle.c_grammar.specs.inner.Reading.{begins_item, begins_entry, ADo, ASwitch, ABlock, AnEmpty, AnIf, AWhile, AFor, ABreak, AContinue, AReturn, ASimple, stmt_by, stmt_at}
use Rattle.c_parse.specs.inner.Parts.{item_at, entry_at, empty_at, break_at, continue_at, return_at, simple_stmt_at}
use Rattle.parse_expressions.proofs.CodeLoops.{begins, goes, ends, end_stops, link_stops}
use Rattle.c_parse.proofs.CodeStatements.{moves_as, stmt_begins}
use Rattle.c_parse.proofs.statements.+statements.Goals as goal

pub item_row-items-init : goal.item_row-items-init
item_row-items-init t c = record {
  going = rw c.new-all.ensures.items (begins (λ _. begins_item) (λ _. item_at c.args.room) pushed [] c.args.parser.now.count c.args.parser.now.rest.now);
  keeps = omega arith;
}

pub item_row-items-preserved : goal.item_row-items-preserved
item_row-items-preserved t c =
    let open_ = rw c.if-branch.true at c.in_ok-is_item_next.ensures in
    record {
      going = rw (c.in_ok-put_inner.ensures, map-append) (goes _ _ _ _ _ _ _ _ _ _ c.items.invariant.going open_ c.in_ok-item.ensures.reads c.in_ok-item.ensures.takes);
      keeps = omega (arith, c.in_ok-item.ensures.takes, c.items.invariant.keeps);
    }

pub stmt-returns-in-Simple-clause-reads : goal.stmt-returns-in-Simple-clause-reads
stmt-returns-in-Simple-clause-reads t c =
    let start = rw c.in-Simple.is at c.in_ok-stmt_start.ensures in
    let same = stmt_begins c.args.room (omega (arith, c.if-room-eq0.false)) ASimple c.args.parser.now.count c.args.parser.now.rest.now start in
    moves_as boxed_stmt_view (stmt_at c.args.room) (simple_stmt_at c.args.room) c.args.parser.now c.simple_stmt.new.parser c.simple_stmt.result same c.simple_stmt.ensures.reads

pub item_row-returns-in_err-is_item_next-clause-reads : goal.item_row-returns-in_err-is_item_next-clause-reads
item_row-returns-in_err-is_item_next-clause-reads t c =
    let p = err_from_is_err_and c.from_residual.result c.from_residual.ensures.1 in
    rw (p.1, p.2) (end_stops _ _ _ _ _ _ _ _ c.items.invariant.going c.in_err-is_item_next.ensures)

pub item_row-returns-in_err-item-clause-reads : goal.item_row-returns-in_err-item-clause-reads
item_row-returns-in_err-item-clause-reads t c =
    let open_ = rw c.if-branch.true at c.in_ok-is_item_next.ensures in
    let p = err_from_is_err_and c.from_residual-in_err-item.result c.from_residual-in_err-item.ensures.1 in
    rw (p.1, p.2) (link_stops _ _ _ _ _ _ _ _ c.items.invariant.going open_ c.in_err-item.ensures.reads)

pub item_row-returns-clause-reads : goal.item_row-returns-clause-reads
item_row-returns-clause-reads t c =
    let closed = rw c.if-branch.false at c.in_ok-is_item_next.ensures in
    ends _ _ _ _ _ _ _ c.items.invariant.going closed

pub stmt-returns-in-Block-clause-reads : goal.stmt-returns-in-Block-clause-reads
stmt-returns-in-Block-clause-reads t c =
    let start = rw c.in-Block.is at c.in_ok-stmt_start.ensures in
    let same = stmt_begins c.args.room (omega (arith, c.if-room-eq0.false)) ABlock c.args.parser.now.count c.args.parser.now.rest.now start in
    moves_as boxed_stmt_view (stmt_at c.args.room) (stmt_by c.args.room (c.args.room - 1) (stmt_at (c.args.room - 1)) ABlock) c.args.parser.now c.block_stmt.new.parser c.block_stmt.result same c.block_stmt.ensures.reads

pub stmt-returns-in-Empty-clause-reads : goal.stmt-returns-in-Empty-clause-reads
stmt-returns-in-Empty-clause-reads t c =
    let start = rw c.in-Empty.is at c.in_ok-stmt_start.ensures in
    let same = stmt_begins c.args.room (omega (arith, c.if-room-eq0.false)) AnEmpty c.args.parser.now.count c.args.parser.now.rest.now start in
    moves_as boxed_stmt_view (stmt_at c.args.room) (empty_at c.args.room) c.args.parser.now c.empty.new.parser c.empty.result same c.empty.ensures.reads

pub stmt-returns-in-If-clause-reads : goal.stmt-returns-in-If-clause-reads
stmt-returns-in-If-clause-reads t c =
    let start = rw c.in-If.is at c.in_ok-stmt_start.ensures in
    let same = stmt_begins c.args.room (omega (arith, c.if-room-eq0.false)) AnIf c.args.parser.now.count c.args.parser.now.rest.now start in
    moves_as boxed_stmt_view (stmt_at c.args.room) (stmt_by c.args.room (c.args.room - 1) (stmt_at (c.args.room - 1)) AnIf) c.args.parser.now c.if_stmt.new.parser c.if_stmt.result same c.if_stmt.ensures.reads

pub stmt-returns-in-While-clause-reads : goal.stmt-returns-in-While-clause-reads
stmt-returns-in-While-clause-reads t c =
    let start = rw c.in-While.is at c.in_ok-stmt_start.ensures in
    let same = stmt_begins c.args.room (omega (arith, c.if-room-eq0.false)) AWhile c.args.parser.now.count c.args.parser.now.rest.now start in
    moves_as boxed_stmt_view (stmt_at c.args.room) (stmt_by c.args.room (c.args.room - 1) (stmt_at (c.args.room - 1)) AWhile) c.args.parser.now c.while_stmt.new.parser c.while_stmt.result same c.while_stmt.ensures.reads

pub stmt-returns-in-For-clause-reads : goal.stmt-returns-in-For-clause-reads
stmt-returns-in-For-clause-reads t c =
    let start = rw c.in-For.is at c.in_ok-stmt_start.ensures in
    let same = stmt_begins c.args.room (omega (arith, c.if-room-eq0.false)) AFor c.args.parser.now.count c.args.parser.now.rest.now start in
    moves_as boxed_stmt_view (stmt_at c.args.room) (stmt_by c.args.room (c.args.room - 1) (stmt_at (c.args.room - 1)) AFor) c.args.parser.now c.for_stmt.new.parser c.for_stmt.result same c.for_stmt.ensures.reads

pub stmt-returns-in-Break-clause-reads : goal.stmt-returns-in-Break-clause-reads
stmt-returns-in-Break-clause-reads t c =
    let start = rw c.in-Break.is at c.in_ok-stmt_start.ensures in
    let same = stmt_begins c.args.room (omega (arith, c.if-room-eq0.false)) ABreak c.args.parser.now.count c.args.parser.now.rest.now start in
    moves_as boxed_stmt_view (stmt_at c.args.room) (break_at c.args.room) c.args.parser.now c.break_off.new.parser c.break_off.result same c.break_off.ensures.reads

pub stmt-returns-in-Continue-clause-reads : goal.stmt-returns-in-Continue-clause-reads
stmt-returns-in-Continue-clause-reads t c =
    let start = rw c.in-Continue.is at c.in_ok-stmt_start.ensures in
    let same = stmt_begins c.args.room (omega (arith, c.if-room-eq0.false)) AContinue c.args.parser.now.count c.args.parser.now.rest.now start in
    moves_as boxed_stmt_view (stmt_at c.args.room) (continue_at c.args.room) c.args.parser.now c.go_on.new.parser c.go_on.result same c.go_on.ensures.reads

pub stmt-returns-in-Return-clause-reads : goal.stmt-returns-in-Return-clause-reads
stmt-returns-in-Return-clause-reads t c =
    let start = rw c.in-Return.is at c.in_ok-stmt_start.ensures in
    let same = stmt_begins c.args.room (omega (arith, c.if-room-eq0.false)) AReturn c.args.parser.now.count c.args.parser.now.rest.now start in
    moves_as boxed_stmt_view (stmt_at c.args.room) (return_at c.args.room) c.args.parser.now c.return_back.new.parser c.return_back.result same c.return_back.ensures.reads

pub entry_row-entries-init : goal.entry_row-entries-init
entry_row-entries-init t c = record {
  going = rw c.new-all.ensures.items (begins (λ _. begins_entry) (λ _. entry_at c.args.room) pushed [] c.args.parser.now.count c.args.parser.now.rest.now);
  keeps = omega arith;
}

pub entry_row-entries-preserved : goal.entry_row-entries-preserved
entry_row-entries-preserved t c =
    let open_ = rw c.if-branch.true at c.in_ok-is_entry_next.ensures in
    record {
      going = rw (c.in_ok-put_inner.ensures, map-append) (goes _ _ _ _ _ _ _ _ _ _ c.entries.invariant.going open_ c.in_ok-entry.ensures.reads c.in_ok-entry.ensures.takes);
      keeps = omega (arith, c.in_ok-entry.ensures.takes, c.entries.invariant.keeps);
    }

pub entry_row-returns-in_err-is_entry_next-clause-reads : goal.entry_row-returns-in_err-is_entry_next-clause-reads
entry_row-returns-in_err-is_entry_next-clause-reads t c =
    let p = err_from_is_err_and c.from_residual.result c.from_residual.ensures.1 in
    rw (p.1, p.2) (end_stops _ _ _ _ _ _ _ _ c.entries.invariant.going c.in_err-is_entry_next.ensures)

pub entry_row-returns-in_err-entry-clause-reads : goal.entry_row-returns-in_err-entry-clause-reads
entry_row-returns-in_err-entry-clause-reads t c =
    let open_ = rw c.if-branch.true at c.in_ok-is_entry_next.ensures in
    let p = err_from_is_err_and c.from_residual-in_err-entry.result c.from_residual-in_err-entry.ensures.1 in
    rw (p.1, p.2) (link_stops _ _ _ _ _ _ _ _ c.entries.invariant.going open_ c.in_err-entry.ensures.reads)

pub entry_row-returns-clause-reads : goal.entry_row-returns-clause-reads
entry_row-returns-clause-reads t c =
    let closed = rw c.if-branch.false at c.in_ok-is_entry_next.ensures in
    ends _ _ _ _ _ _ _ c.entries.invariant.going closed

pub stmt-returns-in-Do-clause-reads : goal.stmt-returns-in-Do-clause-reads
stmt-returns-in-Do-clause-reads t c =
    let start = rw c.in-Do.is at c.in_ok-stmt_start.ensures in
    let same = stmt_begins c.args.room (omega (arith, c.if-room-eq0.false)) ADo c.args.parser.now.count c.args.parser.now.rest.now start in
    moves_as boxed_stmt_view (stmt_at c.args.room) (stmt_by c.args.room (c.args.room - 1) (stmt_at (c.args.room - 1)) ADo) c.args.parser.now c.do_stmt.new.parser c.do_stmt.result same c.do_stmt.ensures.reads

pub stmt-returns-in-Switch-clause-reads : goal.stmt-returns-in-Switch-clause-reads
stmt-returns-in-Switch-clause-reads t c =
    let start = rw c.in-Switch.is at c.in_ok-stmt_start.ensures in
    let same = stmt_begins c.args.room (omega (arith, c.if-room-eq0.false)) ASwitch c.args.parser.now.count c.args.parser.now.rest.now start in
    moves_as boxed_stmt_view (stmt_at c.args.room) (stmt_by c.args.room (c.args.room - 1) (stmt_at (c.args.room - 1)) ASwitch) c.args.parser.now c.switch_stmt.new.parser c.switch_stmt.result same c.switch_stmt.ensures.reads
