use Rattle.std.proofs.Common.{◌+◌, ◌*◌, ◌≤◌, map, length}
use Rattle.c_tree.specs.SyntaxViews.{stmt_view}
use Rattle.c_grammar.specs.inner.Readers.{pushed}
use Rattle.c_grammar.specs.inner.Reading.{begins_item, begins_entry}
use Rattle.c_parse.specs.inner.Parts.{item_at, item_row, entry_at, entry_row}
use Rattle.parse_expressions.proofs.CodeLoops.{Going}
use Rattle.c_parse.proofs.statements.+statements.Given as goal

abbrev pub decreases-stmt : goal.decreases-stmt
decreases-stmt l = l.room * 8 + 3

abbrev pub decreases-block_stmt : goal.decreases-block_stmt
decreases-block_stmt l = l.room * 8 + 2

abbrev pub decreases-if_stmt : goal.decreases-if_stmt
decreases-if_stmt l = l.room * 8 + 2

abbrev pub decreases-while_stmt : goal.decreases-while_stmt
decreases-while_stmt l = l.room * 8 + 2

abbrev pub decreases-for_stmt : goal.decreases-for_stmt
decreases-for_stmt l = l.room * 8 + 2

abbrev pub decreases-do_stmt : goal.decreases-do_stmt
decreases-do_stmt l = l.room * 8 + 2

abbrev pub decreases-switch_stmt : goal.decreases-switch_stmt
decreases-switch_stmt l = l.room * 8 + 2

abbrev pub decreases-entry : goal.decreases-entry
decreases-entry l = l.room * 8 + 4

abbrev pub decreases-entry_row : goal.decreases-entry_row
decreases-entry_row l = l.room * 8 + 5

abbrev pub decreases-entries : goal.decreases-entries
decreases-entries l = l.room * 8 + 6

abbrev pub invariant-entry_row-entries : goal.invariant-entry_row-entries
invariant-entry_row-entries l = record {
  going : Going (λ _. begins_entry) (λ _. entry_at l.room) pushed (entry_row l.room l.fn.parser.count l.fn.parser.rest.now) (map stmt_view l.all.items) l.parser.count l.parser.rest.now;
  keeps : length l.parser.rest.now ≤ length l.fn.parser.rest.now;
}

abbrev pub decreases-entry_row-entries : goal.decreases-entry_row-entries
decreases-entry_row-entries l = length l.parser.rest.now

abbrev pub decreases-otherwise : goal.decreases-otherwise
decreases-otherwise l = l.room * 8 + 1

abbrev pub decreases-item : goal.decreases-item
decreases-item l = l.room * 8 + 4

abbrev pub decreases-item_row : goal.decreases-item_row
decreases-item_row l = l.room * 8 + 5

abbrev pub decreases-block : goal.decreases-block
decreases-block l = l.room * 8 + 6

abbrev pub invariant-item_row-items : goal.invariant-item_row-items
invariant-item_row-items l = record {
  going : Going (λ _. begins_item) (λ _. item_at l.room) pushed (item_row l.room l.fn.parser.count l.fn.parser.rest.now) (map stmt_view l.all.items) l.parser.count l.parser.rest.now;
  keeps : length l.parser.rest.now ≤ length l.fn.parser.rest.now;
}

abbrev pub decreases-item_row-items : goal.decreases-item_row-items
decreases-item_row-items l = length l.parser.rest.now
