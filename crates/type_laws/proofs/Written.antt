-- A file of the grammar has no declaration under an if or a loop, or directly between the braces of a switch.
use Rattle.std.proofs.Common.{◌≡◌, Bool, true, false, List, [], ◌∷◌, Some, None}
use Rattle.std.specs.List.{AllByRecursion}
use Rattle.c_tree.specs.Syntax.{Stmt, block, declare, empty, if_then, if_else, while, for, do_while, switch, case_label, default_label, break, continue, return, simple, Stmts, no_stmts, more_stmts, stmts_of, Rest, nothing, function, variables, External, types_by, external_of, File}
use Rattle.c_grammar.specs.Grammar.{EntryBy, IsStmt, AreItems, AreEntries, IsRest, IsExternal, IsFile}
use Rattle.c_typing.specs.Laws.{IsAlone, AreAlone, IsWritten, AreWritten, IsBodyWritten, IsExternalWritten, IsFileWritten}

-- a statement that is no item is no declaration
alone : (s : Stmt) → IsStmt false s → IsAlone s
alone (block place items) h = tt
alone (declare x) h = absurd (let e : false ≡ true = h.0 in cc)
alone (empty place) h = tt
alone (if_then place e s) h = tt
alone (if_else place e s t) h = tt
alone (while place e s) h = tt
alone (for place first e step s) h = tt
alone (do_while place s e) h = tt
alone (switch place e entries) h = tt
alone (case_label place e) h = tt
alone (default_label place) h = tt
alone (break place) h = tt
alone (continue place) h = tt
alone (return place e) h = tt
alone (simple s) h = tt

mutual
  written : (b : Bool) (s : Stmt) → IsStmt b s → IsWritten s
  written b (block place items) h = all_written items h
  written b (declare x) h = tt
  written b (empty place) h = tt
  written b (if_then place e s) h = (alone s h.1, written false s h.1)
  written b (if_else place e s t) h = (alone s h.1, written false s h.1, alone t h.3, written false t h.3)
  written b (while place e s) h = (alone s h.1, written false s h.1)
  written b (for place first e step s) h = (alone s h.3, written false s h.3)
  written b (do_while place s e) h = (alone s h.0, written false s h.0)
  written b (switch place e entries) h = entries_written entries h.1
  written b (case_label place e) h = tt
  written b (default_label place) h = tt
  written b (break place) h = tt
  written b (continue place) h = tt
  written b (return place e) h = tt
  written b (simple s) h = tt

  all_written : (ss : Stmts) → AreItems ss → AreWritten ss
  all_written no_stmts h = tt
  all_written (more_stmts s rest) h = (written true s h.0, all_written rest h.1)

  entries_written : (ss : Stmts) → AreEntries ss → AreAlone ss × AreWritten ss
  entries_written no_stmts h = (tt, tt)
  entries_written (more_stmts s rest) h =
      let e = entry_written s h.0 in
      let r = entries_written rest h.1 in
      ((e.0, r.0), (e.1, r.1))

  -- an entry of a switch: a label, or a statement that is no item
  entry_written : (s : Stmt) → EntryBy (IsStmt false s) s → IsAlone s × IsWritten s
  entry_written (case_label place e) h = (tt, tt)
  entry_written (default_label place) h = (tt, tt)
  entry_written (block place items) h = (tt, all_written items h)
  entry_written (declare x) h = (alone (declare x) h, tt)
  entry_written (empty place) h = (tt, tt)
  entry_written (if_then place e s) h = (tt, (alone s h.1, written false s h.1))
  entry_written (if_else place e s t) h = (tt, (alone s h.1, written false s h.1, alone t h.3, written false t h.3))
  entry_written (while place e s) h = (tt, (alone s h.1, written false s h.1))
  entry_written (for place first e step s) h = (tt, (alone s h.3, written false s h.3))
  entry_written (do_while place s e) h = (tt, (alone s h.0, written false s h.0))
  entry_written (switch place e entries) h = (tt, entries_written entries h.1)
  entry_written (break place) h = (tt, tt)
  entry_written (continue place) h = (tt, tt)
  entry_written (return place e) h = (tt, tt)
  entry_written (simple s) h = (tt, tt)

items_written : (ss : List Stmt) → AllByRecursion (IsStmt true) ss → AreWritten (stmts_of ss)
items_written [] h = tt
items_written (s ∷ ss) h = (written true s h.0, items_written ss h.1)

rest_written : (r : Rest) → IsRest r → IsBodyWritten r
rest_written nothing h = tt
rest_written (function ps n params None) h = tt
rest_written (function ps n params (Some body)) h = items_written body.items h.2
rest_written (variables declarators) h = tt

external_written : (x : External) → IsExternal x → IsExternalWritten x
external_written (types_by specs declarators) h = tt
external_written (external_of storage specs rest) h = rest_written rest h.1

externals_written : (xs : List External) → AllByRecursion IsExternal xs → AllByRecursion IsExternalWritten xs
externals_written [] h = tt
externals_written (x ∷ xs) h = (external_written x h.0, externals_written xs h.1)

pub file_written : (f : File) → IsFile f → IsFileWritten f
file_written f h = externals_written f.externals h
