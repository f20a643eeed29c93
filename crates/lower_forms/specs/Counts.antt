-- How large a tree and its code are.
use Rattle.std.specs.Prelude.{ℕ, suc, ◌+◌, max, Option, Some, None}
use Rattle.c_tree.specs.Typed as tree

-- ---- full expressions

-- the nodes of an expression
abbrev mutual
  -- one, and those of its parts
  pub count : tree.Expr → ℕ
  count (tree.at place ty node) = suc (count_parts node)

  -- by its form
  pub count_parts : tree.ExprNode → ℕ
  count_parts (tree.num t z) = 0
  count_parts tree.null = 0
  count_parts (tree.literal number) = 0
  count_parts (tree.global number) = 0
  count_parts (tree.local number) = 0
  count_parts (tree.deref e) = count e
  count_parts (tree.member e number) = count e
  count_parts (tree.address_of e) = count e
  count_parts (tree.decay e) = count e
  count_parts (tree.convert e) = count e
  count_parts (tree.not_ e) = count e
  count_parts (tree.binary op a b) = count a + count b
  count_parts (tree.and_also a b) = count a + count b
  count_parts (tree.or_else a b) = count a + count b
  count_parts (tree.choose c a b) = count c + count a + count b
  count_parts (tree.pointer_add p n) = count p + count n
  count_parts (tree.pointer_sub p n) = count p + count n
  count_parts (tree.pointer_diff p q) = count p + count q
  count_parts (tree.pointer_compare op p q) = count p + count q
  count_parts (tree.pointer_test p) = count p
  count_parts (tree.call function args) = count_all args
  count_parts (tree.lib which args) = count_all args

  -- those of arguments
  pub count_all : tree.Exprs → ℕ
  count_all tree.no_exprs = 0
  count_all (tree.more_exprs e rest) = count e + count_all rest

-- the nodes of an expression, if there is one
abbrev pub count_if : Option tree.Expr → ℕ
count_if None = 0
count_if (Some e) = count e

-- the nodes of the greatest full expression of a statement (C11 6.8 p4); an assignment or an update is one, with both its sides, and a
-- node of it
abbrev mutual
  -- by what the statement does
  pub greatest : tree.Stmt → ℕ
  greatest (tree.at_stmt place node) = greatest_in node

  -- by its form
  pub greatest_in : tree.StmtNode → ℕ
  greatest_in (tree.block body) = greatest_row body
  greatest_in (tree.declare number init) = count_if init
  greatest_in (tree.if_ e one) = max (count e) (greatest one)
  greatest_in (tree.if_else e one other) = max (count e) (max (greatest one) (greatest other))
  greatest_in (tree.while_ e body) = max (count e) (greatest body)
  greatest_in (tree.for_ first e step body) = max (max (greatest first) (count_if e)) (max (greatest step) (greatest body))
  greatest_in (tree.do_while body e) = max (count e) (greatest body)
  greatest_in (tree.switch e labels body) = max (count e) (greatest_row body)
  greatest_in tree.break_ = 0
  greatest_in tree.continue_ = 0
  greatest_in (tree.return_ value) = count_if value
  greatest_in (tree.assign a b) = suc (count a + count b)
  greatest_in (tree.update a op b) = suc (count a + count b)
  greatest_in (tree.evaluate e) = count e
  greatest_in tree.empty = 0

  -- of a row
  pub greatest_row : tree.Stmts → ℕ
  greatest_row tree.no_stmts = 0
  greatest_row (tree.more_stmts s rest) = max (greatest s) (greatest_row rest)

-- the switches of a statement
abbrev mutual
  -- those in it
  pub switches : tree.Stmt → ℕ
  switches (tree.at_stmt place node) = switches_by node

  -- by its form
  pub switches_by : tree.StmtNode → ℕ
  switches_by (tree.block body) = switches_in body
  switches_by (tree.declare number init) = 0
  switches_by (tree.if_ e one) = switches one
  switches_by (tree.if_else e one other) = switches one + switches other
  switches_by (tree.while_ e body) = switches body
  switches_by (tree.for_ first e step body) = switches first + (switches step + switches body)
  switches_by (tree.do_while body e) = switches body
  switches_by (tree.switch e labels body) = suc (switches_in body)
  switches_by tree.break_ = 0
  switches_by tree.continue_ = 0
  switches_by (tree.return_ value) = 0
  switches_by (tree.assign a b) = 0
  switches_by (tree.update a op b) = 0
  switches_by (tree.evaluate e) = 0
  switches_by tree.empty = 0

  -- those in a row
  pub switches_in : tree.Stmts → ℕ
  switches_in tree.no_stmts = 0
  switches_in (tree.more_stmts s rest) = switches s + switches_in rest
