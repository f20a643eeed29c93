use Rattle.ir_lower.proofs.Rows.{last_done, none_in_other, none_without}
use Rattle.ir_lower.proofs.lowering.last.Goals as goal
use Rattle.ir_lower.proofs.lowering.last.Goals.{else-is_main-via-then-is_main+else-temps-gt0, else-is_main-via-else-is_main}

pub returns-in_ok-put : goal.returns-in_ok-put
returns-in_ok-put c =
    last_done c.args.is_main c.args.temps c.args.out.now.items c.sets_int.new.out.items c.put.new.out.items c.if-is_main.true c.if-temps-gt0.true c.in_ok-sets_int.ensures c.in_ok-put.ensures

pub returns-else-is_main : goal.returns-else-is_main
returns-else-is_main c = elim c.else-is_main.branch [
  | else-is_main-via-then-is_main+else-temps-gt0 w ↦ none_without c.args.is_main c.args.temps c.args.out.now.items w.if-temps-gt0.false
  | else-is_main-via-else-is_main w ↦ none_in_other c.args.is_main c.args.temps c.args.out.now.items w.if-is_main.false
]
