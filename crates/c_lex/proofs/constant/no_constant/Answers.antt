use Rattle.std.proofs.Common.{arith}
use Rattle.std.specs.List.{list_any}
use Rattle.std.proofs.lemmas.List.{at_drop_more}
use Rattle.c_lex.specs.Constants.{is_floating_byte}
use Rattle.c_lex.proofs.constant.no_constant.Goals as goal

pub loop-byte-preserved : goal.loop-byte-preserved
loop-byte-preserved c =
    let more = at_drop_more (list_any (is_floating_byte c.args.base)) c.args.run.now c.loop-byte.byte-index 0 (omega arith) in
    grind arith
