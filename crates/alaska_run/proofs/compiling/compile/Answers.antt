use Rattle.std.proofs.Common.{ap, ◌∙◌}
use Rattle.c_tree.specs.TypedViews.{typed_view}
use Rattle.struct_ir.specs.Erased.{ir_erased}
use Rattle.struct_ir.specs.Valid.{is_valid}
use Rattle.pin_checker.specs.CheckedViews.{program_in}
use Rattle.alaska_run.proofs.Checked.{is_checked}
use Rattle.alaska_run.proofs.compiling.compile.Goals as goal

pub returns-in-Ok-clause-built : goal.returns-in-Ok-clause-built
returns-in-Ok-clause-built c =
    let t = typed_view c.in_ok-reading.reading.typed in
    let formed = c.in_ok-reading.ensures.well_formed in
    let made = c.in-Ok.ensures in
    let ready = program_in c.in-Ok.field-0.checked in
    let turns = c.code_keeps_every_turn.ensures.turns t formed ready made.prepared.erased in
    record {
      tree = record { tokens = c.in_ok-reading.reading.tokens.items; read = c.in_ok-reading.ensures.found; well_formed = formed };
      prepared = made.prepared;
      erased_valid = ap is_valid made.prepared.erased ∙ (c.lowered_code_is_sound.ensures t formed).valid;
      turns = turns;
      erased_turns = c.code_keeps_every_turn.ensures.turns t formed (ir_erased ready) (ap ir_erased made.prepared.erased ∙ (c.lowered_code_is_sound.ensures t formed).bare);
      sound = is_checked t formed ready made.prepared (c.lowered_code_is_whole.ensures t formed) turns c.runs_go_on.ensures.types c.turns_go_on.ensures.ends;
      emitted = made.emitted;
      valid = c.keeps_valid.ensures;
      lawful = c.keeps_lawful.ensures;
      safe = made.safe;
    }
