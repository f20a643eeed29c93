use Rattle.struct_ir.specs.Views.{place_view}
use Rattle.code_save.proofs.Writing.{on_ok, wrote_as}
use Rattle.formats.specs.Formats.{u32}
use Rattle.code_save.proofs.Parts.{place_wrote}
use Rattle.code_save.proofs.actions.put_place.Goals as goal

pub returns : goal.returns
returns c = on_ok c.put_u32-3.result (λ w. place_wrote (place_view c.args.place.now) c.in_ok-put_u32.ensures c.in_ok-put_option.ensures c.in_ok-put_u32-2.ensures c.in_ok-put_u64.ensures (wrote_as u32 c.slot_of.ensures w)) c.put_u32-3.ensures
