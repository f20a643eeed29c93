use Rattle.alaska_run.proofs.Saving.{compiled_can_be_saved}
use Rattle.alaska_run.proofs.building.save_text.Goals as goal

pub save_code-requires : goal.save_code-requires
save_code-requires c = compiled_can_be_saved _ _ _ _ c.requires.built
