use Rattle.alaska_run.proofs.LoadedOnce.{loaded_again}
use Rattle.alaska_run.proofs.laws.what_is_built_is_loaded.Goals as goal

pub returns : goal.returns
returns c = loaded_again (c.files_are_exact.ensures.one 1024) c.placed_code_is_its_filling.ensures.placed
