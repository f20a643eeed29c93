use Rattle.flat_threads.proofs.Settings as settings
use Rattle.flat_threads.proofs.laws.local_ignores_settings.Goals as goal

pub returns : goal.returns
returns c = settings.local_ignores_settings
