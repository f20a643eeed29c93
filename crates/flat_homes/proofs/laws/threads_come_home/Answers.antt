use Rattle.flat_homes.proofs.ComesHome.{threads_come_home}
use Rattle.flat_homes.proofs.laws.threads_come_home.Goals as goal

pub returns : goal.returns
returns c = threads_come_home
