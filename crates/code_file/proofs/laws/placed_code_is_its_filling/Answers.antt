use Rattle.code_file.proofs.Fillings.{program_back}
use Rattle.code_file.proofs.laws.placed_code_is_its_filling.Goals as goal

pub returns : goal.returns
returns c = record { placed = program_back }
