use Rattle.formats.proofs.Whole.{one_spelling, whole_at}
use Rattle.code_file.specs.Files.{file}
use Rattle.code_file.proofs.GrammarLaws.{file_lawful}
use Rattle.code_file.proofs.laws.files_are_exact.Goals as goal

pub returns-clause-one : goal.returns-clause-one
returns-clause-one c = λ depth. one_spelling (file depth) (file_lawful depth)

pub returns-clause-exact : goal.returns-clause-exact
returns-clause-exact c = λ depth bytes. whole_at (file depth) (file_lawful depth) bytes
