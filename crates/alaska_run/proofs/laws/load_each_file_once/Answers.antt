use Rattle.alaska_run.proofs.LoadedOnce.{each_loaded, one_loaded, loaded_or_refused, one_refusal}
use Rattle.alaska_run.proofs.laws.load_each_file_once.Goals as goal

pub returns-clause-either : goal.returns-clause-either
returns-clause-either c = each_loaded c.files_are_exact.ensures.exact

pub returns-clause-one_code : goal.returns-clause-one_code
returns-clause-one_code c = λ bytes p q l m. one_loaded (c.files_are_exact.ensures.one 1024) bytes p l q m

pub returns-clause-not_both : goal.returns-clause-not_both
returns-clause-not_both c = λ bytes p status l safe r. loaded_or_refused (c.files_are_exact.ensures.one 1024) bytes p l safe status r

pub returns-clause-one_reason : goal.returns-clause-one_reason
returns-clause-one_reason c = one_refusal c.loading_has_one_answer.ensures
