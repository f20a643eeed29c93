use Rattle.headline_example.proofs.Written.{all, lexed, file, fits, spelt, within, judged}
use Rattle.headline_example.specs.Text.{text, tree}
use Rattle.headline_example.proofs.text_laws.it_has_its_tree.Goals as goal

pub returns : goal.returns
returns c = record {
  tokens = all;
  file = file;
  lexed = lexed;
  parsed = record { fits = fits; spelt = spelt; within = within; only = λ g is_file is_spelt. c.one_file.ensures text all file g fits spelt within is_file is_spelt };
  judged = judged;
  well_formed = c.well_formed-2.ensures text file tree fits judged;
}
