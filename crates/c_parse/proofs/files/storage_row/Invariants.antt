use Rattle.std.proofs.Common.{◌≤◌, length}
use Rattle.c_grammar.specs.inner.Readers.{pushed}
use Rattle.c_grammar.specs.inner.Tokens.{tok, storage_of, is_storage}
use Rattle.c_parse.specs.inner.Parts.{storage_row}
use Rattle.parse_expressions.proofs.CodeLoops.{Going}
use Rattle.c_parse.proofs.files.storage_row.Given as goal

abbrev pub invariant-storages : goal.invariant-storages
invariant-storages l = record {
  going : Going (λ _. is_storage) (λ _. tok 129 storage_of) pushed (storage_row l.fn.parser.count l.fn.parser.rest.now) l.all.items l.parser.count l.parser.rest.now;
  keeps : length l.parser.rest.now ≤ length l.fn.parser.rest.now;
}

abbrev pub decreases-storages : goal.decreases-storages
decreases-storages l = length l.parser.rest.now
