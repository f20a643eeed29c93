use Rattle.std.proofs.Common.{[], arith}
use Rattle.c_grammar.specs.inner.Readers.{pushed}
use Rattle.c_grammar.specs.inner.Tokens.{tok, storage_of, is_storage}
use Rattle.parse_expressions.proofs.CodeLoops.{begins, goes}
use Rattle.c_parse.proofs.files.storage_row.Goals as goal

pub storages-preserved : goal.storages-preserved
storages-preserved c =
    let open_ = rw c.if-branch.true at c.in_ok-is_storage_next.ensures in
    record {
      going = rw c.in_ok-put.ensures (goes _ _ _ _ _ _ _ _ _ _ c.storages.invariant.going open_ c.in_ok-storage.ensures.reads c.in_ok-storage.ensures.takes);
      keeps = omega (arith, c.in_ok-storage.ensures.takes, c.storages.invariant.keeps);
    }

pub storages-init : goal.storages-init
storages-init c = record {
  going = rw c.new-all.ensures.items (begins (λ _. is_storage) (λ _. tok 129 storage_of) pushed [] c.args.parser.now.count c.args.parser.now.rest.now);
  keeps = omega arith;
}
