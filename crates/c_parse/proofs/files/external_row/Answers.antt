use Rattle.std.proofs.Common.{[], arith}
use Rattle.std.proofs.lemmas.List.{map-append}
use Rattle.c_grammar.specs.inner.Readers.{pushed}
use Rattle.c_grammar.specs.inner.Reading.{begins_external, external}
use Rattle.parse_expressions.proofs.CodeLoops.{begins, goes}
use Rattle.c_parse.proofs.files.external_row.Goals as goal

pub externals-init : goal.externals-init
externals-init c = record {
  going = rw c.new-all.ensures.items (begins (λ _. begins_external) (λ _. external) pushed [] c.args.parser.now.count c.args.parser.now.rest.now);
  keeps = omega arith;
}

pub externals-preserved : goal.externals-preserved
externals-preserved c =
    let open_ = rw c.if-branch.true at c.in_ok-is_external_next.ensures in
    record {
      going = rw (c.in_ok-put.ensures, map-append) (goes _ _ _ _ _ _ _ _ _ _ c.externals.invariant.going open_ c.in_ok-external.ensures.reads c.in_ok-external.ensures.takes);
      keeps = omega (arith, c.in_ok-external.ensures.takes, c.externals.invariant.keeps);
    }
