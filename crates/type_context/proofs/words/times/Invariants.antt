use Rattle.std.proofs.Common.{◌≡◌, ◌+◌, ◌≤◌, drop}
use Rattle.c_typing.specs.Types.{times}
use Rattle.type_context.proofs.words.times.Given as goal

abbrev pub invariant-loop-other : goal.invariant-loop-other
invariant-loop-other l = record {
  within : l.n ≤ l.other-index;
  so_far : times l.word l.words ≡ l.n + times l.word (drop l.other-index l.words);
}
