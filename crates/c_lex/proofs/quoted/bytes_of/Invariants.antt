use Rattle.std.proofs.Common.{◌≡◌, ◌≤◌, ◌-◌, ◌++◌, length, drop}
use Rattle.c_lex.specs.Quoted.{characters_of, bytes_of}
use Rattle.c_lex.proofs.quoted.bytes_of.Given as goal

abbrev pub invariant-loop-place : goal.invariant-loop-place
invariant-loop-place l = record {
  within : l.place ≤ length l.body;
  so_far : bytes_of (characters_of 0 l.body) ≡ l.bytes.items ++ bytes_of (characters_of 0 (drop l.place l.body));
}

abbrev pub decreases-loop-place : goal.decreases-loop-place
decreases-loop-place l = length l.body - l.place
