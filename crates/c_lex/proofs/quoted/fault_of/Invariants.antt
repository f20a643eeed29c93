use Rattle.std.proofs.Common.{◌≡◌, ◌≤◌, ◌-◌, ◌||◌, length, drop}
use Rattle.std.specs.List.{list_any}
use Rattle.c_lex.specs.Quoted.{characters_of, is_too_wide, is_unknown}
use Rattle.c_lex.proofs.quoted.fault_of.Given as goal

abbrev pub invariant-loop-place : goal.invariant-loop-place
invariant-loop-place l = record {
  within : l.place ≤ length l.body;
  wide : list_any is_too_wide (characters_of 0 l.body) ≡ list_any is_too_wide (characters_of 0 (drop l.place l.body));
  unknown : list_any is_unknown (characters_of 0 l.body) ≡ (l.has_unknown || list_any is_unknown (characters_of 0 (drop l.place l.body)));
}

abbrev pub decreases-loop-place : goal.decreases-loop-place
decreases-loop-place l = length l.body - l.place
