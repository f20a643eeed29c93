-- The small codes, computed.
use Rattle.std.proofs.Common.{refl}
use Rattle.pin_checker.specs.Rows.{RowsHold}

pub rows_hold : RowsHold
rows_hold = record {
  no_look = refl;
  not_other = refl;
  not_none = refl;
  not_stale = refl;
  not_lacking = refl;
  other = refl;
  another_slot = refl;
  stale = refl;
  stale_by_call = refl;
  fresh = refl;
  fresh_again = refl;
  lacking = refl;
  listed = refl;
  lacking_in_call = refl;
  lacking_itself = refl;
  listed_itself = refl;
  bare = refl;
  guarded = refl;
  unguarded_before = refl;
  unguarded_behind = refl;
  guarded_loop = refl;
  unguarded_loop = refl;
}
