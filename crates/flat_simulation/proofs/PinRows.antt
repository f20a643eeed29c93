-- What these codes come to, computed.
use Rattle.std.proofs.Common.{◌≡◌, zero, suc, List, [], ◌∷◌, true, Some, inl, refl, arith}
use Rattle.std.specs.List.{All}
use Rattle.std.specs.Fmt.{digits}
use Rattle.ak_words.specs.Op.{exact_result, rule_of, replacement}
use Rattle.ak_words.specs.Wrapped.{residue, wrapped_value}
use Rattle.sub_heaps.specs.declared.objects.Object.{Object}
use Rattle.sub_heaps.specs.SubHeaps.{IsApartFrom, FitsAt}
use Rattle.sub_heaps.specs.Moving.{IsAllowed}
use Rattle.struct_ir.specs.Flow.{Flow}
use Rattle.struct_ir.specs.Machine.{run_within, run}
use Rattle.struct_ir.specs.Structured.{Position, structured}
use Rattle.flat_meaning.specs.Image.{structured_image}
use Rattle.flat_meaning.specs.Stages.{Stage}
use Rattle.flat_meaning.specs.Allowed.{pinned, stands, AllStand}
use Rattle.flat_meaning.specs.Events.{MachineState}
use Rattle.flat_simulation.specs.PinRows.{stands_after, main_of, reusing, one_id, first_round, ReuseRowsHold, CopyRowsHold, nested, room_for_four, nested_calls, NestedRowsHold}

-- what holds of the one stage there is
pub is_that : {P : Type 0} (C : Flow P) (s t : Stage P) → stands C s ≡ true → Some s ≡ Some t → stands C t ≡ true
is_that C s t h e = cc

-- ---- an id that is used again

-- the state at the safepoint of the first round
abbrev in_round : MachineState Position
in_round = stands_after (structured_image (main_of 10 reusing) one_id) first_round

stands_in_round : AllStand structured in_round.own
unfolding digits residue wrapped_value exact_result rule_of replacement run_within run
stands_in_round zero stage e = is_that structured _ stage refl e
stands_in_round (suc n) stage e = absurd cc

pub reuse_rows_hold : ReuseRowsHold
unfolding digits residue wrapped_value exact_result rule_of replacement run_within run
reuse_rows_hold = record { runs = refl; runs_in_a_line = refl; may_come = (refl, (stands_in_round, tt, tt)); slots = refl; pinned_there = refl; source_runs = refl }

-- ---- dead pointers that are copied

pub copy_rows_hold : CopyRowsHold
unfolding digits residue wrapped_value exact_result rule_of replacement run_within run
copy_rows_hold = record { copies = refl; copies_in_a_line = refl; source_copies = refl; compares = refl; source_compares = refl }

-- ---- a barrier under three calls that wait

-- the objects of those calls
abbrev three : List Object
three = record { at = 0; size = 16; owner = 0 } ∷ record { at = 16; size = 16; owner = 1 } ∷ record { at = 32; size = 16; owner = 2 } ∷ []

-- behind three objects there is room for one
fits_at_48 : FitsAt (record { count = 1; size = 80; most = 4; objects = three }) 16 48
fits_at_48 = record { inside = (omega arith, omega arith); clear = clear }
  where
    clear : All (IsApartFrom 16 48) three
    clear zero d h = inl (omega arith)
    clear (suc zero) d h = inl (omega arith)
    clear (suc (suc zero)) d h = inl (omega arith)
    clear (suc (suc (suc k))) d h = absurd (omega (arith, h))

-- the state at the safepoint of the last call
abbrev in_last : MachineState Position
in_last = stands_after (structured_image nested room_for_four) nested_calls

stands_in_last : AllStand structured in_last.own
unfolding digits residue wrapped_value exact_result rule_of replacement run_within run
stands_in_last zero stage e = is_that structured _ stage refl e
stands_in_last (suc n) stage e = absurd cc

may_move : IsAllowed (pinned (structured_image nested room_for_four) in_last) in_last.memory.storage.heaps (record { from = 64; to = 48; size = 16 })
unfolding digits residue wrapped_value exact_result rule_of replacement run_within run
may_move = record { object = refl; unpinned = refl; fits = fits_at_48 }

pub nested_rows_hold : NestedRowsHold
unfolding digits residue wrapped_value exact_result rule_of replacement run_within run
nested_rows_hold = record {
  runs = refl;
  runs_in_a_line = refl;
  may_come = (refl, (stands_in_last, (may_move, λ k d h. absurd (omega arith), tt), tt));
  first = refl;
  second = refl;
  third = refl;
  last = refl;
  source_runs = refl;
}
