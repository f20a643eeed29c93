-- The worked rows.
use Rattle.std.proofs.Common.{◌≡◌, [], ◌∷◌, None, true, false, refl}
use Rattle.struct_ir.specs.Valid.{Scope}
use Rattle.struct_ir.specs.Instrs.{leave}
use Rattle.emit_code.specs.Rows.{a_loop, instrs_of_a_loop, RowsHold}
use Rattle.emit_code.specs.inner.Layout.{emit}
use Rattle.emit_code.proofs.Holding.{has_all}
use Rattle.emit_code.proofs.Lawful.{lawful}
use Rattle.emit_code.proofs.Lying.{row_lies}

-- with seven registers, a slot and eight stack objects
abbrev wide : Scope
wide = record { temps = 7; slots = 1; objects = 8; globals = 0; literals = 0; params = [] }

true_false : true ≡ false → ⊥
true_false e = cc

pub rows_hold : RowsHold
rows_hold = record {
  empty = refl;
  an_if_without_else = (3, (2, refl, (2, (refl, refl), refl), refl, refl), refl);
  a_loop = row_lies instrs_of_a_loop a_loop 0 12 12 (has_all (emit 0 12 12 a_loop) [] (leave 0 None ∷ []));
  a_loop_is_lawful = lawful a_loop refl wide refl;
  skipping_is_not = λ l. true_false (l.safepoints.jumps 0 0 2 refl);
  turning_is_not = λ l. true_false (l.safepoints.rounds 1 0 1 refl);
}
