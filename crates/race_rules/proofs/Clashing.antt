-- Touches that clash do so both ways.
use Rattle.std.proofs.Common.{◌≡◌, Bool, true, false, ◌&&◌, ◌||◌, List, refl, ◌∙◌}
use Rattle.race_rules.specs.declared.touch.Touch.{Touch}
use Rattle.race_rules.specs.declared.touch.TouchKind.{TouchKind}
use Rattle.race_rules.specs.Kinds.{is_access, is_write, is_atomic, clash}
use Rattle.race_rules.specs.Turns.{Has}
use Rattle.race_rules.specs.Races.{Clash}
use Rattle.race_rules.specs.Shown.{ClashesOne}
use Rattle.race_rules.proofs.Touching.{has_map, has_swap}

and_turned : (a b : Bool) → (a && b) ≡ (b && a)
and_turned true true = refl
and_turned true false = refl
and_turned false true = refl
and_turned false false = refl

or_turned : (a b : Bool) → (a || b) ≡ (b || a)
or_turned true true = refl
or_turned true false = refl
or_turned false true = refl
or_turned false false = refl

clash_turned : (a b : TouchKind) → clash a b ≡ clash b a
clash_turned a b =
    rw (and_turned (is_access a) (is_access b), or_turned (is_write a) (is_write b), and_turned (is_atomic a) (is_atomic b)) refl

pub turned : (a b : Touch) → Clash a b → Clash b a
turned a b c = record {
  kinds = clash_turned b.kind a.kind ∙ c.kinds;
  cell = record { block = c.cell.block; cell = c.cell.cell; first = c.cell.second; second = c.cell.first };
}

pub some_turned : (xs ys : List Touch) → Has (ClashesOne ys) xs → Has (ClashesOne xs) ys
some_turned xs ys h = has_swap (has_map (λ a g. has_map (λ b c. turned a b c) g) h)
