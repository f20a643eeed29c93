-- The labels of a switch, as the code looks through them, and faults that are joined.
use Rattle.std.proofs.Common.{◌≡◌, Bool, ◌||◌, List, [], ◌∷◌, map, Result, Ok, Err, refl, ap, ◌∙◌}
use Rattle.std.specs.Prelude.{ℤ}
use Rattle.std.specs.List.{list_any}
use Rattle.c_lex.specs.declared.refusal.CompileFault.{CompileFault}
use Rattle.c_tree.specs.declared.typed.Label.{Label as CodeLabel}
use Rattle.c_tree.specs.Typed.{Label, case_at, default_at}
use Rattle.c_tree.specs.TypedViews.{label_view}
use Rattle.c_typing.specs.Statements.{has_value, has_default}
use Rattle.type_context.specs.inner.Outcomes.{joined}
use Rattle.c_types.specs.inner.Switches.{is_case, is_default}

-- one label and those behind it
value_more : (z : ℤ) (l : Label) (ls : List Label) → (is_case z l || has_value z ls) ≡ has_value z (l ∷ ls)
value_more z (case_at t value n) ls = refl
value_more z (default_at n) ls = refl

default_more : (l : Label) (ls : List Label) → (is_default l || has_default ls) ≡ has_default (l ∷ ls)
default_more (case_at t value n) ls = refl
default_more (default_at n) ls = refl

pub any_value : (z : ℤ) (ls : List CodeLabel) → list_any (λ l. is_case z (label_view l)) ls ≡ has_value z (map label_view ls)
any_value z [] = refl
any_value z (l ∷ ls) = ap (λ b. is_case z (label_view l) || b) (any_value z ls) ∙ value_more z (label_view l) (map label_view ls)

pub any_is_default : (ls : List CodeLabel) → list_any (λ l. is_default (label_view l)) ls ≡ has_default (map label_view ls)
any_is_default [] = refl
any_is_default (l ∷ ls) = ap (λ b. is_default (label_view l) || b) (any_is_default ls) ∙ default_more (label_view l) (map label_view ls)

-- what is joined to a fault is at fault
pub fault_stays : {A B : Type 0} (a : Result A CompileFault) (f : CompileFault) (p : A × B) → joined a (Err f) ≡ Ok p → ⊥
unfolding joined
fault_stays (Ok x) f p h = cc
fault_stays (Err d) f p h = cc
