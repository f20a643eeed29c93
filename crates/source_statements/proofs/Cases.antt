-- The label of a switch that a value chooses.
use Rattle.std.proofs.Common.{◌≡◌, ◌∙◌, ℕ, suc, Bool, false, List, ◌∷◌, map, Option, Some, None, refl, ap, sym}
use Rattle.std.proofs.lemmas.Option.{slice_get-map}
use Rattle.std.specs.Prelude.{if◌then◌else◌}
use Rattle.std.specs.List.{slice_get}
use Rattle.std.specs.Option.{option_map}
use Rattle.ak_words.specs.declared.number.Num.{Num}
use Rattle.ak_words.specs.Num.{num}
use Rattle.ak_words.proofs.Numbers.{num_is}
use Rattle.ak_words.proofs.Wraps.{wrapped_value-in_type}
use Rattle.block_store.specs.declared.values.Value.{Value}
use Rattle.c_tree.specs.declared.typed.Label.{Label as CodeLabel}
use Rattle.c_tree.specs.Typed.{Label, case_at, default_at}
use Rattle.c_tree.specs.TypedViews.{label_at, label_view}
use Rattle.c_meaning.specs.Switches.{is_number, equal_from, stands_at, stands_at_if, starts_at}
use Rattle.source_statements.specs.inner.Labels.{is_case}

same_number : (n : Num) (v : Value) → is_number (num n.ty n.value) v ≡ is_number n v
same_number n v = ap (λ (m : Num). is_number m v) (sym (num_is n n.ty n.value refl (sym (wrapped_value-in_type n.ty n.value n.in_range))))

-- a case, and the default
pub case_of : (label : CodeLabel) (n : Num) (v : Value) (b : Bool) → label.value ≡ Some n → b ≡ is_number n v → b ≡ is_case (label_view label) v
case_of label n v b found is = is ∙ sym (same_number n v) ∙ ap (λ (o : Option Num). is_case (label_at o label.at) v) (sym found)

pub no_case : (label : CodeLabel) (v : Value) → label.value ≡ None → false ≡ is_case (label_view label) v
no_case label v found = ap (λ (o : Option Num). is_case (label_at o label.at) v) (sym found)

-- the labels from one on: it is the chosen one, or it is passed
pub equal_more : (v : Value) (other number : ℕ) (l : Label) (rest : List Label)
    → equal_from v other number (l ∷ rest) ≡ (if is_case l v then number else equal_from v other (suc number) rest)
equal_more v other number (case_at t value at) rest = refl
equal_more v other number (default_at at) rest = refl

stands : (o : Option Num) (at : ℕ) → stands_at (label_at o at) ≡ at
stands None at = refl
stands (Some n) at = refl

-- where the label of this number stands, if there is one
pub starts_none : (labels : List CodeLabel) (number : ℕ) → slice_get labels number ≡ None → None ≡ starts_at (map label_view labels) number
starts_none labels number found = sym (ap stands_at_if (slice_get-map label_view labels number ∙ ap (option_map label_view) found))

pub starts_some : (labels : List CodeLabel) (number : ℕ) (label : CodeLabel) → slice_get labels number ≡ Some label → Some label.at ≡ starts_at (map label_view labels) number
starts_some labels number label found =
    sym (ap stands_at_if (slice_get-map label_view labels number ∙ ap (option_map label_view) found) ∙ ap (λ (n : ℕ). Some n) (stands label.value label.at))
