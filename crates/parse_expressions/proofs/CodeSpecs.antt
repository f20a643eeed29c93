-- The code's specifiers and enumerators, as the readers have them.
use Rattle.std.proofs.Common.{◌≡◌, List, [], ◌∷◌, ◌++◌, Bool, refl}
use Rattle.c_tree.specs.Syntax.{Spec, Enumerator}
use Rattle.c_grammar.specs.Grammar.{typed_by, has_comma}
use Rattle.c_grammar.specs.inner.Reading.{typed, parted}

-- one more specifier
pub typed_more : (t : Bool) (ss : List Spec) (s : Spec) → typed t (ss ++ s ∷ []) ≡ typed_by (typed t ss) s
typed_more t [] s = refl
typed_more t (x ∷ ss) s = typed_more (typed_by t x) ss s

-- one more enumerator
pub parted_more : (t : Bool) (es : List Enumerator) (e : Enumerator) → parted t (es ++ e ∷ []) ≡ has_comma e
parted_more t [] e = refl
parted_more t (x ∷ es) e = parted_more (has_comma x) es e
