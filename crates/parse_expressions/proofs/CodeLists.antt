-- The code's lists, as the readers have them.
use Rattle.std.proofs.Common.{◌≡◌, ℕ, ◌+◌, ◌≤◌, List, [], ◌∷◌, ◌++◌, length, Bool, cond, refl, ◌∙◌, arith}
use Rattle.std.specs.Prelude.{count_by}
use Rattle.std.proofs.lemmas.List.Recursion.{is_count_by}
use denote.Enum.Bare.{sameb}
use Rattle.c_tree.specs.declared.syntax.Pointer.{Pointer}
use Rattle.c_tree.specs.declared.syntax.Pointer.TheVariants.{Star, Const, Restrict}
use Rattle.c_tree.specs.contracts.syntax.Pointer.{the_type as pointer_type}
use Rattle.c_grammar.specs.Grammar.{stars}

abbrev pub is_star : Pointer → Bool
is_star p = sameb pointer_type p Star

stars_more : (n : ℕ) (ps : List Pointer) → stars (n + 1) ps ≡ 1 + stars n ps
stars_more n [] = omega arith
stars_more n (Star ∷ ps) = stars_more (n + 1) ps
stars_more n (Const ∷ ps) = stars_more n ps
stars_more n (Restrict ∷ ps) = stars_more n ps

counted : (p : Pointer) (ps : List Pointer) → stars 0 (p ∷ ps) ≡ cond (is_star p) (1 + stars 0 ps) (stars 0 ps)
counted Star ps = stars_more 0 ps
counted Const ps = refl
counted Restrict ps = refl

pub stars_counted : (ps : List Pointer) → stars 0 ps ≡ count_by is_star ps
stars_counted = is_count_by (stars 0) is_star refl counted

pub stars_pushed : (n : ℕ) (ps qs : List Pointer) → stars n (ps ++ qs) ≡ stars (stars n ps) qs
stars_pushed n [] qs = refl
stars_pushed n (Star ∷ ps) qs = stars_pushed (n + 1) ps qs
stars_pushed n (Const ∷ ps) qs = stars_pushed n ps qs
stars_pushed n (Restrict ∷ ps) qs = stars_pushed n ps qs

pub stars_few : (ps : List Pointer) → stars 0 ps ≤ length ps
stars_few ps = let h = from 0 ps in omega arith
  where
    from : (n : ℕ) (ps : List Pointer) → stars n ps ≤ n + length ps
    from n [] = omega arith
    from n (Star ∷ ps) = let h = from (n + 1) ps in omega arith
    from n (Const ∷ ps) = let h = from n ps in omega arith
    from n (Restrict ∷ ps) = let h = from n ps in omega arith

pub star_pushed : (ps : List Pointer) (p : Pointer) → p ≡ Star → stars 0 (ps ++ p ∷ []) ≡ stars 0 ps + 1
star_pushed ps p e = stars_pushed 0 ps (p ∷ []) ∙ rw e refl

none_pushed : (n : ℕ) (p : Pointer) → (p ≡ Star → ⊥) → stars n (p ∷ []) ≡ n
none_pushed n Star e = absurd (e refl)
none_pushed n Const e = refl
none_pushed n Restrict e = refl

pub other_pushed : (ps : List Pointer) (p : Pointer) → (p ≡ Star → ⊥) → stars 0 (ps ++ p ∷ []) ≡ stars 0 ps
other_pushed ps p e = stars_pushed 0 ps (p ∷ []) ∙ none_pushed (stars 0 ps) p e
