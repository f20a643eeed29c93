-- The map of names, seen as the list of their bytes and numbers.
use Rattle.std.proofs.Common.{◌≡◌, ℕ, Bool, true, false, List, [], ◌∷◌, ◌++◌, map, Some, None, Bor, refl, ap, cond}
use Rattle.std.specs.Map.{lookup}
use Rattle.std.specs.Str.{bytes_eq}
use Rattle.ak_words.specs.declared.number.Num.{Num}
use Rattle.indexmap.specs.IndexMap.{insert_entry}
use Rattle.c_lex.specs.inner.Lexing.{entry_of}

-- a look-up in the map is one in the list
pub look_up-entries : (name : List ℕ) (entries : List (Bor (List ℕ) × Num)) → lookup (λ k. bytes_eq name k.now) entries ≡ lookup (bytes_eq name) (map entry_of entries)
look_up-entries name [] = refl
look_up-entries name (e ∷ es) = ap (cond (bytes_eq name e.0.now) (Some e.1)) (look_up-entries name es)

-- a name that isn't there goes last
pub insert-entries : (name : Bor (List ℕ)) (number : Num) (entries : List (Bor (List ℕ) × Num)) → lookup (bytes_eq name.now) (map entry_of entries) ≡ None
    → map entry_of (insert_entry (λ x y. bytes_eq x.now y.now) entries name number) ≡ map entry_of entries ++ (name.now, number) ∷ []
insert-entries name number [] none = refl
insert-entries name number (e ∷ es) none = by (bytes_eq name.now e.0.now) refl none (insert-entries name number es)
  where
    by : (b : Bool) → bytes_eq name.now e.0.now ≡ b → cond b (Some e.1) (lookup (bytes_eq name.now) (map entry_of es)) ≡ None
        → (lookup (bytes_eq name.now) (map entry_of es) ≡ None → map entry_of (insert_entry (λ x y. bytes_eq x.now y.now) es name number) ≡ map entry_of es ++ (name.now, number) ∷ [])
        → map entry_of (insert_entry (λ x y. bytes_eq x.now y.now) (e ∷ es) name number) ≡ map entry_of (e ∷ es) ++ (name.now, number) ∷ []
    by true is absent rest = cc
    by false is absent rest = rw is (ap (λ xs. entry_of e ∷ xs) (rest absent))
