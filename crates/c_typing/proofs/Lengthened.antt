-- A scope, as enumerators are declared in it.
use Rattle.std.proofs.Common.{◌≡◌, ℕ, ◌⊎◌, inl, inr, Bool, true, false, refl, sym, ◌∙◌, subst, List, [], ◌∷◌, ◌++◌, Option, Some, None, if◌then◌else◌}
use Rattle.std.specs.Map.{lookup}
use Rattle.std.specs.Str.{bytes_eq}
use Rattle.c_typing.specs.Scope.{Binding, function_name, enumerator_name, Frame, or_else}
use Rattle.c_tree.specs.Typed.{Ty}

-- an enumerator
abbrev pub IsEnumerator : Option Binding → Type 0
IsEnumerator (Some (enumerator_name value)) = Unit {0}
IsEnumerator o = ⊥

-- each name means what it meant, or, where it meant nothing, an enumerator
abbrev pub Lengthens : (old new : Frame) → Type 0
Lengthens old new = (q : List ℕ) → (lookup (bytes_eq q) new ≡ lookup (bytes_eq q) old) ⊎ ((lookup (bytes_eq q) old ≡ None) × IsEnumerator (lookup (bytes_eq q) new))

pub lengthens_itself : (f : Frame) → Lengthens f f
lengthens_itself f q = inl refl

pub lengthens_further : (a b c : Frame) → Lengthens a b → Lengthens b c → Lengthens a c
lengthens_further a b c f g q = by (f q) (g q)
  where
    by : (lookup (bytes_eq q) b ≡ lookup (bytes_eq q) a) ⊎ ((lookup (bytes_eq q) a ≡ None) × IsEnumerator (lookup (bytes_eq q) b))
        → (lookup (bytes_eq q) c ≡ lookup (bytes_eq q) b) ⊎ ((lookup (bytes_eq q) b ≡ None) × IsEnumerator (lookup (bytes_eq q) c))
        → (lookup (bytes_eq q) c ≡ lookup (bytes_eq q) a) ⊎ ((lookup (bytes_eq q) a ≡ None) × IsEnumerator (lookup (bytes_eq q) c))
    by (inl e) (inl h) = inl (h ∙ e)
    by (inl e) (inr h) = inr (sym e ∙ h.0, h.1)
    by (inr e) (inl h) = inr (e.0, subst IsEnumerator (sym h) e.1)
    by (inr e) (inr h) = absurd (subst IsEnumerator h.0 e.1)

-- what had a meaning keeps it
pub meaning_kept : (old new : Frame) → Lengthens old new → (q : List ℕ) (m : Binding) → lookup (bytes_eq q) old ≡ Some m → lookup (bytes_eq q) new ≡ Some m
meaning_kept old new f q m h = by (f q)
  where
    by : (lookup (bytes_eq q) new ≡ lookup (bytes_eq q) old) ⊎ ((lookup (bytes_eq q) old ≡ None) × IsEnumerator (lookup (bytes_eq q) new)) → lookup (bytes_eq q) new ≡ Some m
    by (inl e) = e ∙ h
    by (inr e) = let k : None ≡ Some m = sym e.0 ∙ h in absurd cc

-- what has a meaning had it, or is an enumerator
pub meaning_before : (old new : Frame) → Lengthens old new → (q : List ℕ) (m : Binding) → lookup (bytes_eq q) new ≡ Some m → (lookup (bytes_eq q) old ≡ Some m) ⊎ IsEnumerator (Some m)
meaning_before old new f q m h = by (f q)
  where
    by : (lookup (bytes_eq q) new ≡ lookup (bytes_eq q) old) ⊎ ((lookup (bytes_eq q) old ≡ None) × IsEnumerator (lookup (bytes_eq q) new)) → (lookup (bytes_eq q) old ≡ Some m) ⊎ IsEnumerator (Some m)
    by (inl e) = inl (sym e ∙ h)
    by (inr e) = inr (subst IsEnumerator h e.1)

pub lookup_last : {X : Type 0} (q : List ℕ → Bool) (xs : List (List ℕ × X)) (k : List ℕ) (v : X) → lookup q (xs ++ (k, v) ∷ []) ≡ or_else (lookup q xs) (if q k then Some v else None)
lookup_last q [] k v = refl
lookup_last {X} q (x ∷ xs) k v = by (q x.0) (lookup_last q xs k v)
  where
    by : (b : Bool) → lookup q (xs ++ (k, v) ∷ []) ≡ or_else (lookup q xs) (if q k then Some v else None)
        → (if b then Some x.1 else lookup q (xs ++ (k, v) ∷ [])) ≡ or_else (if b then Some x.1 else lookup q xs) (if q k then Some v else None)
    by true h = refl
    by false h = h

-- an enumerator more
pub one_longer : (f : Frame) (k : List ℕ) (m : Binding) → IsEnumerator (Some m) → Lengthens f (f ++ (k, m) ∷ [])
one_longer f k m i q = by (lookup (bytes_eq q) f) (bytes_eq q k) (lookup_last (bytes_eq q) f k m)
  where
    by : (o : Option Binding) (b : Bool) → lookup (bytes_eq q) (f ++ (k, m) ∷ []) ≡ or_else o (if b then Some m else None)
        → (lookup (bytes_eq q) (f ++ (k, m) ∷ []) ≡ o) ⊎ ((o ≡ None) × IsEnumerator (lookup (bytes_eq q) (f ++ (k, m) ∷ [])))
    by (Some x) b e = inl e
    by None true e = inr (refl, subst IsEnumerator (sym e) i)
    by None false e = inl e

-- a function was there before
pub function_before : (old new : Frame) → Lengthens old new → (q : List ℕ) (n : ℕ) (ps : List Ty) (r : Ty) → lookup (bytes_eq q) new ≡ Some (function_name n ps r) → lookup (bytes_eq q) old ≡ Some (function_name n ps r)
function_before old new f q n ps r h = by (meaning_before old new f q (function_name n ps r) h)
  where
    by : (lookup (bytes_eq q) old ≡ Some (function_name n ps r)) ⊎ IsEnumerator (Some (function_name n ps r)) → lookup (bytes_eq q) old ≡ Some (function_name n ps r)
    by (inl e) = e
    by (inr i) = absurd i
