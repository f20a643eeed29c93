-- The table of the functions that have a body.
use Rattle.std.proofs.Common.{◌≡◌, ℕ, suc, ◌+◌, Bool, true, false, ◌||◌, List, [], ◌∷◌, ◌++◌, Option, Some, None, Bor, map, length, get_or, take, refl, sym, ap, ◌∙◌, append_assoc, append-nil, if◌then◌else◌, ◌<◌, arith}
use Rattle.std.specs.Prelude.{cond, is_some}
use Rattle.std.specs.Option.{option_copied}
use Rattle.std.specs.List.{list_any}
use Rattle.std.specs.Map.{lookup}
use Rattle.std.specs.Str.{bytes_eq}
use Rattle.std.proofs.lemmas.List.{length_push, map_more, map-append}
use Rattle.std.proofs.lemmas.List.Folds.{list_any-append}
use Rattle.std.proofs.lemmas.Slice.Eq.{bytes_eq-Decides}
use Rattle.c_tree.specs.declared.syntax.External.{External as CodeExternal}
use Rattle.c_tree.specs.Syntax.{External}
use Rattle.c_tree.specs.SyntaxViews.{external_view}
use Rattle.type_declared.specs.declared.functions.Defined.{Defined}
use Rattle.c_typing.specs.Faults.{Judged, typed, faulty, both, ◌>>=◌}
use Rattle.c_typing.specs.Scope.{or_else}
use Rattle.type_context.specs.Telling.{both_fine}
use Rattle.c_typing.specs.Programs.{place_of_name, defined_by, defined_names}
use Rattle.type_context.specs.ContextViews.{bytes_view}
use Rattle.type_context.proofs.Tagging.{any_view}
use Rattle.indexmap.specs.IndexMap.{insert_entry}
use Rattle.type_declared.specs.FunctionNames.{placed, IsDefined}

pub some_copied : (r : Option (Bor ℕ)) → is_some r ≡ is_some (option_copied r)
some_copied None = refl
some_copied (Some b) = refl

pub has_name : (q : List ℕ) (names : List (List ℕ)) (d : Defined) (r : Option (Bor ℕ)) → option_copied r ≡ lookup (λ k. bytes_eq q k.now) d.places.entries → IsDefined names d → is_some r ≡ list_any (bytes_eq q) names
has_name q names d r h is = some_copied r ∙ ap is_some h ∙ is.has q

pub place_there : (q : List ℕ) (names : List (List ℕ)) (d : Defined) (r : Option (Bor ℕ)) (n : Bor ℕ) → option_copied r ≡ lookup (λ k. bytes_eq q k.now) d.places.entries → r ≡ Some n → IsDefined names d → n.now ≡ place_of_name q names
place_there q names d r n h there is = ap (λ o. placed d.count (option_copied o)) (sym there) ∙ ap (placed d.count) h ∙ is.places q

pub place_past : (q : List ℕ) (names : List (List ℕ)) (d : Defined) (r : Option (Bor ℕ)) → option_copied r ≡ lookup (λ k. bytes_eq q k.now) d.places.entries → r ≡ None → IsDefined names d → d.count ≡ place_of_name q names
place_past q names d r h none is = ap (λ o. placed d.count (option_copied o)) (sym none) ∙ ap (placed d.count) h ∙ is.places q

-- ---- one name more

grown : (m x : ℕ) → 1 + (m + x) ≡ suc m + x
grown m x = omega arith

place_push : (q b : List ℕ) (names : List (List ℕ)) → place_of_name q (names ++ b ∷ []) ≡ (if list_any (bytes_eq q) names then place_of_name q names else length names + (if bytes_eq q b then 0 else 1))
place_push q b [] = by (bytes_eq q b)
  where
    by : (e : Bool) → (if e then 0 else 1 + 0) ≡ 0 + (if e then 0 else 1)
    by true = refl
    by false = refl
place_push q b (n ∷ names) = by (bytes_eq q n) (list_any (bytes_eq q) names) (place_push q b names)
  where
    by : (e any : Bool) → place_of_name q (names ++ b ∷ []) ≡ (if any then place_of_name q names else length names + (if bytes_eq q b then 0 else 1))
        → (if e then 0 else 1 + place_of_name q (names ++ b ∷ [])) ≡ (if (e || any) then (if e then 0 else 1 + place_of_name q names) else length (n ∷ names) + (if bytes_eq q b then 0 else 1))
    by true any h = refl
    by false true h = ap (λ m. 1 + m) h
    by false false h = ap (λ m. 1 + m) h ∙ grown (length names) (if bytes_eq q b then 0 else 1)

any_push : (q b : List ℕ) (names : List (List ℕ)) → list_any (bytes_eq q) (names ++ b ∷ []) ≡ (list_any (bytes_eq q) names || bytes_eq q b)
any_push q b names = list_any-append (bytes_eq q) names (b ∷ []) ∙ by (list_any (bytes_eq q) names) (bytes_eq q b)
  where
    by : (x y : Bool) → (x || (y || false)) ≡ (x || y)
    by true y = refl
    by false true = refl
    by false false = refl

lookup_push : {K X : Type 0} (t : K → Bool) (es : List (K × X)) (k : K) (v : X) → lookup t (es ++ (k, v) ∷ []) ≡ or_else (lookup t es) (cond (t k) (Some v) None)
lookup_push t [] k v = refl
lookup_push t (e ∷ es) k v = by (t e.0) (lookup_push t es k v)
  where
    by : (b : Bool) → lookup t (es ++ (k, v) ∷ []) ≡ or_else (lookup t es) (cond (t k) (Some v) None)
        → cond b (Some e.1) (lookup t (es ++ (k, v) ∷ [])) ≡ or_else (cond b (Some e.1) (lookup t es)) (cond (t k) (Some v) None)
    by true h = refl
    by false h = h

new_place : (o : Option ℕ) (count place len : ℕ) (any e : Bool) → placed count o ≡ place → is_some o ≡ any → count ≡ len
    → placed (count + 1) (or_else o (cond e (Some count) None)) ≡ (if any then place else len + (if e then 0 else 1))
new_place (Some n) count place len any e h i l = h ∙ ap (λ t. if t then place else len + (if e then 0 else 1)) i
new_place None count place len any true h i l = (let z : count ≡ len + 0 = omega arith in z) ∙ ap (λ t. if t then place else len + 0) i
new_place None count place len any false h i l = ap (λ m. m + 1) l ∙ ap (λ t. if t then place else len + 1) i

same_place : (o : Option ℕ) (count place len : ℕ) (any e : Bool) → placed count o ≡ place → is_some o ≡ any → count ≡ len → (e ≡ true → any ≡ true)
    → placed (count + 1) o ≡ (if any then place else len + (if e then 0 else 1))
same_place (Some n) count place len any e h i l there = h ∙ ap (λ t. if t then place else len + (if e then 0 else 1)) i
same_place None count place len any true h i l there = absurd (let c : false ≡ true = i ∙ there refl in cc)
same_place None count place len any false h i l there = ap (λ m. m + 1) l ∙ ap (λ t. if t then place else len + 1) i

new_has : (o : Option ℕ) (count : ℕ) (any e : Bool) → is_some o ≡ any → is_some (or_else o (cond e (Some count) None)) ≡ (any || e)
new_has (Some n) count any e i = ap (λ a. a || e) i
new_has None count any true i = (let z : true ≡ (false || true) = refl in z) ∙ ap (λ a. a || true) i
new_has None count any false i = (let z : false ≡ (false || false) = refl in z) ∙ ap (λ a. a || false) i

same_has : (o : Option ℕ) (any e : Bool) → is_some o ≡ any → (e ≡ true → any ≡ true) → is_some o ≡ (any || e)
same_has o true e i there = i
same_has o false true i there = absurd (let c : false ≡ true = there refl in cc)
same_has o false false i there = i

pub defined_new : (names : List (List ℕ)) (d new : Defined) (b : Bor (List ℕ)) → IsDefined names d → new.places.entries ≡ d.places.entries ++ (b, d.count) ∷ [] → new.count ≡ d.count + 1 → IsDefined (names ++ b.now ∷ []) new
defined_new names d new b is at more = record {
  counts = more ∙ ap (λ m. m + 1) is.counts ∙ sym (length_push names b.now);
  places = λ q.
      ap (λ es. placed new.count (lookup (λ k. bytes_eq q k.now) es)) at
      ∙ ap (placed new.count) (lookup_push (λ k. bytes_eq q k.now) d.places.entries b d.count)
      ∙ ap (λ m. placed m (or_else (lookup (λ k. bytes_eq q k.now) d.places.entries) (cond (bytes_eq q b.now) (Some d.count) None))) more
      ∙ new_place (lookup (λ k. bytes_eq q k.now) d.places.entries) d.count (place_of_name q names) (length names) (list_any (bytes_eq q) names) (bytes_eq q b.now) (is.places q) (is.has q) is.counts
      ∙ sym (place_push q b.now names);
  has = λ q.
      ap (λ es. is_some (lookup (λ k. bytes_eq q k.now) es)) at
      ∙ ap is_some (lookup_push (λ k. bytes_eq q k.now) d.places.entries b d.count)
      ∙ new_has (lookup (λ k. bytes_eq q k.now) d.places.entries) d.count (list_any (bytes_eq q) names) (bytes_eq q b.now) (is.has q)
      ∙ sym (any_push q b.now names);
}

-- a name that is equal to one of these is one of these
same_any : (q b : List ℕ) (names : List (List ℕ)) → list_any (bytes_eq b) names ≡ true → bytes_eq q b ≡ true → list_any (bytes_eq q) names ≡ true
same_any q b names there same = ap (λ p. list_any (bytes_eq p) names) ((bytes_eq-Decides q b).0 same) ∙ there

pub defined_again : (names : List (List ℕ)) (d new : Defined) (b : Bor (List ℕ)) → IsDefined names d → is_some (lookup (λ k. bytes_eq b.now k.now) d.places.entries) ≡ true
    → new.places.entries ≡ d.places.entries → new.count ≡ d.count + 1 → IsDefined (names ++ b.now ∷ []) new
defined_again names d new b is there at more = record {
  counts = more ∙ ap (λ m. m + 1) is.counts ∙ sym (length_push names b.now);
  places = λ q.
      ap (λ es. placed new.count (lookup (λ k. bytes_eq q k.now) es)) at
      ∙ ap (λ m. placed m (lookup (λ k. bytes_eq q k.now) d.places.entries)) more
      ∙ same_place (lookup (λ k. bytes_eq q k.now) d.places.entries) d.count (place_of_name q names) (length names) (list_any (bytes_eq q) names) (bytes_eq q b.now) (is.places q) (is.has q) is.counts
      (same_any q b.now names (sym (is.has b.now) ∙ there))
      ∙ sym (place_push q b.now names);
  has = λ q.
      ap (λ es. is_some (lookup (λ k. bytes_eq q k.now) es)) at
      ∙ same_has (lookup (λ k. bytes_eq q k.now) d.places.entries) (list_any (bytes_eq q) names) (bytes_eq q b.now) (is.has q) (same_any q b.now names (sym (is.has b.now) ∙ there))
      ∙ sym (any_push q b.now names);
}

-- ---- the names of a file

names_push : (text : List ℕ) (xs : List External) (x : External) → defined_names text (xs ++ x ∷ []) ≡ defined_names text xs ++ defined_by text x
names_push text [] x = append-nil (defined_by text x)
names_push text (y ∷ xs) x = ap (λ l. defined_by text y ++ l) (names_push text xs x) ∙ sym (append_assoc (defined_by text y) (defined_names text xs) (defined_by text x))

pub names_more : (text : List ℕ) (xs : List CodeExternal) (i : ℕ) (d : CodeExternal) → i < length xs
    → defined_names text (map external_view (take (i + 1) xs)) ≡ defined_names text (map external_view (take i xs)) ++ defined_by text (external_view (get_or xs i d))
names_more text xs i d h = ap (defined_names text) (map_more external_view xs i d h) ∙ names_push text (map external_view (take i xs)) (external_view (get_or xs i d))

-- four things are fine, however they are joined
pub fine_pairs : (a b c d : Judged (Unit {0})) → (both (both a b) (both c d) >>= λ u. typed tt) ≡ both_fine (both_fine a b) (both_fine c d)
fine_pairs (typed a) (typed b) (typed c) (typed d) = refl
fine_pairs (typed a) (typed b) (typed c) (faulty s ss) = refl
fine_pairs (typed a) (typed b) (faulty r rs) (typed d) = refl
fine_pairs (typed a) (typed b) (faulty r rs) (faulty s ss) = refl
fine_pairs (typed a) (faulty q qs) (typed c) (typed d) = refl
fine_pairs (typed a) (faulty q qs) (typed c) (faulty s ss) = refl
fine_pairs (typed a) (faulty q qs) (faulty r rs) (typed d) = refl
fine_pairs (typed a) (faulty q qs) (faulty r rs) (faulty s ss) = refl
fine_pairs (faulty p ps) (typed b) (typed c) (typed d) = refl
fine_pairs (faulty p ps) (typed b) (typed c) (faulty s ss) = refl
fine_pairs (faulty p ps) (typed b) (faulty r rs) (typed d) = refl
fine_pairs (faulty p ps) (typed b) (faulty r rs) (faulty s ss) = refl
fine_pairs (faulty p ps) (faulty q qs) (typed c) (typed d) = refl
fine_pairs (faulty p ps) (faulty q qs) (typed c) (faulty s ss) = refl
fine_pairs (faulty p ps) (faulty q qs) (faulty r rs) (typed d) = refl
fine_pairs (faulty p ps) (faulty q qs) (faulty r rs) (faulty s ss) = refl

-- a new key goes last
pub entry_new : {X : Type 0} (key : Bor (List ℕ)) (v : X) (es : List (Bor (List ℕ) × X)) → is_some (lookup (λ k. bytes_eq key.now k.now) es) ≡ false → insert_entry (λ x y. bytes_eq x.now y.now) es key v ≡ es ++ (key, v) ∷ []
entry_new key v [] absent = refl
entry_new {X} key v (e ∷ es) absent = by (bytes_eq key.now e.0.now) absent (entry_new key v es)
  where
    by : (b : Bool) → is_some (cond b (Some e.1) (lookup (λ k. bytes_eq key.now k.now) es)) ≡ false
        → (is_some (lookup (λ k. bytes_eq key.now k.now) es) ≡ false → insert_entry (λ x y. bytes_eq x.now y.now) es key v ≡ es ++ (key, v) ∷ [])
        → (if b then (e.0, v) ∷ es else e ∷ insert_entry (λ x y. bytes_eq x.now y.now) es key v) ≡ (e ∷ es) ++ (key, v) ∷ []
    by true absent rest = cc
    by false absent rest = ap (λ l. e ∷ l) (rest absent)

-- one name more among the keys of a set
pub name_more : (keys new : List (Bor (List ℕ))) (key : Bor (List ℕ)) (q : List ℕ) → key.now ≡ q → new ≡ (if list_any (λ k. bytes_eq key.now k.now) keys then keys else keys ++ key ∷ [])
    → bytes_view new ≡ (if list_any (bytes_eq q) (bytes_view keys) then bytes_view keys else bytes_view keys ++ q ∷ [])
name_more keys new key q same is =
    ap bytes_view is
    ∙ by (list_any (λ k. bytes_eq key.now k.now) keys) (list_any (bytes_eq key.now) (bytes_view keys)) (any_view key.now keys)
    ∙ ap (λ p. if list_any (bytes_eq p) (bytes_view keys) then bytes_view keys else bytes_view keys ++ p ∷ []) same
  where
    by : (a b : Bool) → a ≡ b → bytes_view (if a then keys else keys ++ key ∷ []) ≡ (if b then bytes_view keys else bytes_view keys ++ key.now ∷ [])
    by true true h = refl
    by false false h = map-append (λ (k : Bor (List ℕ)). k.now) keys (key ∷ [])
    by true false h = cc
    by false true h = cc
