-- A new name in the innermost scope.
use Rattle.std.proofs.Common.{◌≡◌, ℕ, Bool, true, false, ◌||◌, List, [], ◌∷◌, ◌++◌, Some, Bor, refl, sym, ap, ◌∙◌, if◌then◌else◌}
use Rattle.std.specs.Prelude.{cond, is_some}
use Rattle.std.specs.Map.{lookup}
use Rattle.std.specs.Str.{bytes_eq}
use Rattle.indexmap.specs.IndexMap.{insert_entry}
use Rattle.c_tree.specs.declared.syntax.Name.{Name}
use Rattle.type_context.specs.declared.names.Binding.{Binding as CodeMeaning}
use Rattle.c_typing.specs.Scope.{Frame, Context, bytes_of, is_double, declared}
use Rattle.type_context.specs.ContextViews.{binding_view, meaning_entry, frame_view}

-- a new name goes last
insert_new : (key : Bor (List ℕ)) (m : CodeMeaning) (es : List (Bor (List ℕ) × CodeMeaning)) → is_some (lookup (bytes_eq key.now) (frame_view es)) ≡ false
    → frame_view (insert_entry (λ x y. bytes_eq x.now y.now) es key m) ≡ frame_view es ++ (key.now, binding_view m) ∷ []
insert_new key m [] absent = refl
insert_new key m (e ∷ es) absent = by (bytes_eq key.now e.0.now) absent (insert_new key m es)
  where
    by : (b : Bool) → is_some (cond b (Some (binding_view e.1)) (lookup (bytes_eq key.now) (frame_view es))) ≡ false
        → (is_some (lookup (bytes_eq key.now) (frame_view es)) ≡ false → frame_view (insert_entry (λ x y. bytes_eq x.now y.now) es key m) ≡ frame_view es ++ (key.now, binding_view m) ∷ [])
        → frame_view (if b then (e.0, m) ∷ es else e ∷ insert_entry (λ x y. bytes_eq x.now y.now) es key m) ≡ frame_view (e ∷ es) ++ (key.now, binding_view m) ∷ []
    by true absent rest = cc
    by false absent rest = ap (λ l. meaning_entry e ∷ l) (rest absent)

neither : (a b : Bool) → (a || b) ≡ false → a ≡ false
neither true b h = h
neither false b h = refl

-- what the innermost scope has once a name is declared that it hadn't
pub declared_new : (c : Context) (inner new : List (Bor (List ℕ) × CodeMeaning)) (n : Name) (key : Bor (List ℕ)) (m : CodeMeaning) (b : Bool)
    → key.now ≡ bytes_of c.text n → frame_view inner ≡ c.inner → b ≡ is_double c n → b ≡ false → new ≡ insert_entry (λ x y. bytes_eq x.now y.now) inner key m
    → record c { inner = frame_view new } ≡ declared c n (binding_view m)
declared_new c inner new n key m b same was double not_double is =
    let fresh : is_double c n ≡ false = sym double ∙ not_double in
    let absent : is_some (lookup (bytes_eq (bytes_of c.text n)) c.inner) ≡ false = neither _ _ fresh in
    let there : is_some (lookup (bytes_eq key.now) (frame_view inner)) ≡ false =
    ap (λ q. is_some (lookup (bytes_eq q) (frame_view inner))) same ∙ ap (λ f. is_some (lookup (bytes_eq (bytes_of c.text n)) f)) was ∙ absent in
    ap (λ (i : Frame). record c { inner = i }) (ap frame_view is ∙ insert_new key m inner there ∙ ap (λ f. f ++ (key.now, binding_view m) ∷ []) was ∙ ap (λ q. c.inner ++ (q, binding_view m) ∷ []) same)
    ∙ ap (λ t. if t then c else record c { inner = c.inner ++ (bytes_of c.text n, binding_view m) ∷ [] }) (sym fresh)
