-- What is looked up in the code's tables, as the definitions look it up.
use Rattle.std.proofs.Common.{◌≡◌, ℕ, ◌≤◌, ◌-◌, Bool, true, false, List, [], ◌∷◌, Option, Some, None, Bor, map, length, get_or, take, drop, refl, sym, ap, ◌∙◌, arith}
use Rattle.std.specs.Prelude.{cond}
use Rattle.std.specs.Option.{option_copied}
use Rattle.std.specs.Map.{lookup}
use Rattle.std.specs.Str.{bytes_eq}
use Rattle.std.proofs.lemmas.List.{take_all}
use Rattle.type_context.specs.declared.names.Library.{Library as CodeLibrary}
use Rattle.type_context.specs.declared.names.Binding.{Binding as CodeMeaning}
use Rattle.c_typing.specs.Scope.{Binding}
use Rattle.type_context.specs.ContextViews.{library_view, library_entry, binding_view, frame_view, seen}

-- where the first of some names of the library is another, the others say what all say
pub library_rest : (q : List ℕ) (es : List (Bor (List ℕ) × CodeLibrary)) (d : Bor (List ℕ) × CodeLibrary) (b : Bool) → 1 ≤ length es → b ≡ bytes_eq q (get_or es 0 d).0.now → b ≡ false
    → lookup (bytes_eq q) (map library_entry (take (length es - 1) (drop 1 es))) ≡ lookup (bytes_eq q) (map library_entry es)
library_rest q [] d b h is no_ = absurd (omega arith)
library_rest q (e ∷ es) d b h is no_ =
    let same : take (length (e ∷ es) - 1) (drop 1 (e ∷ es)) ≡ es = take_all (length (e ∷ es) - 1) es (omega arith) in
    let other : bytes_eq q e.0.now ≡ false = sym is ∙ no_ in
    ap (λ l. lookup (bytes_eq q) (map library_entry l)) same ∙ sym (ap (λ t. cond t (Some (library_view e.1)) (lookup (bytes_eq q) (map library_entry es))) other)

-- an option, seen
abbrev viewed : Option CodeMeaning → Option Binding
viewed None = None
viewed (Some m) = Some (binding_view m)

seen_copied : (r : Option (Bor CodeMeaning)) → seen r ≡ viewed (option_copied r)
seen_copied None = refl
seen_copied (Some b) = refl

viewed_cond : (b : Bool) (m : CodeMeaning) (o : Option CodeMeaning) → viewed (cond b (Some m) o) ≡ cond b (Some (binding_view m)) (viewed o)
viewed_cond true m o = refl
viewed_cond false m o = refl

viewed_lookup : (q : List ℕ) (es : List (Bor (List ℕ) × CodeMeaning)) → viewed (lookup (λ k. bytes_eq q k.now) es) ≡ lookup (bytes_eq q) (frame_view es)
viewed_lookup q [] = refl
viewed_lookup q (e ∷ es) = viewed_cond (bytes_eq q e.0.now) e.1 (lookup (λ k. bytes_eq q k.now) es) ∙ ap (cond (bytes_eq q e.0.now) (Some (binding_view e.1))) (viewed_lookup q es)

-- what a map gives is what its scope says
pub seen_lookup : (q : List ℕ) (es : List (Bor (List ℕ) × CodeMeaning)) (r : Option (Bor CodeMeaning)) → option_copied r ≡ lookup (λ k. bytes_eq q k.now) es → seen r ≡ lookup (bytes_eq q) (frame_view es)
seen_lookup q es r h = seen_copied r ∙ ap viewed h ∙ viewed_lookup q es
