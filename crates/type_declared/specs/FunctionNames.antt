-- The functions of a file that have a body, as the code numbers them.
use Rattle.std.specs.Prelude.{◌≡◌, ℕ, List, [], ◌∷◌, length, Option, Some, None, is_some}
use Rattle.std.specs.List.{list_any}
use Rattle.std.specs.Map.{lookup}
use Rattle.std.specs.Str.{bytes_eq}
use Rattle.c_tree.specs.declared.syntax.Name.{Name}
use Rattle.type_declared.specs.declared.functions.Defined.{Defined}
use Rattle.c_typing.specs.Scope.{bytes_of}
use Rattle.c_typing.specs.Programs.{place_of_name}

-- the place of a name in the table, or behind all
abbrev pub placed : ℕ → Option ℕ → ℕ
placed count (Some n) = n
placed count None = count

-- the table has these names
pub record IsDefined (names : List (List ℕ)) (d : Defined) : Type 0 where
  pub counts : d.count ≡ length names
  pub places : (q : List ℕ) → placed d.count (lookup (λ k. bytes_eq q k.now) d.places.entries) ≡ place_of_name q names
  pub has : (q : List ℕ) → is_some (lookup (λ k. bytes_eq q k.now) d.places.entries) ≡ list_any (bytes_eq q) names

-- the bytes of a name, if there is one
abbrev pub named_if : List ℕ → Option Name → List (List ℕ)
named_if text None = []
named_if text (Some n) = bytes_of text n ∷ []
