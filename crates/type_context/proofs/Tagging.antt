-- The numbers of tags, and what is among them.
use Rattle.std.proofs.Common.{◌≡◌, ℕ, ◌+◌, Bool, true, false, ◌||◌, List, [], ◌∷◌, Some, None, Bor, length, refl, ap, if◌then◌else◌, arith}
use Rattle.std.proofs.lemmas.List.{length-map}
use Rattle.std.specs.Prelude.{is_some}
use Rattle.std.specs.List.{list_any}
use Rattle.std.specs.Str.{bytes_eq}
use Rattle.c_typing.specs.Scope.{tag_among, member_among}
use Rattle.type_context.specs.ContextViews.{bytes_view}

-- the number of a tag that stands among these is its place
place_behind : (k : ℕ) (q : List ℕ) (tags : List (List ℕ)) (n : ℕ) → member_among k q tags ≡ Some n → n ≡ k + tag_among q tags
place_behind k q [] n h = cc
place_behind k q (tag ∷ tags) n h = by (bytes_eq q tag) h (place_behind (k + 1) q tags n)
  where
    by : (b : Bool) → (if b then Some k else member_among (k + 1) q tags) ≡ Some n → (member_among (k + 1) q tags ≡ Some n → n ≡ (k + 1) + tag_among q tags) → n ≡ k + (if b then 0 else 1 + tag_among q tags)
    by true h rest = let same : k ≡ n = cc in omega (arith, same)
    by false h rest = omega (arith, rest h)

pub place_found : (q : List ℕ) (tags : List (List ℕ)) (n : ℕ) → member_among 0 q tags ≡ Some n → n ≡ tag_among q tags
place_found q tags n h = omega (arith, place_behind 0 q tags n h)

-- the number of one that doesn't is their number
none_behind : (k : ℕ) (q : List ℕ) (tags : List (List ℕ)) → member_among k q tags ≡ None → length tags ≡ tag_among q tags
none_behind k q [] h = refl
none_behind k q (tag ∷ tags) h = by (bytes_eq q tag) h (none_behind (k + 1) q tags)
  where
    by : (b : Bool) → (if b then Some k else member_among (k + 1) q tags) ≡ None → (member_among (k + 1) q tags ≡ None → length tags ≡ tag_among q tags) → length (tag ∷ tags) ≡ (if b then 0 else 1 + tag_among q tags)
    by true h rest = cc
    by false h rest = omega (arith, rest h)

pub place_past : (q : List ℕ) (tags : List (Bor (List ℕ))) → member_among 0 q (bytes_view tags) ≡ None → length tags ≡ tag_among q (bytes_view tags)
place_past q tags h = omega (arith, none_behind 0 q (bytes_view tags) h, length-map tags (λ (b : Bor (List ℕ)). b.now))

-- a tag among the keys is one among what they are
pub any_view : (q : List ℕ) (ks : List (Bor (List ℕ))) → list_any (λ k. bytes_eq q k.now) ks ≡ list_any (bytes_eq q) (bytes_view ks)
any_view q [] = refl
any_view q (k ∷ ks) = ap (λ b. bytes_eq q k.now || b) (any_view q ks)

-- what has a place among these is one of them
some_there : (k : ℕ) (q : List ℕ) (tags : List (List ℕ)) → is_some (member_among k q tags) ≡ list_any (bytes_eq q) tags
some_there k q [] = refl
some_there k q (tag ∷ tags) = by (bytes_eq q tag) (some_there (k + 1) q tags)
  where
    by : (b : Bool) → is_some (member_among (k + 1) q tags) ≡ list_any (bytes_eq q) tags → is_some (if b then Some k else member_among (k + 1) q tags) ≡ (b || list_any (bytes_eq q) tags)
    by true h = refl
    by false h = h

pub found_there : (q : List ℕ) (tags : List (List ℕ)) → is_some (member_among 0 q tags) ≡ list_any (bytes_eq q) tags
found_there q tags = some_there 0 q tags
