-- Laws of `IsPrefix`.
use Rattle.std.proofs.Common.{List, [], ◌++◌, ◌∙◌, ap, sym}
use Rattle.std.proofs.lemmas.List.{append-nil, append_assoc}
use Rattle.ak_words.specs.Prefix.{IsPrefix}

-- the whole begins with itself
pub prefix_of_itself : {X : Type 0} (whole : List X) → IsPrefix whole whole
prefix_of_itself whole = ([], sym (append-nil whole))

-- it still does with more behind it
pub prefix_of_more : {X : Type 0} (part whole more : List X) → IsPrefix part whole → IsPrefix part (whole ++ more)
prefix_of_more part whole more h = (h.0 ++ more, ap (λ xs. xs ++ more) h.1 ∙ append_assoc part h.0 more)

-- a prefix of a prefix
pub prefix_of_prefix : {X : Type 0} (a b c : List X) → IsPrefix a b → IsPrefix b c → IsPrefix a c
prefix_of_prefix a b c h k = (h.0 ++ k.0, k.1 ∙ ap (λ xs. xs ++ k.0) h.1 ∙ append_assoc a h.0 k.0)

-- with the same in front of both
pub prefix_behind : {X : Type 0} (a b c : List X) → IsPrefix b c → IsPrefix (a ++ b) (a ++ c)
prefix_behind a b c h = (h.0, ap (λ xs. a ++ xs) h.1 ∙ sym (append_assoc a b h.0))
