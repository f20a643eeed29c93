-- Where tokens stand in their text.
use Rattle.std.specs.Prelude.{ℕ, ◌≤◌, List, length}
use Rattle.c_lex.specs.declared.token.Token.{Token}

-- the token lies in the text
abbrev pub IsInText : List ℕ → Token → Type 0
IsInText text t = (t.from ≤ t.to) × (t.to ≤ length text)
