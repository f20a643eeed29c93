-- The bytes of string literals.
use Rattle.std.specs.Prelude.{ℕ, ◌+◌, ◌-◌, List, [], ◌∷◌, ◌++◌, Result, Ok, Err}
use Rattle.std.specs.List.{slice_range}
use Rattle.c_lex.specs.declared.refusal.Kind.{Kind}
use Rattle.c_lex.specs.Quoted.{string_of}
use Rattle.c_tree.specs.declared.syntax.Span.{Span}

-- the bytes that a string stands for; a string of the tokens of a text stands for some
abbrev pub bytes_or_none : Result (List ℕ) Kind → List ℕ
bytes_or_none (Ok bytes) = bytes
bytes_or_none (Err kind) = []

-- what stands between the quotes, with its escapes
abbrev pub between_quotes : List ℕ → Span → List ℕ
between_quotes all s = bytes_or_none (string_of (slice_range all (s.from + 1) (s.to - 1)))

-- string literals side by side are one, with a zero byte at its end (C11 5.1.1.2 p1, 6.4.5 p6)
abbrev pub joined_bytes : List ℕ → List Span → List ℕ
joined_bytes all [] = 0 ∷ []
joined_bytes all (s ∷ ss) = between_quotes all s ++ joined_bytes all ss

-- the place of a literal: that of its first part
abbrev pub place_of_parts : List Span → ℕ
place_of_parts [] = 0
place_of_parts (s ∷ ss) = s.from
