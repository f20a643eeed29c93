-- What the first of tokens is, in a class of tokens.
use Rattle.std.specs.Prelude.{List, [], ◌∷◌, Option, None}
use Rattle.c_grammar.specs.declared.terminal.Terminal.{Terminal}

-- the first token as what it is in the class, if it is in it
abbrev pub first_as : {A : Type 0} → (Terminal → Option A) → List Terminal → Option A
first_as class [] = None
first_as class (t ∷ ts) = class t
