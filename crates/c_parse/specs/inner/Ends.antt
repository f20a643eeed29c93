-- Terminals of which the last is the end.
use Rattle.std.specs.Prelude.{◌≡◌, List, [], ◌∷◌, ◌++◌}
use Rattle.c_grammar.specs.declared.terminal.Terminal.{Terminal}
use Rattle.c_grammar.specs.declared.terminal.TerminalKind.TheVariants.{End}

-- the last of the terminals is the end of the text
abbrev pub EndsWithEnd : List Terminal → Type 0
EndsWithEnd ts = (front : List Terminal) × (e : Terminal) × (ts ≡ front ++ e ∷ []) × (e.kind ≡ End)
