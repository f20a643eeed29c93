-- How the code stands to the readers.
use Rattle.std.specs.Prelude.{◌≡◌, ℕ, ◌<◌, ◌≤◌, List, [], ◌∷◌, ◌++◌, length, Option, Some, None, Result, Ok, Err, Bool}
use Rattle.c_grammar.specs.declared.terminal.Terminal.{Terminal}
use Rattle.c_lex.specs.declared.refusal.Kind.{Kind}
use Rattle.parse_tokens.specs.declared.parser.Parser.{Parser}
use Rattle.parse_tokens.specs.declared.parser.Stop.{Stop}
use Rattle.parse_tokens.specs.declared.parser.Stop.TheVariants as stops
use Rattle.c_grammar.specs.inner.Readers.{unexpected, sunk, past, stop, Reading, got, Reads, Sort, sort}

-- what the code gives up with is the fault of reading, unless memory ran out
abbrev pub Fails : {A : Type 0} → Stop → Reading A → Type 0
Fails stops.NoMemory read = Unit {0}
Fails (stops.Unexpected left) read = read ≡ Err (stop unexpected left)
Fails (stops.Sunk left) read = read ≡ Err (stop sunk left)
Fails (stops.Over kind left) read = read ≡ Err (stop (past kind) left)

-- the parser reads what the reader reads from its tokens, with its count of operators, and leaves what the reader leaves, unless
-- memory ran out
abbrev pub Moves : {A B : Type 0} → (A → B) → Reads B → Parser → Parser → Result A Stop → Type 0
Moves view reads old new (Ok a) = reads old.count old.rest.now ≡ got (view a) new.count new.rest.now
Moves view reads old new (Err e) = Fails e (reads old.count old.rest.now)

-- what is read takes a token at least
abbrev pub Takes : {A : Type 0} → Parser → Parser → Result A Stop → Type 0
Takes old new (Ok a) = length new.rest.now < length old.rest.now
Takes old new (Err e) = Unit {0}

-- what the next token begins, with all tokens left; a token that begins nothing may not stand there
abbrev pub peek_turn : {S : Type 0} → ℕ → Terminal → List Terminal → Option S → Reading S
peek_turn c t ts None = Err (stop unexpected (length (t ∷ ts)))
peek_turn c t ts (Some s) = got s c (t ∷ ts)

-- what the next token begins, which is left
abbrev pub peek : {S : Type 0} → (Sort → Option S) → Reads S
peek start c [] = Err (stop unexpected 0)
peek start c (t ∷ ts) = peek_turn c t ts (start (sort t))

-- whether the next token is of a set
abbrev pub ahead : (Sort → Bool) → Reads Bool
ahead start = peek (λ s. Some (start s))

-- whether the next token is over a limit
abbrev pub Checks : Option Kind → Parser → Result (Unit {0}) Stop → Type 0
Checks over now (Ok u) = over ≡ None
Checks over now (Err stops.NoMemory) = ⊥
Checks over now (Err (stops.Unexpected left)) = ⊥
Checks over now (Err (stops.Sunk left)) = ⊥
Checks over now (Err (stops.Over kind left)) = (over ≡ Some kind) × (left ≡ length now.rest.now)

-- what is read takes no token back
abbrev pub Keeps : {A : Type 0} → Parser → Parser → Result A Stop → Type 0
Keeps old new (Ok a) = length new.rest.now ≤ length old.rest.now
Keeps old new (Err e) = Unit {0}

-- a tree is made, unless memory runs out
abbrev pub Makes : {A B : Type 0} → (A → B) → B → Result A Stop → Type 0
Makes view b (Ok a) = view a ≡ b
Makes view b (Err e) = e ≡ stops.NoMemory

-- one more is put at the end of a list, unless memory runs out
abbrev pub Puts : {A : Type 0} → A → List A → List A → Result (Unit {0}) Stop → Type 0
Puts a old new (Ok u) = new ≡ old ++ a ∷ []
Puts a old new (Err e) = e ≡ stops.NoMemory
