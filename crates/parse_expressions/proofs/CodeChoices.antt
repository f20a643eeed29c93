-- What the code makes of what it read, and what it gives up with, behind a choice.
use Rattle.std.proofs.Common.{◌≡◌, ℕ, List, Option, Result, Ok, Err, refl, sym, ap, subst, ◌∙◌}
use Rattle.c_grammar.specs.declared.terminal.Terminal.{Terminal}
use Rattle.c_grammar.specs.inner.Readers.{Reading, got, Reads, ◌>>=◌, Sort, choice, made}
use Rattle.parse_tokens.specs.declared.parser.Parser.{Parser}
use Rattle.parse_tokens.specs.declared.parser.Stop.{Stop}
use Rattle.parse_tokens.specs.declared.parser.Stop.TheVariants as stops
use Rattle.parse_tokens.specs.inner.Moves.{Fails, Moves, Makes, peek}
use Rattle.parse_expressions.proofs.CodeLoops.{chooses}

-- a tree is made of what was read
pub makes : {A B : Type 0} (view : A → B) (reads : Reads B) (old new : Parser) (b : B) (r : Result A Stop) → reads old.count old.rest.now ≡ got b new.count new.rest.now → Makes view b r → Moves view reads old new r
makes view reads old new b (Ok a) e h = rw h e
makes view reads old new b (Err s) e h = rw h tt

-- a fault behind a choice
pub chosen_stops : {S A : Type 0} (start : Sort → Option S) (part : S → Reads A) (c : ℕ) (ts : List Terminal) (s : S) (e : Stop) → peek start c ts ≡ got s c ts → Fails e (part s c ts) → Fails e (choice start part c ts)
chosen_stops start part c ts s e h f = subst (Fails e) (sym (chooses start part c ts s h)) f

-- a fault of what a tree would be made of
pub made_stops : {A B : Type 0} (f : A → B) (r : Reads A) (c : ℕ) (ts : List Terminal) (e : Stop) → Fails e (r c ts) → Fails e (made f r c ts)
made_stops f r c ts stops.NoMemory h = tt
made_stops f r c ts (stops.Unexpected left) h = rw h refl
made_stops f r c ts (stops.Sunk left) h = rw h refl
made_stops f r c ts (stops.Over kind left) h = rw h refl

-- what is made of the part that the next token chooses
pub made_chosen : {S A B : Type 0} (f : A → B) (start : Sort → Option S) (part : S → Reads A) (c : ℕ) (ts : List Terminal) (s : S) (b : B) (d : ℕ) (us : List Terminal) → peek start c ts ≡ got s c ts → made f (part s) c ts ≡ got b d us → made f (choice start part) c ts ≡ got b d us
made_chosen f start part c ts s b d us h p = ap (λ (r : Reading _). r >>= λ a. got (f a.tree) a.count a.rest) (chooses start part c ts s h) ∙ p
