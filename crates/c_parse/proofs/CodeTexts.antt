-- What is said of terminals, said of the tokens of a text.
use Rattle.std.proofs.Common.{◌≡◌, ℕ, List, [], ◌∷◌, ◌++◌, Result, Ok, Err, ap, refl, ◌∙◌}
use Rattle.std.specs.Prelude.{IfOk}
use Rattle.c_lex.specs.declared.token.Token.{Token}
use Rattle.c_lex.specs.declared.refusal.CompileFault.{CompileFault}
use Rattle.c_lex.specs.declared.refusal.CompileFault.TheVariants as faults
use Rattle.c_lex.specs.Refusals.{IfRefused}
use Rattle.c_tree.specs.declared.syntax.Program.{Program}
use Rattle.c_tree.specs.SyntaxViews.{view}
use Rattle.c_grammar.specs.Language.{Parses, RefusesTokens}
use Rattle.c_grammar.specs.Laws.{EndOnce}
use Rattle.c_grammar.specs.inner.TerminalFiles.{Parses as ParsesTerminals, RefusesTokens as RefusesTerminals}
use Rattle.c_grammar.specs.declared.terminal.Terminal.{Terminal}
use Rattle.c_grammar.specs.inner.Marking.{Scan, behind_token, terminal, terminals, start}
use Rattle.c_grammar.proofs.TextLaws.{parses_from, refuses_from}
use Rattle.c_parse.specs.inner.Ends.{EndsWithEnd}

-- what the tokens tell of names, where so much is told before them
look : List ℕ → Scan → List Token → Scan
look text s [] = s
look text s (t ∷ ts) = look text (behind_token text s t) ts

told_append : (text : List ℕ) (s : Scan) (front ts : List Token) → terminals text s (front ++ ts) ≡ terminals text s front ++ terminals text (look text s front) ts
unfolding look
told_append text s [] ts = refl
told_append text s (t ∷ front) ts = ap (λ (all : List Terminal). terminal text s t ∷ all) (told_append text (behind_token text s t) front ts)

pub ends_told : (text : List ℕ) (ts : List Token) → EndOnce ts → EndsWithEnd (terminals text start ts)
ends_told text ts h =
    let kind = h.3 in
    (terminals text start h.0, terminal text (look text start h.0) h.1, ap (terminals text start) h.2 ∙ told_append text start h.0 (h.1 ∷ []), rw kind refl)

pub refused_told : {X : Type 0} (text : List ℕ) (ts : List Token) (r : Result X CompileFault) → IfRefused r (RefusesTerminals (terminals text start ts)) → IfRefused r (RefusesTokens text ts)
refused_told text ts (Ok x) h = tt
refused_told text ts (Err (faults.Refused r)) h = refuses_from text ts r h
refused_told text ts (Err faults.NoMemory) h = tt

pub found_told : (text : List ℕ) (ts : List Token) (r : Result Program CompileFault) → IfOk r (λ p. ParsesTerminals (terminals text start ts) (view p)) → IfOk r (λ p. Parses text ts (view p))
found_told text ts (Ok p) h = parses_from text ts (view p) h
found_told text ts (Err e) h = tt
