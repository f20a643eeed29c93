-- Laws of the grammar of terminals, from which those of the tokens of a text follow.
use Rattle.std.specs.Prelude.{◌≡◌, ◌⊎◌, List, [], ◌∷◌, ◌++◌, All, None}
use Rattle.std.specs.List.{AllByRecursion}
use Rattle.c_grammar.specs.declared.terminal.Terminal.{Terminal}
use Rattle.c_grammar.specs.declared.terminal.TerminalKind.TheVariants.{End}
use Rattle.c_lex.specs.declared.refusal.Refusal.{Refusal}
use Rattle.c_tree.specs.Syntax.{File}
use Rattle.c_grammar.specs.Leaves.{over}
use Rattle.c_grammar.specs.Grammar.{leaves, IsFile}
use Rattle.c_grammar.specs.inner.Terminals.{Spelt}
use Rattle.c_grammar.specs.inner.TerminalFiles.{Parses, RefusesTokens}

-- the grammar isn't ambiguous: terminals within the limits spell one file at most
abbrev pub SpellOneFile : Type 0
SpellOneFile = (ts : List Terminal) (f g : File) → IsFile f → Spelt (leaves f) ts → AllByRecursion (λ l. over l ≡ None) (leaves f) → IsFile g → Spelt (leaves g) ts → g ≡ f

-- no terminals of a file are refused
abbrev pub ParseOrRefuse : Type 0
ParseOrRefuse = (ts : List Terminal) (f : File) (r : Refusal) → Parses ts f → RefusesTokens ts r → ⊥

-- terminals are refused at one place, and for one reason
abbrev pub RefuseOnce : Type 0
RefuseOnce = (ts : List Terminal) (r s : Refusal) → RefusesTokens ts r → RefusesTokens ts s → r ≡ s

-- the last terminal, and no other, is the end of the text
abbrev pub EndOnce : List Terminal → Type 0
EndOnce ts = (front : List Terminal) × (e : Terminal) × (ts ≡ front ++ e ∷ []) × (e.kind ≡ End) × All (λ t. t.kind ≡ End → ⊥) front

-- terminals with one end, which is the last, are a file or refused
abbrev pub EachIsJudged : Type 0
EachIsJudged = (ts : List Terminal) → EndOnce ts → ((f : File) × Parses ts f) ⊎ ((r : Refusal) × RefusesTokens ts r)
