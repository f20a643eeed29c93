-- What it is for terminals to be a file of the language, and where they cease to be one. What is a terminal, see Terminals; the same of the
-- tokens of a text, see Language.
use Rattle.std.specs.Prelude.{◌≡◌, ◌<◌, ◌⊎◌, List, [], ◌∷◌, ◌++◌, Some, None}
use Rattle.std.specs.List.{AllByRecursion}
use Rattle.c_lex.specs.declared.token.Mark.TheVariants.{Ellipsis}
use Rattle.c_lex.specs.declared.refusal.Refusal.{Refusal}
use Rattle.c_lex.specs.declared.refusal.Kind.{Kind}
use Rattle.c_lex.specs.declared.refusal.Kind.TheVariants.{UnexpectedToken, OutsideSubset}
use Rattle.c_tree.specs.Syntax.{File}
use Rattle.c_grammar.specs.declared.terminal.TerminalKind.{TerminalKind}
use Rattle.c_grammar.specs.declared.terminal.TerminalKind.TheVariants as kinds
use Rattle.c_grammar.specs.declared.terminal.Terminal.{Terminal}
use Rattle.c_grammar.specs.Leaves.{Leaf, over}
use Rattle.c_grammar.specs.Grammar.{leaves, IsFile}
use Rattle.c_grammar.specs.Language.{refusal_of_word, or_too_deep}
use Rattle.c_grammar.specs.inner.Terminals.{Spelt, Begins, BeginsWithin}

-- how a terminal is refused that may not stand where it does
abbrev pub refusal_of : TerminalKind → Kind
refusal_of (kinds.Word w) = refusal_of_word w
refusal_of (kinds.Mark Ellipsis) = OutsideSubset 5
refusal_of _ = UnexpectedToken

-- ---- files

-- the file of the grammar that the terminals spell, within the limits, and the only one
pub record Parses (ts : List Terminal) (f : File) : Type 0 where
  pub fits : IsFile f
  pub spelt : Spelt (leaves f) ts
  pub within : AllByRecursion (λ l. over l ≡ None) (leaves f)
  pub only : (g : File) → IsFile g → Spelt (leaves g) ts → g ≡ f

-- some file of the grammar begins so
abbrev pub BeginsFile : List Terminal → Type 0
BeginsFile front = (f : File) × IsFile f × Begins (leaves f) front

-- some file of the grammar begins so, within the limits so far
abbrev pub BeginsFileWithin : List Terminal → Type 0
BeginsFileWithin front = (f : File) × IsFile f × BeginsWithin (leaves f) front

-- what may stand behind these terminals: the leaf that follows them in a file that begins with them
pub record Next (front : List Terminal) : Type 0 where
  pub file : File
  pub fits : IsFile file
  pub before : List Leaf
  pub leaf : Leaf
  pub behind : List Leaf
  pub is : leaves file ≡ before ++ leaf ∷ behind
  pub spelt : Spelt before front

-- something may stand behind these terminals, and whatever may lies deeper than 128 levels
pub record AllTooDeep (front : List Terminal) : Type 0 where
  pub some : Next front
  pub each : (n : Next front) → 128 < n.leaf.level

-- how a terminal is refused that may not stand behind these terminals
abbrev pub IsRefusalBehind : List Terminal → Terminal → Kind → Type 0
IsRefusalBehind front t k = (AllTooDeep front × (k ≡ or_too_deep (refusal_of t.kind))) ⊎ ((AllTooDeep front → ⊥) × (k ≡ refusal_of t.kind))

-- with the terminal behind them the terminals begin no file
pub record IsUnexpected (front : List Terminal) (t : Terminal) (k : Kind) : Type 0 where
  pub kind : IsRefusalBehind front t k
  pub no_file : BeginsFile (front ++ t ∷ []) → ⊥

-- with the terminal behind them the terminals begin a file, in which the terminal is the first over a limit
pub record IsOver (front : List Terminal) (t : Terminal) (k : Kind) : Type 0 where
  pub file : File
  pub fits : IsFile file
  pub before : List Leaf
  pub leaf : Leaf
  pub behind : List Leaf
  pub is : leaves file ≡ before ++ leaf ∷ behind
  pub spelt : Spelt (before ++ leaf ∷ []) (front ++ t ∷ [])
  pub within : AllByRecursion (λ l. over l ≡ None) before
  pub fault : over leaf ≡ Some k

-- the refusal is for the first terminal up to which, itself included, the terminals begin no file within the limits
pub record RefusesTokens (ts : List Terminal) (r : Refusal) : Type 0 where
  pub front : List Terminal
  pub token : Terminal
  pub behind : List Terminal
  pub is : ts ≡ front ++ token ∷ behind
  pub place : token.from ≡ r.place
  pub before : BeginsFileWithin front
  pub cause : IsUnexpected front token r.kind ⊎ IsOver front token r.kind
