-- What it is for the tokens of a text to be a file of the language, and where they cease to be one. Names are told from those of types.
use Rattle.std.specs.Prelude.{◌≡◌, ℕ, ◌<◌, ◌⊎◌, List, [], ◌∷◌, ◌++◌, Some, None}
use Rattle.std.specs.List.{AllByRecursion}
use Rattle.c_lex.specs.declared.token.Word.{Word}
use Rattle.c_lex.specs.declared.token.Word.TheVariants as words
use Rattle.c_lex.specs.declared.token.Mark.TheVariants.{Ellipsis}
use Rattle.c_lex.specs.declared.token.TokenKind.{TokenKind}
use Rattle.c_lex.specs.declared.token.TokenKind.TheVariants as kinds
use Rattle.c_lex.specs.declared.token.Token.{Token}
use Rattle.c_lex.specs.declared.refusal.Refusal.{Refusal}
use Rattle.c_lex.specs.declared.refusal.Kind.{Kind}
use Rattle.c_lex.specs.declared.refusal.Kind.TheVariants.{UnexpectedToken, TooDeep, OutsideSubset}
use Rattle.c_tree.specs.Syntax.{File}
use Rattle.c_grammar.specs.Leaves.{Leaf, over}
use Rattle.c_grammar.specs.Names.{first_types, Spelt, Begins, BeginsWithin}
use Rattle.c_grammar.specs.Grammar.{leaves, IsFile}

-- ---- features that are left out

-- a word that belongs to a feature outside the subset, and which; any other is an unexpected token
abbrev pub refusal_of_word : Word → Kind
refusal_of_word words.Float = OutsideSubset 2
refusal_of_word words.Double = OutsideSubset 2
refusal_of_word words.Complex = OutsideSubset 2
refusal_of_word words.Imaginary = OutsideSubset 2
refusal_of_word words.Union = OutsideSubset 3
refusal_of_word words.Goto = OutsideSubset 4
refusal_of_word words.Volatile = OutsideSubset 6
refusal_of_word words.Extern = OutsideSubset 10
refusal_of_word words.Static = OutsideSubset 10
refusal_of_word words.Inline = OutsideSubset 10
refusal_of_word words.Alignas = OutsideSubset 10
refusal_of_word words.Alignof = OutsideSubset 10
refusal_of_word words.Bool = OutsideSubset 10
refusal_of_word words.Generic = OutsideSubset 10
refusal_of_word words.Noreturn = OutsideSubset 10
refusal_of_word words.StaticAssert = OutsideSubset 10
refusal_of_word words.ThreadLocal = OutsideSubset 10
refusal_of_word _ = UnexpectedToken

-- how a token is refused that may not stand where it does
abbrev pub refusal_of : TokenKind → Kind
refusal_of (kinds.Word w) = refusal_of_word w
refusal_of (kinds.Mark Ellipsis) = OutsideSubset 5
refusal_of _ = UnexpectedToken

-- ---- files

-- the file of the grammar that the tokens spell, within the limits, and the only one
pub record Parses (text : List ℕ) (ts : List Token) (f : File) : Type 0 where
  pub fits : IsFile f
  pub spelt : Spelt text first_types (leaves f) ts
  pub within : AllByRecursion (λ l. over l ≡ None) (leaves f)
  pub only : (g : File) → IsFile g → Spelt text first_types (leaves g) ts → g ≡ f

-- some file of the grammar begins so
abbrev pub BeginsFile : List ℕ → List Token → Type 0
BeginsFile text front = (f : File) × IsFile f × Begins text first_types (leaves f) front

-- some file of the grammar begins so, within the limits so far
abbrev pub BeginsFileWithin : List ℕ → List Token → Type 0
BeginsFileWithin text front = (f : File) × IsFile f × BeginsWithin text first_types (leaves f) front

-- what may stand behind these tokens: the leaf that follows them in a file that begins with them
pub record Next (text : List ℕ) (front : List Token) : Type 0 where
  pub file : File
  pub fits : IsFile file
  pub before : List Leaf
  pub leaf : Leaf
  pub behind : List Leaf
  pub is : leaves file ≡ before ++ leaf ∷ behind
  pub spelt : Spelt text first_types before front

-- something may stand behind these tokens, and whatever may lies deeper than 128 levels
pub record AllTooDeep (text : List ℕ) (front : List Token) : Type 0 where
  pub some : Next text front
  pub each : (n : Next text front) → 128 < n.leaf.level

-- where whatever may stand there lies too deep, that is told before a feature that is left out
abbrev pub or_too_deep : Kind → Kind
or_too_deep (OutsideSubset f) = TooDeep
or_too_deep k = k

-- how a token is refused that may not stand behind these tokens
abbrev pub IsRefusalBehind : List ℕ → List Token → Token → Kind → Type 0
IsRefusalBehind text front t k = (AllTooDeep text front × (k ≡ or_too_deep (refusal_of t.kind))) ⊎ ((AllTooDeep text front → ⊥) × (k ≡ refusal_of t.kind))

-- with the token behind them the tokens begin no file
pub record IsUnexpected (text : List ℕ) (front : List Token) (t : Token) (k : Kind) : Type 0 where
  pub kind : IsRefusalBehind text front t k
  pub no_file : BeginsFile text (front ++ t ∷ []) → ⊥

-- with the token behind them the tokens begin a file, in which the token is the first over a limit
pub record IsOver (text : List ℕ) (front : List Token) (t : Token) (k : Kind) : Type 0 where
  pub file : File
  pub fits : IsFile file
  pub before : List Leaf
  pub leaf : Leaf
  pub behind : List Leaf
  pub is : leaves file ≡ before ++ leaf ∷ behind
  pub spelt : Spelt text first_types (before ++ leaf ∷ []) (front ++ t ∷ [])
  pub within : AllByRecursion (λ l. over l ≡ None) before
  pub fault : over leaf ≡ Some k

-- the refusal is for the first token up to which, itself included, the tokens begin no file within the limits
pub record RefusesTokens (text : List ℕ) (ts : List Token) (r : Refusal) : Type 0 where
  pub front : List Token
  pub token : Token
  pub behind : List Token
  pub is : ts ≡ front ++ token ∷ behind
  pub place : token.from ≡ r.place
  pub before : BeginsFileWithin text front
  pub cause : IsUnexpected text front token r.kind ⊎ IsOver text front token r.kind
