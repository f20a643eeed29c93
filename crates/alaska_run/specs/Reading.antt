-- What a text of the subset is read to, and why another is refused.
use Rattle.std.specs.Prelude.{◌≡◌, ℕ, ◌⊎◌, List, Some}
use Rattle.c_lex.specs.declared.token.Token.{Token}
use Rattle.c_lex.specs.declared.refusal.Refusal.{Refusal}
use Rattle.c_lex.specs.Tokens.{AreTokens}
use Rattle.c_lex.specs.Refusals.{RefusesText}
use Rattle.c_tree.specs.Syntax.{File}
use Rattle.c_tree.specs.Typed.{Typed}
use Rattle.c_grammar.specs.Language.{Parses, RefusesTokens}
use Rattle.c_typing.specs.Faults.{typed, first}
use Rattle.c_typing.specs.Programs.{judged_file}

-- the tokens of a text, which are a file of the grammar (C11 5.1.1.2, 6.4, 6.5 to 6.9)
pub record IsFileOf (text : List ℕ) (tokens : List Token) (f : File) : Type 0 where
  pub lexed : AreTokens text tokens
  pub parsed : Parses text tokens f

-- the tokens of a text, and the typed tree of the file that they are
pub record IsRead (text : List ℕ) (tokens : List Token) (t : Typed) : Type 0 where
  pub file : File
  pub of_text : IsFileOf text tokens file
  pub judged : judged_file text file ≡ typed t

-- the text has tokens, which are no file of the grammar
pub record RefusesGrammar (text : List ℕ) (r : Refusal) : Type 0 where
  pub tokens : List Token
  pub lexed : AreTokens text tokens
  pub refused : RefusesTokens text tokens r

-- they are a file, of which a name or a type breaks a rule
pub record RefusesTyping (text : List ℕ) (r : Refusal) : Type 0 where
  pub tokens : List Token
  pub file : File
  pub of_text : IsFileOf text tokens file
  pub refused : first (judged_file text file) ≡ Some r

-- why a text has no typed tree: it has no tokens; or else they are no file; or else a name or a type breaks a rule
abbrev pub Refuses : List ℕ → Refusal → Type 0
Refuses text r = RefusesText text r ⊎ RefusesGrammar text r ⊎ RefusesTyping text r

-- ---- what holds of each text

-- it has a typed tree, or is refused
abbrev pub EachIsRead : Type 0
EachIsRead = (text : List ℕ) → ((tokens : List Token) × (t : Typed) × IsRead text tokens t) ⊎ ((r : Refusal) × Refuses text r)

-- not both
abbrev pub NotBoth : Type 0
NotBoth = (text : List ℕ) (tokens : List Token) (t : Typed) (r : Refusal) → IsRead text tokens t → Refuses text r → ⊥

-- it has one typed tree at most, of one list of tokens
abbrev pub OneTree : Type 0
OneTree = (text : List ℕ) (ts us : List Token) (t u : Typed) → IsRead text ts t → IsRead text us u → (us ≡ ts) × (u ≡ t)

-- it is refused for one reason at most
abbrev pub OneReason : Type 0
OneReason = (text : List ℕ) (r s : Refusal) → Refuses text r → Refuses text s → r ≡ s
