-- Small files with names of types, worked out by hand: their tokens with the trees or the refusals that the definitions give. In all texts
-- but the first each token is one byte.
use Rattle.std.specs.Prelude.{ℕ, ◌+◌, pos, List, [], ◌∷◌, ◌++◌, codes, Some, None, true, false}
use Rattle.ak_words.specs.declared.operation.Op.TheVariants as ops
use Rattle.ak_words.specs.IntType.{int}
use Rattle.ak_words.specs.Num.{num}
use Rattle.c_lex.specs.declared.refusal.Kind.TheVariants.{UnexpectedToken}
use Rattle.c_lex.specs.declared.token.TokenKind.{TokenKind}
use Rattle.c_lex.specs.declared.token.TokenKind.TheVariants.{Name, Int, Word, Mark, End}
use Rattle.c_lex.specs.declared.token.Token.{Token}
use Rattle.c_lex.specs.declared.token.Mark.TheVariants as marks
use Rattle.c_lex.specs.declared.token.Word.TheVariants as words
use Rattle.c_lex.specs.Tokens.{token}
use Rattle.c_tree.specs.declared.syntax.Name.{Name as Span}
use Rattle.c_tree.specs.declared.syntax.TypeWord.TheVariants as types
use Rattle.c_tree.specs.declared.syntax.Pointer.TheVariants as pointers
use Rattle.c_tree.specs.declared.syntax.BinaryOp.TheVariants as binaries
use Rattle.c_tree.specs.Syntax as trees
use Rattle.c_grammar.specs.Language.{Parses, RefusesTokens}

-- ---- typedef int T;int main(void){int T=1;return 0;}

-- the text, byte by byte
abbrev pub long_text : List ℕ
long_text = codes "typedef int T;int main(void){int T=1;return 0;}"

-- its tokens before the second T
abbrev pub long_front : List Token
long_front = token (Word words.Typedef) 0 7 ∷ token (Word words.Int) 8 11 ∷ token Name 12 13 ∷ token (Mark marks.Semicolon) 13 14 ∷ token (Word words.Int) 14 17 ∷ token Name 18 22 ∷ token (Mark marks.OpenParen) 22 23
    ∷ token (Word words.Void) 23 27 ∷ token (Mark marks.CloseParen) 27 28 ∷ token (Mark marks.OpenBrace) 28 29 ∷ token (Word words.Int) 29 32 ∷ []

-- its tokens behind the second T
abbrev pub long_rest : List Token
long_rest = token (Mark marks.Assign) 34 35 ∷ token (Int (num int (pos 1))) 35 36 ∷ token (Mark marks.Semicolon) 36 37 ∷ token (Word words.Return) 37 43 ∷ token (Int (num int (pos 0))) 44 45 ∷ token (Mark marks.Semicolon) 45 46
    ∷ token (Mark marks.CloseBrace) 46 47 ∷ []

-- ---- tokens of one byte

-- tokens of these kinds, each of one byte, from this place on
abbrev pub bytes : ℕ → List TokenKind → List Token
bytes n [] = []
bytes n (k ∷ ks) = token k n (n + 1) ∷ bytes (n + 1) ks

-- typedef int T;
abbrev pub first : List TokenKind → List TokenKind
first ks = Word words.Typedef ∷ Word words.Int ∷ Name ∷ Mark marks.Semicolon ∷ ks

-- int f(){
abbrev pub body : List TokenKind → List TokenKind
body ks = Word words.Int ∷ Name ∷ Mark marks.OpenParen ∷ Mark marks.CloseParen ∷ Mark marks.OpenBrace ∷ ks

-- ;} and the end
abbrev pub close : List TokenKind
close = Mark marks.Semicolon ∷ Mark marks.CloseBrace ∷ End ∷ []

-- the byte at a place
abbrev pub at : ℕ → Span
at n = record { from = n; to = n + 1 }

-- the typedef of T
abbrev pub made : trees.External
made = trees.types_by (trees.word 1 types.Int ∷ []) (trees.declarator [] (at 2) trees.no_exprs ∷ [])

-- a function at a place with one item in its body
abbrev pub with_body : ℕ → trees.Stmt → trees.External
with_body n s = trees.external_of [] (trees.word n types.Int ∷ []) (trees.function [] (at (n + 1)) [] (Some (record { place = n + 4; items = s ∷ [] })))

-- the file of these externals
abbrev pub file_of : List trees.External → trees.File
file_of es = record { externals = es }

-- typedef int T;int f(){(T)x;}
abbrev pub cast_kinds : List TokenKind
cast_kinds = first (body (Mark marks.OpenParen ∷ Name ∷ Mark marks.CloseParen ∷ Name ∷ close))

-- its tree: a cast, since T is a type
abbrev pub cast_file : trees.File
cast_file = file_of (made ∷ with_body 4 (trees.simple (trees.eval (trees.cast 9 (trees.type_name (trees.more_specs (trees.alias (at 10)) trees.no_specs) []) (trees.name (at 12))))) ∷ [])

-- typedef int T;int f(){T*x;} and int f(){T*x;}
abbrev pub star_kinds : List TokenKind
star_kinds = body (Name ∷ Mark marks.Star ∷ Name ∷ close)

-- the first one's tree: x is declared as a pointer
abbrev pub declaration_file : trees.File
declaration_file = file_of (made ∷ with_body 4 (trees.declare (record { specs = trees.alias (at 9) ∷ []; declarators = record { declarator = trees.declarator (pointers.Star ∷ []) (at 11) trees.no_exprs; value = None } ∷ [] })) ∷ [])

-- the second one's tree: a product, since T is no type
abbrev pub product_file : trees.File
product_file = file_of (with_body 0 (trees.simple (trees.eval (trees.binary 6 (binaries.Value ops.Mul) (trees.name (at 5)) (trees.name (at 7))))) ∷ [])

-- typedef int T,*U[sizeof(T)];
abbrev pub comma_kinds : List TokenKind
comma_kinds = Word words.Typedef ∷ Word words.Int ∷ Name ∷ Mark marks.Comma ∷ Mark marks.Star ∷ Name ∷ Mark marks.OpenBracket ∷ Word words.Sizeof ∷ Mark marks.OpenParen ∷ Name ∷ Mark marks.CloseParen ∷ Mark marks.CloseBracket ∷ Mark marks.Semicolon ∷ End ∷ []

-- its tree: the second declarator's size is that of the first one's type
abbrev pub comma_file : trees.File
comma_file = file_of (trees.types_by (trees.word 1 types.Int ∷ []) (trees.declarator [] (at 2) trees.no_exprs
    ∷ trees.declarator (pointers.Star ∷ []) (at 5) (trees.more_exprs (trees.sizeof_type 7 (trees.type_name (trees.more_specs (trees.alias (at 9)) trees.no_specs) [])) trees.no_exprs) ∷ []) ∷ [])

-- typedef int T[sizeof(T)];
abbrev pub own_kinds : List TokenKind
own_kinds = Word words.Typedef ∷ Word words.Int ∷ Name ∷ Mark marks.OpenBracket ∷ Word words.Sizeof ∷ Mark marks.OpenParen ∷ Name ∷ Mark marks.CloseParen ∷ Mark marks.CloseBracket ∷ Mark marks.Semicolon ∷ End ∷ []

-- its tree: T is no type yet in its own declarator
abbrev pub own_file : trees.File
own_file = file_of (trees.types_by (trees.word 1 types.Int ∷ []) (trees.declarator [] (at 2) (trees.more_exprs (trees.sizeof_expr 4 (trees.group (trees.name (at 6)))) trees.no_exprs) ∷ []) ∷ [])

-- typedef int T;const T x;
abbrev pub const_kinds : List TokenKind
const_kinds = first (Word words.Const ∷ Name ∷ Name ∷ Mark marks.Semicolon ∷ End ∷ [])

-- its tree: T is the specifier
abbrev pub const_file : trees.File
const_file = file_of (made ∷ trees.external_of [] (trees.word 4 types.Const ∷ trees.alias (at 5) ∷ []) (trees.variables (record { declarator = trees.declarator [] (at 6) trees.no_exprs; value = None } ∷ [])) ∷ [])

-- int f(){(x)x;}, typedef int T;int T x; and typedef int T;T T;
abbrev pub group_kinds : List TokenKind
group_kinds = body (Mark marks.OpenParen ∷ Name ∷ Mark marks.CloseParen ∷ Name ∷ close)

-- behind int T is no specifier, and no name of a variable
abbrev pub twice_kinds : List TokenKind
twice_kinds = first (Word words.Int ∷ Name ∷ Name ∷ Mark marks.Semicolon ∷ End ∷ [])

-- the second T is no name of a variable
abbrev pub again_kinds : List TokenKind
again_kinds = first (Name ∷ Name ∷ Mark marks.Semicolon ∷ End ∷ [])

-- typedef int T;typedef int T; and typedef int T;typedef const T;
abbrev pub anew_kinds : List TokenKind
anew_kinds = first (first (End ∷ []))

-- the first one's tree: the same name twice
abbrev pub anew_file : trees.File
anew_file = file_of (made ∷ trees.types_by (trees.word 5 types.Int ∷ []) (trees.declarator [] (at 6) trees.no_exprs ∷ []) ∷ [])

-- T is the specifier, so that no declarator is left
abbrev pub bare_kinds : List TokenKind
bare_kinds = first (Word words.Typedef ∷ Word words.Const ∷ Name ∷ Mark marks.Semicolon ∷ End ∷ [])

-- typedef struct n n;struct n{n*n;int n;};
abbrev pub node_kinds : List TokenKind
node_kinds = Word words.Typedef ∷ Word words.Struct ∷ Name ∷ Name ∷ Mark marks.Semicolon ∷ Word words.Struct ∷ Name ∷ Mark marks.OpenBrace ∷ Name ∷ Mark marks.Star ∷ Name ∷ Mark marks.Semicolon ∷ Word words.Int ∷ Name ∷ Mark marks.Semicolon ∷ Mark marks.CloseBrace ∷ Mark marks.Semicolon ∷ End ∷ []

-- its tree: in the braces n is first the type's name, then a member's
abbrev pub node_file : trees.File
node_file = file_of (trees.types_by (trees.struct 1 (at 2) ∷ []) (trees.declarator [] (at 3) trees.no_exprs ∷ [])
    ∷ trees.external_of [] (trees.struct_body 5 (at 6) (trees.more_members (trees.members_of (trees.more_specs (trees.alias (at 8)) trees.no_specs) (trees.more_declarators (trees.declarator (pointers.Star ∷ []) (at 10) trees.no_exprs) trees.no_declarators))
    (trees.more_members (trees.members_of (trees.more_specs (trees.word 12 types.Int) trees.no_specs) (trees.more_declarators (trees.declarator [] (at 13) trees.no_exprs) trees.no_declarators)) trees.no_members)) ∷ []) trees.nothing ∷ [])

-- int f(){switch(1){case 1:default:case 1?1:1:;}do;while(1);}
abbrev pub one : TokenKind
one = Int (num int (pos 1))

-- the kinds of its tokens
abbrev pub switch_kinds : List TokenKind
switch_kinds = body (Word words.Switch ∷ Mark marks.OpenParen ∷ one ∷ Mark marks.CloseParen ∷ Mark marks.OpenBrace ∷ Word words.Case ∷ one ∷ Mark marks.Colon ∷ Word words.Default ∷ Mark marks.Colon ∷ Word words.Case ∷ one ∷ Mark marks.Question ∷ one ∷ Mark marks.Colon ∷ one ∷ Mark marks.Colon
    ∷ Mark marks.Semicolon ∷ Mark marks.CloseBrace ∷ Word words.Do ∷ Mark marks.Semicolon ∷ Word words.While ∷ Mark marks.OpenParen ∷ one ∷ Mark marks.CloseParen ∷ close)

-- a 1 at a place
abbrev pub one_at : ℕ → trees.Expr
one_at n = trees.int n (num int (pos 1))

-- its tree: three labels and an empty statement, then a do
abbrev pub switch_file : trees.File
switch_file = file_of (trees.external_of [] (trees.word 0 types.Int ∷ []) (trees.function [] (at 1) [] (Some (record {
  place = 4;
  items = trees.switch 5 (one_at 7) (trees.more_stmts (trees.case_label 10 (one_at 11)) (trees.more_stmts (trees.default_label 13)
      (trees.more_stmts (trees.case_label 15 (trees.conditional 17 (one_at 16) (one_at 18) (one_at 20))) (trees.more_stmts (trees.empty 22) trees.no_stmts)))) ∷ trees.do_while 24 (trees.empty 25) (one_at 28) ∷ [];
}))) ∷ [])

-- enum k{A,B=1,};struct{enum k k;}x;
abbrev pub enum_kinds : List TokenKind
enum_kinds = Word words.Enum ∷ Name ∷ Mark marks.OpenBrace ∷ Name ∷ Mark marks.Comma ∷ Name ∷ Mark marks.Assign ∷ one ∷ Mark marks.Comma ∷ Mark marks.CloseBrace ∷ Mark marks.Semicolon
    ∷ Word words.Struct ∷ Mark marks.OpenBrace ∷ Word words.Enum ∷ Name ∷ Name ∷ Mark marks.Semicolon ∷ Mark marks.CloseBrace ∷ Name ∷ Mark marks.Semicolon ∷ End ∷ []

-- its tree: a comma behind the last enumerator, and a struct without a tag
abbrev pub enum_file : trees.File
enum_file = file_of (trees.external_of [] (trees.enum_body 0 (at 1) (trees.more_enumerators (trees.enumerator (at 3) true) (trees.more_enumerators (trees.valued (at 5) (one_at 7) true) trees.no_enumerators)) ∷ []) trees.nothing
    ∷ trees.external_of [] (trees.unnamed_struct 11 (trees.more_members (trees.members_of (trees.more_specs (trees.enum 13 (at 14)) trees.no_specs) (trees.more_declarators (trees.declarator [] (at 15) trees.no_exprs) trees.no_declarators)) trees.no_members) ∷ [])
    (trees.variables (record { declarator = trees.declarator [] (at 18) trees.no_exprs; value = None } ∷ [])) ∷ [])

-- typedef enum{A}T;
abbrev pub unnamed_kinds : List TokenKind
unnamed_kinds = Word words.Typedef ∷ Word words.Enum ∷ Mark marks.OpenBrace ∷ Name ∷ Mark marks.CloseBrace ∷ Name ∷ Mark marks.Semicolon ∷ End ∷ []

-- its tree: an enum without a tag has the name T
abbrev pub unnamed_file : trees.File
unnamed_file = file_of (trees.types_by (trees.unnamed_enum 1 (trees.more_enumerators (trees.enumerator (at 3) false) trees.no_enumerators) ∷ []) (trees.declarator [] (at 5) trees.no_exprs ∷ []) ∷ [])

-- enum{}; and enum{A,,}; and enum{A B};
abbrev pub none_kinds : List TokenKind
none_kinds = Word words.Enum ∷ Mark marks.OpenBrace ∷ Mark marks.CloseBrace ∷ Mark marks.Semicolon ∷ End ∷ []

-- two commas
abbrev pub commas_kinds : List TokenKind
commas_kinds = Word words.Enum ∷ Mark marks.OpenBrace ∷ Name ∷ Mark marks.Comma ∷ Mark marks.Comma ∷ Mark marks.CloseBrace ∷ Mark marks.Semicolon ∷ End ∷ []

-- no comma between two enumerators
abbrev pub beside_kinds : List TokenKind
beside_kinds = Word words.Enum ∷ Mark marks.OpenBrace ∷ Name ∷ Name ∷ Mark marks.CloseBrace ∷ Mark marks.Semicolon ∷ End ∷ []

-- int f(){enum{A}x;}
abbrev pub inside_kinds : List TokenKind
inside_kinds = body (Word words.Enum ∷ Mark marks.OpenBrace ∷ Name ∷ Mark marks.CloseBrace ∷ Name ∷ close)

-- typedef int T;enum{T};
abbrev pub taken_kinds : List TokenKind
taken_kinds = first (Word words.Enum ∷ Mark marks.OpenBrace ∷ Name ∷ Mark marks.CloseBrace ∷ Mark marks.Semicolon ∷ End ∷ [])

-- ---- atomic_int a;_Atomic int b;

-- the text, byte by byte
abbrev pub atomic_text : List ℕ
atomic_text = codes "atomic_int a;_Atomic int b;"

-- its tokens
abbrev pub atomic_tokens : List Token
atomic_tokens = token Name 0 10 ∷ token Name 11 12 ∷ token (Mark marks.Semicolon) 12 13 ∷ token (Word words.Atomic) 13 20 ∷ token (Word words.Int) 21 24 ∷ token Name 25 26 ∷ token (Mark marks.Semicolon) 26 27 ∷ token End 27 27 ∷ []

-- a variable of these specifiers, with its name at a place
abbrev pub variable_at : ℕ → List trees.Spec → trees.External
variable_at n specs = trees.external_of [] specs (trees.variables (record { declarator = trees.declarator [] (at n) trees.no_exprs; value = None } ∷ []))

-- its tree: the name of a type from the start on, and a word among the specifiers
abbrev pub atomic_file : trees.File
atomic_file = file_of (variable_at 11 (trees.alias (record { from = 0; to = 10 }) ∷ []) ∷ variable_at 25 (trees.word 13 types.Atomic ∷ trees.word 21 types.Int ∷ []) ∷ [])

-- int*_Atomic x; and _Atomic(int)x;
abbrev pub behind_star_kinds : List TokenKind
behind_star_kinds = Word words.Int ∷ Mark marks.Star ∷ Word words.Atomic ∷ Name ∷ Mark marks.Semicolon ∷ End ∷ []

-- the word stands among specifiers alone
abbrev pub with_bracket_kinds : List TokenKind
with_bracket_kinds = Word words.Atomic ∷ Mark marks.OpenParen ∷ Word words.Int ∷ Mark marks.CloseParen ∷ Name ∷ Mark marks.Semicolon ∷ End ∷ []

-- each text's tree or refusal; beside a text of longer tokens they are spelt by one byte each
pub record TextRows : Type 0 where
  -- a type's name is no name of a variable
  pub refused : RefusesTokens long_text (long_front ++ token Name 33 34 ∷ long_rest ++ token End 47 47 ∷ []) (record { place = 33; kind = UnexpectedToken })
  -- the same marks with and without a typedef before them
  pub cast : Parses (codes "tiT;if(){(T)x;}") (bytes 0 cast_kinds) cast_file
  pub group : RefusesTokens (codes "if(){(x)x;}") (bytes 0 group_kinds) (record { place = 8; kind = UnexpectedToken })
  pub declaration : Parses (codes "tiT;if(){T*x;}") (bytes 0 (first star_kinds)) declaration_file
  pub product : Parses (codes "if(){T*x;}") (bytes 0 star_kinds) product_file
  -- from directly after its declarator on, not before
  pub comma : Parses (codes "tiT,*U[s(T)];") (bytes 0 comma_kinds) comma_file
  pub own : Parses (codes "tiT[s(T)];") (bytes 0 own_kinds) own_file
  -- a specifier only where no type stands before it
  pub const : Parses (codes "tiT;cTx;") (bytes 0 const_kinds) const_file
  pub twice : RefusesTokens (codes "tiT;iTx;") (bytes 0 twice_kinds) (record { place = 5; kind = UnexpectedToken })
  pub again : RefusesTokens (codes "tiT;TT;") (bytes 0 again_kinds) (record { place = 5; kind = UnexpectedToken })
  -- any name in a typedef or a struct, but directly behind specifiers without a type no type's
  pub anew : Parses (codes "tiT;tiT;") (bytes 0 anew_kinds) anew_file
  pub bare : RefusesTokens (codes "tiT;tcT;") (bytes 0 bare_kinds) (record { place = 7; kind = UnexpectedToken })
  pub node : Parses (codes "tsnn;sn{n*n;in;};") (bytes 0 node_kinds) node_file
  -- labels
  pub switch : Parses (codes "if(){s(1){C1:D:C1?1:1:;}d;w(1);}") (bytes 0 switch_kinds) switch_file
  -- one comma between each two enumerators, and at most one behind the last; a struct or an enum may have no tag
  pub enum : Parses (codes "ek{A,B=1,};s{ekk;}x;") (bytes 0 enum_kinds) enum_file
  pub unnamed : Parses (codes "te{A}T;") (bytes 0 unnamed_kinds) unnamed_file
  pub none : RefusesTokens (codes "e{};") (bytes 0 none_kinds) (record { place = 2; kind = UnexpectedToken })
  pub commas : RefusesTokens (codes "e{A,,};") (bytes 0 commas_kinds) (record { place = 4; kind = UnexpectedToken })
  pub beside : RefusesTokens (codes "e{AB};") (bytes 0 beside_kinds) (record { place = 3; kind = UnexpectedToken })
  -- their braces stand at file scope alone, and no enumerator has a type's name
  pub inside : RefusesTokens (codes "if(){e{A}x;}") (bytes 0 inside_kinds) (record { place = 6; kind = UnexpectedToken })
  pub taken : RefusesTokens (codes "tiT;e{T};") (bytes 0 taken_kinds) (record { place = 6; kind = UnexpectedToken })
  -- atomic types
  pub atomic : Parses atomic_text atomic_tokens atomic_file
  pub behind_star : RefusesTokens (codes "i*Ax;") (bytes 0 behind_star_kinds) (record { place = 2; kind = UnexpectedToken })
  pub with_bracket : RefusesTokens (codes "A(i)x;") (bytes 0 with_bracket_kinds) (record { place = 1; kind = UnexpectedToken })
