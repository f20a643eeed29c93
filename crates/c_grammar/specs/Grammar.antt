-- The grammar (C11 6.5 to 6.9): the tokens of each tree, from left to right, and which trees are in it.
use Rattle.std.specs.Prelude.{◌≡◌, ℕ, ◌+◌, ◌≤◌, List, [], ◌∷◌, ◌++◌, map, Option, Some, None, Bool, true, false, ◌||◌}
use Rattle.std.specs.List.{AllByRecursion}
use Rattle.ak_words.specs.declared.operation.Op.TheVariants as ops
use Rattle.c_lex.specs.declared.token.Word.{Word}
use Rattle.c_lex.specs.declared.token.Word.TheVariants as words
use Rattle.c_lex.specs.declared.token.Mark.{Mark}
use Rattle.c_lex.specs.declared.token.Mark.TheVariants as marks
use Rattle.c_tree.specs.declared.syntax.Name.{Name}
use Rattle.c_tree.specs.declared.syntax.TypeWord.{TypeWord}
use Rattle.c_tree.specs.declared.syntax.TypeWord.TheVariants as types
use Rattle.c_tree.specs.declared.syntax.Pointer.{Pointer}
use Rattle.c_tree.specs.declared.syntax.Pointer.TheVariants.{Star, Const, Restrict}
use Rattle.c_tree.specs.declared.syntax.Storage.{Storage}
use Rattle.c_tree.specs.declared.syntax.Storage.TheVariants as storages
use Rattle.c_tree.specs.declared.syntax.PrefixOp.{PrefixOp}
use Rattle.c_tree.specs.declared.syntax.PrefixOp.TheVariants as prefixes
use Rattle.c_tree.specs.declared.syntax.BinaryOp.{BinaryOp}
use Rattle.c_tree.specs.declared.syntax.BinaryOp.TheVariants.{Value, AndAnd, OrOr}
use Rattle.c_tree.specs.declared.syntax.StepOp.{StepOp}
use Rattle.c_tree.specs.declared.syntax.StepOp.TheVariants as steps
use Rattle.c_tree.specs.declared.syntax.AssignOp.{AssignOp}
use Rattle.c_tree.specs.declared.syntax.AssignOp.TheVariants as assigns
use Rattle.c_tree.specs.Syntax.{Expr, name, call, int, char, text, null, group, prefix, sizeof_type, sizeof_expr, cast, index, member, arrow, binary, conditional, Exprs, no_exprs, more_exprs, TypeName, type_name, Spec, word, struct, struct_body, unnamed_struct, enum, enum_body, unnamed_enum, alias, Enumerator, enumerator, valued, Enumerators, no_enumerators, more_enumerators, Specs, no_specs, more_specs, Member, members_of, Members, no_members, more_members, Declarator, declarator, Declarators, no_declarators, more_declarators, InitDeclarator, Declaration, ParamDim, Param, Simple, before, after, assign, eval, ForFirst, first_declare, first_simple, first_nothing, Stmt, block, declare, empty, if_then, if_else, while, for, break, continue, return, simple, Stmts, no_stmts, more_stmts, Body, Rest, nothing, function, variables, External, types_by, external_of, File, specs_of, do_while, switch, case_label, default_label}
use Rattle.c_grammar.specs.Leaves.{Sign, name_at, type_at, tag_at, declares, int_at, char_at, text_at, word_at, some_word, mark_at, some_mark, the_end, Leaf, at, operator_at, derivation_at}

-- ---- words and marks

-- how a word among the specifiers is written (C11 6.7.1 to 6.7.3; size_t, thrd_t and mtx_t are words by this project's profile)
abbrev pub word_of_type : TypeWord → Word
word_of_type types.Void = words.Void
word_of_type types.Char = words.Char
word_of_type types.Short = words.Short
word_of_type types.Int = words.Int
word_of_type types.Long = words.Long
word_of_type types.Signed = words.Signed
word_of_type types.Unsigned = words.Unsigned
word_of_type types.SizeT = words.SizeT
word_of_type types.ThrdT = words.ThrdT
word_of_type types.MtxT = words.MtxT
word_of_type types.Const = words.Const
word_of_type types.Register = words.Register
word_of_type types.Auto = words.Auto
word_of_type types.Atomic = words.Atomic

-- how static and inline are written (C11 6.7.1, 6.7.4)
abbrev pub word_of_storage : Storage → Word
word_of_storage storages.Static = words.Static
word_of_storage storages.Inline = words.Inline

-- how a prefix operator is written (C11 6.5.3.2, 6.5.3.3)
abbrev pub mark_of_prefix : PrefixOp → Mark
mark_of_prefix prefixes.Minus = marks.Minus
mark_of_prefix prefixes.Plus = marks.Plus
mark_of_prefix prefixes.Not = marks.Bang
mark_of_prefix prefixes.Complement = marks.Tilde
mark_of_prefix prefixes.Deref = marks.Star
mark_of_prefix prefixes.AddressOf = marks.Ampersand

-- how a binary operator is written (C11 6.5.5 to 6.5.14)
abbrev pub mark_of_binary : BinaryOp → Mark
mark_of_binary (Value ops.Mul) = marks.Star
mark_of_binary (Value ops.Div) = marks.Slash
mark_of_binary (Value ops.Rem) = marks.Percent
mark_of_binary (Value ops.Add) = marks.Plus
mark_of_binary (Value ops.Sub) = marks.Minus
mark_of_binary (Value ops.Shl) = marks.ShiftLeft
mark_of_binary (Value ops.Shr) = marks.ShiftRight
mark_of_binary (Value ops.Lt) = marks.Less
mark_of_binary (Value ops.Gt) = marks.Greater
mark_of_binary (Value ops.Le) = marks.LessEqual
mark_of_binary (Value ops.Ge) = marks.GreaterEqual
mark_of_binary (Value ops.Eq) = marks.EqualEqual
mark_of_binary (Value ops.Ne) = marks.NotEqual
mark_of_binary (Value ops.And) = marks.Ampersand
mark_of_binary (Value ops.Xor) = marks.Caret
mark_of_binary (Value ops.Or) = marks.Bar
mark_of_binary AndAnd = marks.AndAnd
mark_of_binary OrOr = marks.OrOr

-- how an increment or decrement is written (C11 6.5.2.4, 6.5.3.1)
abbrev pub mark_of_step : StepOp → Mark
mark_of_step steps.Increment = marks.PlusPlus
mark_of_step steps.Decrement = marks.MinusMinus

-- how an assignment operator is written (C11 6.5.16)
abbrev pub mark_of_assign : AssignOp → Mark
mark_of_assign assigns.Plain = marks.Assign
mark_of_assign assigns.Add = marks.PlusAssign
mark_of_assign assigns.Sub = marks.MinusAssign
mark_of_assign assigns.Mul = marks.StarAssign
mark_of_assign assigns.Div = marks.SlashAssign
mark_of_assign assigns.Rem = marks.PercentAssign
mark_of_assign assigns.And = marks.AmpersandAssign
mark_of_assign assigns.Or = marks.BarAssign
mark_of_assign assigns.Xor = marks.CaretAssign
mark_of_assign assigns.Shl = marks.ShiftLeftAssign
mark_of_assign assigns.Shr = marks.ShiftRightAssign

-- the word is of a type: const, register, auto and _Atomic are not
abbrev pub is_of_type : TypeWord → Bool
is_of_type types.Const = false
is_of_type types.Register = false
is_of_type types.Auto = false
is_of_type types.Atomic = false
is_of_type _ = true

-- whether a type stands before what is behind the specifier
abbrev pub typed_by : Bool → Spec → Bool
typed_by t (word place w) = t || is_of_type w
typed_by t _ = true

-- the same of specifiers
abbrev pub typed_row : Bool → Specs → Bool
typed_row t no_specs = t
typed_row t (more_specs s rest) = typed_row (typed_by t s) rest

-- how the name in a declarator is told: as no type's; as any, in a typedef or a struct; or as any, but directly behind specifiers with no type
-- among them as no type's, since a type's name is one of those
pub data Naming : Type 0 where
  as_name : Naming
  as_any : Naming
  as_bare : Naming

-- what the token of a declared name must be, behind these stars and qualifiers
abbrev pub declared_at : Naming → List Pointer → Name → Sign
declared_at as_name ps n = name_at n
declared_at as_any ps n = tag_at n
declared_at as_bare [] n = name_at n
declared_at as_bare (p ∷ ps) n = tag_at n

-- behind specifiers, with a type among them or none
abbrev pub naming_of : Bool → Naming
naming_of true = as_any
naming_of false = as_bare

-- ---- the tokens of an expression at a level, with so many operators of its full expression before it

-- the operators of the full expression that are before what follows the expression
abbrev mutual
  -- the count behind an expression: each index, member, arrow and binary operator in it adds one
  pub counted : ℕ → Expr → ℕ
  counted c (name n) = c
  counted c (call callee args) = counted_all c args
  counted c (int place value) = c
  counted c (char place value) = c
  counted c (text parts) = c
  counted c (null place) = c
  counted c (group e) = counted c e
  counted c (prefix place op e) = counted c e
  counted c (sizeof_type place t) = c
  counted c (sizeof_expr place e) = counted c e
  counted c (cast place t e) = counted c e
  counted c (index place a i) = counted (counted c a + 1) i
  counted c (member place a m) = counted c a + 1
  counted c (arrow place a m) = counted c a + 1
  counted c (binary place op a b) = counted (counted c a + 1) b
  counted c (conditional place a b e) = counted (counted (counted c a) b) e

  -- the count behind the arguments of a call, from the first to the last
  pub counted_all : ℕ → Exprs → ℕ
  counted_all c no_exprs = c
  counted_all c (more_exprs e rest) = counted_all (counted c e) rest

-- stars, const and restrict, with so many stars before them
abbrev pub on_pointers : ℕ → ℕ → List Pointer → List Leaf
on_pointers d n [] = []
on_pointers d n (Star ∷ ps) = derivation_at d (n + 1) (some_mark marks.Star) ∷ on_pointers d (n + 1) ps
on_pointers d n (Const ∷ ps) = at d (some_word words.Const) ∷ on_pointers d n ps
on_pointers d n (Restrict ∷ ps) = at d (some_word words.Restrict) ∷ on_pointers d n ps

-- how many stars there are up to the end of the list, with so many before it
abbrev pub stars : ℕ → List Pointer → ℕ
stars n [] = n
stars n (Star ∷ ps) = stars (n + 1) ps
stars n (Const ∷ ps) = stars n ps
stars n (Restrict ∷ ps) = stars n ps

-- a comma, where there is one
abbrev pub on_comma : ℕ → Bool → List Leaf
on_comma d true = at d (some_mark marks.Comma) ∷ []
on_comma d false = []

abbrev mutual
  -- an expression (C11 6.5), with its operators numbered; a bracketed part, the operand of a prefix operator, of sizeof or of a
  -- cast, and the second and third operand of ?: lie one level deeper (this project's profile)
  pub on : ℕ → ℕ → Expr → List Leaf
  on d c (name n) = at d (name_at n) ∷ []
  on d c (call callee args) = at d (name_at callee) ∷ at (d + 1) (some_mark marks.OpenParen) ∷ on_args (d + 1) c args ++ at (d + 1) (some_mark marks.CloseParen) ∷ []
  on d c (int place value) = at d (int_at place value) ∷ []
  on d c (char place value) = at d (char_at place value) ∷ []
  on d c (text parts) = map (λ s. at d (text_at s)) parts
  on d c (null place) = at d (word_at place words.Null) ∷ []
  on d c (group e) = at (d + 1) (some_mark marks.OpenParen) ∷ on (d + 1) c e ++ at (d + 1) (some_mark marks.CloseParen) ∷ []
  on d c (prefix place op e) = at d (mark_at place (mark_of_prefix op)) ∷ on (d + 1) c e
  on d c (sizeof_type place t) = at d (word_at place words.Sizeof) ∷ at (d + 2) (some_mark marks.OpenParen) ∷ on_type (d + 2) t ++ at (d + 2) (some_mark marks.CloseParen) ∷ []
  on d c (sizeof_expr place e) = at d (word_at place words.Sizeof) ∷ on (d + 1) c e
  on d c (cast place t e) = at (d + 1) (mark_at place marks.OpenParen) ∷ on_type (d + 1) t ++ at (d + 1) (some_mark marks.CloseParen) ∷ on (d + 1) c e
  on d c (index place a i) = on d c a ++ operator_at (d + 1) (counted c a + 1) (mark_at place marks.OpenBracket) ∷ on (d + 1) (counted c a + 1) i ++ at (d + 1) (some_mark marks.CloseBracket) ∷ []
  on d c (member place a m) = on d c a ++ operator_at d (counted c a + 1) (mark_at place marks.Dot) ∷ at d (tag_at m) ∷ []
  on d c (arrow place a m) = on d c a ++ operator_at d (counted c a + 1) (mark_at place marks.Arrow) ∷ at d (tag_at m) ∷ []
  on d c (binary place op a b) = on d c a ++ operator_at d (counted c a + 1) (mark_at place (mark_of_binary op)) ∷ on d (counted c a + 1) b
  on d c (conditional place a b e) = on d c a ++ at d (mark_at place marks.Question) ∷ on (d + 1) (counted c a) b ++ at d (some_mark marks.Colon) ∷ on (d + 1) (counted (counted c a) b) e

  -- expressions with commas between them
  pub on_args : ℕ → ℕ → Exprs → List Leaf
  on_args d c no_exprs = []
  on_args d c (more_exprs e rest) = on d c e ++ on_more_args d (counted c e) rest

  -- the expressions behind the first, each with a comma before it
  pub on_more_args : ℕ → ℕ → Exprs → List Leaf
  on_more_args d c no_exprs = []
  on_more_args d c (more_exprs e rest) = at d (some_mark marks.Comma) ∷ on d c e ++ on_more_args d (counted c e) rest

  -- sizes, each between brackets and a full expression of its own, with so many stars and dimensions before them
  pub on_dims : ℕ → ℕ → Exprs → List Leaf
  on_dims d n no_exprs = []
  on_dims d n (more_exprs e rest) = derivation_at (d + 1) (n + 1) (some_mark marks.OpenBracket) ∷ on (d + 1) 0 e ++ at (d + 1) (some_mark marks.CloseBracket) ∷ on_dims d (n + 1) rest

  -- the name of a type: its specifiers, and stars with their qualifiers behind them (C11 6.7.7)
  pub on_type : ℕ → TypeName → List Leaf
  on_type d (type_name specs ps) = on_specs d specs ++ on_pointers d 0 ps

  -- one specifier: a word, a type's name, or a struct or an enum, whose members or enumerators stand between braces one level
  -- deeper (C11 6.7.2, 6.7.2.1, 6.7.2.2)
  pub on_spec : ℕ → Spec → List Leaf
  on_spec d (word place w) = at d (word_at place (word_of_type w)) ∷ []
  on_spec d (struct place tag) = at d (word_at place words.Struct) ∷ at d (tag_at tag) ∷ []
  on_spec d (struct_body place tag members) = at d (word_at place words.Struct) ∷ at d (tag_at tag) ∷ at (d + 1) (some_mark marks.OpenBrace) ∷ on_members (d + 1) members ++ at (d + 1) (some_mark marks.CloseBrace) ∷ []
  on_spec d (unnamed_struct place members) = at d (word_at place words.Struct) ∷ at (d + 1) (some_mark marks.OpenBrace) ∷ on_members (d + 1) members ++ at (d + 1) (some_mark marks.CloseBrace) ∷ []
  on_spec d (enum place tag) = at d (word_at place words.Enum) ∷ at d (tag_at tag) ∷ []
  on_spec d (enum_body place tag list) = at d (word_at place words.Enum) ∷ at d (tag_at tag) ∷ at (d + 1) (some_mark marks.OpenBrace) ∷ on_enumerators (d + 1) list ++ at (d + 1) (some_mark marks.CloseBrace) ∷ []
  on_spec d (unnamed_enum place list) = at d (word_at place words.Enum) ∷ at (d + 1) (some_mark marks.OpenBrace) ∷ on_enumerators (d + 1) list ++ at (d + 1) (some_mark marks.CloseBrace) ∷ []
  on_spec d (alias n) = at d (type_at n) ∷ []

  -- an enumerator: its name, the value that it may have, a full expression, and the comma that may stand behind it (C11 6.7.2.2)
  pub on_enumerator : ℕ → Enumerator → List Leaf
  on_enumerator d (enumerator n comma) = at d (name_at n) ∷ on_comma d comma
  on_enumerator d (valued n e comma) = at d (name_at n) ∷ at d (some_mark marks.Assign) ∷ on d 0 e ++ on_comma d comma

  -- all that stands between the braces of an enum
  pub on_enumerators : ℕ → Enumerators → List Leaf
  on_enumerators d no_enumerators = []
  on_enumerators d (more_enumerators e rest) = on_enumerator d e ++ on_enumerators d rest

  -- specifiers, one behind the other
  pub on_specs : ℕ → Specs → List Leaf
  on_specs d no_specs = []
  on_specs d (more_specs s rest) = on_spec d s ++ on_specs d rest

  -- the members of a struct that are declared together, with the semicolon behind them (C11 6.7.2.1)
  pub on_member : ℕ → Member → List Leaf
  on_member d (members_of specs declarators) = on_specs d specs ++ on_declarators d (naming_of (typed_row false specs)) declarators ++ at d (some_mark marks.Semicolon) ∷ []

  -- all that stands between the braces of a struct
  pub on_members : ℕ → Members → List Leaf
  on_members d no_members = []
  on_members d (more_members m rest) = on_member d m ++ on_members d rest

  -- a declarator: stars with their qualifiers, the declared name, and its dimensions (C11 6.7.6)
  pub on_declared : ℕ → Naming → Declarator → List Leaf
  on_declared d k (declarator ps n dims) = on_pointers d 0 ps ++ at d (declared_at k ps n) ∷ on_dims d (stars 0 ps) dims

  -- declarators with commas between them
  pub on_declarators : ℕ → Naming → Declarators → List Leaf
  on_declarators d k no_declarators = []
  on_declarators d k (more_declarators e rest) = on_declared d k e ++ on_more_declarators d rest

  -- the declarators behind the first, each with a comma before it
  pub on_more_declarators : ℕ → Declarators → List Leaf
  on_more_declarators d no_declarators = []
  on_more_declarators d (more_declarators e rest) = at d (some_mark marks.Comma) ∷ on_declared d as_any e ++ on_more_declarators d rest

-- a declarator of no type's name
abbrev pub on_declarator : ℕ → Declarator → List Leaf
on_declarator d x = on_declared d as_name x

-- ---- which expressions and types are in the grammar

-- how many levels of binary operators bind tighter (C11 6.5.5 to 6.5.14)
abbrev pub height : BinaryOp → ℕ
height (Value ops.Mul) = 0
height (Value ops.Div) = 0
height (Value ops.Rem) = 0
height (Value ops.Add) = 1
height (Value ops.Sub) = 1
height (Value ops.Shl) = 2
height (Value ops.Shr) = 2
height (Value ops.Lt) = 3
height (Value ops.Gt) = 3
height (Value ops.Le) = 3
height (Value ops.Ge) = 3
height (Value ops.Eq) = 4
height (Value ops.Ne) = 4
height (Value ops.And) = 5
height (Value ops.Xor) = 6
height (Value ops.Or) = 7
height AndAnd = 8
height OrOr = 9

-- how loosely an expression binds: 0 a postfix, 1 a unary, 2 a cast, 3 to 12 a binary operator, 13 a conditional
abbrev pub rank : Expr → ℕ
rank (name n) = 0
rank (call callee args) = 0
rank (int place value) = 0
rank (char place value) = 0
rank (text parts) = 0
rank (null place) = 0
rank (group e) = 0
rank (prefix place op e) = 1
rank (sizeof_type place t) = 1
rank (sizeof_expr place e) = 1
rank (cast place t e) = 2
rank (index place a i) = 0
rank (member place a m) = 0
rank (arrow place a m) = 0
rank (binary place op a b) = height op + 3
rank (conditional place a b e) = 13

-- one or more
abbrev pub IsSome : {A : Type 0} → List A → Type 0
IsSome [] = ⊥
IsSome (a ∷ as_) = Unit {0}

-- a type's name is a specifier only where no type stands before it (C11 6.7.2)
abbrev pub OneNamed : Bool → Specs → Type 0
OneNamed typed no_specs = Unit {0}
OneNamed typed (more_specs (word place w) rest) = OneNamed (typed || is_of_type w) rest
OneNamed typed (more_specs (struct place tag) rest) = OneNamed true rest
OneNamed typed (more_specs (struct_body place tag ms) rest) = OneNamed true rest
OneNamed typed (more_specs (unnamed_struct place ms) rest) = OneNamed true rest
OneNamed typed (more_specs (enum place tag) rest) = OneNamed true rest
OneNamed typed (more_specs (enum_body place tag es) rest) = OneNamed true rest
OneNamed typed (more_specs (unnamed_enum place es) rest) = OneNamed true rest
OneNamed typed (more_specs (alias n) rest) = (typed ≡ false) × OneNamed true rest

-- there is one specifier or more, and no type's name behind a type
abbrev pub HasSpecs : Specs → Type 0
HasSpecs no_specs = ⊥
HasSpecs (more_specs s rest) = OneNamed false (more_specs s rest)

-- there is one declaration of members or more, as the braces of a struct must have (C11 6.7.2.1)
abbrev pub HasMembers : Members → Type 0
HasMembers no_members = ⊥
HasMembers (more_members m rest) = Unit {0}

-- a comma stands behind the enumerator
abbrev pub has_comma : Enumerator → Bool
has_comma (enumerator n comma) = comma
has_comma (valued n e comma) = comma

-- each stands directly behind a comma, the first of them where one is there
abbrev pub AreParted : Bool → Enumerators → Type 0
AreParted comma no_enumerators = Unit {0}
AreParted comma (more_enumerators e rest) = (comma ≡ true) × AreParted (has_comma e) rest

-- there is one enumerator or more, and a comma between each two; one may stand behind the last (C11 6.7.2.2)
abbrev pub HasEnumerators : Enumerators → Type 0
HasEnumerators no_enumerators = ⊥
HasEnumerators (more_enumerators e rest) = AreParted (has_comma e) rest

-- const directly behind specifiers is one of them, so what stands behind specifiers doesn't begin with it
abbrev pub StartsBare : List Pointer → Type 0
StartsBare (Const ∷ ps) = ⊥
StartsBare _ = Unit {0}

-- the declarator doesn't begin with const
abbrev pub StartsBareIn : Declarator → Type 0
StartsBareIn (declarator ps n dims) = StartsBare ps

-- there is one declarator or more, and the first, which stands directly behind the specifiers, doesn't begin with const
abbrev pub HasDeclarators : Declarators → Type 0
HasDeclarators no_declarators = ⊥
HasDeclarators (more_declarators d rest) = StartsBareIn d

-- the expression is in the grammar; in its types the braces of a struct may stand where it says so, at file scope
abbrev mutual
  -- each operand binds as tightly as its operator wants it (C11 6.5), the right one of a binary operator more tightly than the
  -- operator itself; and each part is in the grammar
  pub IsExpr : Bool → Expr → Type 0
  IsExpr b (name n) = Unit {0}
  IsExpr b (call callee args) = AreExprs b args
  IsExpr b (int place value) = Unit {0}
  IsExpr b (char place value) = Unit {0}
  IsExpr b (text parts) = IsSome parts
  IsExpr b (null place) = Unit {0}
  IsExpr b (group e) = IsExpr b e
  IsExpr b (prefix place op e) = (rank e ≤ 2) × IsExpr b e
  IsExpr b (sizeof_type place t) = IsType b t
  IsExpr b (sizeof_expr place e) = (rank e ≤ 1) × IsExpr b e
  IsExpr b (cast place t e) = IsType b t × (rank e ≤ 2) × IsExpr b e
  IsExpr b (index place a i) = (rank a ≤ 0) × IsExpr b a × IsExpr b i
  IsExpr b (member place a m) = (rank a ≤ 0) × IsExpr b a
  IsExpr b (arrow place a m) = (rank a ≤ 0) × IsExpr b a
  IsExpr b (binary place op l r) = (rank l ≤ height op + 3) × IsExpr b l × (rank r ≤ height op + 2) × IsExpr b r
  IsExpr b (conditional place a t e) = (rank a ≤ 12) × IsExpr b a × IsExpr b t × IsExpr b e

  -- each of the expressions is in the grammar
  pub AreExprs : Bool → Exprs → Type 0
  AreExprs b no_exprs = Unit {0}
  AreExprs b (more_exprs e rest) = IsExpr b e × AreExprs b rest

  -- the name of a type is in the grammar: one specifier or more, and behind them nothing that begins with const (C11 6.7.7)
  pub IsType : Bool → TypeName → Type 0
  IsType b (type_name specs ps) = HasSpecs specs × AreSpecs b specs × StartsBare ps

  -- the specifier is in the grammar: a struct or an enum has braces only where they may stand, and one member or enumerator or more
  -- between them
  pub IsSpec : Bool → Spec → Type 0
  IsSpec b (word place w) = Unit {0}
  IsSpec b (struct place tag) = Unit {0}
  IsSpec b (struct_body place tag members) = (b ≡ true) × HasMembers members × AreMembers members
  IsSpec b (unnamed_struct place members) = (b ≡ true) × HasMembers members × AreMembers members
  IsSpec b (enum place tag) = Unit {0}
  IsSpec b (enum_body place tag list) = (b ≡ true) × HasEnumerators list × AreEnumerators list
  IsSpec b (unnamed_enum place list) = (b ≡ true) × HasEnumerators list × AreEnumerators list
  IsSpec b (alias n) = Unit {0}

  -- the enumerator is in the grammar: the value that it may have is
  pub IsEnumerator : Enumerator → Type 0
  IsEnumerator (enumerator n comma) = Unit {0}
  IsEnumerator (valued n e comma) = IsExpr true e

  -- each of the enumerators is in the grammar
  pub AreEnumerators : Enumerators → Type 0
  AreEnumerators no_enumerators = Unit {0}
  AreEnumerators (more_enumerators e rest) = IsEnumerator e × AreEnumerators rest

  -- each of the specifiers is in the grammar
  pub AreSpecs : Bool → Specs → Type 0
  AreSpecs b no_specs = Unit {0}
  AreSpecs b (more_specs s rest) = IsSpec b s × AreSpecs b rest

  -- members declared together are in the grammar: specifiers and declarators, one or more of each; here a struct may have braces
  pub IsMember : Member → Type 0
  IsMember (members_of specs declarators) = HasSpecs specs × AreSpecs true specs × HasDeclarators declarators × AreDeclarators true declarators

  -- all between the braces of a struct is in the grammar
  pub AreMembers : Members → Type 0
  AreMembers no_members = Unit {0}
  AreMembers (more_members m rest) = IsMember m × AreMembers rest

  -- the declarator is in the grammar: the sizes in its dimensions are
  pub IsDeclarator : Bool → Declarator → Type 0
  IsDeclarator b (declarator ps n dims) = AreExprs b dims

  -- each of the declarators is in the grammar
  pub AreDeclarators : Bool → Declarators → Type 0
  AreDeclarators b no_declarators = Unit {0}
  AreDeclarators b (more_declarators d rest) = IsDeclarator b d × AreDeclarators b rest

-- ---- declarations (C11 6.7)

-- the parts of a list behind its first, each with a comma before it
abbrev pub on_more : {A : Type 0} → ℕ → (A → List Leaf) → List A → List Leaf
on_more d part [] = []
on_more d part (a ∷ as_) = at d (some_mark marks.Comma) ∷ part a ++ on_more d part as_

-- the parts of a list, with a comma between each two
abbrev pub on_commas : {A : Type 0} → ℕ → (A → List Leaf) → List A → List Leaf
on_commas d part [] = []
on_commas d part (a ∷ as_) = part a ++ on_more d part as_

-- lists with nothing between their parts
abbrev pub on_each : {A : Type 0} → (A → List Leaf) → List A → List Leaf
on_each part [] = []
on_each part (a ∷ as_) = part a ++ on_each part as_

-- a full expression
abbrev pub on_full : ℕ → Expr → List Leaf
on_full d e = on d 0 e

-- the initialiser behind a declarator, if there is one: = and a full expression (C11 6.7.9)
abbrev pub on_value : ℕ → Option Expr → List Leaf
on_value d None = []
on_value d (Some e) = at d (some_mark marks.Assign) ∷ on_full d e

-- a declarator with its initialiser
abbrev pub on_init_declarator : ℕ → InitDeclarator → List Leaf
on_init_declarator d i = on_declarator d i.declarator ++ on_value d i.value

-- a declaration: specifiers, declarators with commas between them, and a semicolon
abbrev pub on_declaration : ℕ → Declaration → List Leaf
on_declaration d x = on_each (on_spec d) x.specs ++ on_commas d (on_init_declarator d) x.declarators ++ at d (some_mark marks.Semicolon) ∷ []

-- the size between the brackets of a parameter's dimension, which may be left out (C11 6.7.6.2)
abbrev pub on_size : ℕ → Option Expr → List Leaf
on_size d None = []
on_size d (Some e) = on_full d e

-- the dimensions of a parameter, each between brackets, with so many stars and dimensions before them
abbrev pub on_param_dims : ℕ → ℕ → List ParamDim → List Leaf
on_param_dims d n [] = []
on_param_dims d n (x ∷ xs) = derivation_at (d + 1) (n + 1) (mark_at x.place marks.OpenBracket) ∷ on_size (d + 1) x.size ++ at (d + 1) (some_mark marks.CloseBracket) ∷ on_param_dims d (n + 1) xs

-- the name of a parameter, which may be left out
abbrev pub on_name : ℕ → Option Name → List Leaf
on_name d None = []
on_name d (Some n) = at d (name_at n) ∷ []

-- a parameter: specifiers, stars with their qualifiers, its name and its dimensions (C11 6.7.6.3)
abbrev pub on_param : ℕ → Param → List Leaf
on_param d p = on_each (on_spec d) p.specs ++ on_pointers d 0 p.pointers ++ on_name d p.name ++ on_param_dims d (stars 0 p.pointers) p.dims

-- there is one declarator or more, with or without initialisers, and the first doesn't begin with const
abbrev pub StartsBareFirst : List InitDeclarator → Type 0
StartsBareFirst [] = ⊥
StartsBareFirst (i ∷ is) = StartsBareIn i.declarator

-- there is one declarator or more, and the first doesn't begin with const
abbrev pub StartsBareOf : List Declarator → Type 0
StartsBareOf [] = ⊥
StartsBareOf (x ∷ ds) = StartsBareIn x

-- an expression that may be left out is in the grammar, if it is there
abbrev pub IsValue : Bool → Option Expr → Type 0
IsValue b None = Unit {0}
IsValue b (Some e) = IsExpr b e

-- the declarator is in the grammar, and so is its initialiser
abbrev pub IsInitDeclarator : Bool → InitDeclarator → Type 0
IsInitDeclarator b i = IsDeclarator b i.declarator × IsValue b i.value

-- specifiers: one or more
abbrev pub IsSpecList : Bool → List Spec → Type 0
IsSpecList b specs = HasSpecs (specs_of specs) × AllByRecursion (IsSpec b) specs

-- the declaration is in the grammar; the braces of a struct may stand in it where it says so
abbrev pub IsDeclaration : Bool → Declaration → Type 0
IsDeclaration b x = IsSpecList b x.specs × StartsBareFirst x.declarators × AllByRecursion (IsInitDeclarator b) x.declarators

-- no braces of a struct stand in a parameter
abbrev pub IsParam : Param → Type 0
IsParam p = IsSpecList false p.specs × StartsBare p.pointers × AllByRecursion (λ x. IsValue false x.size) p.dims

-- ---- statements (C11 6.8)

-- a simple statement, without its semicolon: one full expression, which increments or decrements, assigns, or is evaluated alone
-- (C11 6.8.3; that increments and assignments are no expressions is this project's profile)
abbrev pub on_simple : ℕ → Simple → List Leaf
on_simple d (before place op e) = at d (mark_at place (mark_of_step op)) ∷ on_full (d + 1) e
on_simple d (after place op e) = on_full d e ++ at d (mark_at place (mark_of_step op)) ∷ []
on_simple d (assign place op l r) = on d 0 l ++ at d (mark_at place (mark_of_assign op)) ∷ on d (counted 0 l) r
on_simple d (eval e) = on_full d e

-- a part that may be left out
abbrev pub on_maybe : {A : Type 0} → (A → List Leaf) → Option A → List Leaf
on_maybe part None = []
on_maybe part (Some a) = part a

-- what stands first between the brackets of a for, with its semicolon (C11 6.8.5.3)
abbrev pub on_first : ℕ → ForFirst → List Leaf
on_first d (first_declare x) = on_declaration d x
on_first d (first_simple s) = on_simple d s ++ at d (some_mark marks.Semicolon) ∷ []
on_first d first_nothing = at d (some_mark marks.Semicolon) ∷ []

-- a full expression between brackets
abbrev pub on_bracketed : ℕ → Expr → List Leaf
on_bracketed d e = at (d + 1) (some_mark marks.OpenParen) ∷ on_full (d + 1) e ++ at (d + 1) (some_mark marks.CloseParen) ∷ []

abbrev mutual
  -- a statement, or a declaration among the items of a body; the statement under an if, else, while or for lies one level deeper
  pub on_stmt : ℕ → Stmt → List Leaf
  on_stmt d (block place items) = at (d + 1) (mark_at place marks.OpenBrace) ∷ on_stmts (d + 1) items ++ at (d + 1) (some_mark marks.CloseBrace) ∷ []
  on_stmt d (declare x) = on_declaration d x
  on_stmt d (empty place) = at d (mark_at place marks.Semicolon) ∷ []
  on_stmt d (if_then place e s) = at d (word_at place words.If) ∷ on_bracketed d e ++ on_stmt (d + 1) s
  on_stmt d (if_else place e s t) = at d (word_at place words.If) ∷ on_bracketed d e ++ on_stmt (d + 1) s ++ at d (some_word words.Else) ∷ on_stmt (d + 1) t
  on_stmt d (while place e s) = at d (word_at place words.While) ∷ on_bracketed d e ++ on_stmt (d + 1) s
  on_stmt d (for place first e step s) = at d (word_at place words.For) ∷ at (d + 1) (some_mark marks.OpenParen) ∷ on_first (d + 1) first ++ on_maybe (on_full (d + 1)) e ++ at (d + 1) (some_mark marks.Semicolon)
      ∷ on_maybe (on_simple (d + 1)) step ++ at (d + 1) (some_mark marks.CloseParen) ∷ on_stmt (d + 1) s
  on_stmt d (do_while place s e) = at d (word_at place words.Do) ∷ on_stmt (d + 1) s ++ at d (some_word words.While) ∷ on_bracketed d e ++ at d (some_mark marks.Semicolon) ∷ []
  on_stmt d (switch place e entries) = at d (word_at place words.Switch) ∷ on_bracketed d e ++ at (d + 1) (some_mark marks.OpenBrace) ∷ on_stmts (d + 1) entries ++ at (d + 1) (some_mark marks.CloseBrace) ∷ []
  on_stmt d (case_label place e) = at d (word_at place words.Case) ∷ on_full d e ++ at d (some_mark marks.Colon) ∷ []
  on_stmt d (default_label place) = at d (word_at place words.Default) ∷ at d (some_mark marks.Colon) ∷ []
  on_stmt d (break place) = at d (word_at place words.Break) ∷ at d (some_mark marks.Semicolon) ∷ []
  on_stmt d (continue place) = at d (word_at place words.Continue) ∷ at d (some_mark marks.Semicolon) ∷ []
  on_stmt d (return place e) = at d (word_at place words.Return) ∷ on_maybe (on_full d) e ++ at d (some_mark marks.Semicolon) ∷ []
  on_stmt d (simple s) = on_simple d s ++ at d (some_mark marks.Semicolon) ∷ []

  -- statements, one behind the other
  pub on_stmts : ℕ → Stmts → List Leaf
  on_stmts d no_stmts = []
  on_stmts d (more_stmts s rest) = on_stmt d s ++ on_stmts d rest

-- the operand of an increment or decrement behind it is a postfix, and that of one before it a unary
abbrev pub IsSimple : Simple → Type 0
IsSimple (before place op e) = (rank e ≤ 1) × IsExpr false e
IsSimple (after place op e) = (rank e ≤ 0) × IsExpr false e
IsSimple (assign place op l r) = IsExpr false l × IsExpr false r
IsSimple (eval e) = IsExpr false e

-- a part that may be left out is in the grammar, if it is there
abbrev pub IsMaybe : {A : Type 0} → (A → Type 0) → Option A → Type 0
IsMaybe Is None = Unit {0}
IsMaybe Is (Some a) = Is a

-- what stands first in a for is in the grammar; no braces of a struct stand in its declaration
abbrev pub IsFirst : ForFirst → Type 0
IsFirst (first_declare x) = IsDeclaration false x
IsFirst (first_simple s) = IsSimple s
IsFirst first_nothing = Unit {0}

-- an else behind the statement would belong to an if in it (C11 6.8.4.1)
abbrev pub is_open : Stmt → Bool
is_open (block place items) = false
is_open (declare x) = false
is_open (empty place) = false
is_open (if_then place e s) = true
is_open (if_else place e s t) = is_open t
is_open (while place e s) = is_open s
is_open (for place first e step s) = is_open s
is_open (do_while place s e) = false
is_open (switch place e entries) = false
is_open (case_label place e) = false
is_open (default_label place) = false
is_open (break place) = false
is_open (continue place) = false
is_open (return place e) = false
is_open (simple s) = false

-- a label of the grammar, or a statement where it is one
abbrev pub EntryBy : Type 0 → Stmt → Type 0
EntryBy IsOne (case_label place e) = IsExpr false e
EntryBy IsOne (default_label place) = Unit {0}
EntryBy IsOne _ = IsOne

-- a statement of the grammar; a declaration is one only where it says so, among the items of a body
abbrev mutual
  -- each part is in the grammar, and an else belongs to the nearest if before it (C11 6.8.4.1)
  pub IsStmt : Bool → Stmt → Type 0
  IsStmt item (block place items) = AreItems items
  IsStmt item (declare x) = (item ≡ true) × IsDeclaration false x
  IsStmt item (empty place) = Unit {0}
  IsStmt item (if_then place e s) = IsExpr false e × IsStmt false s
  IsStmt item (if_else place e s t) = IsExpr false e × IsStmt false s × (is_open s ≡ false) × IsStmt false t
  IsStmt item (while place e s) = IsExpr false e × IsStmt false s
  IsStmt item (for place first e step s) = IsFirst first × IsMaybe (IsExpr false) e × IsMaybe IsSimple step × IsStmt false s
  IsStmt item (do_while place s e) = IsStmt false s × IsExpr false e
  IsStmt item (switch place e entries) = IsExpr false e × AreEntries entries
  IsStmt item (case_label place e) = ⊥
  IsStmt item (default_label place) = ⊥
  IsStmt item (break place) = Unit {0}
  IsStmt item (continue place) = Unit {0}
  IsStmt item (return place e) = IsMaybe (IsExpr false) e
  IsStmt item (simple s) = IsSimple s

  -- each item of a block is a statement or a declaration of the grammar (C11 6.8.2)
  pub AreItems : Stmts → Type 0
  AreItems no_stmts = Unit {0}
  AreItems (more_stmts s rest) = IsStmt true s × AreItems rest

  -- directly between the braces of a switch stand labels and statements (this project's profile of C11 6.8.4.2)
  pub AreEntries : Stmts → Type 0
  AreEntries no_stmts = Unit {0}
  AreEntries (more_stmts s rest) = EntryBy (IsStmt false s) s × AreEntries rest

-- what may stand directly between the braces of a switch: a label or a statement
abbrev pub IsEntry : Stmt → Type 0
IsEntry s = EntryBy (IsStmt false s) s

-- ---- files (C11 6.9)

-- static or inline, before the specifiers
abbrev pub on_storage : ℕ → Storage → List Leaf
on_storage d s = at d (some_word (word_of_storage s)) ∷ []

-- the body of a function between braces, one level deeper, or a semicolon where it has none (C11 6.9.1)
abbrev pub on_body : ℕ → Option Body → List Leaf
on_body d None = at d (some_mark marks.Semicolon) ∷ []
on_body d (Some b) = at (d + 1) (mark_at b.place marks.OpenBrace) ∷ on_each (on_stmt (d + 1)) b.items ++ at (d + 1) (some_mark marks.CloseBrace) ∷ []

-- what stands behind the specifiers of an external declaration: a semicolon alone, a function, or variables
abbrev pub on_rest : ℕ → Rest → List Leaf
on_rest d nothing = at d (some_mark marks.Semicolon) ∷ []
on_rest d (function ps n params body) = on_pointers d 0 ps ++ at d (name_at n) ∷ at (d + 1) (some_mark marks.OpenParen) ∷ on_commas (d + 1) (on_param (d + 1)) params ++ at (d + 1) (some_mark marks.CloseParen) ∷ on_body d body
on_rest d (variables declarators) = on_commas d (on_init_declarator d) declarators ++ at d (some_mark marks.Semicolon) ∷ []

-- the name that a declarator declares
abbrev pub name_of_declarator : Declarator → Name
name_of_declarator (declarator ps n dims) = n

-- the declarators of a typedef, each with the comma or the semicolon behind it, from which on its name is a type's (C11 6.2.1, 6.7.8)
abbrev pub on_types : ℕ → Naming → Declarator → List Declarator → List Leaf
on_types d k x [] = on_declared d k x ++ at d (declares marks.Semicolon (name_of_declarator x)) ∷ []
on_types d k x (y ∷ ds) = on_declared d k x ++ at d (declares marks.Comma (name_of_declarator x)) ∷ on_types d as_any y ds

-- where there is one
abbrev pub on_typedef : ℕ → Naming → List Declarator → List Leaf
on_typedef d k [] = []
on_typedef d k (x ∷ ds) = on_types d k x ds

-- an external declaration: one that makes types; or static and inline, specifiers, and the rest
abbrev pub on_external : ℕ → External → List Leaf
on_external d (types_by specs ds) = at d (some_word words.Typedef) ∷ on_each (on_spec d) specs ++ on_typedef d (naming_of (typed_row false (specs_of specs))) ds
on_external d (external_of storage specs rest) = on_each (on_storage d) storage ++ on_each (on_spec d) specs ++ on_rest d rest

-- all tokens of a file
abbrev pub leaves : File → List Leaf
leaves f = on_each (on_external 0) f.externals ++ at 0 the_end ∷ []

-- each item of a function's body is a statement or a declaration of the grammar
abbrev pub IsBody : Body → Type 0
IsBody b = AllByRecursion (IsStmt true) b.items

-- what stands behind the specifiers is in the grammar; it doesn't begin with const
abbrev pub IsRest : Rest → Type 0
IsRest nothing = Unit {0}
IsRest (function ps n params body) = StartsBare ps × AllByRecursion IsParam params × IsMaybe IsBody body
IsRest (variables declarators) = StartsBareFirst declarators × AllByRecursion (IsInitDeclarator true) declarators

-- an external declaration of the grammar; the braces of a struct may stand in it, but not in a function's parameters or body
-- (this project's profile)
abbrev pub IsExternal : External → Type 0
IsExternal (types_by specs ds) = IsSpecList true specs × StartsBareOf ds × AllByRecursion (IsDeclarator true) ds
IsExternal (external_of storage specs rest) = IsSpecList true specs × IsRest rest

-- a file of the grammar
abbrev pub IsFile : File → Type 0
IsFile f = AllByRecursion IsExternal f.externals
