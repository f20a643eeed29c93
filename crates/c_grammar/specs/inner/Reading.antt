-- The grammar's productions as readers. Each is of a level with so much room: the level is 129 less the room.
use Rattle.std.specs.Prelude.{ℕ, zero, suc, ◌+◌, ◌||◌, List, [], ◌∷◌, length, Option, Some, None, Bool, true, false, ◌==◌}
use denote.Enum.Bare.{sameb}
use Rattle.c_lex.specs.declared.token.Word.TheVariants as words
use Rattle.c_lex.specs.declared.token.Mark.TheVariants as marks
use Rattle.c_lex.specs.contracts.token.Word.{the_type as word_type}
use Rattle.c_lex.specs.contracts.token.Mark.{the_type as mark_type}
use Rattle.c_grammar.specs.declared.terminal.Terminal.{Terminal}
use Rattle.c_tree.specs.declared.syntax.Name.{Name}
use Rattle.c_tree.specs.declared.syntax.Pointer.{Pointer}
use Rattle.c_tree.specs.declared.syntax.Pointer.TheVariants.{Star, Const, Restrict}
use Rattle.c_tree.specs.declared.syntax.StepOp.{StepOp}
use Rattle.c_tree.specs.declared.syntax.AssignOp.{AssignOp}
use Rattle.c_tree.specs.Syntax.{Expr, name, call, int, char, text, null, group, prefix, sizeof_type, sizeof_expr, cast, index, member, arrow, binary, conditional, TypeName, type_name, Spec, word, struct, struct_body, unnamed_struct, enum, enum_body, unnamed_enum, alias, Enumerator, enumerator, valued, enumerator_of, enumerators_of, Member, members_of, Declarator, declarator, InitDeclarator, Declaration, ParamDim, Param, Simple, before, after, assign, eval, ForFirst, first_declare, first_simple, first_nothing, Stmt, block, declare, empty, if_then, if_else, while, for, break, continue, return, simple, Body, Rest, function, variables, External, types_by, external_of, File, exprs_of, specs_of, members_row, declarators_of, stmts_of, do_while, switch, case_label, default_label}
use Rattle.c_tree.specs.Syntax as trees
use Rattle.c_grammar.specs.Grammar.{stars, rank, has_comma, typed_row, Naming, as_name, as_any, as_bare, naming_of}
use Rattle.c_grammar.specs.inner.Readers.{Reads, Sort, a_name, an_int, a_char, a_text, a_word, a_mark, nothing, ◌▸◌, ◌&◌, made, full, choice, maybe, too_deep, chain, chain_by, pushed, row, row_from}
use Rattle.c_grammar.specs.inner.Tokens.{tok, counted_tok, derived_tok, name_of, tag_of, type_name_of, is_type_name, begins_type_word, int_of, char_of, text_of, word_is, mark_is, word_place, mark_place, prefix_of, prefix_of_mark, step_of, step_of_mark, assign_of, assign_of_mark, binary_of, type_word_of, type_of_word, storage_of, end_of, is_some, is_mark, is_word, is_text, is_binary, begins_type, begins_expr, begins_simple, is_storage, is_pointer}

-- ---- what a level offers to the one before it

-- the operand of sizeof
pub data Sized : Type 0 where
  a_type : (t : TypeName) → Sized
  an_expr : (e : Expr) → Sized

-- the parts of the grammar that are nested in others, each as it is read at one level
pub record Level : Type 0 where
  pub expr : Reads Expr
  pub cast : Reads Expr
  pub unary : Reads Expr
  pub sized : Reads Sized
  pub type_name : Reads TypeName
  pub member : Reads Member

-- parts with commas between them, which the first begins
abbrev pub commas : {A : Type 0} → ℕ → Reads A → Reads A → Reads (List A)
commas room first more = row_from first (is_mark marks.Comma) (made (λ (_, a). a) (tok room (mark_is marks.Comma) & more))

-- the first of two parts, or the second
abbrev pub either_by : {A : Type 0} → Reads A → Reads A → Bool → Reads A
either_by r q true = r
either_by r q false = q

-- one of two parts: the first where the next token begins it, and else the second
abbrev pub either : {A : Type 0} → (Sort → Bool) → Reads A → Reads A → Reads A
either start r q = choice (λ s. Some (start s)) (either_by r q)

-- ---- expressions, of a level and the deeper one (C11 6.5)

-- "(" [ expr { "," expr } ] ")"
unfoldable pub arguments : ℕ → Level → Reads (List Expr)
arguments deeper inner = made (λ (_, (all, _)). all)
    (tok deeper (mark_is marks.OpenParen) & either begins_expr (commas deeper inner.expr inner.expr) (nothing []) & tok deeper (mark_is marks.CloseParen))

-- a name alone, or the call of it with the arguments behind it (C11 6.5.2.2)
abbrev pub name_or_call : Name → Option (List Expr) → Expr
name_or_call n None = name n
name_or_call n (Some all) = call n (exprs_of all)

-- NAME [ arguments ]
unfoldable pub named : ℕ → ℕ → Level → Reads Expr
named room deeper inner = made (λ (n, args). name_or_call n args) (tok room name_of & maybe (is_mark marks.OpenParen) (arguments deeper inner))

-- STRING { STRING }
unfoldable pub texts : ℕ → Reads Expr
texts room = made text (row_from (tok room text_of) is_text (tok room text_of))

-- what a primary that isn't in brackets begins with
pub data Operand : Type 0 where
  Named : Operand
  AnInt : Operand
  AChar : Operand
  Texts : Operand
  NullWord : Operand

-- the primary that begins so (C11 6.5.1)
abbrev pub operand_by : ℕ → ℕ → Level → Operand → Reads Expr
operand_by room deeper inner Named = named room deeper inner
operand_by room deeper inner AnInt = made (λ (place, value). int place value) (tok room int_of)
operand_by room deeper inner AChar = made (λ (place, value). char place value) (tok room char_of)
operand_by room deeper inner Texts = texts room
operand_by room deeper inner NullWord = made null (tok room (word_place words.Null))

-- which primary the token begins, if it begins one that isn't in brackets
abbrev pub operand_start : Sort → Option Operand
operand_start a_name = Some Named
operand_start an_int = Some AnInt
operand_start a_char = Some AChar
operand_start a_text = Some Texts
operand_start (a_word words.Null) = Some NullWord
operand_start _ = None

-- a primary that isn't in brackets
unfoldable pub operand : ℕ → ℕ → Level → Reads Expr
operand room deeper inner = choice operand_start (operand_by room deeper inner)

-- a postfix operator, and what belongs to it
pub data Post : Type 0 where
  an_index : (place : ℕ) (at : Expr) → Post
  a_member : (place : ℕ) (m : Name) → Post
  an_arrow : (place : ℕ) (m : Name) → Post

-- the expression with the postfix operator behind it (C11 6.5.2)
abbrev pub posted : Expr → Post → Expr
posted a (an_index place at) = index place a at
posted a (a_member place m) = member place a m
posted a (an_arrow place m) = arrow place a m

-- what a postfix operator begins with
pub data PostStart : Type 0 where
  Bracket : PostStart
  Dot : PostStart
  Arrow : PostStart

-- which postfix operator the token begins, if it begins one
abbrev pub post_start : Sort → Option PostStart
post_start (a_mark marks.OpenBracket) = Some Bracket
post_start (a_mark marks.Dot) = Some Dot
post_start (a_mark marks.Arrow) = Some Arrow
post_start _ = None

-- a token that a postfix operator begins with
abbrev pub begins_post : Sort → Bool
begins_post s = is_some (post_start s)

-- the postfix operator that begins so, and what belongs to it; it is counted
abbrev pub post_by : ℕ → ℕ → Level → PostStart → Reads Post
post_by room deeper inner Bracket = made (λ (place, (e, _)). an_index place e) (counted_tok deeper (mark_place marks.OpenBracket) & inner.expr & tok deeper (mark_is marks.CloseBracket))
post_by room deeper inner Dot = made (λ (place, m). a_member place m) (counted_tok room (mark_place marks.Dot) & tok room tag_of)
post_by room deeper inner Arrow = made (λ (place, m). an_arrow place m) (counted_tok room (mark_place marks.Arrow) & tok room tag_of)

-- "[" expr "]" | "." NAME | "->" NAME
unfoldable pub post : ℕ → ℕ → Level → Reads Post
post room deeper inner = choice post_start (post_by room deeper inner)

-- postfix operators behind a primary
abbrev pub posts : ℕ → ℕ → Level → Reads Expr → Reads Expr
posts room deeper inner primary = chain primary begins_post (λ _. post room deeper inner) posted

-- expr ")", behind the opening bracket, with the postfix operators behind it
unfoldable pub group_rest : ℕ → ℕ → Level → Reads Expr
group_rest room deeper inner = posts room deeper inner (made (λ (e, _). group e) (inner.expr & tok deeper (mark_is marks.CloseParen)))

-- what a unary expression or a cast begins with
pub data UnaryStart : Type 0 where
  Primary : UnaryStart
  Paren : UnaryStart
  Prefix : UnaryStart
  Sizeof : UnaryStart

-- what a mark begins: a prefix operator where it is one, and else a bracketed part where it opens one
abbrev pub if_mark : Bool → Bool → Option UnaryStart
if_mark true b = Some Prefix
if_mark false true = Some Paren
if_mark false false = None

-- which unary expression or cast the token begins, if it begins one
abbrev pub unary_start : Sort → Option UnaryStart
unary_start a_name = Some Primary
unary_start an_int = Some Primary
unary_start a_char = Some Primary
unary_start a_text = Some Primary
unary_start (a_word words.Null) = Some Primary
unary_start (a_word words.Sizeof) = Some Sizeof
unary_start (a_mark m) = if_mark (is_some (prefix_of_mark m)) (sameb mark_type m marks.OpenParen)
unary_start _ = None

-- the sizeof at the place, of a type or of an expression (C11 6.5.3.4)
abbrev pub sizeof_by : ℕ → Sized → Expr
sizeof_by place (a_type t) = sizeof_type place t
sizeof_by place (an_expr e) = sizeof_expr place e

-- the unary expression that begins so (C11 6.5.3); behind an opening bracket stands an expression
abbrev pub unary_by : ℕ → ℕ → Level → UnaryStart → Reads Expr
unary_by room deeper inner Primary = posts room deeper inner (operand room deeper inner)
unary_by room deeper inner Paren = made (λ (_, e). e) (tok deeper (mark_is marks.OpenParen) & group_rest room deeper inner)
unary_by room deeper inner Prefix = made (λ ((place, op), e). prefix place op e) (tok room prefix_of & inner.cast)
unary_by room deeper inner Sizeof = made (λ (place, s). sizeof_by place s) (tok room (word_place words.Sizeof) & inner.sized)

-- unary
unfoldable pub unary : ℕ → ℕ → Level → Reads Expr
unary room deeper inner = choice unary_start (unary_by room deeper inner)

-- specs ptr ")" cast | expr ")" with postfix operators, behind the opening bracket at the place
unfoldable pub paren_rest : ℕ → ℕ → Level → ℕ → Reads Expr
paren_rest room deeper inner place = either begins_type
    (made (λ (t, (_, e)). cast place t e) (inner.type_name & tok deeper (mark_is marks.CloseParen) & inner.cast))
    (group_rest room deeper inner)

-- the cast expression that begins so (C11 6.5.4); behind an opening bracket stands the name of a type or an expression
abbrev pub cast_by : ℕ → ℕ → Level → UnaryStart → Reads Expr
cast_by room deeper inner Paren = made (λ (place, e). e) (tok deeper (mark_place marks.OpenParen) ▸ paren_rest room deeper inner)
cast_by room deeper inner s = unary_by room deeper inner s

-- cast
unfoldable pub casted : ℕ → ℕ → Level → Reads Expr
casted room deeper inner = choice unary_start (cast_by room deeper inner)

-- "(" specs ptr ")" | unary, behind sizeof
unfoldable pub sized : ℕ → ℕ → Level → Reads Sized
sized room deeper inner = either (is_mark marks.OpenParen)
    (made (λ (_, s). s) (tok deeper (mark_is marks.OpenParen) & either begins_type
    (made (λ (t, _). a_type t) (inner.type_name & tok deeper (mark_is marks.CloseParen)))
    (made an_expr (group_rest room deeper inner))))
    (made an_expr (unary room deeper inner))

-- an expression of h heights of binary operators
unfoldable pub ladder : ℕ → Reads Expr → ℕ → Reads Expr
ladder room operand zero = operand
ladder room operand (suc h) = chain (ladder room operand h) (is_binary h) (λ _. counted_tok room (binary_of h) & ladder room operand h) (λ a ((place, op), b). binary place op a b)

-- the expression alone, or the conditional of which it is the condition (C11 6.5.15)
abbrev pub conditional_by : Expr → Option (ℕ × (Expr × (Unit {0} × Expr))) → Expr
conditional_by a None = a
conditional_by a (Some (place, (t, (_, e)))) = conditional place a t e

-- or [ "?" expr ":" expr ]
unfoldable pub expr : ℕ → ℕ → Level → Reads Expr
expr room deeper inner = made (λ (a, o). conditional_by a o)
    (ladder room (casted room deeper inner) 10 & maybe (is_mark marks.Question) (tok room (mark_place marks.Question) & inner.expr & tok room (mark_is marks.Colon) & inner.expr))

-- ---- types, where the braces of a struct may stand or not (C11 6.7.2, 6.7.6)

-- what a specifier begins with
pub data SpecStart : Type 0 where
  TypeWords : SpecStart
  StructWord : SpecStart
  EnumWord : SpecStart

-- what a word begins: the specifier that it is by itself, if it is one, and else a struct or an enum if it is that word
abbrev pub if_spec : Bool → Bool → Bool → Option SpecStart
if_spec true b e = Some TypeWords
if_spec false true e = Some StructWord
if_spec false false true = Some EnumWord
if_spec false false false = None

-- which specifier the token begins, if it begins one
abbrev pub spec_start : Sort → Option SpecStart
spec_start (a_word w) = if_spec (is_some (type_of_word w)) (sameb word_type w words.Struct) (sameb word_type w words.Enum)
spec_start _ = None

-- "{" member { member } "}"
unfoldable pub members : ℕ → Level → Reads (List Member)
members deeper inner = made (λ (_, (all, _)). all)
    (tok deeper (mark_is marks.OpenBrace) & row_from inner.member begins_type inner.member & tok deeper (mark_is marks.CloseBrace))

-- "=" expr
unfoldable pub value : ℕ → Level → Reads Expr
value room here = made (λ (_, e). e) (tok room (mark_is marks.Assign) & full here.expr)

-- a name
abbrev pub is_name : Sort → Bool
is_name a_name = true
is_name _ = false

-- the enumerator of this name and value, with a comma behind it if there is one
abbrev pub enumerator_by : Name → Option Expr → Option (Unit {0}) → Enumerator
enumerator_by n v comma = enumerator_of n v (is_some comma)

-- NAME [ "=" expr ] [ "," ]
unfoldable pub enumerated : ℕ → Level → Reads Enumerator
enumerated deeper inner = made (λ (n, (v, comma)). enumerator_by n v comma)
    (tok deeper name_of & maybe (is_mark marks.Assign) (value deeper inner) & maybe (is_mark marks.Comma) (tok deeper (mark_is marks.Comma)))

-- whether a comma stands directly before what is behind the enumerators
abbrev pub parted : Bool → List Enumerator → Bool
parted comma [] = comma
parted comma (e ∷ es) = parted (has_comma e) es

-- an enumerator begins with a name, and stands behind a comma
abbrev pub begins_enumerator : Bool → Sort → Bool
begins_enumerator true s = is_name s
begins_enumerator false s = false

-- "{" NAME [ "=" expr ] { "," NAME [ "=" expr ] } [ "," ] "}"
unfoldable pub enumerators : ℕ → Level → Reads (List Enumerator)
enumerators deeper inner = made (λ (_, (all, _)). all)
    (tok deeper (mark_is marks.OpenBrace)
    & chain_by (made (λ e. e ∷ []) (enumerated deeper inner)) (λ front. begins_enumerator (parted true front)) (λ front. enumerated deeper inner) pushed
    & tok deeper (mark_is marks.CloseBrace))

-- what stands behind struct or enum: a tag, a tag and what is between braces, or the latter alone
pub data Tagged (A : Type 0) : Type 0 where
  by_tag : (tag : Name) → Tagged A
  by_both : (tag : Name) (body : A) → Tagged A
  by_body : (body : A) → Tagged A

-- a tag, with what is between braces if there is such
abbrev pub tagged_by : {A : Type 0} → Name → Option A → Tagged A
tagged_by tag None = by_tag tag
tagged_by tag (Some body) = by_both tag body

-- TNAME [ body ] | body, where braces may stand; and else TNAME
abbrev pub tagged : {A : Type 0} → Bool → ℕ → Reads A → Reads (Tagged A)
tagged true room body = either (is_mark marks.OpenBrace) (made by_body body) (made (λ (tag, o). tagged_by tag o) (tok room tag_of & maybe (is_mark marks.OpenBrace) body))
tagged false room body = made by_tag (tok room tag_of)

-- a struct by its tag alone, with its members, or without a tag (C11 6.7.2.1, 6.7.2.3)
abbrev pub struct_by : ℕ → Tagged (List Member) → Spec
struct_by place (by_tag tag) = struct place tag
struct_by place (by_both tag all) = struct_body place tag (members_row all)
struct_by place (by_body all) = unnamed_struct place (members_row all)

-- an enum by its tag alone, with its enumerators, or without a tag (C11 6.7.2.2, 6.7.2.3)
abbrev pub enum_by : ℕ → Tagged (List Enumerator) → Spec
enum_by place (by_tag tag) = enum place tag
enum_by place (by_both tag all) = enum_body place tag (enumerators_of all)
enum_by place (by_body all) = unnamed_enum place (enumerators_of all)

-- the specifier that begins so (C11 6.7.2)
abbrev pub spec_by : Bool → ℕ → ℕ → Level → SpecStart → Reads Spec
spec_by braces room deeper inner TypeWords = made (λ (place, w). word place w) (tok room type_word_of)
spec_by braces room deeper inner StructWord = made (λ (place, x). struct_by place x) (tok room (word_place words.Struct) & tagged braces room (members deeper inner))
spec_by braces room deeper inner EnumWord = made (λ (place, x). enum_by place x) (tok room (word_place words.Enum) & tagged braces room (enumerators deeper inner))

-- spec
unfoldable pub spec : Bool → ℕ → ℕ → Level → Reads Spec
spec braces room deeper inner = choice spec_start (spec_by braces room deeper inner)

-- a specifier that may be a type's name, or may not
abbrev pub spec_behind : Bool → ℕ → ℕ → Level → Bool → Reads Spec
spec_behind braces room deeper inner true = spec braces room deeper inner
spec_behind braces room deeper inner false = either is_type_name (made alias (tok room type_name_of)) (spec braces room deeper inner)

-- whether a type stands before what is behind the specifiers
abbrev pub typed : Bool → List Spec → Bool
typed t ss = typed_row t (specs_of ss)

-- what a specifier begins with, where a type stands before it or doesn't
abbrev pub begins_spec : Bool → Sort → Bool
begins_spec true s = begins_type_word s
begins_spec false s = begins_type s

-- spec { spec }; a type's name is one only where no type stands before it
unfoldable pub specs : Bool → ℕ → ℕ → Level → Reads (List Spec)
specs braces room deeper inner = chain_by (made (λ s. s ∷ []) (spec_behind braces room deeper inner false)) (λ front. begins_spec (typed false front)) (λ front. spec_behind braces room deeper inner (typed false front)) pushed

-- const or restrict, if the word is one of them
abbrev pub if_pointer : Bool → Bool → Option Pointer
if_pointer true b = Some Const
if_pointer false true = Some Restrict
if_pointer false false = None

-- which of star, const and restrict the token is, if it is one of them (C11 6.7.6.1)
abbrev pub pointer_start : Sort → Option Pointer
pointer_start (a_mark marks.Star) = Some Star
pointer_start (a_word w) = if_pointer (sameb word_type w words.Const) (sameb word_type w words.Restrict)
pointer_start _ = None

-- a star, const or restrict behind n stars; stars alone are counted
abbrev pub pointer_by : ℕ → ℕ → Pointer → Reads Pointer
pointer_by room n Star = made (λ _. Star) (derived_tok room n (mark_is marks.Star))
pointer_by room n Const = made (λ _. Const) (tok room (word_is words.Const))
pointer_by room n Restrict = made (λ _. Restrict) (tok room (word_is words.Restrict))

-- { "*" | "const" | "restrict" }
unfoldable pub pointers : ℕ → Reads (List Pointer)
pointers room = chain (nothing []) is_pointer (λ front. choice pointer_start (pointer_by room (stars 0 front))) pushed

-- a part may stand there, unless the condition holds
abbrev pub unless : Bool → Option (Unit {0})
unless true = None
unless false = Some tt

-- the same behind specifiers, to which each const would belong
unfoldable pub bare_pointers : ℕ → Reads (List Pointer)
bare_pointers room = choice (λ s. unless (is_word words.Const s)) (λ _. pointers room)

-- specs ptr
unfoldable pub type_named : Bool → ℕ → ℕ → Level → Reads TypeName
type_named braces room deeper inner = made (λ (ss, ps). type_name (specs_of ss) ps) (specs braces room deeper inner & bare_pointers room)

-- "[" expr "]", behind n stars and dimensions
unfoldable pub dim : ℕ → Level → ℕ → Reads Expr
dim deeper inner n = made (λ (_, (e, _)). e) (derived_tok deeper n (mark_is marks.OpenBracket) & full inner.expr & tok deeper (mark_is marks.CloseBracket))

-- { "[" expr "]" }, behind n stars
unfoldable pub dims : ℕ → Level → ℕ → Reads (List Expr)
dims deeper inner n = chain (nothing []) (is_mark marks.OpenBracket) (λ front. dim deeper inner (n + length front)) pushed

-- the name in a declarator behind what stands before it
abbrev pub declared_name : Naming → List Pointer → Terminal → Option Name
declared_name as_name ps = name_of
declared_name as_any ps = tag_of
declared_name as_bare [] = name_of
declared_name as_bare (p ∷ ps) = tag_of

-- NAME dims or TNAME dims, behind what stands before the name
unfoldable pub declarator_behind : Naming → ℕ → ℕ → Level → List Pointer → Reads Declarator
declarator_behind k room deeper inner ps = made (λ (n, es). declarator ps n (exprs_of es)) (tok room (declared_name k ps) & dims deeper inner (stars 0 ps))

-- ptr NAME dims or ptr TNAME dims
unfoldable pub declared : Naming → ℕ → ℕ → Level → Reads Declarator
declared k room deeper inner = made (λ (_, d). d) (pointers room ▸ declarator_behind k room deeper inner)

-- the same behind specifiers
unfoldable pub bare_declared : Naming → ℕ → ℕ → Level → Reads Declarator
bare_declared k room deeper inner = made (λ (_, d). d) (bare_pointers room ▸ declarator_behind k room deeper inner)

-- ptr TNAME dims { "," ptr TNAME dims } ";" behind specifiers, with a type among them or none
unfoldable pub any_declared : ℕ → ℕ → Level → Bool → Reads (List Declarator × Unit {0})
any_declared room deeper inner t = commas room (bare_declared (naming_of t) room deeper inner) (declared as_any room deeper inner) & tok room (mark_is marks.Semicolon)

-- specs ptr TNAME dims { "," ptr TNAME dims } ";"
unfoldable pub membered : ℕ → ℕ → Level → Reads Member
membered room deeper inner = made (λ (ss, (ds, _)). members_of (specs_of ss) (declarators_of ds)) (specs true room deeper inner ▸ λ ss. any_declared room deeper inner (typed false ss))

-- ---- the levels

-- all that a level offers, from what the deeper one offers
abbrev pub level_by : Bool → ℕ → Level → Level
level_by braces deeper inner = record {
  expr = expr (suc deeper) deeper inner;
  cast = casted (suc deeper) deeper inner;
  unary = unary (suc deeper) deeper inner;
  sized = sized (suc deeper) deeper inner;
  type_name = type_named braces (suc deeper) deeper inner;
  member = membered (suc deeper) deeper inner;
}

-- a level with no room: what begins there lies too deep
abbrev pub no_level : Level
no_level = record {
  expr = too_deep begins_expr;
  cast = too_deep begins_expr;
  unary = too_deep begins_expr;
  sized = too_deep begins_expr;
  type_name = too_deep begins_type;
  member = too_deep begins_type;
}

-- all that the level with so much room offers, where the braces of a struct may stand or not
unfoldable pub level_at : Bool → ℕ → Level
level_at braces zero = no_level
level_at braces (suc deeper) = level_by braces deeper (level_at braces deeper)

-- ---- declarations (C11 6.7)

-- the declarator with its initialiser, if it has one
abbrev pub init_by : Declarator → Option Expr → InitDeclarator
init_by d v = record { declarator = d; value = v }

-- a declarator, and its initialiser
unfoldable pub initialised : ℕ → Level → Reads Declarator → Reads InitDeclarator
initialised room here d = made (λ (d, v). init_by d v) (d & maybe (is_mark marks.Assign) (value room here))

-- specs ptr NAME dims rest, where no braces of a struct may stand
unfoldable pub declaration : ℕ → Reads Declaration
declaration zero = too_deep begins_type
declaration (suc deeper) = made (λ (ss, (ds, _)). record { specs = ss; declarators = ds })
    (specs false (suc deeper) deeper (level_at false deeper)
    & commas (suc deeper) (initialised (suc deeper) (level_at false (suc deeper)) (bare_declared as_name (suc deeper) deeper (level_at false deeper)))
    (initialised (suc deeper) (level_at false (suc deeper)) (declared as_name (suc deeper) deeper (level_at false deeper)))
    & tok (suc deeper) (mark_is marks.Semicolon))

-- ---- statements (C11 6.8)

-- what is behind the expression of a simple statement
pub data Tail : Type 0 where
  a_step : (place : ℕ) (op : StepOp) → Tail
  a_value : (place : ℕ) (op : AssignOp) (e : Expr) → Tail
  no_tail : Tail

-- the simple statement that an expression is with what is behind it
abbrev pub simple_of : Expr → Tail → Simple
simple_of e (a_step place op) = after place op e
simple_of e (a_value place op v) = assign place op e v
simple_of e no_tail = eval e

-- what stands behind the expression of a simple statement: an increment or decrement, an assignment, or nothing of the kind
pub data TailStart : Type 0 where
  Stepped : TailStart
  Assigned : TailStart
  Nothing : TailStart

-- what a mark begins behind the expression; an increment or decrement may not stand behind one that isn't a postfix
abbrev pub if_tail : Bool → Bool → Bool → Option TailStart
if_tail true step postfix = Some Assigned
if_tail false true true = Some Stepped
if_tail false true false = None
if_tail false false postfix = Some Nothing

-- a step stands behind a postfix alone
abbrev pub tail_start : Bool → Sort → Option TailStart
tail_start postfix (a_mark m) = if_tail (is_some (assign_of_mark m)) (is_some (step_of_mark m)) postfix
tail_start postfix _ = Some Nothing

-- what begins so behind the expression: the operator, and the value where it assigns
abbrev pub tail_by : ℕ → Level → TailStart → Reads Tail
tail_by room here Stepped = made (λ (place, op). a_step place op) (tok room step_of)
tail_by room here Assigned = made (λ ((place, op), e). a_value place op e) (tok room assign_of & here.expr)
tail_by room here Nothing = nothing no_tail

-- what is behind the expression of a simple statement, which must be a postfix where it is incremented or decremented
abbrev pub simple_tail : ℕ → Level → Expr → Reads Tail
simple_tail room here e = choice (tail_start (rank e == 0)) (tail_by room here)

-- an increment or decrement
abbrev pub is_step : Sort → Bool
is_step (a_mark m) = is_some (step_of_mark m)
is_step _ = false

-- simple
unfoldable pub simply : ℕ → Reads Simple
simply zero = too_deep begins_simple
simply (suc deeper) = either is_step
    (made (λ ((place, op), e). before place op e) (tok (suc deeper) step_of & full (level_at false deeper).unary))
    (full (made (λ (e, t). simple_of e t) ((level_at false (suc deeper)).expr ▸ simple_tail (suc deeper) (level_at false (suc deeper)))))

-- "(" expr ")" behind a word
unfoldable pub condition : ℕ → Reads Expr
condition deeper = made (λ (_, (e, _)). e) (tok deeper (mark_is marks.OpenParen) & full (level_at false deeper).expr & tok deeper (mark_is marks.CloseParen))

-- decl | [ simple ] ";", first between the brackets of a for (C11 6.8.5.3)
unfoldable pub first : ℕ → Reads ForFirst
first room = either begins_type (made first_declare (declaration room))
    (either (is_mark marks.Semicolon) (made (λ _. first_nothing) (tok room (mark_is marks.Semicolon)))
    (made (λ (s, _). first_simple s) (simply room & tok room (mark_is marks.Semicolon))))

-- what a statement begins with
pub data StmtStart : Type 0 where
  ABlock : StmtStart
  AnEmpty : StmtStart
  AnIf : StmtStart
  AWhile : StmtStart
  AFor : StmtStart
  ADo : StmtStart
  ASwitch : StmtStart
  ABreak : StmtStart
  AContinue : StmtStart
  AReturn : StmtStart
  ASimple : StmtStart

-- a simple statement, where the token begins one
abbrev pub if_simple : Bool → Option StmtStart
if_simple true = Some ASimple
if_simple false = None

-- which statement the token begins, if it begins one
abbrev pub stmt_start : Sort → Option StmtStart
stmt_start (a_mark marks.OpenBrace) = Some ABlock
stmt_start (a_mark marks.Semicolon) = Some AnEmpty
stmt_start (a_word words.If) = Some AnIf
stmt_start (a_word words.While) = Some AWhile
stmt_start (a_word words.For) = Some AFor
stmt_start (a_word words.Do) = Some ADo
stmt_start (a_word words.Switch) = Some ASwitch
stmt_start (a_word words.Break) = Some ABreak
stmt_start (a_word words.Continue) = Some AContinue
stmt_start (a_word words.Return) = Some AReturn
stmt_start s = if_simple (begins_simple s)

-- a token that a statement begins with
abbrev pub begins_stmt : Sort → Bool
begins_stmt s = is_some (stmt_start s)

-- a token that an item of a body begins with, which is a declaration or a statement (C11 6.8.2)
abbrev pub begins_item : Sort → Bool
begins_item s = begins_type s || begins_stmt s

-- "{" { decl | stmt } "}" with the place of the opening brace
unfoldable pub items : ℕ → Reads Stmt → Reads (ℕ × List Stmt)
items deeper stmt = made (λ (place, (all, _)). (place, all))
    (tok deeper (mark_place marks.OpenBrace) & row begins_item (either begins_type (made declare (declaration deeper)) stmt) & tok deeper (mark_is marks.CloseBrace))

-- an if, with its else if there is one (C11 6.8.4.1)
abbrev pub if_by : ℕ → Expr → Stmt → Option Stmt → Stmt
if_by place e s None = if_then place e s
if_by place e s (Some t) = if_else place e s t

-- a token that a label begins with
abbrev pub is_label : Sort → Bool
is_label s = is_word words.Case s || is_word words.Default s

-- "case" expr ":" | "default" ":"
unfoldable pub label : ℕ → Reads Stmt
label room = either (is_word words.Case)
    (made (λ (place, (e, _)). case_label place e) (tok room (word_place words.Case) & full (level_at false room).expr & tok room (mark_is marks.Colon)))
    (made (λ (place, _). default_label place) (tok room (word_place words.Default) & tok room (mark_is marks.Colon)))

-- a token that a label or a statement begins with
abbrev pub begins_entry : Sort → Bool
begins_entry s = is_label s || begins_stmt s

-- "{" { label | stmt } "}"
unfoldable pub entries : ℕ → Reads Stmt → Reads (List Stmt)
entries deeper stmt = made (λ (_, (all, _)). all) (tok deeper (mark_is marks.OpenBrace) & row begins_entry (either is_label (label deeper) stmt) & tok deeper (mark_is marks.CloseBrace))

-- the statement that begins so; an else belongs to the nearest if before it (C11 6.8.4.1)
abbrev pub stmt_by : ℕ → ℕ → Reads Stmt → StmtStart → Reads Stmt
stmt_by room deeper inner ABlock = made (λ (place, all). block place (stmts_of all)) (items deeper inner)
stmt_by room deeper inner AnEmpty = made empty (tok room (mark_place marks.Semicolon))
stmt_by room deeper inner AnIf = made (λ (place, (e, (s, t))). if_by place e s t)
    (tok room (word_place words.If) & condition deeper & inner & maybe (is_word words.Else) (made (λ (_, t). t) (tok room (word_is words.Else) & inner)))
stmt_by room deeper inner AWhile = made (λ (place, (e, s)). while place e s) (tok room (word_place words.While) & condition deeper & inner)
stmt_by room deeper inner AFor = made (λ (place, (_, (f, (e, (_, (step, (_, s))))))). for place f e step s)
    (tok room (word_place words.For) & tok deeper (mark_is marks.OpenParen) & first deeper & maybe begins_expr (full (level_at false deeper).expr) & tok deeper (mark_is marks.Semicolon)
    & maybe begins_simple (simply deeper) & tok deeper (mark_is marks.CloseParen) & inner)
stmt_by room deeper inner ADo = made (λ (place, (s, (_, (e, _)))). do_while place s e)
    (tok room (word_place words.Do) & inner & tok room (word_is words.While) & condition deeper & tok room (mark_is marks.Semicolon))
stmt_by room deeper inner ASwitch = made (λ (place, (e, all)). switch place e (stmts_of all)) (tok room (word_place words.Switch) & condition deeper & entries deeper inner)
stmt_by room deeper inner ABreak = made (λ (place, _). break place) (tok room (word_place words.Break) & tok room (mark_is marks.Semicolon))
stmt_by room deeper inner AContinue = made (λ (place, _). continue place) (tok room (word_place words.Continue) & tok room (mark_is marks.Semicolon))
stmt_by room deeper inner AReturn = made (λ (place, (e, _)). return place e)
    (tok room (word_place words.Return) & maybe begins_expr (full (level_at false room).expr) & tok room (mark_is marks.Semicolon))
stmt_by room deeper inner ASimple = made (λ (s, _). simple s) (simply room & tok room (mark_is marks.Semicolon))

-- stmt
unfoldable pub stmt_at : ℕ → Reads Stmt
stmt_at zero = too_deep begins_stmt
stmt_at (suc deeper) = choice stmt_start (stmt_by (suc deeper) deeper (stmt_at deeper))

-- ---- files (C11 6.9): the level 0, whose room is 129

-- a dimension of a parameter, with the place of its bracket and the size in it, if there is one
abbrev pub param_dim_by : ℕ → Option Expr → ParamDim
param_dim_by place e = record { place = place; size = e }

-- "[" [ expr ] "]", behind n stars and dimensions
unfoldable pub param_dim : ℕ → ℕ → Reads ParamDim
param_dim deeper n = made (λ (place, (e, _)). param_dim_by place e)
    (derived_tok deeper n (mark_place marks.OpenBracket) & maybe begins_expr (full (level_at false deeper).expr) & tok deeper (mark_is marks.CloseBracket))

-- [ NAME ] { "[" [ expr ] "]" }, behind what stands before the name
unfoldable pub param_behind : ℕ → ℕ → List Pointer → Reads (Option Name × List ParamDim)
param_behind room deeper ps = maybe is_name (tok room name_of) & chain (nothing []) (is_mark marks.OpenBracket) (λ front. param_dim deeper (stars 0 ps + length front)) pushed

-- specs ptr [ NAME ] { "[" [ expr ] "]" }
unfoldable pub param : ℕ → ℕ → Reads Param
param room deeper = made (λ (ss, (ps, (n, ds))). record { specs = ss; pointers = ps; name = n; dims = ds })
    (specs false room deeper (level_at false deeper) & bare_pointers room ▸ param_behind room deeper)

-- "(" [ params ] ")"
unfoldable pub params : Reads (List Param)
params = made (λ (_, (all, _)). all)
    (tok 128 (mark_is marks.OpenParen) & either begins_type (commas 128 (param 128 127) (param 128 127)) (nothing []) & tok 128 (mark_is marks.CloseParen))

-- the body with these items, whose opening brace stands at the place
abbrev pub body_by : ℕ × List Stmt → Body
body_by b = record { place = b.0; items = b.1 }

-- body | ";"
unfoldable pub body : Reads (Option Body)
body = either (is_mark marks.OpenBrace) (made (λ b. Some (body_by b)) (items 128 (stmt_at 128))) (made (λ _. None) (tok 129 (mark_is marks.Semicolon)))

-- a declarator at file scope, behind what stands before the name and behind the name
unfoldable pub variable_rest : List Pointer → Name → Reads Rest
variable_rest ps n = made (λ (es, (v, (ds, _))). variables (init_by (declarator ps n (exprs_of es)) v ∷ ds))
    (dims 128 (level_at true 128) (stars 0 ps) & maybe (is_mark marks.Assign) (value 129 (level_at true 129))
    & row (is_mark marks.Comma) (made (λ (_, i). i) (tok 129 (mark_is marks.Comma) & initialised 129 (level_at true 129) (declared as_name 129 128 (level_at true 128))))
    & tok 129 (mark_is marks.Semicolon))

-- what is behind the name at file scope
unfoldable pub named_rest : List Pointer → Name → Reads Rest
named_rest ps n = either (is_mark marks.OpenParen) (made (λ (all, b). function ps n all b) (params & body)) (variable_rest ps n)

-- ";" | ptr NAME ( "(" [ params ] ")" ( body | ";" ) | dims rest )
unfoldable pub external_rest : Reads Rest
external_rest = either (is_mark marks.Semicolon) (made (λ _. trees.nothing) (tok 129 (mark_is marks.Semicolon)))
    (made (λ (_, (_, r)). r) (bare_pointers 129 ▸ λ ps. tok 129 name_of ▸ λ n. named_rest ps n))

-- "typedef" specs ptr TNAME dims { "," ptr TNAME dims } ";"
unfoldable pub typedef : Reads External
typedef = made (λ (_, (ss, (ds, _))). types_by ss ds) (tok 129 (word_is words.Typedef) & specs true 129 128 (level_at true 128) ▸ λ ss. any_declared 129 128 (level_at true 128) (typed false ss))

-- external
unfoldable pub external : Reads External
external = either (is_word words.Typedef) typedef
    (made (λ (storage, (ss, r)). external_of storage ss r)
    (row is_storage (tok 129 storage_of) & specs true 129 128 (level_at true 128) & external_rest))

-- a token that an external declaration begins with
abbrev pub begins_external : Sort → Bool
begins_external s = is_word words.Typedef s || (is_storage s || begins_type s)

-- { external } End
unfoldable pub file : Reads File
file = made (λ (all, _). record { externals = all }) (row begins_external external & tok 129 end_of)
