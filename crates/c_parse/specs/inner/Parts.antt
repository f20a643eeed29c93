-- Parts of productions, each of which the code reads by a function of its own, and what it chooses by.
use Rattle.std.specs.Prelude.{ℕ, ◌+◌, length, List, [], ◌∷◌, Option, Err, Bool, true, false, map}
use Rattle.std.specs.Option.{option_map}
use Rattle.c_grammar.specs.declared.terminal.Terminal.{Terminal}
use Rattle.c_lex.specs.declared.token.Word.TheVariants as words
use Rattle.c_lex.specs.declared.token.Mark.TheVariants as marks
use Rattle.c_tree.specs.declared.syntax.Block.{Block}
use Rattle.c_tree.specs.declared.syntax.Name.{Name}
use Rattle.c_tree.specs.declared.syntax.Pointer.{Pointer}
use Rattle.c_tree.specs.declared.syntax.Storage.{Storage}
use Rattle.c_tree.specs.Syntax.{Expr, InitDeclarator, Declaration, ParamDim, Param, Simple, before, ForFirst, first_simple, first_nothing, Stmt, declare, empty, case_label, default_label, break, continue, return, simple, declarator, exprs_of, Rest, function, variables, External, external_of, File}
use Rattle.c_tree.specs.SyntaxViews.{boxed_expr_view, stmt_view}
use Rattle.c_parse.specs.declared.building.ForHead.{ForHead}
use Rattle.c_parse.specs.declared.starts.TailStart.{TailStart}
use Rattle.c_parse.specs.declared.starts.TailStart.TheVariants as tails
use Rattle.c_parse.specs.declared.starts.StmtStart.{StmtStart}
use Rattle.c_parse.specs.declared.starts.StmtStart.TheVariants as stmts
use Rattle.c_grammar.specs.Grammar.{stars, as_name}
use Rattle.c_grammar.specs.inner.Readers.{Reading, unexpected, stop, got, Reads, ◌>>=◌, nothing, ◌▸◌, ◌&◌, made, full, maybe, links, chain, pushed, row}
use Rattle.c_grammar.specs.inner.Tokens.{tok, mark_is, word_is, mark_place, word_place, name_of, step_of, storage_of, is_mark, is_word, begins_type, begins_expr, begins_simple, is_storage}
use Rattle.c_grammar.specs.inner.Reading.{level_at, commas, either, specs, dims, init_by, bare_pointers, declared, bare_declared, value, initialised, declaration, simple_of, simple_tail, is_step, simply, first, stmt_at, begins_item, is_label, label, begins_entry, is_name, param_dim, param, params, body, named_rest, external_rest, begins_external, external, file}
use Rattle.c_grammar.specs.inner.Reading as reading
use Rattle.c_parse.specs.inner.Boxes.{boxed_simple_view, boxed_first_view}

-- ---- declarations

-- [ "=" expr ]
abbrev pub initialiser : Bool → ℕ → Reads (Option Expr)
initialiser braces room = maybe (is_mark marks.Assign) (value room (level_at braces room))

-- ptr NAME dims [ "=" expr ], behind specifiers
abbrev pub first_initialised : Bool → ℕ → ℕ → Reads InitDeclarator
first_initialised braces room deeper = initialised room (level_at braces room) (bare_declared as_name room deeper (level_at braces deeper))

-- "," ptr NAME dims [ "=" expr ]
abbrev pub next_initialised : Bool → ℕ → ℕ → Reads InitDeclarator
next_initialised braces room deeper = made (λ (_, a). a) (tok room (mark_is marks.Comma) & initialised room (level_at braces room) (declared as_name room deeper (level_at braces deeper)))

-- these, behind the ones that were read
abbrev pub more_initialised : Bool → ℕ → ℕ → List InitDeclarator → Reads (List InitDeclarator)
more_initialised braces room deeper = links (λ _. is_mark marks.Comma) (λ _. next_initialised braces room deeper) pushed

-- specs ptr NAME dims rest, where there is room
abbrev pub declaration_by : ℕ → ℕ → Reads Declaration
declaration_by room deeper = made (λ (ss, (ds, _)). record { specs = ss; declarators = ds })
    (specs false room deeper (level_at false deeper)
    & commas room (first_initialised false room deeper) (initialised room (level_at false room) (declared as_name room deeper (level_at false deeper)))
    & tok room (mark_is marks.Semicolon))

-- ---- statements

-- what a simple statement is, by what stands behind its expression
abbrev pub behind : ℕ → Expr → Reads Simple
behind room e = made (simple_of e) (simple_tail room (level_at false room) e)

-- a simple statement that begins with an expression
abbrev pub assigned : ℕ → Reads Simple
assigned room = full (made (λ (e, t). simple_of e t) ((level_at false room).expr ▸ simple_tail room (level_at false room)))

-- simple, where there is room
abbrev pub simple_by : ℕ → ℕ → Reads Simple
simple_by room deeper = either is_step
    (made (λ ((place, op), e). before place op e) (tok room step_of & full (level_at false deeper).unary))
    (assigned room)

-- simple ";", first between the brackets of a for
abbrev pub simple_first_at : ℕ → Reads ForFirst
simple_first_at room = made (λ (s, _). first_simple s) (simply room & tok room (mark_is marks.Semicolon))

-- [ simple ] ";", first in them
abbrev pub short_first_at : ℕ → Reads ForFirst
short_first_at room = either (is_mark marks.Semicolon) (made (λ _. first_nothing) (tok room (mark_is marks.Semicolon))) (simple_first_at room)

-- [ expr ] ";", second between the brackets of a for
abbrev pub for_condition : ℕ → Reads (Option Expr)
for_condition room = made (λ (e, _). e) (maybe begins_expr (full (level_at false room).expr) & tok room (mark_is marks.Semicolon))

-- [ simple ] ")", last in them
abbrev pub for_step : ℕ → Reads (Option Simple)
for_step room = made (λ (s, _). s) (maybe begins_simple (simply room) & tok room (mark_is marks.CloseParen))

-- all of them
abbrev pub for_head : ℕ → Reads (ForFirst × (Option Expr × Option Simple))
for_head room = made (λ (_, (f, (e, s))). (f, (e, s))) (tok room (mark_is marks.OpenParen) & first room & for_condition room & for_step room)

-- what the code read between the brackets of a for, as the trees of the grammar
abbrev pub head_view : ForHead → ForFirst × (Option Expr × Option Simple)
head_view h = (boxed_first_view h.first, (option_map boxed_expr_view h.condition, option_map boxed_simple_view h.step))

-- statements with no statement in them
abbrev pub empty_at : ℕ → Reads Stmt
empty_at room = made empty (tok room (mark_place marks.Semicolon))

-- "break" ";" (C11 6.8.6.3)
abbrev pub break_at : ℕ → Reads Stmt
break_at room = made (λ (place, _). break place) (tok room (word_place words.Break) & tok room (mark_is marks.Semicolon))

-- "continue" ";" (C11 6.8.6.2)
abbrev pub continue_at : ℕ → Reads Stmt
continue_at room = made (λ (place, _). continue place) (tok room (word_place words.Continue) & tok room (mark_is marks.Semicolon))

-- "return" [ expr ] ";" (C11 6.8.6.4)
abbrev pub return_at : ℕ → Reads Stmt
return_at room = made (λ (place, (e, _)). return place e)
    (tok room (word_place words.Return) & maybe begins_expr (full (level_at false room).expr) & tok room (mark_is marks.Semicolon))

-- simple ";" (C11 6.8.3)
abbrev pub simple_stmt_at : ℕ → Reads Stmt
simple_stmt_at room = made (λ (s, _). simple s) (simply room & tok room (mark_is marks.Semicolon))

-- decl | stmt
abbrev pub item_at : ℕ → Reads Stmt
item_at room = either begins_type (made declare (declaration room)) (stmt_at room)

-- { decl | stmt }
abbrev pub item_row : ℕ → Reads (List Stmt)
item_row room = row begins_item (item_at room)

-- "case" expr ":" (C11 6.8.1)
abbrev pub case_at : ℕ → Reads Stmt
case_at room = made (λ (place, (e, _)). case_label place e) (tok room (word_place words.Case) & full (level_at false room).expr & tok room (mark_is marks.Colon))

-- "default" ":" (C11 6.8.1)
abbrev pub default_at : ℕ → Reads Stmt
default_at room = made (λ (place, _). default_label place) (tok room (word_place words.Default) & tok room (mark_is marks.Colon))

-- label | stmt
abbrev pub entry_at : ℕ → Reads Stmt
entry_at room = either is_label (label room) (stmt_at room)

-- { label | stmt }
abbrev pub entry_row : ℕ → Reads (List Stmt)
entry_row room = row begins_entry (entry_at room)

-- [ "else" stmt ]
abbrev pub otherwise : ℕ → Reads Stmt → Reads (Option Stmt)
otherwise room inner = maybe (is_word words.Else) (made (λ (_, t). t) (tok room (word_is words.Else) & inner))

-- the place of the opening brace, and what stands between the braces
abbrev pub block_view : Block → ℕ × List Stmt
block_view b = (b.place, map stmt_view b.items.items)

-- ---- what the code chooses by

-- what stands behind the expression of a simple statement: the code's answer, as the readers have it
abbrev pub tail_view : TailStart → reading.TailStart
tail_view tails.Step = reading.Stepped
tail_view tails.Assign = reading.Assigned
tail_view tails.Nothing = reading.Nothing

-- which statement is next: the code's answer, as the readers have it
abbrev pub stmt_start_view : StmtStart → reading.StmtStart
stmt_start_view stmts.Block = reading.ABlock
stmt_start_view stmts.Empty = reading.AnEmpty
stmt_start_view stmts.If = reading.AnIf
stmt_start_view stmts.While = reading.AWhile
stmt_start_view stmts.For = reading.AFor
stmt_start_view stmts.Do = reading.ADo
stmt_start_view stmts.Switch = reading.ASwitch
stmt_start_view stmts.Break = reading.ABreak
stmt_start_view stmts.Continue = reading.AContinue
stmt_start_view stmts.Return = reading.AReturn
stmt_start_view stmts.Simple = reading.ASimple

-- ---- files

-- { "[" [ expr ] "]" }, behind n stars
unfoldable pub param_dims : ℕ → ℕ → Reads (List ParamDim)
param_dims deeper n = chain (nothing []) (is_mark marks.OpenBracket) (λ front. param_dim deeper (n + length front)) pushed

-- specs ptr [ NAME ] { "[" [ expr ] "]" }
abbrev pub param_by : ℕ → ℕ → Reads Param
param_by room deeper = made (λ (ss, (ps, (n, ds))). record { specs = ss; pointers = ps; name = n; dims = ds })
    (specs false room deeper (level_at false deeper) & bare_pointers room ▸ λ ps. maybe is_name (tok room name_of) & param_dims deeper (stars 0 ps))

-- "," param
abbrev pub next_param : Reads Param
next_param = made (λ (_, a). a) (tok 128 (mark_is marks.Comma) & param 128 127)

-- param { "," param }
abbrev pub param_row : Reads (List Param)
param_row = commas 128 (param 128 127) (param 128 127)

-- [ params ]
abbrev pub maybe_params : Reads (List Param)
maybe_params = either begins_type param_row (nothing [])

-- dims [ "=" expr ], behind the name
abbrev pub first_variable : List Pointer → Name → Reads InitDeclarator
first_variable ps n = made (λ (es, v). init_by (declarator ps n (exprs_of es)) v) (dims 128 (level_at true 128) (stars 0 ps) & initialiser true 129)

-- dims rest, behind the name: the first declarator, and then the rest
abbrev pub variable_by : List Pointer → Name → Reads Rest
variable_by ps n = made (λ (_, (ds, _)). variables ds) (first_variable ps n ▸ λ i. more_initialised true 129 128 (i ∷ []) & tok 129 (mark_is marks.Semicolon))

-- "(" [ params ] ")" ( body | ";" ), behind the name
abbrev pub function_rest : List Pointer → Name → Reads Rest
function_rest ps n = made (λ (all, b). function ps n all b) (params & body)

-- ptr NAME ( "(" [ params ] ")" ( body | ";" ) | dims rest )
abbrev pub declared_rest : Reads Rest
declared_rest = made (λ (_, (_, r)). r) (bare_pointers 129 ▸ λ ps. tok 129 name_of ▸ λ n. named_rest ps n)

-- { "static" | "inline" }
abbrev pub storage_row : Reads (List Storage)
storage_row = row is_storage (tok 129 storage_of)

-- { "static" | "inline" } specs and the rest
abbrev pub other_external : Reads External
other_external = made (λ (storage, (ss, r)). external_of storage ss r) (storage_row & specs true 129 128 (level_at true 128) & external_rest)

-- { external }
abbrev pub external_row : Reads (List External)
external_row = row begins_external external

-- a file, and nothing behind it
abbrev pub nothing_behind : File → ℕ → List Terminal → Reading File
nothing_behind f c [] = got f c []
nothing_behind f c (t ∷ ts) = Err (stop unexpected (length (t ∷ ts)))

-- one file, which takes all of the tokens
abbrev pub whole_file : Reads File
whole_file c ts = file c ts >>= λ x. nothing_behind x.tree x.count x.rest
