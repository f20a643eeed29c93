-- Where whatever may stand in a place lies too deep: declarations, statements and files.
use Rattle.std.proofs.Common.{◌≡◌, ℕ, zero, suc, ◌+◌, ◌≤◌, List, [], length, Option, Some, Bool, true, false, refl, arith}
use Rattle.std.specs.Prelude.{◌==◌}
use Rattle.c_lex.specs.declared.token.Word.TheVariants as words
use Rattle.c_lex.specs.declared.token.Mark.TheVariants as marks
use Rattle.c_tree.specs.declared.syntax.Name.{Name}
use Rattle.c_tree.specs.declared.syntax.Pointer.{Pointer}
use Rattle.c_tree.specs.Syntax.{Expr, Declarator, Stmt, declare, empty}
use Rattle.c_grammar.specs.Grammar.{stars, rank, as_name}
use Rattle.c_grammar.specs.inner.Readers.{Reads, Sort, ◌&◌, made, full, maybe, pushed}
use Rattle.c_grammar.specs.inner.Tokens.{tok, name_of, word_is, mark_is, word_place, mark_place, step_of, assign_of, storage_of, end_of, is_mark, is_word, begins_type, begins_expr, begins_simple, is_storage}
use Rattle.c_grammar.specs.inner.Reading.{Level, commas, either_by, either, declared, bare_declared, level_at, initialised, declaration, TailStart, Stepped, Assigned, Nothing, tail_start, tail_by, simple_tail, is_step, simply, condition, first, StmtStart, ABlock, AnEmpty, AnIf, AWhile, AFor, ABreak, AContinue, AReturn, ASimple, stmt_start, begins_stmt, begins_item, items, stmt_by, stmt_at, param_dim, is_name, param_behind, param, params, body, variable_rest, named_rest, external_rest, typedef, external, begins_external, file, typed, ADo, ASwitch, label, is_label, begins_entry, entries}
use Rattle.c_grammar.proofs.Sorts.{is_inside}
use Rattle.c_grammar.proofs.Steadiness.{Takes}
use Rattle.c_grammar.proofs.Sinking.{Sinks, take_takes, Fine, Nested, Enters, enters_nested, enters, less_fine, fine_nothing, fine_both, nested_both, fine_made, nested_made, fine_full, nested_full, fine_tok, behind_tok, nested_derived, nested_too_deep, nested_room, fine_choice, fine_maybe, fine_either, fine_chain, takes_both, takes_made, takes_choice, fine_as}
use Rattle.c_grammar.proofs.SinkingParts.{place_sorts, nested_mark, nested_place, enters_at, tok_takes, fine_row, fine_commas, LevelSinks, value_sink, specs_sink, specs_takes, bare_sink, dims_sink, declared_sink, bare_declared_sink, deep_takes, level_sinks, any_sink}

-- ---- declarations

initialised_sink : (n : ℕ) (here : Level) → LevelSinks n here → {d : Reads Declarator} → Fine n d → Fine n (initialised n here d)
unfolding initialised
initialised_sink n here l m = fine_made _ (fine_both m (λ _. fine_maybe (is_mark marks.Assign) (enters (value_sink n here l) (λ x. is_mark marks.Assign x ≡ true))))

-- the declarators of a declaration, and their semicolon
declaration_rest : (n : ℕ) → Fine (suc n) (commas (suc n) (initialised (suc n) (level_at false (suc n)) (bare_declared as_name (suc n) n (level_at false n))) (initialised (suc n) (level_at false (suc n)) (declared as_name (suc n) n (level_at false n))) & tok (suc n) (mark_is marks.Semicolon))
declaration_rest n =
    let here = level_sinks false (suc n) in
    let inner = level_sinks false n in
    let head = initialised_sink (suc n) (level_at false (suc n)) here (bare_declared_sink as_name n (level_at false n) inner) in
    let more = initialised_sink (suc n) (level_at false (suc n)) here (declared_sink as_name n (level_at false n) inner) in
    fine_both (fine_commas (suc n) head more) (λ _. fine_tok (suc n) (mark_is marks.Semicolon))

declaration_sink : (n : ℕ) → Nested n begins_type (declaration n)
unfolding declaration
declaration_sink zero = nested_too_deep begins_type
declaration_sink (suc n) = nested_room (fine_made _ (fine_both (specs_sink false n (level_at false n) (level_sinks false n)) (λ _. declaration_rest n)))

declaration_takes : (n : ℕ) → Takes (declaration n)
unfolding declaration
declaration_takes zero = deep_takes begins_type
declaration_takes (suc n) = takes_made _ (takes_both (specs_takes false n (level_at false n) (level_sinks false n)) (λ _. (declaration_rest n).steady))

-- ---- simple statements

tail_part : (n : ℕ) (here : Level) → LevelSinks n here → (s : TailStart) → Fine n (tail_by n here s)
tail_part n here l Stepped = fine_made _ (fine_tok n step_of)
tail_part n here l Assigned = fine_made _ (fine_both (fine_tok n assign_of) (λ _. l.expr.law))
tail_part n here l Nothing = fine_nothing n _

tail_sink : (n : ℕ) (here : Level) → LevelSinks n here → (e : Expr) → Fine n (simple_tail n here e)
tail_sink n here l e = fine_choice (tail_start (rank e == 0)) (tail_by n here) (λ s. enters (tail_part n here l s) (λ x. tail_start (rank e == 0) x ≡ Some s))

simply_sink : (n : ℕ) → Nested n begins_simple (simply n)
unfolding simply
simply_sink zero = nested_too_deep begins_simple
simply_sink (suc n) =
    let here = level_sinks false (suc n) in
    let step = fine_made _ (behind_tok (suc n) n step_of (nested_full (level_sinks false n).unary)) in
    let others = fine_full (fine_made _ (fine_both here.expr.law (tail_sink (suc n) (level_at false (suc n)) here))) in
    nested_room (fine_either is_step (enters step (λ x. is_step x ≡ true)) (enters others (λ x. is_step x ≡ false)))

-- a simple statement, and its semicolon
ended_sink : (n : ℕ) → Fine n (simply n & tok n (mark_is marks.Semicolon))
ended_sink n = fine_both (simply_sink n).law (λ _. fine_tok n (mark_is marks.Semicolon))

-- an expression that may be left out
maybe_expr_sink : (n : ℕ) → Fine n (maybe begins_expr (full (level_at false n).expr))
maybe_expr_sink n = fine_maybe begins_expr (enters (fine_full (level_sinks false n).expr.law) (λ x. begins_expr x ≡ true))

-- ---- statements

condition_sink : (n : ℕ) → Nested n (is_mark marks.OpenParen) (condition n)
unfolding condition
condition_sink n = nested_made _ (nested_both (nested_mark n marks.OpenParen) (λ _. fine_both (fine_full (level_sinks false n).expr.law) (λ _. fine_tok n (mark_is marks.CloseParen))))

first_sink : (n : ℕ) → Fine n (first n)
unfolding first
first_sink n =
    let declared = enters (fine_made _ (declaration_sink n).law) (λ x. begins_type x ≡ true) in
    let none = enters (fine_made _ (fine_tok n (mark_is marks.Semicolon))) (λ x. is_mark marks.Semicolon x ≡ true) in
    let simple = enters (fine_made _ (ended_sink n)) (λ x. is_mark marks.Semicolon x ≡ false) in
    fine_either begins_type declared (enters (fine_either (is_mark marks.Semicolon) none simple) (λ x. begins_type x ≡ false))

item_takes : (n : ℕ) (stmt : Reads Stmt) → Takes stmt → Takes (either begins_type (made declare (declaration n)) stmt)
item_takes n stmt k = takes_choice (λ s. Some (begins_type s)) (either_by (made declare (declaration n)) stmt) (elim [ true ↦ takes_made declare (declaration_takes n) | false ↦ k ])

items_sink : (n : ℕ) (stmt : Reads Stmt) → Fine n stmt → Takes stmt → Nested n (is_mark marks.OpenBrace) (items n stmt)
unfolding items
items_sink n stmt l k =
    let item = fine_either begins_type (enters (fine_made declare (declaration_sink n).law) (λ x. begins_type x ≡ true)) (enters l (λ x. begins_type x ≡ false)) in
    nested_made _ (nested_both (nested_place n marks.OpenBrace) (λ _. fine_both (fine_row begins_item (enters item (λ x. begins_item x ≡ true)) (item_takes n stmt k)) (λ _. fine_tok n (mark_is marks.CloseBrace))))

abbrev is_block : Option StmtStart → Bool
is_block (Some ABlock) = true
is_block _ = false

block_is : (x : Sort) → stmt_start x ≡ Some ABlock → is_mark marks.OpenBrace x ≡ true
block_is x e = is_inside (λ x. is_block (stmt_start x)) (is_mark marks.OpenBrace) refl x (rw e refl)

-- what stands behind the opening bracket of a for
for_rest : (n : ℕ) {inner : Reads Stmt} → Fine n inner → Fine n (first n & maybe begins_expr (full (level_at false n).expr) & tok n (mark_is marks.Semicolon) & maybe begins_simple (simply n) & tok n (mark_is marks.CloseParen) & inner)
for_rest n l =
    let step = fine_maybe begins_simple (enters (simply_sink n).law (λ x. begins_simple x ≡ true)) in
    fine_both (first_sink n) (λ _. fine_both (maybe_expr_sink n) (λ _. fine_both (fine_tok n (mark_is marks.Semicolon)) (λ _. fine_both step (λ _. fine_both (fine_tok n (mark_is marks.CloseParen)) (λ _. l)))))

label_sink : (n : ℕ) → Fine n (label n)
unfolding label
label_sink n =
    let of_case = fine_made _ (fine_both (fine_tok n (word_place words.Case)) (λ _. fine_both (fine_full (level_sinks false n).expr.law) (λ _. fine_tok n (mark_is marks.Colon)))) in
    let of_default = fine_made _ (fine_both (fine_tok n (word_place words.Default)) (λ _. fine_tok n (mark_is marks.Colon))) in
    fine_either (is_word words.Case) (enters of_case (λ x. is_word words.Case x ≡ true)) (enters of_default (λ x. is_word words.Case x ≡ false))

label_takes : (n : ℕ) → Takes (label n)
unfolding label
label_takes n = takes_choice (λ s. Some (is_word words.Case s)) (either_by _ _) (elim [
  | true ↦ takes_made _ (takes_both (tok_takes n (word_place words.Case)) (λ _. (fine_both (fine_full (level_sinks false n).expr.law) (λ _. fine_tok n (mark_is marks.Colon))).steady))
  | false ↦ takes_made _ (takes_both (tok_takes n (word_place words.Default)) (λ _. (fine_tok n (mark_is marks.Colon)).steady))
])

entries_sink : (n : ℕ) (stmt : Reads Stmt) → Fine n stmt → Takes stmt → Nested n (is_mark marks.OpenBrace) (entries n stmt)
unfolding entries
entries_sink n stmt l k =
    let entry = fine_either is_label (enters (label_sink n) (λ x. is_label x ≡ true)) (enters l (λ x. is_label x ≡ false)) in
    let takes = takes_choice (λ s. Some (is_label s)) (either_by (label n) stmt) (elim [ true ↦ label_takes n | false ↦ k ]) in
    nested_made _ (nested_both (nested_mark n marks.OpenBrace) (λ _. fine_both (fine_row begins_entry (enters entry (λ x. begins_entry x ≡ true)) takes) (λ _. fine_tok n (mark_is marks.CloseBrace))))

stmt_part : (n : ℕ) {inner : Reads Stmt} → Nested n begins_stmt inner → Takes inner → (s : StmtStart) → Enters (suc n) (λ x. stmt_start x ≡ Some s) (stmt_by (suc n) n inner s)
stmt_part n {inner = inner} l k ABlock = enters_nested n (suc n) (is_mark marks.OpenBrace) (nested_made _ (items_sink n inner l.law k)) (λ x. stmt_start x ≡ Some ABlock) block_is
stmt_part n l k AnEmpty = enters (fine_made empty (fine_tok (suc n) (mark_place marks.Semicolon))) (λ x. stmt_start x ≡ Some AnEmpty)
stmt_part n l k AnIf =
    let otherwise = fine_maybe (is_word words.Else) (enters (fine_made _ (behind_tok (suc n) n (word_is words.Else) l)) (λ x. is_word words.Else x ≡ true)) in
    enters (fine_made _ (behind_tok (suc n) n (word_place words.If) (nested_both (condition_sink n) (λ _. fine_both l.law (λ _. less_fine otherwise))))) (λ x. stmt_start x ≡ Some AnIf)
stmt_part n l k AWhile = enters (fine_made _ (behind_tok (suc n) n (word_place words.While) (nested_both (condition_sink n) (λ _. l.law)))) (λ x. stmt_start x ≡ Some AWhile)
stmt_part n l k AFor = enters (fine_made _ (behind_tok (suc n) n (word_place words.For) (nested_both (nested_mark n marks.OpenParen) (λ _. for_rest n l.law)))) (λ x. stmt_start x ≡ Some AFor)
stmt_part n l k ADo =
    let last = behind_tok (suc n) n (word_is words.While) (nested_both (condition_sink n) (λ _. less_fine (fine_tok (suc n) (mark_is marks.Semicolon)))) in
    enters (fine_made _ (behind_tok (suc n) n (word_place words.Do) (nested_both l (λ _. less_fine last)))) (λ x. stmt_start x ≡ Some ADo)
stmt_part n {inner = inner} l k ASwitch = enters (fine_made _ (behind_tok (suc n) n (word_place words.Switch) (nested_both (condition_sink n) (λ _. (entries_sink n inner l.law k).law)))) (λ x. stmt_start x ≡ Some ASwitch)
stmt_part n l k ABreak = enters (fine_made _ (fine_both (fine_tok (suc n) (word_place words.Break)) (λ _. fine_tok (suc n) (mark_is marks.Semicolon)))) (λ x. stmt_start x ≡ Some ABreak)
stmt_part n l k AContinue = enters (fine_made _ (fine_both (fine_tok (suc n) (word_place words.Continue)) (λ _. fine_tok (suc n) (mark_is marks.Semicolon)))) (λ x. stmt_start x ≡ Some AContinue)
stmt_part n l k AReturn = enters (fine_made _ (fine_both (fine_tok (suc n) (word_place words.Return)) (λ _. fine_both (maybe_expr_sink (suc n)) (λ _. fine_tok (suc n) (mark_is marks.Semicolon))))) (λ x. stmt_start x ≡ Some AReturn)
stmt_part n l k ASimple = enters (fine_made _ (ended_sink (suc n))) (λ x. stmt_start x ≡ Some ASimple)

-- each statement takes a token
abbrev pub StmtsTake : ℕ → Type 0
StmtsTake m = (n : ℕ) → n ≤ m → Takes (stmt_at n)

stmt_sink : (m : ℕ) → StmtsTake m → (n : ℕ) → n ≤ m → Nested n begins_stmt (stmt_at n)
unfolding stmt_at
stmt_sink m k zero le = nested_too_deep begins_stmt
stmt_sink m k (suc n) le =
    let inner = stmt_sink m k n (omega arith) in
    nested_room (fine_choice stmt_start (stmt_by (suc n) n (stmt_at n)) (stmt_part n inner (k n (omega arith))))

-- ---- files

param_dim_sink : (n k : ℕ) → Nested n (is_mark marks.OpenBracket) (param_dim n k)
unfolding param_dim
param_dim_sink n k = nested_made _ (nested_both (nested_derived n k (is_mark marks.OpenBracket) (mark_place marks.OpenBracket) (place_sorts marks.OpenBracket)) (λ _. fine_both (maybe_expr_sink n) (λ _. fine_tok n (mark_is marks.CloseBracket))))

param_dim_takes : (n k : ℕ) → Takes (param_dim n k)
unfolding param_dim
param_dim_takes n k = takes_made _ (takes_both (take_takes (mark_place marks.OpenBracket) _ _) (λ _. (fine_both (maybe_expr_sink n) (λ _. fine_tok n (mark_is marks.CloseBracket))).steady))

param_behind_sink : (n : ℕ) (ps : List Pointer) → Fine (suc n) (param_behind (suc n) n ps)
unfolding param_behind
param_behind_sink n ps =
    let name = fine_maybe is_name (enters (fine_tok (suc n) name_of) (λ x. is_name x ≡ true)) in
    fine_both name (λ _. fine_chain (fine_nothing (suc n) []) (is_mark marks.OpenBracket) (λ front. param_dim n (stars 0 ps + length front)) pushed (λ front. enters_at n (is_mark marks.OpenBracket) (param_dim_sink n (stars 0 ps + length front))) (λ front. param_dim_takes n (stars 0 ps + length front)))

param_sink : (n : ℕ) → Fine (suc n) (param (suc n) n)
unfolding param
param_sink n = fine_made _ (fine_both (specs_sink false n (level_at false n) (level_sinks false n)) (λ _. fine_both (bare_sink (suc n)) (param_behind_sink n)))

params_sink : Fine 128 params
unfolding params
params_sink =
    let some = fine_either begins_type (enters (fine_commas 128 (param_sink 127) (param_sink 127)) (λ x. begins_type x ≡ true)) (enters (fine_nothing 128 []) (λ x. begins_type x ≡ false)) in
    fine_made _ (fine_both (fine_tok 128 (mark_is marks.OpenParen)) (λ _. fine_both some (λ _. fine_tok 128 (mark_is marks.CloseParen))))

-- levels with room are alike
up : {A : Type 0} {r : Reads A} → Fine 128 r → Fine 129 r
up l = fine_as 128 129 (omega arith) l

body_sink : StmtsTake 128 → Fine 129 body
unfolding body
body_sink k =
    let block = up (items_sink 128 (stmt_at 128) (stmt_sink 128 k 128 (omega arith)).law (k 128 (omega arith))).law in
    fine_either (is_mark marks.OpenBrace) (enters (fine_made _ block) (λ x. is_mark marks.OpenBrace x ≡ true)) (enters (fine_made _ (fine_tok 129 (mark_is marks.Semicolon))) (λ x. is_mark marks.OpenBrace x ≡ false))

-- one more declarator at file scope, behind its comma
more_sink : Fine 129 (made (λ (_, i). i) (tok 129 (mark_is marks.Comma) & initialised 129 (level_at true 129) (declared as_name 129 128 (level_at true 128))))
more_sink = fine_made _ (fine_both (fine_tok 129 (mark_is marks.Comma)) (λ _. initialised_sink 129 (level_at true 129) (level_sinks true 129) (declared_sink as_name 128 (level_at true 128) (level_sinks true 128))))

more_takes : Takes (made (λ (_, i). i) (tok 129 (mark_is marks.Comma) & initialised 129 (level_at true 129) (declared as_name 129 128 (level_at true 128))))
more_takes = takes_made _ (takes_both (tok_takes 129 (mark_is marks.Comma)) (λ _. (initialised_sink 129 (level_at true 129) (level_sinks true 129) (declared_sink as_name 128 (level_at true 128) (level_sinks true 128))).steady))

variable_sink : (ps : List Pointer) (n : Name) → Fine 129 (variable_rest ps n)
unfolding variable_rest
variable_sink ps n =
    let init = fine_maybe (is_mark marks.Assign) (enters (value_sink 129 (level_at true 129) (level_sinks true 129)) (λ x. is_mark marks.Assign x ≡ true)) in
    let more = fine_row (is_mark marks.Comma) (enters more_sink (λ x. is_mark marks.Comma x ≡ true)) more_takes in
    fine_made _ (fine_both (dims_sink 128 (level_at true 128) (level_sinks true 128) (stars 0 ps)) (λ _. fine_both init (λ _. fine_both more (λ _. fine_tok 129 (mark_is marks.Semicolon)))))

named_rest_sink : StmtsTake 128 → (ps : List Pointer) (n : Name) → Fine 129 (named_rest ps n)
unfolding named_rest
named_rest_sink k ps n = fine_either (is_mark marks.OpenParen) (enters (fine_made _ (fine_both (up params_sink) (λ _. body_sink k))) (λ x. is_mark marks.OpenParen x ≡ true)) (enters (variable_sink ps n) (λ x. is_mark marks.OpenParen x ≡ false))

external_rest_sink : StmtsTake 128 → Fine 129 external_rest
unfolding external_rest
external_rest_sink k =
    let declared = fine_made _ (fine_both (bare_sink 129) (λ ps. fine_both (fine_tok 129 name_of) (named_rest_sink k ps))) in
    fine_either (is_mark marks.Semicolon) (enters (fine_made _ (fine_tok 129 (mark_is marks.Semicolon))) (λ x. is_mark marks.Semicolon x ≡ true)) (enters declared (λ x. is_mark marks.Semicolon x ≡ false))

typedef_sink : Fine 129 typedef
unfolding typedef
typedef_sink =
    fine_made _ (fine_both (fine_tok 129 (word_is words.Typedef)) (λ _. fine_both (specs_sink true 128 (level_at true 128) (level_sinks true 128)) (λ ss. any_sink 128 (level_at true 128) (level_sinks true 128) (typed false ss))))

external_sink : StmtsTake 128 → Fine 129 external
unfolding external
external_sink k =
    let storage = fine_row is_storage (enters (fine_tok 129 storage_of) (λ x. is_storage x ≡ true)) (tok_takes 129 storage_of) in
    let other = fine_made _ (fine_both storage (λ _. fine_both (specs_sink true 128 (level_at true 128) (level_sinks true 128)) (λ _. external_rest_sink k))) in
    fine_either (is_word words.Typedef) (enters typedef_sink (λ x. is_word words.Typedef x ≡ true)) (enters other (λ x. is_word words.Typedef x ≡ false))

-- a whole file
pub file_sinks : StmtsTake 128 → Takes external → Sinks file
unfolding file
file_sinks k e =
    let all = fine_row begins_external (enters (external_sink k) (λ x. begins_external x ≡ true)) e in
    (fine_made _ (fine_both all (λ _. fine_tok 129 end_of))).sinks (omega arith)
