-- Where whatever may stand in a place lies too deep, for the productions of expressions, types and declarators.
use Rattle.std.proofs.Common.{◌≡◌, ℕ, zero, suc, ◌+◌, List, [], ◌∷◌, length, Option, Some, Ok, Bool, true, false, refl}
use denote.Enum.Bare.{sameb}
use Rattle.c_lex.specs.declared.token.Word.TheVariants as words
use Rattle.c_lex.specs.declared.token.Mark.{Mark}
use Rattle.c_lex.specs.declared.token.Mark.TheVariants as marks
use Rattle.c_grammar.specs.declared.terminal.TerminalKind.{TerminalKind}
use Rattle.c_grammar.specs.declared.terminal.TerminalKind.TheVariants as kinds
use Rattle.c_grammar.specs.declared.terminal.Terminal.{Terminal}
use Rattle.c_lex.specs.contracts.token.Mark.{the_type as mark_type}
use Rattle.c_tree.specs.declared.syntax.Pointer.{Pointer}
use Rattle.c_tree.specs.declared.syntax.Pointer.TheVariants.{Star, Const, Restrict}
use Rattle.c_tree.specs.Syntax.{Expr}
use Rattle.c_tree.specs.Syntax as trees
use Rattle.c_grammar.specs.Grammar.{stars, Naming, as_any, naming_of}
use Rattle.c_grammar.specs.Leaves.{if_so}
use Rattle.c_grammar.specs.inner.Readers.{Got, Reads, Sort, sort_of_kind, ◌&◌, made, choice, refused, too_deep, maybe, pushed, row, row_from}
use Rattle.c_grammar.specs.inner.Tokens.{tok, name_of, tag_of, type_name_of, is_type_name, int_of, char_of, text_of, word_is, mark_is, mark_of_kind, word_place, mark_place, prefix_of, binary_of, type_word_of, is_some, is_mark, is_word, is_text, is_binary, begins_type, begins_expr, is_pointer}
use Rattle.c_grammar.specs.inner.Reading.{Level, commas, arguments, named, texts, Operand, Named, AnInt, AChar, Texts, NullWord, operand_start, operand_by, operand, PostStart, Bracket, Dot, Arrow, post_start, begins_post, post_by, post, posted, group_rest, UnaryStart, Primary, Paren, Prefix, Sizeof, unary_start, unary_by, unary, paren_rest, cast_by, casted, sized, ladder, expr, value, enumerated, parted, begins_enumerator, enumerators, by_tag, by_body, tagged, SpecStart, TypeWords, StructWord, EnumWord, spec_start, members, spec_by, spec, spec_behind, typed, begins_spec, either_by, specs, pointer_start, pointer_by, pointers, unless, bare_pointers, type_named, dim, dims, declarator_behind, declared, bare_declared, membered, level_by, no_level, level_at, declared_name, any_declared}
use Rattle.c_grammar.proofs.Sorts.{is_inside}
use Rattle.c_grammar.proofs.Steadiness.{Takes}
use Rattle.c_grammar.proofs.Sinking.{take_takes, Fine, Nested, Enters, enters_nested, enters, less_fine, less_enters, fine_nothing, fine_both, nested_both, fine_made, nested_made, fine_full, fine_tok, fine_counted, behind_tok, OfSorts, nested_tok, nested_counted, nested_derived, nested_too_deep, nested_room, fine_choice, fine_maybe, fine_either, fine_chain, fine_chain_by, nested_chain, takes_both, takes_made, takes_choice, takes_chain}

-- ---- marks

some_so : (b : Bool) {A : Type 0} (a : A) → is_some (if_so b a) ≡ b
some_so true a = refl
some_so false a = refl

mark_sorts : (m : Mark) → OfSorts (is_mark m) (mark_is m)
mark_sorts m t = by_kind t.kind
  where
    by_kind : (k : TerminalKind) → is_some {A = Unit {0}} (mark_of_kind (λ j. if_so (sameb mark_type j m) tt) k) ≡ is_mark m (sort_of_kind k)
    by_kind (kinds.Mark j) = some_so (sameb mark_type j m) tt
    by_kind _ = refl

pub place_sorts : (m : Mark) → OfSorts (is_mark m) (mark_place m)
place_sorts m t = by_kind t.kind
  where
    by_kind : (k : TerminalKind) → is_some (mark_of_kind (λ j. if_so (sameb mark_type j m) t.from) k) ≡ is_mark m (sort_of_kind k)
    by_kind (kinds.Mark j) = some_so (sameb mark_type j m) t.from
    by_kind _ = refl

pub nested_mark : (n : ℕ) (m : Mark) → Nested n (is_mark m) (tok n (mark_is m))
nested_mark n m = nested_tok n (is_mark m) (mark_is m) (mark_sorts m)

pub nested_place : (n : ℕ) (m : Mark) → Nested n (is_mark m) (tok n (mark_place m))
nested_place n m = nested_tok n (is_mark m) (mark_place m) (place_sorts m)

-- a part that is nested at the level deeper, behind its mark
pub enters_at : {A : Type 0} (d : ℕ) (start : Sort → Bool) {r : Reads A} → Nested d start r → Enters (suc d) (λ x. start x ≡ true) r
enters_at d start l = enters_nested d (suc d) start l (λ x. start x ≡ true) (λ x e. e)

pub tok_takes : {A : Type 0} (n : ℕ) (class : Terminal → Option A) → Takes (tok n class)
tok_takes n class = take_takes class _ _

-- ---- rows

pub fine_row : {A : Type 0} {n : ℕ} (start : Sort → Bool) {part : Reads A} → Enters n (λ x. start x ≡ true) part → Takes part → Fine n (row start part)
fine_row {n = n} start {part = part} l k = fine_chain (fine_nothing n []) start (λ _. part) pushed (λ _. l) (λ _. k)

fine_row_from : {A : Type 0} {n : ℕ} {head : Reads A} → Fine n head → (start : Sort → Bool) {part : Reads A} → Enters n (λ x. start x ≡ true) part → Takes part → Fine n (row_from head start part)
fine_row_from h start {part = part} l k = fine_chain (fine_made (λ a. a ∷ []) h) start (λ _. part) pushed (λ _. l) (λ _. k)

pub fine_commas : {A : Type 0} (n : ℕ) {head more : Reads A} → Fine n head → Fine n more → Fine n (commas n head more)
fine_commas n h m = fine_row_from h (is_mark marks.Comma) (enters (fine_made (λ (_, a). a) (fine_both (fine_tok n (mark_is marks.Comma)) (λ _. m))) (λ x. is_mark marks.Comma x ≡ true)) (takes_made (λ (_, a). a) (takes_both (tok_takes n (mark_is marks.Comma)) (λ _. m.steady)))

-- ---- expressions

-- what a level offers, at the level with so much room
pub record LevelSinks (n : ℕ) (l : Level) : Type 0 where
  pub expr : Nested n begins_expr l.expr
  pub cast : Nested n begins_expr l.cast
  pub unary : Nested n begins_expr l.unary
  pub sized : Nested n begins_expr l.sized
  pub type_name : Nested n begins_type l.type_name
  pub member : Nested n begins_type l.member
  pub member_takes : Takes l.member

arguments_sink : (d : ℕ) (inner : Level) → LevelSinks d inner → Nested d (is_mark marks.OpenParen) (arguments d inner)
unfolding arguments
arguments_sink d inner l =
    let some = fine_either begins_expr (enters (fine_commas d l.expr.law l.expr.law) (λ x. begins_expr x ≡ true)) (enters (fine_nothing d []) (λ x. begins_expr x ≡ false)) in
    nested_made (λ (_, (all, _)). all) (nested_both (nested_mark d marks.OpenParen) (λ _. fine_both some (λ _. fine_tok d (mark_is marks.CloseParen))))

named_sink : (d : ℕ) (inner : Level) → LevelSinks d inner → Fine (suc d) (named (suc d) d inner)
unfolding named
named_sink d inner l = fine_made _ (fine_both (fine_tok (suc d) name_of) (λ _. fine_maybe (is_mark marks.OpenParen) (enters_at d (is_mark marks.OpenParen) (arguments_sink d inner l))))

texts_sink : (n : ℕ) → Fine n (texts n)
unfolding texts
texts_sink n = fine_made _ (fine_row_from (fine_tok n text_of) is_text (enters (fine_tok n text_of) (λ x. is_text x ≡ true)) (tok_takes n text_of))

operand_part : (d : ℕ) (inner : Level) → LevelSinks d inner → (s : Operand) → Fine (suc d) (operand_by (suc d) d inner s)
operand_part d inner l Named = named_sink d inner l
operand_part d inner l AnInt = fine_made _ (fine_tok (suc d) int_of)
operand_part d inner l AChar = fine_made _ (fine_tok (suc d) char_of)
operand_part d inner l Texts = texts_sink (suc d)
operand_part d inner l NullWord = fine_made _ (fine_tok (suc d) (word_place words.Null))

operand_sink : (d : ℕ) (inner : Level) → LevelSinks d inner → Fine (suc d) (operand (suc d) d inner)
unfolding operand
operand_sink d inner l = fine_choice operand_start (operand_by (suc d) d inner) (λ s. enters (operand_part d inner l s) (λ x. operand_start x ≡ Some s))

-- ---- postfix operators

abbrev is_bracket : Option PostStart → Bool
is_bracket (Some Bracket) = true
is_bracket _ = false

bracket_sink : (d : ℕ) (inner : Level) → LevelSinks d inner → Nested d (is_mark marks.OpenBracket) (post_by (suc d) d inner Bracket)
bracket_sink d inner l = nested_made _ (nested_both (nested_counted d (is_mark marks.OpenBracket) (mark_place marks.OpenBracket) (place_sorts marks.OpenBracket)) (λ _. fine_both l.expr.law (λ _. fine_tok d (mark_is marks.CloseBracket))))

post_part : (d : ℕ) (inner : Level) → LevelSinks d inner → (s : PostStart) → Enters (suc d) (λ x. post_start x ≡ Some s) (post_by (suc d) d inner s)
post_part d inner l Bracket = enters_nested d (suc d) (is_mark marks.OpenBracket) (bracket_sink d inner l) (λ x. post_start x ≡ Some Bracket) (λ x e. is_inside (λ x. is_bracket (post_start x)) (is_mark marks.OpenBracket) refl x (rw e refl))
post_part d inner l Dot = enters (fine_made _ (fine_both (fine_counted (suc d) (mark_place marks.Dot)) (λ _. fine_tok (suc d) tag_of))) (λ x. post_start x ≡ Some Dot)
post_part d inner l Arrow = enters (fine_made _ (fine_both (fine_counted (suc d) (mark_place marks.Arrow)) (λ _. fine_tok (suc d) tag_of))) (λ x. post_start x ≡ Some Arrow)

post_sink : (d : ℕ) (inner : Level) → LevelSinks d inner → Fine (suc d) (post (suc d) d inner)
unfolding post
post_sink d inner l = fine_choice post_start (post_by (suc d) d inner) (post_part d inner l)

post_takes : (d : ℕ) (inner : Level) → LevelSinks d inner → Takes (post (suc d) d inner)
unfolding post
post_takes d inner l = takes_choice post_start (post_by (suc d) d inner) (elim [
  | Bracket ↦ takes_made _ (takes_both (take_takes (mark_place marks.OpenBracket) _ _) (λ _. (fine_both l.expr.law (λ _. fine_tok d (mark_is marks.CloseBracket))).steady))
  | Dot ↦ takes_made _ (takes_both (take_takes (mark_place marks.Dot) _ _) (λ _. (fine_tok (suc d) tag_of).steady))
  | Arrow ↦ takes_made _ (takes_both (take_takes (mark_place marks.Arrow) _ _) (λ _. (fine_tok (suc d) tag_of).steady))
])

group_sink : (d : ℕ) (inner : Level) → LevelSinks d inner → Nested d begins_expr (group_rest (suc d) d inner)
unfolding group_rest
group_sink d inner l =
    nested_chain (nested_made _ (nested_both l.expr (λ _. fine_tok d (mark_is marks.CloseParen)))) begins_post (λ _. post (suc d) d inner) posted
    (λ _. less_enters (enters (post_sink d inner l) (λ x. begins_post x ≡ true))) (λ _. post_takes d inner l)

-- ---- unary expressions and casts

abbrev is_paren : Option UnaryStart → Bool
is_paren (Some Paren) = true
is_paren _ = false

paren_is : (x : Sort) → unary_start x ≡ Some Paren → is_mark marks.OpenParen x ≡ true
paren_is x e = is_inside (λ x. is_paren (unary_start x)) (is_mark marks.OpenParen) refl x (rw e refl)

unary_part : (d : ℕ) (inner : Level) → LevelSinks d inner → (s : UnaryStart) → Enters (suc d) (λ x. unary_start x ≡ Some s) (unary_by (suc d) d inner s)
unary_part d inner l Primary = enters (fine_chain (operand_sink d inner l) begins_post (λ _. post (suc d) d inner) posted (λ _. enters (post_sink d inner l) (λ x. begins_post x ≡ true)) (λ _. post_takes d inner l)) (λ x. unary_start x ≡ Some Primary)
unary_part d inner l Paren = enters_nested d (suc d) (is_mark marks.OpenParen) (nested_made _ (nested_both (nested_mark d marks.OpenParen) (λ _. (group_sink d inner l).law))) (λ x. unary_start x ≡ Some Paren) paren_is
unary_part d inner l Prefix = enters (fine_made _ (behind_tok (suc d) d prefix_of l.cast)) (λ x. unary_start x ≡ Some Prefix)
unary_part d inner l Sizeof = enters (fine_made _ (behind_tok (suc d) d (word_place words.Sizeof) l.sized)) (λ x. unary_start x ≡ Some Sizeof)

unary_sink : (d : ℕ) (inner : Level) → LevelSinks d inner → Fine (suc d) (unary (suc d) d inner)
unfolding unary
unary_sink d inner l = fine_choice unary_start (unary_by (suc d) d inner) (unary_part d inner l)

paren_sink : (d : ℕ) (inner : Level) → LevelSinks d inner → (place : ℕ) → Fine d (paren_rest (suc d) d inner place)
unfolding paren_rest
paren_sink d inner l place = fine_either begins_type
    (enters (fine_made _ (fine_both l.type_name.law (λ _. fine_both (fine_tok d (mark_is marks.CloseParen)) (λ _. l.cast.law)))) (λ x. begins_type x ≡ true))
    (enters (group_sink d inner l).law (λ x. begins_type x ≡ false))

cast_part : (d : ℕ) (inner : Level) → LevelSinks d inner → (s : UnaryStart) → Enters (suc d) (λ x. unary_start x ≡ Some s) (cast_by (suc d) d inner s)
cast_part d inner l Paren = enters_nested d (suc d) (is_mark marks.OpenParen) (nested_made _ (nested_both (nested_place d marks.OpenParen) (paren_sink d inner l))) (λ x. unary_start x ≡ Some Paren) paren_is
cast_part d inner l Primary = unary_part d inner l Primary
cast_part d inner l Prefix = unary_part d inner l Prefix
cast_part d inner l Sizeof = unary_part d inner l Sizeof

cast_sink : (d : ℕ) (inner : Level) → LevelSinks d inner → Fine (suc d) (casted (suc d) d inner)
unfolding casted
cast_sink d inner l = fine_choice unary_start (cast_by (suc d) d inner) (cast_part d inner l)

sized_sink : (d : ℕ) (inner : Level) → LevelSinks d inner → Fine (suc d) (sized (suc d) d inner)
unfolding sized
sized_sink d inner l =
    let types = fine_made _ (fine_both l.type_name.law (λ _. fine_tok d (mark_is marks.CloseParen))) in
    let rest = fine_either begins_type (enters types (λ x. begins_type x ≡ true)) (enters (fine_made _ (group_sink d inner l).law) (λ x. begins_type x ≡ false)) in
    fine_either (is_mark marks.OpenParen) (enters_at d (is_mark marks.OpenParen) (nested_made _ (nested_both (nested_mark d marks.OpenParen) (λ _. rest))))
    (enters (fine_made _ (unary_sink d inner l)) (λ x. is_mark marks.OpenParen x ≡ false))

ladder_sink : (n : ℕ) (part : Reads Expr) → Fine n part → (h : ℕ) → Fine n (ladder n part h)
unfolding ladder
ladder_sink n part l zero = l
ladder_sink n part l (suc h) =
    let more = fine_both (fine_counted n (binary_of h)) (λ _. ladder_sink n part l h) in
    fine_chain (ladder_sink n part l h) (is_binary h) _ _ (λ _. enters more (λ x. is_binary h x ≡ true)) (λ _. takes_both (take_takes (binary_of h) _ _) (λ _. (ladder_sink n part l h).steady))

expr_sink : (d : ℕ) (inner : Level) → LevelSinks d inner → Fine (suc d) (expr (suc d) d inner)
unfolding expr
expr_sink d inner l =
    let branches = behind_tok (suc d) d (mark_place marks.Question) (nested_both l.expr (λ _. less_fine (behind_tok (suc d) d (mark_is marks.Colon) l.expr))) in
    fine_made _ (fine_both (ladder_sink (suc d) (casted (suc d) d inner) (cast_sink d inner l) 10) (λ _. fine_maybe (is_mark marks.Question) (enters branches (λ x. is_mark marks.Question x ≡ true))))

-- ---- types and declarators

members_sink : (d : ℕ) (inner : Level) → LevelSinks d inner → Nested d (is_mark marks.OpenBrace) (members d inner)
unfolding members
members_sink d inner l =
    let all = fine_row_from l.member.law begins_type (enters l.member.law (λ x. begins_type x ≡ true)) l.member_takes in
    nested_made _ (nested_both (nested_mark d marks.OpenBrace) (λ _. fine_both all (λ _. fine_tok d (mark_is marks.CloseBrace))))

pub value_sink : (n : ℕ) (here : Level) → LevelSinks n here → Fine n (value n here)
unfolding value
value_sink n here l = fine_made _ (fine_both (fine_tok n (mark_is marks.Assign)) (λ _. fine_full l.expr.law))

enumerated_rest : (d : ℕ) (inner : Level) → LevelSinks d inner → Fine d (maybe (is_mark marks.Assign) (value d inner) & maybe (is_mark marks.Comma) (tok d (mark_is marks.Comma)))
enumerated_rest d inner l = fine_both (fine_maybe (is_mark marks.Assign) (enters (value_sink d inner l) (λ x. is_mark marks.Assign x ≡ true)))
    (λ _. fine_maybe (is_mark marks.Comma) (enters (fine_tok d (mark_is marks.Comma)) (λ x. is_mark marks.Comma x ≡ true)))

enumerated_sink : (d : ℕ) (inner : Level) → LevelSinks d inner → Fine d (enumerated d inner)
unfolding enumerated
enumerated_sink d inner l = fine_made _ (fine_both (fine_tok d name_of) (λ _. enumerated_rest d inner l))

enumerated_takes : (d : ℕ) (inner : Level) → LevelSinks d inner → Takes (enumerated d inner)
unfolding enumerated
enumerated_takes d inner l = takes_made _ (takes_both (tok_takes d name_of) (λ _. (enumerated_rest d inner l).steady))

enumerators_sink : (d : ℕ) (inner : Level) → LevelSinks d inner → Nested d (is_mark marks.OpenBrace) (enumerators d inner)
unfolding enumerators
enumerators_sink d inner l =
    let part = enumerated_sink d inner l in
    let all = fine_chain_by (fine_made (λ e. e ∷ []) part) (λ front. begins_enumerator (parted true front)) (λ front. enumerated d inner) pushed
    (λ front. enters part (λ x. begins_enumerator (parted true front) x ≡ true)) (λ front. enumerated_takes d inner l) in
    nested_made _ (nested_both (nested_mark d marks.OpenBrace) (λ _. fine_both all (λ _. fine_tok d (mark_is marks.CloseBrace))))

tagged_sink : {A : Type 0} (b : Bool) (d : ℕ) {body : Reads A} → Nested d (is_mark marks.OpenBrace) body → Fine (suc d) (tagged b (suc d) body)
tagged_sink true d l =
    let tag = fine_both (fine_tok (suc d) tag_of) (λ _. fine_maybe (is_mark marks.OpenBrace) (enters_at d (is_mark marks.OpenBrace) l)) in
    fine_either (is_mark marks.OpenBrace) (enters_at d (is_mark marks.OpenBrace) (nested_made by_body l)) (enters (fine_made _ tag) (λ x. is_mark marks.OpenBrace x ≡ false))
tagged_sink false d l = fine_made by_tag (fine_tok (suc d) tag_of)

spec_part : (b : Bool) (d : ℕ) (inner : Level) → LevelSinks d inner → (s : SpecStart) → Fine (suc d) (spec_by b (suc d) d inner s)
spec_part b d inner l TypeWords = fine_made _ (fine_tok (suc d) type_word_of)
spec_part b d inner l StructWord = fine_made _ (fine_both (fine_tok (suc d) (word_place words.Struct)) (λ _. tagged_sink b d (members_sink d inner l)))
spec_part b d inner l EnumWord = fine_made _ (fine_both (fine_tok (suc d) (word_place words.Enum)) (λ _. tagged_sink b d (enumerators_sink d inner l)))

spec_sink : (b : Bool) (d : ℕ) (inner : Level) → LevelSinks d inner → Fine (suc d) (spec b (suc d) d inner)
unfolding spec
spec_sink b d inner l = fine_choice spec_start (spec_by b (suc d) d inner) (λ s. enters (spec_part b d inner l s) (λ x. spec_start x ≡ Some s))

spec_takes : (b : Bool) (d : ℕ) (inner : Level) → LevelSinks d inner → Takes (spec b (suc d) d inner)
unfolding spec
spec_takes b d inner l = takes_choice spec_start (spec_by b (suc d) d inner) (elim [
  | TypeWords ↦ takes_made _ (tok_takes (suc d) type_word_of)
  | StructWord ↦ takes_made _ (takes_both (tok_takes (suc d) (word_place words.Struct)) (λ _. (tagged_sink b d (members_sink d inner l)).steady))
  | EnumWord ↦ takes_made _ (takes_both (tok_takes (suc d) (word_place words.Enum)) (λ _. (tagged_sink b d (enumerators_sink d inner l)).steady))
])

behind_sink_by : (b : Bool) (d : ℕ) (inner : Level) → LevelSinks d inner → (t : Bool) → Fine (suc d) (spec_behind b (suc d) d inner t)
behind_sink_by b d inner l true = spec_sink b d inner l
behind_sink_by b d inner l false = fine_either is_type_name (enters (fine_made trees.alias (fine_tok (suc d) type_name_of)) (λ x. is_type_name x ≡ true)) (enters (spec_sink b d inner l) (λ x. is_type_name x ≡ false))

behind_takes : (b : Bool) (d : ℕ) (inner : Level) → LevelSinks d inner → (t : Bool) → Takes (spec_behind b (suc d) d inner t)
behind_takes b d inner l true = spec_takes b d inner l
behind_takes b d inner l false = takes_choice (λ s. Some (is_type_name s)) (either_by (made trees.alias (tok (suc d) type_name_of)) (spec b (suc d) d inner)) (elim [ true ↦ takes_made trees.alias (tok_takes (suc d) type_name_of) | false ↦ spec_takes b d inner l ])

pub specs_sink : (b : Bool) (d : ℕ) (inner : Level) → LevelSinks d inner → Fine (suc d) (specs b (suc d) d inner)
unfolding specs
specs_sink b d inner l = fine_chain_by (fine_made (λ s. s ∷ []) (behind_sink_by b d inner l false)) (λ front. begins_spec (typed false front)) (λ front. spec_behind b (suc d) d inner (typed false front)) pushed
    (λ front. enters (behind_sink_by b d inner l (typed false front)) (λ x. begins_spec (typed false front) x ≡ true)) (λ front. behind_takes b d inner l (typed false front))

pub specs_takes : (b : Bool) (d : ℕ) (inner : Level) → LevelSinks d inner → Takes (specs b (suc d) d inner)
unfolding specs
specs_takes b d inner l =
    takes_chain (takes_made (λ s. s ∷ []) (behind_takes b d inner l false)) (λ front. begins_spec (typed false front)) (λ front. spec_behind b (suc d) d inner (typed false front)) pushed
    (λ front. (enters (behind_sink_by b d inner l (typed false front)) (λ x. begins_spec (typed false front) x ≡ true)).steady) (λ front. behind_takes b d inner l (typed false front))

pointer_part : (n k : ℕ) (p : Pointer) → Fine n (pointer_by n k p)
pointer_part n k Star = fine_made _ (nested_derived n k (is_mark marks.Star) (mark_is marks.Star) (mark_sorts marks.Star)).law
pointer_part n k Const = fine_made _ (fine_tok n (word_is words.Const))
pointer_part n k Restrict = fine_made _ (fine_tok n (word_is words.Restrict))

pointer_takes : (n k : ℕ) (p : Pointer) → Takes (pointer_by n k p)
pointer_takes n k Star = takes_made _ (take_takes (mark_is marks.Star) _ _)
pointer_takes n k Const = takes_made _ (tok_takes n (word_is words.Const))
pointer_takes n k Restrict = takes_made _ (tok_takes n (word_is words.Restrict))

pointers_sink : (n : ℕ) → Fine n (pointers n)
unfolding pointers
pointers_sink n = fine_chain (fine_nothing n []) is_pointer (λ front. choice pointer_start (pointer_by n (stars 0 front))) pushed
    (λ front. enters (fine_choice pointer_start (pointer_by n (stars 0 front)) (λ p. enters (pointer_part n (stars 0 front) p) (λ x. pointer_start x ≡ Some p))) (λ x. is_pointer x ≡ true))
    (λ front. takes_choice pointer_start (pointer_by n (stars 0 front)) (pointer_takes n (stars 0 front)))

pub bare_sink : (n : ℕ) → Fine n (bare_pointers n)
unfolding bare_pointers
bare_sink n = fine_choice (λ s. unless (is_word words.Const s)) (λ _. pointers n) (λ u. enters (pointers_sink n) (λ x. unless (is_word words.Const x) ≡ Some u))

type_sink : (b : Bool) (d : ℕ) (inner : Level) → LevelSinks d inner → Fine (suc d) (type_named b (suc d) d inner)
unfolding type_named
type_sink b d inner l = fine_made _ (fine_both (specs_sink b d inner l) (λ _. bare_sink (suc d)))

dim_sink : (d : ℕ) (inner : Level) → LevelSinks d inner → (k : ℕ) → Nested d (is_mark marks.OpenBracket) (dim d inner k)
unfolding dim
dim_sink d inner l k = nested_made _ (nested_both (nested_derived d k (is_mark marks.OpenBracket) (mark_is marks.OpenBracket) (mark_sorts marks.OpenBracket)) (λ _. fine_both (fine_full l.expr.law) (λ _. fine_tok d (mark_is marks.CloseBracket))))

dim_takes : (d : ℕ) (inner : Level) → LevelSinks d inner → (k : ℕ) → Takes (dim d inner k)
unfolding dim
dim_takes d inner l k = takes_made _ (takes_both (take_takes (mark_is marks.OpenBracket) _ _) (λ _. (fine_both (fine_full l.expr.law) (λ _. fine_tok d (mark_is marks.CloseBracket))).steady))

pub dims_sink : (d : ℕ) (inner : Level) → LevelSinks d inner → (k : ℕ) → Fine (suc d) (dims d inner k)
unfolding dims
dims_sink d inner l k = fine_chain (fine_nothing (suc d) []) (is_mark marks.OpenBracket) (λ front. dim d inner (k + length front)) pushed (λ front. enters_at d (is_mark marks.OpenBracket) (dim_sink d inner l (k + length front))) (λ front. dim_takes d inner l (k + length front))

behind_sink : (k : Naming) (d : ℕ) (inner : Level) → LevelSinks d inner → (ps : List Pointer) → Fine (suc d) (declarator_behind k (suc d) d inner ps)
unfolding declarator_behind
behind_sink k d inner l ps = fine_made _ (fine_both (fine_tok (suc d) (declared_name k ps)) (λ _. dims_sink d inner l (stars 0 ps)))

pub declared_sink : (k : Naming) (d : ℕ) (inner : Level) → LevelSinks d inner → Fine (suc d) (declared k (suc d) d inner)
unfolding declared
declared_sink k d inner l = fine_made _ (fine_both (pointers_sink (suc d)) (behind_sink k d inner l))

pub bare_declared_sink : (k : Naming) (d : ℕ) (inner : Level) → LevelSinks d inner → Fine (suc d) (bare_declared k (suc d) d inner)
unfolding bare_declared
bare_declared_sink k d inner l = fine_made _ (fine_both (bare_sink (suc d)) (behind_sink k d inner l))

-- the declarators of a member or a typedef, and their semicolon
pub any_sink : (d : ℕ) (inner : Level) → LevelSinks d inner → (t : Bool) → Fine (suc d) (any_declared (suc d) d inner t)
unfolding any_declared
any_sink d inner l t = fine_both (fine_commas (suc d) (bare_declared_sink (naming_of t) d inner l) (declared_sink as_any d inner l)) (λ _. fine_tok (suc d) (mark_is marks.Semicolon))

member_sink : (d : ℕ) (inner : Level) → LevelSinks d inner → Fine (suc d) (membered (suc d) d inner)
unfolding membered
member_sink d inner l = fine_made _ (fine_both (specs_sink true d inner l) (λ ss. any_sink d inner l (typed false ss)))

member_takes : (d : ℕ) (inner : Level) → LevelSinks d inner → Takes (membered (suc d) d inner)
unfolding membered
member_takes d inner l = takes_made _ (takes_both (specs_takes true d inner l) (λ ss. (any_sink d inner l (typed false ss)).steady))

-- ---- the levels

refused_none : {A : Type 0} (t : Terminal) (ts : List Terminal) (b : Bool) (x : Got A) → refused t ts b ≡ Ok x → ⊥
refused_none t ts true x e = cc
refused_none t ts false x e = cc

pub deep_takes : {A : Type 0} (start : Sort → Bool) → Takes {A = A} (too_deep start)
deep_takes start c [] x e = absurd cc
deep_takes start c (t ∷ ts) x e = absurd (refused_none t ts _ x e)

no_level_sinks : LevelSinks 0 no_level
no_level_sinks = record {
  expr = nested_too_deep begins_expr;
  cast = nested_too_deep begins_expr;
  unary = nested_too_deep begins_expr;
  sized = nested_too_deep begins_expr;
  type_name = nested_too_deep begins_type;
  member = nested_too_deep begins_type;
  member_takes = deep_takes begins_type;
}

level_by_sinks : (b : Bool) (d : ℕ) (inner : Level) → LevelSinks d inner → LevelSinks (suc d) (level_by b d inner)
level_by_sinks b d inner l = record {
  expr = nested_room (expr_sink d inner l);
  cast = nested_room (cast_sink d inner l);
  unary = nested_room (unary_sink d inner l);
  sized = nested_room (sized_sink d inner l);
  type_name = nested_room (type_sink b d inner l);
  member = nested_room (member_sink d inner l);
  member_takes = member_takes d inner l;
}

pub level_sinks : (b : Bool) (n : ℕ) → LevelSinks n (level_at b n)
unfolding level_at
level_sinks b zero = no_level_sinks
level_sinks b (suc n) = level_by_sinks b n (level_at b n) (level_sinks b n)
