use Rattle.std.proofs.Common.{◌≡◌, ◌+◌, ◌-◌, ◌*◌, ◌<◌, ◌≤◌, [], ◌∷◌, map, length, true, false}
use Rattle.c_lex.specs.declared.token.Mark.TheVariants.{Comma, OpenBracket}
use Rattle.c_tree.specs.Syntax.{binary}
use Rattle.c_tree.specs.SyntaxViews.{expr_view, boxed_expr_view, spec_view, enumerator_view, member_view, declarator_view}
use Rattle.c_grammar.specs.Grammar.{as_any, naming_of}
use Rattle.c_grammar.specs.inner.Readers.{chain_by, ◌&◌, made, links, nothing, row_from, pushed}
use Rattle.c_grammar.specs.inner.Tokens.{tok, counted_tok, mark_is, is_mark, binary_of, is_binary, begins_type, begins_expr}
use Rattle.c_grammar.specs.inner.Reading.{level_at, commas, either, post, posted, begins_post, casted, ladder, spec_behind, typed, begins_spec, specs, enumerated, parted, begins_enumerator, declared, bare_declared, dim, dims}
use Rattle.parse_expressions.proofs.CodeLoops.{Going}
use Rattle.parse_expressions.proofs.+expressions.Given as goal

abbrev pub decreases-expressions::arguments : goal.decreases-expressions::arguments
decreases-expressions::arguments l = l.room * 64 + 7

abbrev pub decreases-expressions::cast : goal.decreases-expressions::cast
decreases-expressions::cast l = l.room * 64 + 14

abbrev pub decreases-expressions::casted : goal.decreases-expressions::casted
decreases-expressions::casted l = l.room * 64 + 13

abbrev pub decreases-types::declarator_behind : goal.decreases-types::declarator_behind
decreases-types::declarator_behind l = l.room * 64 + 22

abbrev pub decreases-types::declarators : goal.decreases-types::declarators
decreases-types::declarators l = l.room * 64 + 23

abbrev pub decreases-types::dim : goal.decreases-types::dim
decreases-types::dim l = l.room * 64 + 20

abbrev pub decreases-types::dims : goal.decreases-types::dims
decreases-types::dims l = l.room * 64 + 21

abbrev pub decreases-expressions::expr : goal.decreases-expressions::expr
decreases-expressions::expr l = l.room * 64 + 30

abbrev pub decreases-expressions::exprs : goal.decreases-expressions::exprs
decreases-expressions::exprs l = l.room * 64 + 6

abbrev pub decreases-expressions::full_expr : goal.decreases-expressions::full_expr
decreases-expressions::full_expr l = l.room * 64 + 31

abbrev pub decreases-expressions::group_rest : goal.decreases-expressions::group_rest
decreases-expressions::group_rest l = l.room * 64 + 9

abbrev pub decreases-types::member : goal.decreases-types::member
decreases-types::member l = l.room * 64 + 31

abbrev pub decreases-types::member_row : goal.decreases-types::member_row
decreases-types::member_row l = l.room * 64 + 24

abbrev pub decreases-types::members : goal.decreases-types::members
decreases-types::members l = l.room * 64 + 25

abbrev pub decreases-expressions::operand : goal.decreases-expressions::operand
decreases-expressions::operand l = l.room * 64 + 8

abbrev pub decreases-expressions::paren_rest : goal.decreases-expressions::paren_rest
decreases-expressions::paren_rest l = l.room * 64 + 12

abbrev pub decreases-expressions::post : goal.decreases-expressions::post
decreases-expressions::post l = l.room * 64 + 4

abbrev pub decreases-expressions::posted : goal.decreases-expressions::posted
decreases-expressions::posted l = l.room * 64 + 5

abbrev pub decreases-expressions::sized : goal.decreases-expressions::sized
decreases-expressions::sized l = l.room * 64 + 11

abbrev pub decreases-types::spec : goal.decreases-types::spec
decreases-types::spec l = l.room * 64 + 28

abbrev pub decreases-types::specs : goal.decreases-types::specs
decreases-types::specs l = l.room * 64 + 30

abbrev pub decreases-types::spec_behind : goal.decreases-types::spec_behind
decreases-types::spec_behind l = l.room * 64 + 29

abbrev pub decreases-types::struct_behind : goal.decreases-types::struct_behind
decreases-types::struct_behind l = l.room * 64 + 27

abbrev pub decreases-types::enum_behind : goal.decreases-types::enum_behind
decreases-types::enum_behind l = l.room * 64 + 27

abbrev pub decreases-types::enumerators : goal.decreases-types::enumerators
decreases-types::enumerators l = l.room * 64 + 26

abbrev pub decreases-types::enumerator_row : goal.decreases-types::enumerator_row
decreases-types::enumerator_row l = l.room * 64 + 25

abbrev pub decreases-types::enumerator : goal.decreases-types::enumerator
decreases-types::enumerator l = l.room * 64 + 24

abbrev pub decreases-types::initialiser : goal.decreases-types::initialiser
decreases-types::initialiser l = l.room * 64 + 33

abbrev pub decreases-types::value : goal.decreases-types::value
decreases-types::value l = l.room * 64 + 32

abbrev pub decreases-types::any_declared : goal.decreases-types::any_declared
decreases-types::any_declared l = l.room * 64 + 24

abbrev pub decreases-types::type_name : goal.decreases-types::type_name
decreases-types::type_name l = l.room * 64 + 31

abbrev pub decreases-expressions::unary_by : goal.decreases-expressions::unary_by
decreases-expressions::unary_by l = l.room * 64 + 10

abbrev pub decreases-expressions::ladder : goal.decreases-expressions::ladder
decreases-expressions::ladder l = l.room * 64 + (l.heights + 14)

abbrev pub invariant-expressions::exprs-exprs : goal.invariant-expressions::exprs-exprs
invariant-expressions::exprs-exprs l = record {
  going : Going (λ _. is_mark Comma) (λ _. (made (λ (_, a). a) (tok (l.room - 1) (mark_is Comma) & (level_at l.braces (l.room - 1)).expr))) pushed (either begins_expr (commas (l.room - 1) (level_at l.braces (l.room - 1)).expr (level_at l.braces (l.room - 1)).expr) (nothing []) l.fn.parser.count l.fn.parser.rest.now) (map expr_view l.all.items) l.parser.count l.parser.rest.now;
  takes : length l.parser.rest.now < length l.fn.parser.rest.now;
}

abbrev pub decreases-expressions::exprs-exprs : goal.decreases-expressions::exprs-exprs
decreases-expressions::exprs-exprs l = length l.parser.rest.now

abbrev pub invariant-types::specs-specs : goal.invariant-types::specs-specs
invariant-types::specs-specs l = record {
  going : Going (λ front. begins_spec (typed false front)) (λ front. spec_behind l.braces l.room (l.room - 1) (level_at l.braces (l.room - 1)) (typed false front)) pushed (specs l.braces l.room (l.room - 1) (level_at l.braces (l.room - 1)) l.fn.parser.count l.fn.parser.rest.now) (map spec_view l.all.items) l.parser.count l.parser.rest.now;
  typed : l.typed ≡ typed false (map spec_view l.all.items);
  takes : length l.parser.rest.now < length l.fn.parser.rest.now;
}

abbrev pub decreases-types::specs-specs : goal.decreases-types::specs-specs
decreases-types::specs-specs l = length l.parser.rest.now

abbrev pub invariant-types::member_row-members : goal.invariant-types::member_row-members
invariant-types::member_row-members l = record {
  going : Going (λ _. begins_type) (λ _. (level_at true (l.room - 1)).member) pushed (row_from (level_at true (l.room - 1)).member begins_type (level_at true (l.room - 1)).member l.fn.parser.count l.fn.parser.rest.now) (map member_view l.all.items) l.parser.count l.parser.rest.now;
  takes : length l.parser.rest.now < length l.fn.parser.rest.now;
}

abbrev pub decreases-types::member_row-members : goal.decreases-types::member_row-members
decreases-types::member_row-members l = length l.parser.rest.now

abbrev pub invariant-types::declarators-declarators : goal.invariant-types::declarators-declarators
invariant-types::declarators-declarators l = record {
  going : Going (λ _. is_mark Comma) (λ _. (made (λ (_, a). a) (tok l.room (mark_is Comma) & declared as_any l.room (l.room - 1) (level_at true (l.room - 1))))) pushed (commas l.room (bare_declared (naming_of l.typed) l.room (l.room - 1) (level_at true (l.room - 1))) (declared as_any l.room (l.room - 1) (level_at true (l.room - 1))) l.fn.parser.count l.fn.parser.rest.now) (map declarator_view l.all.items) l.parser.count l.parser.rest.now;
  takes : length l.parser.rest.now < length l.fn.parser.rest.now;
}

abbrev pub decreases-types::declarators-declarators : goal.decreases-types::declarators-declarators
decreases-types::declarators-declarators l = length l.parser.rest.now

abbrev pub invariant-types::dims-dims : goal.invariant-types::dims-dims
invariant-types::dims-dims l = record {
  going : Going (λ _. is_mark OpenBracket) (λ front. dim (l.room - 1) (level_at l.braces (l.room - 1)) (l.before + length front)) pushed (dims (l.room - 1) (level_at l.braces (l.room - 1)) l.before l.fn.parser.count l.fn.parser.rest.now) (map expr_view l.all.items) l.parser.count l.parser.rest.now;
  count : l.count ≡ l.before + length l.all.items;
  keeps : length l.parser.rest.now ≤ length l.fn.parser.rest.now;
}

abbrev pub decreases-types::dims-dims : goal.decreases-types::dims-dims
decreases-types::dims-dims l = length l.parser.rest.now

abbrev pub invariant-expressions::posted-posts : goal.invariant-expressions::posted-posts
invariant-expressions::posted-posts l = record {
  going : Going (λ _. begins_post) (λ _. post l.room (l.room - 1) (level_at l.braces (l.room - 1))) posted (links (λ _. begins_post) (λ _. post l.room (l.room - 1) (level_at l.braces (l.room - 1))) posted (boxed_expr_view l.fn.first) l.fn.parser.count l.fn.parser.rest.now) (boxed_expr_view l.base) l.parser.count l.parser.rest.now;
  keeps : length l.parser.rest.now ≤ length l.fn.parser.rest.now;
}

abbrev pub decreases-expressions::posted-posts : goal.decreases-expressions::posted-posts
decreases-expressions::posted-posts l = length l.parser.rest.now

abbrev pub invariant-expressions::ladder-operators : goal.invariant-expressions::ladder-operators
invariant-expressions::ladder-operators l = record {
  going : Going (λ _. is_binary (l.heights - 1)) (λ _. counted_tok l.room (binary_of (l.heights - 1)) & ladder l.room (casted l.room (l.room - 1) (level_at l.braces (l.room - 1))) (l.heights - 1)) (λ a ((place, op), b). binary place op a b) (ladder l.room (casted l.room (l.room - 1) (level_at l.braces (l.room - 1))) l.heights l.fn.parser.count l.fn.parser.rest.now) (boxed_expr_view l.left) l.parser.count l.parser.rest.now;
  takes : length l.parser.rest.now < length l.fn.parser.rest.now;
}

abbrev pub decreases-expressions::ladder-operators : goal.decreases-expressions::ladder-operators
decreases-expressions::ladder-operators l = length l.parser.rest.now

abbrev pub invariant-types::enumerator_row-enumerators : goal.invariant-types::enumerator_row-enumerators
invariant-types::enumerator_row-enumerators l = record {
  going : Going (λ front. begins_enumerator (parted true front)) (λ front. enumerated (l.room - 1) (level_at true (l.room - 1))) pushed (chain_by (made (λ e. e ∷ []) (enumerated (l.room - 1) (level_at true (l.room - 1)))) (λ front. begins_enumerator (parted true front)) (λ front. enumerated (l.room - 1) (level_at true (l.room - 1))) pushed l.fn.parser.count l.fn.parser.rest.now) (map enumerator_view l.all.items) l.parser.count l.parser.rest.now;
  comma : l.comma ≡ parted true (map enumerator_view l.all.items);
  takes : length l.parser.rest.now < length l.fn.parser.rest.now;
}

abbrev pub decreases-types::enumerator_row-enumerators : goal.decreases-types::enumerator_row-enumerators
decreases-types::enumerator_row-enumerators l = length l.parser.rest.now
