use Rattle.std.proofs.Common.{◌≡◌, ℕ, ◌+◌, ◌-◌, to_z, of_z, [], ◌∷◌, ◌++◌, List, map, take, drop, length, refl, ap, sym, subst, ◌∙◌, arith, Option}
use Rattle.std.specs.Prelude.{Vec, ℤ, pos}
use Rattle.std.specs.declared.alloc.Global.{Global}
use Rattle.std.specs.Int.{w128}
use Rattle.std.proofs.lemmas.Int.{to_z-of_z, ints}
use Rattle.ak_words.specs.IntType.{int}
use Rattle.c_tree.specs.declared.syntax.Name.{Name}
use Rattle.c_tree.specs.Syntax as source
use Rattle.c_tree.specs.SyntaxViews as sources
use Rattle.c_tree.specs.Typed.{integer}
use Rattle.c_tree.specs.TypedViews.{expr_view, boxed_expr_view}
use Rattle.c_typing.specs.Judgement.{valued, judged, judged_all, judged_spec, judged_members, judged_member, array_size, begun_by, name_in, meaning_in, judged_enumerators, enumerator_value, whole_value, whole, place_of_specs}
use Rattle.c_typing.specs.Faults.{typed}
use Rattle.c_typing.specs.Constants.{constant_value}
use Rattle.type_context.specs.ContextViews.{context_view, member_type_view}
use Rattle.type_rules.specs.ListViews.{exprs_view}
use Rattle.type_rules.specs.SpecifierViews.{part_view, parts_view, parts_seen}
use Rattle.type_context.specs.Telling.{Tells}
use Rattle.type_context.proofs.Judging.{fault_gives}
use Rattle.type_context.proofs.Rows.{starts, pushed_next, state_next, ends}
use Rattle.type_nodes.specs.Nodes.{types_of_members}
use Rattle.type_nodes.proofs.Rows.{behind_member, declarator_node, behind_declarator, args_are, dims_are, parts_are, members_are, declarators_are, members_next, appended_keeps}
use Rattle.type_nodes.proofs.Telling.{finishes, braces_tell, numbers_told, keeps_second, unboxed_tells}
use Rattle.type_nodes.proofs.Expressions.{value_tells, size_of_type_tells, size_of_expression_tells, member_tells, arrow_tells, prefixed_tells, binary_tells, conditional_tells, starting_known, starting_other}
use Rattle.type_nodes.proofs.Types as types
use Rattle.c_types.specs.inner.Enumerators.{value_or}
use Rattle.c_types.proofs.Sizes.{most_rest}
use Rattle.c_types.proofs.EnumWalk.{enum_tells, alone_tells, counted_none, counted_more, counted_as, counted_all}
use Rattle.c_types.proofs.Views as views
use Rattle.c_types.proofs.Nodes as nodes
use Rattle.c_types.proofs.Walking.{address_tells, text_told, no_text_told, call_prints, call_starts, call_calls, print_some, start_some, started_some, names_told}
use Rattle.c_types.proofs.+nodes.Goals as goal

pub expressions::expression-returns-in-Name : goal.expressions::expression-returns-in-Name
expressions::expression-returns-in-Name t c =
    nodes.name_told c.args.e.now c.in-Name.name c.args.context.now c.named.result c.in-Name.is c.named.ensures

pub expressions::expression-returns-in-Int : goal.expressions::expression-returns-in-Int
expressions::expression-returns-in-Int t c =
    nodes.int_told c.args.e.now c.in-Int.place c.in-Int.value c.args.context.now c.number.result c.in-Int.is c.number.ensures

pub expressions::expression-returns-in-Char : goal.expressions::expression-returns-in-Char
expressions::expression-returns-in-Char t c =
    nodes.char_told c.args.e.now c.in-Char.place c.in-Char.value c.args.context.now c.number-in-Char.result c.in-Char.is c.number-in-Char.ensures

pub expressions::expression-returns-in-Text : goal.expressions::expression-returns-in-Text
expressions::expression-returns-in-Text t c =
    nodes.text_told c.args.e.now c.in-Text.parts c.deref.result.now (context_view c.args.context.now) c.text.new.context c.text.result c.in-Text.is c.deref.ensures.value c.text.ensures

pub expressions::expression-returns-in-Null : goal.expressions::expression-returns-in-Null
expressions::expression-returns-in-Null t c =
    nodes.null_told c.args.e.now c.in-Null.place c.args.context.now c.null.result c.in-Null.is c.null.ensures

pub expressions::expression-returns-in-Group : goal.expressions::expression-returns-in-Group
expressions::expression-returns-in-Group t c =
    nodes.group_told c.args.e.now c.in-Group.e c.deref-in-Group.result.now (context_view c.args.context.now) c.expression.new.context c.expression.result c.in-Group.is c.deref-in-Group.ensures c.expression.ensures

pub expressions::expression-returns-in-Call : goal.expressions::expression-returns-in-Call
expressions::expression-returns-in-Call t c =
    nodes.call_told c.args.e.now c.in-Call.callee c.in-Call.args c.deref-in-Call.result.now (context_view c.args.context.now) c.call.new.context c.call.result c.in-Call.is c.deref-in-Call.ensures.value c.call.ensures

pub expressions::expression-returns-in-Prefix : goal.expressions::expression-returns-in-Prefix
expressions::expression-returns-in-Prefix t c =
    nodes.prefix_told c.args.e.now c.in-Prefix.place c.in-Prefix.op c.in-Prefix.operand c.deref-in-Prefix.result.now (context_view c.args.context.now) c.prefix.new.context c.prefix.result c.in-Prefix.is c.deref-in-Prefix.ensures c.prefix.ensures

pub expressions::expression-returns-in-SizeofType : goal.expressions::expression-returns-in-SizeofType
expressions::expression-returns-in-SizeofType t c =
    nodes.sizeof_type_told c.args.e.now c.in-SizeofType.place c.in-SizeofType.of (context_view c.args.context.now) c.type_size.new.context c.type_size.result c.in-SizeofType.is c.type_size.ensures

pub expressions::expression-returns-in-SizeofExpr : goal.expressions::expression-returns-in-SizeofExpr
expressions::expression-returns-in-SizeofExpr t c =
    nodes.sizeof_expr_told c.args.e.now c.in-SizeofExpr.place c.in-SizeofExpr.operand c.deref-in-SizeofExpr.result.now (context_view c.args.context.now) c.expression_size.new.context c.expression_size.result
    c.in-SizeofExpr.is c.deref-in-SizeofExpr.ensures c.expression_size.ensures

pub expressions::expression-returns-in-Member : goal.expressions::expression-returns-in-Member
expressions::expression-returns-in-Member t c =
    nodes.selection_told c.args.e.now c.in-Member.place c.in-Member.base c.in-Member.member c.deref-in-Member.result.now (context_view c.args.context.now) c.selection.new.context c.selection.result
    c.in-Member.is c.deref-in-Member.ensures c.selection.ensures

pub expressions::expression-returns-in-Arrow : goal.expressions::expression-returns-in-Arrow
expressions::expression-returns-in-Arrow t c =
    nodes.arrow_told c.args.e.now c.in-Arrow.place c.in-Arrow.base c.in-Arrow.member c.deref-in-Arrow.result.now (context_view c.args.context.now) c.arrow.new.context c.arrow.result
    c.in-Arrow.is c.deref-in-Arrow.ensures c.arrow.ensures

pub expressions::expression-returns-in-Cast : goal.expressions::expression-returns-in-Cast
expressions::expression-returns-in-Cast t c =
    nodes.cast_told c.args.e.now c.in-Cast.place c.in-Cast.to c.in-Cast.operand c.deref-in-Cast.result.now (context_view c.args.context.now) c.type_name-to.new.context c.value-operand.new.context c.type_name-to.result c.value-operand.result c.cast_to.result
    c.in-Cast.is c.deref-in-Cast.ensures c.type_name-to.ensures c.value-operand.ensures c.cast_to.ensures

pub expressions::expression-returns-in-Index : goal.expressions::expression-returns-in-Index
expressions::expression-returns-in-Index t c =
    nodes.index_told c.args.e.now c.in-Index.place c.in-Index.base c.in-Index.index c.deref-in-Index.result.now c.deref-in-Index-2.result.now (context_view c.args.context.now) c.value-base.new.context c.value-index.new.context c.value-base.result c.value-index.result c.element_of.result
    c.in-Index.is c.deref-in-Index.ensures c.deref-in-Index-2.ensures c.value-base.ensures c.value-index.ensures c.element_of.ensures

pub expressions::expression-returns-in-Binary : goal.expressions::expression-returns-in-Binary
expressions::expression-returns-in-Binary t c =
    nodes.binary_told c.args.e.now c.in-Binary.place c.in-Binary.op c.in-Binary.left c.in-Binary.right c.deref-in-Binary.result.now c.deref-in-Binary-2.result.now (context_view c.args.context.now) c.value-right.new.context c.combination.result
    c.in-Binary.is c.deref-in-Binary.ensures c.deref-in-Binary-2.ensures
    (binary_tells c.in-Binary.place c.in-Binary.op (sources.expr_view c.deref-in-Binary.result.now) (sources.expr_view c.deref-in-Binary-2.result.now) (context_view c.args.context.now) c.value-left.new.context c.value-right.new.context c.value-left.result c.value-right.result c.combination.result
    c.value-left.ensures c.value-right.ensures c.combination.ensures)

pub expressions::expression-returns-in-Conditional : goal.expressions::expression-returns-in-Conditional
expressions::expression-returns-in-Conditional t c =
    nodes.conditional_told c.args.e.now c.in-Conditional.place c.in-Conditional.condition c.in-Conditional.then c.in-Conditional.otherwise c.deref-in-Conditional.result.now c.deref-in-Conditional-2.result.now c.deref-in-Conditional-3.result.now (context_view c.args.context.now)
    c.value-otherwise.new.context c.choice_of.result c.in-Conditional.is c.deref-in-Conditional.ensures c.deref-in-Conditional-2.ensures c.deref-in-Conditional-3.ensures
    (conditional_tells c.in-Conditional.place (sources.expr_view c.deref-in-Conditional.result.now) (sources.expr_view c.deref-in-Conditional-2.result.now) (sources.expr_view c.deref-in-Conditional-3.result.now) (context_view c.args.context.now)
    c.value-condition.new.context c.value-then.new.context c.value-otherwise.new.context c.value-condition.result c.value-then.result c.value-otherwise.result c.choice_of.result
    c.value-condition.ensures c.value-then.ensures c.value-otherwise.ensures c.choice_of.ensures)

pub expressions::value-returns : goal.expressions::value-returns
expressions::value-returns t c =
    value_tells (sources.expr_view c.args.e.now) (context_view c.args.context.now) c.expression-e.new.context c.expression-e.result c.valued.result c.expression-e.ensures c.valued.ensures

pub expressions::type_size-returns : goal.expressions::type_size-returns
expressions::type_size-returns t c =
    size_of_type_tells c.args.place (sources.type_name_view c.args.of.now) (context_view c.args.context.now) c.type_name-of.new.context c.type_name-of.result c.size_of_type.result c.type_name-of.ensures c.size_of_type.ensures

pub expressions::expression_size-returns : goal.expressions::expression_size-returns
expressions::expression_size-returns t c =
    size_of_expression_tells c.args.place (sources.expr_view c.args.e.now) (context_view c.args.context.now) c.expression-operand.new.context c.expression-operand.result c.size_of_expression.result c.expression-operand.ensures c.size_of_expression.ensures

pub expressions::selection-returns : goal.expressions::selection-returns
expressions::selection-returns t c =
    member_tells c.args.place (sources.expr_view c.args.e.now) c.args.member (context_view c.args.context.now) c.expression-base.new.context c.expression-base.result c.member_of.result c.expression-base.ensures c.member_of.ensures

pub expressions::arrow-returns : goal.expressions::arrow-returns
expressions::arrow-returns t c =
    arrow_tells c.args.place (sources.expr_view c.args.e.now) c.args.member (context_view c.args.context.now) c.value-base.new.context c.value-base.result c.pointed_by.result c.value-base.ensures c.pointed_by.ensures

pub expressions::prefix-returns-in_ok-mark_addressed-in-AddressOf : goal.expressions::prefix-returns-in_ok-mark_addressed-in-AddressOf
expressions::prefix-returns-in_ok-mark_addressed-in-AddressOf t c =
    address_tells c.args.place c.args.op c.name_in.result (sources.expr_view c.args.e.now) (context_view c.args.context.now) _ _ _ _ c.in-AddressOf.is c.name_in.ensures c.expression-operand.ensures c.in_ok-mark_addressed-in-AddressOf.ensures.after c.addressed.ensures

pub expressions::prefix-returns-in_default : goal.expressions::prefix-returns-in_default
expressions::prefix-returns-in_default t c =
    prefixed_tells c.args.place c.args.op (name_in (sources.expr_view c.args.e.now)) (sources.expr_view c.args.e.now) (context_view c.args.context.now) c.value-operand.new.context c.value-operand.result c.prefixed.result c.in_default.not-AddressOf c.value-operand.ensures c.prefixed.ensures

-- ---- calls

pub expressions::call-returns-then-is_printf : goal.expressions::call-returns-then-is_printf
expressions::call-returns-then-is_printf t c =
    call_prints c.args.callee (source.exprs_of (map sources.expr_view c.args.args.now)) (context_view c.args.context.now) c.print.new.context _ c.print.result c.in_ok-meaning.ensures (sym c.is_printf.ensures ∙ c.if-is_printf.true) c.print.ensures

pub expressions::call-returns-then-is_thrd_create : goal.expressions::call-returns-then-is_thrd_create
expressions::call-returns-then-is_thrd_create t c =
    call_starts c.args.callee (source.exprs_of (map sources.expr_view c.args.args.now)) (context_view c.args.context.now) c.start.new.context _ c.start.result c.in_ok-meaning.ensures (sym c.is_thrd_create.ensures ∙ c.if-is_thrd_create.true) c.start.ensures

pub expressions::call-returns : goal.expressions::call-returns
expressions::call-returns t c =
    call_calls c.args.callee (source.exprs_of (map sources.expr_view c.args.args.now)) (context_view c.args.context.now) c.arguments-args.new.context _ c.called_by.result c.in_ok-meaning.ensures (sym c.is_printf.ensures ∙ c.if-is_printf.false) (sym c.is_thrd_create.ensures ∙ c.if-is_thrd_create.false)
    (c.called_by.ensures c.arguments-args.new.context (judged_all (source.exprs_of (map sources.expr_view c.args.args.now))) (context_view c.args.context.now) c.arguments-args.ensures)

pub expressions::arguments-arguments-init : goal.expressions::arguments-arguments-init
expressions::arguments-arguments-init t c =
    starts expr_view c.new.result c.args.context.now c.new.ensures.items

pub expressions::arguments-arguments-preserved : goal.expressions::arguments-arguments-preserved
expressions::arguments-arguments-preserved t c =
    pushed_next expr_view (λ (u : Unit {0}) (e : source.Expr). valued (judged e)) (λ u e. u) tt sources.expr_view c.args.args.now c.arguments.e-index c.e-item.result (context_view c.args.context.now)
    c.arguments.all c.unboxed.result c.pushed-all.result c.arguments.context c.value-next.new.context c.arguments.invariant (omega arith) c.e-item.is
    (λ fine. unboxed_tells (valued (judged (sources.expr_view c.e-item.result))) (context_view c.arguments.context) c.value-next.new.context c.value-next.result c.unboxed.result c.value-next.ensures c.unboxed.ensures)
    c.pushed-all.ensures

pub expressions::arguments-returns : goal.expressions::arguments-returns
expressions::arguments-returns t c =
    subst (λ q. Tells exprs_view c.arguments.all c.arguments.context q) (args_are (map sources.expr_view c.args.args.now) (context_view c.args.context.now))
    (ends exprs_view (λ (u : Unit {0}) (e : source.Expr). valued (judged e)) (λ u e. u) (λ x xs. x ∷ xs) tt sources.expr_view c.args.args.now c.arguments.e-index (context_view c.args.context.now) _ _ c.arguments.invariant (omega arith))

-- ---- printf and thrd_create: the first of the arguments and those behind it (`headed`)

pub expressions::format-returns-in-Some : goal.expressions::format-returns-in-Some
expressions::format-returns-in-Some t c =
    text_told c.node_place-place.result (sources.expr_view c.args.e.now) _ c.args.context.now _ c.node_place-place.ensures (sym c.text_in.ensures ∙ ap parts_seen c.in-Some.is) c.format_of.ensures

pub expressions::format-returns-in-None : goal.expressions::format-returns-in-None
expressions::format-returns-in-None t c =
    no_text_told c.node_place-place.result (sources.expr_view c.args.e.now) (context_view c.args.context.now) _ _ _ c.node_place-place.ensures (sym c.text_in.ensures ∙ ap parts_seen c.in-None.is) c.expression-other.ensures c.no_format.ensures

pub expressions::starting-returns-in-Some : goal.expressions::starting-returns-in-Some
expressions::starting-returns-in-Some t c =
    starting_known (meaning_in (context_view c.args.context.now) (name_in (sources.expr_view c.args.e.now))) (sources.expr_view c.args.e.now) c.args.context.now c.in-Some.function
    (ap (λ (n : Option Name). begun_by (meaning_in (context_view c.args.context.now) n)) (sym c.name_in.ensures) ∙ sym c.in_ok-function.ensures.function ∙ c.in-Some.is)

pub expressions::starting-returns-in-None : goal.expressions::starting-returns-in-None
expressions::starting-returns-in-None t c =
    starting_other (meaning_in (context_view c.args.context.now) (name_in (sources.expr_view c.args.e.now))) (sources.expr_view c.args.e.now) (context_view c.args.context.now) c.expression-other.new.context c.expression-other.result c.no_function.result
    (ap (λ (n : Option Name). begun_by (meaning_in (context_view c.args.context.now) n)) (sym c.name_in.ensures) ∙ sym c.in_ok-function.ensures.function ∙ c.in-None.is) c.expression-other.ensures c.no_function.ensures

-- ---- types

pub declarators::type_name-returns : goal.declarators::type_name-returns
declarators::type_name-returns t c =
    nodes.type_name_told c.args.t.now c.deref.result.now c.deref-3.result.now c.place_of_specs.result (context_view c.args.context.now) c.specifiers-named.new.context c.specifiers-named.result c.pointers_to.result c.deref.ensures.value c.deref-3.ensures.value
    (c.place_of_specs.ensures ∙ ap (λ l. place_of_specs (source.specs_of (map sources.spec_view l))) (c.deref-2.ensures.value ∙ sym c.deref.ensures.value)) c.specifiers-named.ensures c.pointers_to.ensures

pub declarators::specifiers-returns : goal.declarators::specifiers-returns
declarators::specifiers-returns t c =
    types.specs_tell (source.specs_of (map sources.spec_view c.args.specs.now)) (context_view c.args.context.now) c.parts-parts.new.context c.parts-parts.result c.type_of_parts.result c.parts-parts.ensures c.type_of_parts.ensures

pub declarators::part-returns-in-Word : goal.declarators::part-returns-in-Word
declarators::part-returns-in-Word t c =
    nodes.word_told c.args.spec.now _ c.in-Word.word c.args.context.now _ c.in-Word.is refl

pub declarators::part-returns-in-Struct : goal.declarators::part-returns-in-Struct
declarators::part-returns-in-Struct t c =
    nodes.struct_told c.args.spec.now _ c.in-Struct.tag (context_view c.args.context.now) c.tagged.new.context c.tagged.result c.in-Struct.is c.tagged.ensures

pub declarators::part-returns-in-StructBody : goal.declarators::part-returns-in-StructBody
declarators::part-returns-in-StructBody t c =
    nodes.body_told c.args.spec.now _ c.in-StructBody.tag c.in-StructBody.members c.deref.result.now (context_view c.args.context.now) c.braces.new.context c.braces.result c.in-StructBody.is c.deref.ensures.value c.braces.ensures

pub declarators::part-returns-in-UnnamedStruct : goal.declarators::part-returns-in-UnnamedStruct
declarators::part-returns-in-UnnamedStruct t c =
    nodes.unnamed_struct_told c.args.spec.now c.in-UnnamedStruct.place c.in-UnnamedStruct.members c.deref-in-UnnamedStruct.result.now (context_view c.args.context.now) c.unnamed_braces.new.context c.unnamed_braces.result c.in-UnnamedStruct.is c.deref-in-UnnamedStruct.ensures.value c.unnamed_braces.ensures

pub declarators::part-returns-in-Enum : goal.declarators::part-returns-in-Enum
declarators::part-returns-in-Enum t c =
    nodes.enum_told c.args.spec.now _ c.in-Enum.tag c.args.context.now c.as_fault.result c.in-Enum.is (fault_gives part_view _ _ _ c.as_fault.ensures c.enum_tagged.ensures)

pub declarators::part-returns-in-EnumBody : goal.declarators::part-returns-in-EnumBody
declarators::part-returns-in-EnumBody t c =
    nodes.enum_body_told c.args.spec.now _ c.in-EnumBody.tag c.in-EnumBody.list c.deref-in-EnumBody.result.now (context_view c.args.context.now) c.enum_braces.new.context c.enum_braces.result c.in-EnumBody.is c.deref-in-EnumBody.ensures.value c.enum_braces.ensures

pub declarators::part-returns-in-UnnamedEnum : goal.declarators::part-returns-in-UnnamedEnum
declarators::part-returns-in-UnnamedEnum t c =
    nodes.unnamed_enum_told c.args.spec.now _ c.in-UnnamedEnum.list c.deref-in-UnnamedEnum.result.now (context_view c.args.context.now) c.unnamed_list.new.context c.unnamed_list.result c.in-UnnamedEnum.is c.deref-in-UnnamedEnum.ensures.value c.unnamed_list.ensures

pub declarators::part-returns-in-Alias : goal.declarators::part-returns-in-Alias
declarators::part-returns-in-Alias t c =
    nodes.alias_told c.args.spec.now c.in-Alias.name c.args.context.now c.aliased.result c.in-Alias.is c.aliased.ensures

pub declarators::braces-returns : goal.declarators::braces-returns
declarators::braces-returns t c =
    braces_tell c.args.tag (judged_members [] (source.members_row (map sources.member_view c.args.all.now))) (context_view c.args.context.now) c.named_tag.new.context c.begin.new.self c.closed.new.context c.in_ok-number.number c.is_begun-again.result c.as_fault-opened.result part_view c.closed.result
    c.in_ok-number.ensures.after c.in_ok-number.ensures.number c.is_begun-again.ensures c.in_ok-begin.ensures.after (λ is. fault_gives (λ (u : Unit {0}). tt) _ _ _ c.as_fault-opened.ensures (c.opened.ensures is))
    (λ j h. c.closed.ensures j (judged_members [] (source.members_row (map sources.member_view c.args.all.now))) (context_view c.begin.new.self) h c.members-members.ensures)

pub declarators::unnamed_braces-returns : goal.declarators::unnamed_braces-returns
declarators::unnamed_braces-returns t c =
    alone_tells c.args.place (judged_members [] (source.members_row (map sources.member_view c.args.all.now))) (context_view c.args.context.now) c.unnamed_struct.new.context c.begin.new.self c.closed.new.context c.in_ok-number.number c.as_fault-fit.result part_view c.closed.result
    c.in_ok-number.ensures.after c.in_ok-number.ensures.number c.in_ok-begin.ensures.after (fault_gives (λ (u : Unit {0}). tt) _ _ _ c.as_fault-fit.ensures c.braces_fit.ensures)
    (λ j h. c.closed.ensures j (judged_members [] (source.members_row (map sources.member_view c.args.all.now))) (context_view c.begin.new.self) h c.members-members.ensures)

pub declarators::member-returns-clause-judged : goal.declarators::member-returns-clause-judged
declarators::member-returns-clause-judged t c =
    nodes.member_told c.args.before.now.items c.args.m.now c.deref.result.now c.deref-2.result.now (context_view c.args.context.now) c.specifiers-base.new.context c.declarators-all.new.context c.specifiers-base.result c.declarators-all.result c.member_types.result
    c.deref.ensures.value c.deref-2.ensures.value c.specifiers-base.ensures c.declarators-all.ensures.judged c.member_types.ensures

pub declarators::member-returns-clause-names : goal.declarators::member-returns-clause-names
declarators::member-returns-clause-names t c =
    λ fine. c.declarators-all.ensures.names (keeps_second types_of_members _ c.specifiers-base.result c.declarators-all.result c.member_types.result c.member_types.ensures fine)
    ∙ ap (λ (ns : List Name). c.args.before.now.items ++ ns) (nodes.member_names c.args.m.now c.deref-2.result.now c.deref-2.ensures.value)

pub declarators::members-members-preserved : goal.declarators::members-members-preserved
declarators::members-members-preserved t c =
    record {
      told = members_next sources.member_view [] c.args.members.now c.members.m-index c.m-item.result (context_view c.args.context.now) c.members.all c.member-next.result c.appended-all.result c.members.context c.member-next.new.context
          c.members.invariant.told (omega arith) c.m-item.is
          (λ fine. subst (λ (b : List Name). Tells types_of_members c.member-next.result c.member-next.new.context (judged_member b (sources.member_view c.m-item.result) (context_view c.members.context))) (c.members.invariant.names fine) c.member-next.ensures.judged)
          c.appended-all.ensures;
      names = λ fine.
          let both_ = appended_keeps c.members.all c.member-next.result c.appended-all.result c.appended-all.ensures fine in
          c.member-next.ensures.names both_.1
          ∙ state_next behind_member [] sources.member_view c.args.members.now c.members.m-index c.m-item.result c.members.before.items (omega arith) c.m-item.is (c.members.invariant.names both_.0);
    }

pub declarators::array_size-returns : goal.declarators::array_size-returns
declarators::array_size-returns t c =
    types.dimension_tells (sources.expr_view c.args.e.now) (context_view c.args.context.now) c.value-typed.new.context c.value-typed.result c.size_of_dimension.result c.value-typed.ensures c.size_of_dimension.ensures

pub expressions::print-returns : goal.expressions::print-returns
expressions::print-returns t c =
    print_some c.args.place c.args.args.now c.first-item.result (take (length c.args.args.now - 1) (drop 1 c.args.args.now)) c.args.context.now _ _ _ _ _ _ (omega arith) c.first-item.is refl (fault_gives (λ (u : Unit {0}). tt) _ _ _ c.as_fault-few.ensures c.few_enough.ensures) c.format-format.ensures c.arguments-rest.ensures c.print_of.ensures

pub expressions::start-returns : goal.expressions::start-returns
expressions::start-returns t c =
    start_some c.args.place c.args.args.now c.first-item.result (take (length c.args.args.now - 1) (drop 1 c.args.args.now)) (context_view c.args.context.now) _ _ _ _ _ (omega arith) c.first-item.is refl c.value-first.ensures c.function_and_rest-rest.ensures c.start_of.ensures

pub expressions::function_and_rest-returns : goal.expressions::function_and_rest-returns
expressions::function_and_rest-returns t c =
    started_some c.args.args.now c.first-item.result (take (length c.args.args.now - 1) (drop 1 c.args.args.now)) (context_view c.args.context.now) _ _ _ _ _ (omega arith) c.first-item.is refl c.starting-function.ensures c.arguments-rest.ensures c.both.ensures

pub declarators::parts-specifiers-init : goal.declarators::parts-specifiers-init
declarators::parts-specifiers-init t c =
    starts part_view c.new.result c.args.context.now c.new.ensures.items

pub declarators::parts-specifiers-preserved : goal.declarators::parts-specifiers-preserved
declarators::parts-specifiers-preserved t c =
    pushed_next part_view (λ (u : Unit {0}) (s : source.Spec). judged_spec s) (λ u e. u) tt sources.spec_view c.args.specs.now c.specifiers.spec-index c.spec-item.result (context_view c.args.context.now)
    c.specifiers.all c.part-next.result c.pushed-all.result c.specifiers.context c.part-next.new.context c.specifiers.invariant (omega arith) c.spec-item.is (λ fine. c.part-next.ensures) c.pushed-all.ensures

pub declarators::parts-returns : goal.declarators::parts-returns
declarators::parts-returns t c =
    subst (λ q. Tells parts_view c.specifiers.all c.specifiers.context q) (parts_are (map sources.spec_view c.args.specs.now) (context_view c.args.context.now))
    (ends parts_view (λ (u : Unit {0}) (s : source.Spec). judged_spec s) (λ u e. u) (λ p ps. p ∷ ps) tt sources.spec_view c.args.specs.now c.specifiers.spec-index (context_view c.args.context.now) _ _ c.specifiers.invariant (omega arith))

pub declarators::dimensions-dimensions-init : goal.declarators::dimensions-dimensions-init
declarators::dimensions-dimensions-init t c =
    starts (λ (n : ℕ). n) c.new.result c.args.context.now c.new.ensures.items

pub declarators::dimensions-dimensions-preserved : goal.declarators::dimensions-dimensions-preserved
declarators::dimensions-dimensions-preserved t c =
    pushed_next (λ (n : ℕ). n) (λ (u : Unit {0}) (e : source.Expr). array_size e (judged e)) (λ u e. u) tt sources.expr_view c.args.dims.now c.dimensions.e-index c.e-item.result (context_view c.args.context.now)
    c.dimensions.all c.array_size-next.result c.pushed-all.result c.dimensions.context c.array_size-next.new.context c.dimensions.invariant (omega arith) c.e-item.is (λ fine. c.array_size-next.ensures) c.pushed-all.ensures

pub declarators::dimensions-returns : goal.declarators::dimensions-returns
declarators::dimensions-returns t c =
    numbers_told c.dimensions.all c.dimensions.context _ (
    subst (λ q. Tells (λ (v : Vec ℕ Global). map (λ n. n) v.items) c.dimensions.all c.dimensions.context q) (dims_are (map sources.expr_view c.args.dims.now) (context_view c.args.context.now))
    (ends (λ (v : Vec ℕ Global). map (λ n. n) v.items) (λ (u : Unit {0}) (e : source.Expr). array_size e (judged e)) (λ u e. u) (λ n ns. n ∷ ns) tt sources.expr_view c.args.dims.now c.dimensions.e-index (context_view c.args.context.now) _ _ c.dimensions.invariant (omega arith)))

pub declarators::members-members-init : goal.declarators::members-members-init
declarators::members-members-init t c =
    record { told = starts member_type_view c.new.result c.args.context.now c.new.ensures.items; names = λ fine. c.new-before.ensures.items }

pub declarators::members-returns : goal.declarators::members-returns
declarators::members-returns t c =
    subst (λ q. Tells types_of_members c.members.all c.members.context q) (members_are [] (map sources.member_view c.args.members.now) (context_view c.args.context.now))
    (ends types_of_members judged_member behind_member (λ ms all. ms ++ all) [] sources.member_view c.args.members.now c.members.m-index (context_view c.args.context.now) _ _ c.members.invariant.told (omega arith))

pub declarators::declarators-declarators-init : goal.declarators::declarators-declarators-init
declarators::declarators-declarators-init t c =
    record { told = λ j h. starts member_type_view c.new.result c.args.context.now c.new.ensures.items; names = refl }

pub declarators::declarators-declarators-preserved : goal.declarators::declarators-declarators-preserved
declarators::declarators-declarators-preserved t c =
    record {
      told = λ j h. pushed_next member_type_view (declarator_node j) behind_declarator c.args.before.now.items sources.declarator_view c.args.declarators.now c.declarators.d-index c.d-item.result (context_view c.args.context.now)
          c.declarators.all c.member_type.result c.pushed-all.result c.declarators.context c.dimensions-sizes.new.context (c.declarators.invariant.told j h) (omega arith) c.d-item.is
          (λ fine. subst (λ (b : List Name). Tells member_type_view c.member_type.result c.dimensions-sizes.new.context (declarator_node j b (sources.declarator_view c.d-item.result) (context_view c.declarators.context))) c.declarators.invariant.names
          (types.declarator_tells j c.declarators.before.items (sources.declarator_view c.d-item.result) c.d-item.result.name (source.exprs_of (map sources.expr_view c.d-item.result.dims.items)) c.d-item.result.pointers.items c.declarators.context c.dimensions-sizes.new.context
          c.as_fault-fresh.result c.again-base.result c.dimensions-sizes.result c.member_object-ty.result c.member_type.result (views.declarator_seen c.d-item.result)
          (fault_gives (λ (u : Unit {0}). tt) _ _ _ c.as_fault-fresh.ensures (rw c.deref.ensures.value at c.fresh_member.ensures)) (c.again-base.ensures j h) (rw c.deref-in-declarators.ensures.value at c.dimensions-sizes.ensures) c.member_object-ty.ensures c.member_type.ensures))
          c.pushed-all.ensures;
      names = c.in_ok-push.ensures.items
          ∙ nodes.declarator_behind c.declarators.before.items c.d-item.result
          ∙ state_next behind_declarator c.args.before.now.items sources.declarator_view c.args.declarators.now c.declarators.d-index c.d-item.result c.declarators.before.items (omega arith) c.d-item.is c.declarators.invariant.names;
    }

pub declarators::declarators-returns-clause-judged : goal.declarators::declarators-returns-clause-judged
declarators::declarators-returns-clause-judged t c =
    λ j h. subst (λ q. Tells types_of_members c.declarators.all c.declarators.context q) (declarators_are j c.args.before.now.items (map sources.declarator_view c.args.declarators.now) (context_view c.args.context.now))
    (ends types_of_members (declarator_node j) behind_declarator (λ m ms. m ∷ ms) c.args.before.now.items sources.declarator_view c.args.declarators.now c.declarators.d-index (context_view c.args.context.now) _ _ (c.declarators.invariant.told j h) (omega arith))

pub declarators::declarators-returns-clause-names : goal.declarators::declarators-returns-clause-names
declarators::declarators-returns-clause-names t c =
    λ fine. names_told c.args.before.now.items c.args.declarators.now c.declarators.d-index c.declarators.before.items (omega arith) c.declarators.invariant.names

-- a part of the arguments is no deeper than all of them

pub expressions::print-arguments-rest-requires : goal.expressions::print-arguments-rest-requires
expressions::print-arguments-rest-requires t c = grind (arith, most_rest)

pub expressions::start-function_and_rest-rest-requires : goal.expressions::start-function_and_rest-rest-requires
expressions::start-function_and_rest-rest-requires t c = grind (arith, most_rest)

pub expressions::function_and_rest-arguments-rest-requires : goal.expressions::function_and_rest-arguments-rest-requires
expressions::function_and_rest-arguments-rest-requires t c = grind (arith, most_rest)

-- ---- enums

pub enums::enum_braces-returns : goal.enums::enum_braces-returns
enums::enum_braces-returns t c =
    enum_tells c.args.tag (judged_enumerators (pos 0) (source.enumerators_of (map sources.enumerator_view c.args.list.now))) (context_view c.args.context.now) c.begin_enum.new.self c.enumerators-list.new.context c.enum_closed.new.context c.as_fault-opened.result c.enumerators-list.result c.enum_closed.result
    c.in_ok-begin_enum.ensures.after (fault_gives (λ (u : Unit {0}). tt) _ _ _ c.as_fault-opened.ensures c.enum_opened.ensures) c.enumerators-list.ensures c.enum_closed.ensures

pub enums::unnamed_list-returns : goal.enums::unnamed_list-returns
enums::unnamed_list-returns t c =
    finishes (λ (u : Unit {0}). tt) part_view (judged_enumerators (pos 0) (source.enumerators_of (map sources.enumerator_view c.args.list.now))) (λ d u. typed (whole (integer int))) (context_view c.args.context.now) c.enumerators-list.new.context c.enumerators-list.result c.unnamed_enum.result
    c.enumerators-list.ensures c.unnamed_enum.ensures

pub enums::enumerators-list-init : goal.enums::enumerators-list-init
enums::enumerators-list-init t c = counted_none c.args.context.now

pub enums::enumerators-list-preserved : goal.enums::enumerators-list-preserved
enums::enumerators-list-preserved t c =
    let known = rw c.in_ok-next.was at c.value_behind.type_inv in
    let same : to_z w128 (of_z w128 c.in_ok-next.next) ≡ c.in_ok-next.next = omega (arith, ints) in
    counted_as (map sources.enumerator_view (take (c.list.e-index + 1) c.args.list.now)) (context_view c.args.context.now) c.fine_with-all.result c.in_ok-next.next (to_z w128 (of_z w128 c.in_ok-next.next)) c.enumerator-value.new.context same
    (counted_more c.args.list.now c.list.e-index c.e-item.result (context_view c.args.context.now) c.list.all (to_z w128 c.list.next-bits) c.in_ok-next.next c.list.context c.enumerator-value.new.context c.enumerator-value.result c.fine_with-all.result
    c.list-test.true c.e-item.is c.list.invariant c.enumerator-value.ensures c.in_ok-next.ensures.value c.fine_with-all.ensures)

pub enums::enumerators-returns : goal.enums::enumerators-returns
enums::enumerators-returns t c =
    counted_all c.args.list.now c.list.e-index (context_view c.args.context.now) c.list.all (to_z w128 c.list.next-bits) c.list.context c.list-test.false c.list.invariant

pub enums::enumerator-returns : goal.enums::enumerator-returns
enums::enumerator-returns t c =
    nodes.enumerator_told c.args.next c.args.e.now (context_view c.args.context.now) c.enumerated.new.context c.enumerated.result
    (c.enumerated.ensures (value_or c.args.next (sources.enumerator_view c.args.e.now)) (context_view c.args.context.now)
    (subst (λ (z : ℤ). Tells (λ (y : ℤ). y) c.value_or-value.result c.value_or-value.new.context (value_or z (sources.enumerator_view c.args.e.now) (context_view c.args.context.now))) (to_z-of_z w128 c.args.next c.ranges.next) c.value_or-value.ensures))

pub enums::value_or-returns-in-Some : goal.enums::value_or-returns-in-Some
enums::value_or-returns-in-Some t c =
    nodes.given_told c.args.next c.args.e.now c.in-Some.value (context_view c.args.context.now) c.given.new.context c.given.result c.in-Some.is c.given.ensures

pub enums::value_or-returns-in-None : goal.enums::value_or-returns-in-None
enums::value_or-returns-in-None t c =
    nodes.next_told c.args.next c.args.e.now c.args.context.now c.as_fault.result c.in-None.is (fault_gives (λ (z : ℤ). z) _ _ _ c.as_fault.ensures (rw (to_z-of_z w128 c.args.next c.ranges.next) at c.enumerator_value.ensures))

pub enums::given-returns : goal.enums::given-returns
enums::given-returns t c =
    finishes boxed_expr_view (λ (z : ℤ). z) (valued (judged (sources.expr_view c.args.e.now))) (λ d x. enumerator_value c.args.place (whole_value (constant_value d (sources.expr_view c.args.e.now) x))) (context_view c.args.context.now) c.value-typed.new.context c.value-typed.result c.given_value.result
    c.value-typed.ensures c.given_value.ensures
