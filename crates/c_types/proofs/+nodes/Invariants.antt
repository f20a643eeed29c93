use Rattle.std.proofs.Common.{◌≡◌, ℕ, [], map, take, false}
use Rattle.std.specs.Prelude.{Vec}
use Rattle.std.specs.declared.alloc.Global.{Global}
use Rattle.c_tree.specs.SyntaxViews.{expr_view, spec_view, member_view, declarator_view, enumerator_view}
use Rattle.c_tree.specs.Typed.{Ty}
use Rattle.c_tree.specs.TypedViews.{type_view}
use Rattle.c_typing.specs.Faults.{Judged, Gives}
use Rattle.type_context.specs.ContextViews.{context_view}
use Rattle.type_rules.specs.ListViews.{exprs_view}
use Rattle.type_rules.specs.SpecifierViews.{parts_view}
use Rattle.type_context.specs.Telling.{Tells, lacks_memory}
use Rattle.type_context.specs.Rows.{state_behind}
use Rattle.type_nodes.specs.Nodes.{types_of_members}
use Rattle.type_nodes.proofs.Rows.{args_row, dims_row, parts_row, members_row, behind_member, declarators_row, behind_declarator}
use Rattle.c_types.proofs.EnumWalk.{Counted}
use Rattle.c_types.proofs.+nodes.Given as goal

abbrev pub invariant-expressions::arguments-arguments : goal.invariant-expressions::arguments-arguments
invariant-expressions::arguments-arguments l = Tells exprs_view l.all l.context (args_row (map expr_view (take l.e-index l.args)) (context_view l.fn.context))

abbrev pub invariant-declarators::dimensions-dimensions : goal.invariant-declarators::dimensions-dimensions
invariant-declarators::dimensions-dimensions l = Tells (λ (v : Vec ℕ Global). map (λ n. n) v.items) l.all l.context (dims_row (map expr_view (take l.e-index l.dims)) (context_view l.fn.context))

abbrev pub invariant-declarators::parts-specifiers : goal.invariant-declarators::parts-specifiers
invariant-declarators::parts-specifiers l = Tells parts_view l.all l.context (parts_row (map spec_view (take l.spec-index l.specs)) (context_view l.fn.context))

abbrev pub invariant-declarators::members-members : goal.invariant-declarators::members-members
invariant-declarators::members-members l = record {
  told : Tells types_of_members l.all l.context (members_row [] (map member_view (take l.m-index l.members)) (context_view l.fn.context));
  names : lacks_memory l.all ≡ false → l.before.items ≡ state_behind behind_member [] (map member_view (take l.m-index l.members));
}

abbrev pub invariant-declarators::declarators-declarators : goal.invariant-declarators::declarators-declarators
invariant-declarators::declarators-declarators l = record {
  told : (j : Judged Ty) → Gives type_view l.base j → Tells types_of_members l.all l.context (declarators_row j l.fn.before.items (map declarator_view (take l.d-index l.declarators)) (context_view l.fn.context));
  names : l.before.items ≡ state_behind behind_declarator l.fn.before.items (map declarator_view (take l.d-index l.declarators));
}

abbrev pub invariant-enums::enumerators-list : goal.invariant-enums::enumerators-list
invariant-enums::enumerators-list l = Counted (map enumerator_view (take l.e-index l.list)) (context_view l.fn.context) l.all l.next l.context
