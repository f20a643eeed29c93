use Rattle.c_tree.specs.Syntax as trees
use Rattle.c_tree.specs.TypedViews.{boxed_expr_view}
use Rattle.c_typing.specs.Scope.{meaning_of}
use Rattle.c_typing.specs.Judgement.{named}
use Rattle.type_context.specs.ContextViews.{context_view}
use Rattle.type_context.proofs.Walks.{lone_tells}
use Rattle.type_nodes.proofs.Expressions.{value_tells, index_tells}
use Rattle.reader_tests.proofs.judging.element_named.Goals as goal

pub returns : goal.returns
returns c =
    let k = c.args.context.now in
    let d = context_view k in
    let base = c.args.base in
    let index = c.args.index in
    index_tells c.args.place (trees.name base) (trees.name index) d k k c.valued-base_value.result c.valued-index_value.result _
    (value_tells (trees.name base) d k c.named-base_found.result c.valued-base_value.result
    (lone_tells boxed_expr_view c.named-base_found.result k (named base.from (meaning_of d base)) c.named-base_found.ensures) c.valued-base_value.ensures)
    (value_tells (trees.name index) d k c.named-index_found.result c.valued-index_value.result
    (lone_tells boxed_expr_view c.named-index_found.result k (named index.from (meaning_of d index)) c.named-index_found.ensures) c.valued-index_value.ensures)
    c.element_of.ensures
