-- What the code's trees of a program are.
use Rattle.std.specs.Prelude.{ℕ, map, Option, Some, None, Box}
use Rattle.std.specs.Option.{option_map}
use Rattle.std.specs.declared.alloc.Global.{Global}
use Rattle.c_tree.specs.declared.syntax.Expr.{Expr as CodeExpr, fold-Expr}
use Rattle.c_tree.specs.declared.syntax.Expr.TheOpen.{Expr-F, Spec-F, Declarator-F, Enumerator-F, Member-F, TypeName-F}
use Rattle.c_tree.specs.declared.syntax.Spec.{Spec as CodeSpec, fold-Spec}
use Rattle.c_tree.specs.declared.syntax.Declarator.{Declarator as CodeDeclarator, fold-Declarator}
use Rattle.c_tree.specs.declared.syntax.Enumerator.{Enumerator as CodeEnumerator, fold-Enumerator}
use Rattle.c_tree.specs.declared.syntax.Member.{Member as CodeMember, fold-Member}
use Rattle.c_tree.specs.declared.syntax.TypeName.{TypeName as CodeTypeName, fold-TypeName}
use Rattle.c_tree.specs.declared.syntax.InitDeclarator.{InitDeclarator as CodeInitDeclarator}
use Rattle.c_tree.specs.declared.syntax.Declaration.{Declaration as CodeDeclaration}
use Rattle.c_tree.specs.declared.syntax.ParamDim.{ParamDim as CodeParamDim}
use Rattle.c_tree.specs.declared.syntax.Param.{Param as CodeParam}
use Rattle.c_tree.specs.declared.syntax.Simple.{Simple as CodeSimple}
use Rattle.c_tree.specs.declared.syntax.Simple.TheVariants as simples
use Rattle.c_tree.specs.declared.syntax.ForFirst.{ForFirst as CodeForFirst}
use Rattle.c_tree.specs.declared.syntax.ForFirst.TheVariants as firsts
use Rattle.c_tree.specs.declared.syntax.Stmt.{Stmt as CodeStmt, fold-Stmt}
use Rattle.c_tree.specs.declared.syntax.Stmt.TheOpen.{Stmt-F}
use Rattle.c_tree.specs.declared.syntax.Block.{Block as CodeBlock}
use Rattle.c_tree.specs.declared.syntax.Rest.{Rest as CodeRest}
use Rattle.c_tree.specs.declared.syntax.Rest.TheVariants as rests
use Rattle.c_tree.specs.declared.syntax.External.{External as CodeExternal}
use Rattle.c_tree.specs.declared.syntax.External.TheVariants as externals
use Rattle.c_tree.specs.declared.syntax.Program.{Program}
use Rattle.c_tree.specs.Syntax as trees

-- one node of the code's tree, the trees in it seen already
abbrev pub LayerOf : (Type 0 → Type 0 → Type 0 → Type 0 → Type 0 → Type 0 → Type 0) → Type 0
LayerOf F = F trees.Expr trees.Spec trees.Declarator trees.Enumerator trees.Member trees.TypeName

-- one layer of an expression, the trees in it seen already
abbrev pub expr_layer : LayerOf Expr-F → trees.Expr
expr_layer (Expr-F.Name n) = trees.name n
expr_layer (Expr-F.Call callee args) = trees.call callee (trees.exprs_of args.items)
expr_layer (Expr-F.Int place value) = trees.int place value
expr_layer (Expr-F.Char place value) = trees.char place value
expr_layer (Expr-F.Text parts) = trees.text parts.items
expr_layer (Expr-F.Null place) = trees.null place
expr_layer (Expr-F.Group e) = trees.group e.value
expr_layer (Expr-F.Prefix place op e) = trees.prefix place op e.value
expr_layer (Expr-F.SizeofType place t) = trees.sizeof_type place t
expr_layer (Expr-F.SizeofExpr place e) = trees.sizeof_expr place e.value
expr_layer (Expr-F.Cast place t e) = trees.cast place t e.value
expr_layer (Expr-F.Index place a i) = trees.index place a.value i.value
expr_layer (Expr-F.Member place a m) = trees.member place a.value m
expr_layer (Expr-F.Arrow place a m) = trees.arrow place a.value m
expr_layer (Expr-F.Binary place op a b) = trees.binary place op a.value b.value
expr_layer (Expr-F.Conditional place a b c) = trees.conditional place a.value b.value c.value

-- one layer of a specifier, the trees in it seen already
abbrev pub spec_layer : LayerOf Spec-F → trees.Spec
spec_layer (Spec-F.Word place w) = trees.word place w
spec_layer (Spec-F.Struct place tag) = trees.struct place tag
spec_layer (Spec-F.StructBody place tag members) = trees.struct_body place tag (trees.members_row members.items)
spec_layer (Spec-F.UnnamedStruct place members) = trees.unnamed_struct place (trees.members_row members.items)
spec_layer (Spec-F.Enum place tag) = trees.enum place tag
spec_layer (Spec-F.EnumBody place tag list) = trees.enum_body place tag (trees.enumerators_of list.items)
spec_layer (Spec-F.UnnamedEnum place list) = trees.unnamed_enum place (trees.enumerators_of list.items)
spec_layer (Spec-F.Alias n) = trees.alias n

-- one layer of a declarator, the trees in it seen already
abbrev pub declarator_layer : LayerOf Declarator-F → trees.Declarator
declarator_layer d = trees.declarator d.pointers.items d.name (trees.exprs_of d.dims.items)

-- one layer of an enumerator, the trees in it seen already
abbrev pub enumerator_layer : LayerOf Enumerator-F → trees.Enumerator
enumerator_layer e = trees.enumerator_of e.name e.value e.comma

-- one layer of a declaration of members, the trees in it seen already
abbrev pub member_layer : LayerOf Member-F → trees.Member
member_layer m = trees.members_of (trees.specs_of m.specs.items) (trees.declarators_of m.declarators.items)

-- one layer of a type's name, the trees in it seen already
abbrev pub type_name_layer : LayerOf TypeName-F → trees.TypeName
type_name_layer t = trees.type_name (trees.specs_of t.specs.items) t.pointers.items

-- the expression that one of the code stands for
abbrev pub expr_view : CodeExpr → trees.Expr
expr_view = fold-Expr trees.Expr trees.Spec trees.Declarator trees.Enumerator trees.Member trees.TypeName expr_layer spec_layer declarator_layer enumerator_layer member_layer type_name_layer

-- the expression in a box
abbrev pub boxed_expr_view : Box CodeExpr Global → trees.Expr
boxed_expr_view b = expr_view b.value

-- the specifier that one of the code stands for
abbrev pub spec_view : CodeSpec → trees.Spec
spec_view = fold-Spec trees.Expr trees.Spec trees.Declarator trees.Enumerator trees.Member trees.TypeName expr_layer spec_layer declarator_layer enumerator_layer member_layer type_name_layer

-- the declarator that one of the code stands for
abbrev pub declarator_view : CodeDeclarator → trees.Declarator
declarator_view = fold-Declarator trees.Expr trees.Spec trees.Declarator trees.Enumerator trees.Member trees.TypeName expr_layer spec_layer declarator_layer enumerator_layer member_layer type_name_layer

-- the enumerator that one of the code stands for
abbrev pub enumerator_view : CodeEnumerator → trees.Enumerator
enumerator_view = fold-Enumerator trees.Expr trees.Spec trees.Declarator trees.Enumerator trees.Member trees.TypeName expr_layer spec_layer declarator_layer enumerator_layer member_layer type_name_layer

-- the declaration of members that one of the code stands for
abbrev pub member_view : CodeMember → trees.Member
member_view = fold-Member trees.Expr trees.Spec trees.Declarator trees.Enumerator trees.Member trees.TypeName expr_layer spec_layer declarator_layer enumerator_layer member_layer type_name_layer

-- the name of a type that one of the code stands for
abbrev pub type_name_view : CodeTypeName → trees.TypeName
type_name_view = fold-TypeName trees.Expr trees.Spec trees.Declarator trees.Enumerator trees.Member trees.TypeName expr_layer spec_layer declarator_layer enumerator_layer member_layer type_name_layer

-- ---- declarations

-- a declarator, and its initialiser
abbrev pub init_declarator_view : CodeInitDeclarator → trees.InitDeclarator
init_declarator_view d = record { declarator = declarator_view d.declarator; value = option_map expr_view d.value }

-- a declaration
abbrev pub declaration_view : CodeDeclaration → trees.Declaration
declaration_view d = record { specs = map spec_view d.specs.items; declarators = map init_declarator_view d.declarators.items }

-- the size between the brackets behind a parameter
abbrev pub param_dim_view : CodeParamDim → trees.ParamDim
param_dim_view d = record { place = d.place; size = option_map expr_view d.size }

-- a parameter
abbrev pub param_view : CodeParam → trees.Param
param_view p = record {
  specs = map spec_view p.specs.items;
  pointers = p.pointers.items;
  name = p.name;
  dims = map param_dim_view p.dims.items;
}

-- ---- statements

-- an assignment, an increment or decrement, or an expression
abbrev pub simple_view : CodeSimple → trees.Simple
simple_view (simples.Before place op target) = trees.before place op (expr_view target)
simple_view (simples.After place op target) = trees.after place op (expr_view target)
simple_view (simples.Assign place op target value) = trees.assign place op (expr_view target) (expr_view value)
simple_view (simples.Eval e) = trees.eval (expr_view e)

-- what stands first between the brackets of a for
abbrev pub for_first_view : CodeForFirst → trees.ForFirst
for_first_view (firsts.Declare d) = trees.first_declare (declaration_view d)
for_first_view (firsts.Simple s) = trees.first_simple (simple_view s)
for_first_view firsts.Nothing = trees.first_nothing

-- what is behind the first branch of an if
abbrev pub if_layer : ℕ → Box CodeExpr Global → trees.Stmt → Option (Box trees.Stmt Global) → trees.Stmt
if_layer place condition then None = trees.if_then place (boxed_expr_view condition) then
if_layer place condition then (Some otherwise) = trees.if_else place (boxed_expr_view condition) then otherwise.value

-- one layer of a statement, the statements in it seen already
abbrev pub stmt_layer : Stmt-F trees.Stmt → trees.Stmt
stmt_layer (Stmt-F.Block place items) = trees.block place (trees.stmts_of items.items)
stmt_layer (Stmt-F.Declare d) = trees.declare (declaration_view d.value)
stmt_layer (Stmt-F.Empty place) = trees.empty place
stmt_layer (Stmt-F.If place condition then otherwise) = if_layer place condition then.value otherwise
stmt_layer (Stmt-F.While place condition body) = trees.while place (boxed_expr_view condition) body.value
stmt_layer (Stmt-F.For place head body) =
    trees.for place (for_first_view head.value.first) (option_map expr_view head.value.condition) (option_map simple_view head.value.step) body.value
stmt_layer (Stmt-F.DoWhile place body condition) = trees.do_while place body.value (boxed_expr_view condition)
stmt_layer (Stmt-F.Switch place condition entries) = trees.switch place (boxed_expr_view condition) (trees.stmts_of entries.items)
stmt_layer (Stmt-F.Case place value) = trees.case_label place (boxed_expr_view value)
stmt_layer (Stmt-F.Default place) = trees.default_label place
stmt_layer (Stmt-F.Break place) = trees.break place
stmt_layer (Stmt-F.Continue place) = trees.continue place
stmt_layer (Stmt-F.Return place value) = trees.return place (option_map boxed_expr_view value)
stmt_layer (Stmt-F.Simple s) = trees.simple (simple_view s.value)

-- the statement that one of the code stands for
abbrev pub stmt_view : CodeStmt → trees.Stmt
stmt_view = fold-Stmt trees.Stmt stmt_layer

-- the statement in a box
abbrev pub boxed_stmt_view : Box CodeStmt Global → trees.Stmt
boxed_stmt_view b = stmt_view b.value

-- ---- files

-- a body: its items, and the place of the opening brace
abbrev pub body_view : CodeBlock → trees.Body
body_view b = record { place = b.place; items = map stmt_view b.items.items }

-- what stands behind the specifiers of an external declaration
abbrev pub rest_view : CodeRest → trees.Rest
rest_view rests.Nothing = trees.nothing
rest_view (rests.Function pointers n params body) =
    trees.function pointers.items n (map param_view params.items) (option_map body_view body)
rest_view (rests.Variables declarators) = trees.variables (map init_declarator_view declarators.items)

-- an external declaration
abbrev pub external_view : CodeExternal → trees.External
external_view (externals.Typedef specs declarators) = trees.types_by (map spec_view specs.items) (map declarator_view declarators.items)
external_view (externals.Other storage specs rest) = trees.external_of storage.items (map spec_view specs.items) (rest_view rest)

-- a program
abbrev pub view : Program → trees.File
view p = record { externals = map external_view p.externals.items }
