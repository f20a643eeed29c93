-- What the code's trees in boxes are.
use Rattle.std.specs.Prelude.{Box}
use Rattle.std.specs.declared.alloc.Global.{Global}
use Rattle.c_tree.specs.declared.syntax.Simple.{Simple}
use Rattle.c_tree.specs.declared.syntax.ForFirst.{ForFirst}
use Rattle.c_tree.specs.declared.syntax.InitDeclarator.{InitDeclarator}
use Rattle.c_tree.specs.declared.syntax.ParamDim.{ParamDim}
use Rattle.c_tree.specs.Syntax as trees
use Rattle.c_tree.specs.SyntaxViews.{simple_view, for_first_view, init_declarator_view, param_dim_view}

-- the simple statement in a box
abbrev pub boxed_simple_view : Box Simple Global → trees.Simple
boxed_simple_view b = simple_view b.value

-- what stands first between the brackets of a for, in a box
abbrev pub boxed_first_view : Box ForFirst Global → trees.ForFirst
boxed_first_view b = for_first_view b.value

-- the declarator with its initialiser in a box
abbrev pub boxed_initialised_view : Box InitDeclarator Global → trees.InitDeclarator
boxed_initialised_view b = init_declarator_view b.value

-- the size between the brackets behind a parameter, in a box
abbrev pub boxed_param_dim_view : Box ParamDim Global → trees.ParamDim
boxed_param_dim_view b = param_dim_view b.value
