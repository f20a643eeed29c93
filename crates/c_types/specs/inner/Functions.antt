-- The parameters of a function, as the code has them before its body.
use Rattle.std.specs.Prelude.{◌≡◌, List}
use Rattle.c_tree.specs.Syntax as source
use Rattle.c_typing.specs.Faults.{Gives}
use Rattle.c_typing.specs.Scope.{Context, back_to}
use Rattle.c_typing.specs.Programs.{judged_param_list, before_params}
use Rattle.type_context.specs.declared.context.Context.{Context as CodeContext}
use Rattle.type_context.specs.ContextViews.{context_view, frame_view}
use Rattle.type_locals.specs.LocalViews.{param_view}
use Rattle.c_types.specs.declared.definitions.Head.{Head}
use Rattle.type_declared.specs.Gathering.{each}

-- the parameters of a function, and what their scope declares
pub record IsHead (h : Head) (left : CodeContext) (params : List source.Param) (around : Context) : Type 0 where
  pub gives : Gives (each param_view) h.params (judged_param_list params (before_params around)).0
  pub scope : frame_view h.scope.entries ≡ (judged_param_list params (before_params around)).1.inner
  pub leaves : context_view left ≡ back_to around (judged_param_list params (before_params around)).1
