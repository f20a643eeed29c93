use Rattle.std.proofs.Common.{◌≡◌, ℕ, true, Option, map, take}
use Rattle.c_tree.specs.SyntaxViews.{param_dim_view}
use Rattle.c_typing.specs.Programs.{judged_sizes}
use Rattle.type_context.specs.ContextViews.{context_view}
use Rattle.type_context.specs.Telling.{Tells}
use Rattle.type_declared.specs.Gathering.{each}
use Rattle.c_types.proofs.FileRows.{is_outermost}
use Rattle.c_types.proofs.parameters.sizes.Given as goal

-- those before the index are told, and whether the next is the outermost
abbrev pub invariant-dims : goal.invariant-dims
invariant-dims l = record {
  told : Tells (each (λ (x : Option ℕ). x)) l.all l.context (judged_sizes true (map param_dim_view (take l.d-index l.dims)) (context_view l.fn.context));
  outer : l.outermost ≡ is_outermost (map param_dim_view (take l.d-index l.dims));
}
