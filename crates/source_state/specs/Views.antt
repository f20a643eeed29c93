-- What the code's work lists are: those of the meaning of the source.
use Rattle.std.specs.Prelude.{ℕ, List, [], ◌∷◌, ◌++◌, Option, Some, None}
use Rattle.std.specs.Global.{Global}
use Rattle.std.specs.declared.rc.Rc.{Rc}
use Rattle.block_store.specs.declared.values.Value.{Value}
use Rattle.c_tree.specs.Typed as tree
use Rattle.c_tree.specs.TypedViews.{type_view, lib_view}
use Rattle.c_meaning.specs.Control as control
use Rattle.c_meaning.specs.Turns.{declared, declared_by, nothing}
use Rattle.source_tree.specs.declared.tree.Callee.{Callee}
use Rattle.source_tree.specs.declared.tree.Callee.TheVariants as callees
use Rattle.source_tree.specs.declared.tree.SharedStmt.{SharedStmt}
use Rattle.source_tree.specs.SharedViews.{expr_of, optional_expr_of, args_of, labels_of, stmt_of, row_of, row_from}
use Rattle.source_state.specs.Operations.{unary_of, binary_of}
use Rattle.source_state.specs.declared.control.LoopParts.{LoopParts}
use Rattle.source_state.specs.declared.control.Updating.{Updating}
use Rattle.source_state.specs.declared.control.Values.{Values}
use Rattle.source_state.specs.declared.control.Values.TheVariants as valueses
use Rattle.source_state.specs.declared.control.Todo.{Todo}
use Rattle.source_state.specs.declared.control.Todo.TheVariants as todos
use Rattle.source_state.specs.declared.control.Use.{Use}
use Rattle.source_state.specs.declared.control.Use.TheVariants as uses
use Rattle.source_state.specs.declared.control.Wait.{Wait}
use Rattle.source_state.specs.declared.control.Wait.TheVariants as waits

-- what a call calls (C11 6.5.2.2)
abbrev pub callee_of : Callee → control.Callee
callee_of (callees.Function number) = control.function number
callee_of (callees.Library lib) = control.library (lib_view lib)

-- values in order; the code links them from the last one
abbrev pub values_of : Values → List Value
values_of valueses.None = []
values_of (valueses.More' v x before) = values_of before ++ v ∷ []

-- a statement, or none at a place
abbrev pub stmt_or_nothing : (place : ℕ) → Option (Rc SharedStmt Global) → tree.Stmt
stmt_or_nothing place None = nothing place
stmt_or_nothing place (Some s) = stmt_of s.value

-- a loop: its condition, its step and its body (C11 6.8.5)
abbrev pub loop_of : LoopParts → control.Loop
loop_of l = record { condition = optional_expr_of l.condition; step = stmt_or_nothing l.place l.step; body = stmt_of l.body.value }

-- a compound assignment (C11 6.5.16.2)
abbrev pub updating_of : Updating → control.Update
updating_of u = record { place = u.place; operator = u.operator; op = u.op; ty = type_view u.ty.value }

-- what is left to do once a statement is done
abbrev pub todo_of : Todo → control.Todo
todo_of todos.Leaves = control.leaves
todo_of (todos.ThenRow' all i x k) = control.then_row (row_from all.value i) (todo_of k)
todo_of (todos.ThenEnd' all x k) = control.then_end (declared (row_of all.value)) (todo_of k)
todo_of (todos.ThenEndFirst' s x k) = control.then_end (declared_by (stmt_of s.value) []) (todo_of k)
todo_of (todos.ThenLoop' l x k) = control.then_loop (loop_of l.value) (todo_of k)
todo_of (todos.InBody' l x k) = control.in_body (loop_of l.value) (todo_of k)
todo_of (todos.InStep' l x k) = control.in_step (loop_of l.value) (todo_of k)
todo_of (todos.InSwitch' x k) = control.in_switch (todo_of k)

-- what a value is used for
abbrev pub use_of : Use → control.Use
use_of (uses.FirstOf' place op right x k) = control.first_of place (binary_of op) (expr_of right.value) (use_of k)
use_of (uses.SecondOf' place op left x k) = control.second_of place (binary_of op) left (use_of k)
use_of (uses.OnlyOf' place op x k) = control.only_of place (unary_of op.value) (use_of k)
use_of (uses.PlaceRead' site how x k) = control.place_read site.place how site.atomic (use_of k)
use_of (uses.FirstTest' place decides right x k) = control.first_test place decides (expr_of right.value) (use_of k)
use_of (uses.SecondTest' place x k) = control.second_test place (use_of k)
use_of (uses.Choice' place one other x k) = control.choice place (expr_of one.value) (expr_of other.value) (use_of k)
use_of (uses.Argument' place callee before rest at x k) =
    control.argument place (callee_of callee.value) (values_of before.value) (args_of rest.value) (control.wanted at (use_of k))
use_of (uses.DroppedArgument place callee before rest k) =
    control.argument place (callee_of callee.value) (values_of before.value) (args_of rest.value) (control.dropped (todo_of k.value))
use_of (uses.ToLocal number k) = control.to_local number (todo_of k.value)
use_of (uses.LeftPlace site right k) = control.left_place site.place site.atomic (expr_of right.value) (todo_of k.value)
use_of (uses.ToPlace site to k) = control.to_place site.place site.atomic to (todo_of k.value)
use_of (uses.StructLeft place ty right k) = control.struct_left place (type_view ty.value) (expr_of right.value) (todo_of k.value)
use_of (uses.StructRight place ty to k) = control.struct_right place (type_view ty.value) to (todo_of k.value)
use_of (uses.UpdateLeft u right k) = control.update_left (updating_of u.value) (expr_of right.value) (todo_of k.value)
use_of (uses.UpdateLocal u number k) = control.update_local (updating_of u.value) number (todo_of k.value)
use_of (uses.UpdateRight u to k) = control.update_right (updating_of u.value) to (todo_of k.value)
use_of (uses.UpdateRead u to by k) = control.update_read (updating_of u.value) to by (todo_of k.value)
use_of (uses.IfTest place at one other k) = control.if_test place (stmt_of one.value) (stmt_or_nothing at other) (todo_of k.value)
use_of (uses.LoopTest place l k) = control.loop_test place (loop_of l.value) (todo_of k.value)
use_of (uses.SwitchTest labels body k) = control.switch_test (labels_of labels.value) (row_of body.value) (todo_of k.value)
use_of uses.ToCaller = control.to_caller
use_of (uses.ToNowhere k) = control.to_nowhere (todo_of k.value)

-- what waits for a call's value
abbrev pub wait_of : Wait → control.Wait
wait_of (waits.Wanted place k) = control.wanted place (use_of k.value)
wait_of (waits.Dropped k) = control.dropped (todo_of k.value)
