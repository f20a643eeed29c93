-- A work list stays under its name.
use Rattle.std.proofs.Common.{◌≡◌, refl, ap}
use Rattle.c_meaning.specs.Control as control
use Rattle.c_meaning.specs.Turns.{TurnContext, way_of, use_of}

pub name_todo : (h : TurnContext) (k : control.Todo) → (way_of h k).k ≡ k
name_todo h control.leaves = refl
name_todo h (control.then_row rest k) = ap (control.then_row rest) (name_todo h k)
name_todo h (control.then_end numbers k) = ap (control.then_end numbers) (name_todo h k)
name_todo h (control.then_loop l k) = ap (control.then_loop l) (name_todo h k)
name_todo h (control.in_body l k) = ap (control.in_body l) (name_todo h k)
name_todo h (control.in_step l k) = ap (control.in_step l) (name_todo h k)
name_todo h (control.in_switch k) = ap control.in_switch (name_todo h k)

pub name_use : (h : TurnContext) (k : control.Use) → (use_of h k).k ≡ k
name_use h (control.first_of place op right k) = ap (control.first_of place op right) (name_use h k)
name_use h (control.second_of place op left k) = ap (control.second_of place op left) (name_use h k)
name_use h (control.only_of place op k) = ap (control.only_of place op) (name_use h k)
name_use h (control.place_read place how atomic k) = ap (control.place_read place how atomic) (name_use h k)
name_use h (control.first_test place decides right k) = ap (control.first_test place decides right) (name_use h k)
name_use h (control.second_test place k) = ap (control.second_test place) (name_use h k)
name_use h (control.choice place one other k) = ap (control.choice place one other) (name_use h k)
name_use h (control.argument place callee before rest k) = refl
name_use h (control.to_local number k) = ap (control.to_local number) (name_todo h k)
name_use h (control.left_place place atomic right k) = ap (control.left_place place atomic right) (name_todo h k)
name_use h (control.to_place place atomic to k) = ap (control.to_place place atomic to) (name_todo h k)
name_use h (control.struct_left place ty right k) = ap (control.struct_left place ty right) (name_todo h k)
name_use h (control.struct_right place ty to k) = ap (control.struct_right place ty to) (name_todo h k)
name_use h (control.update_left u right k) = ap (control.update_left u right) (name_todo h k)
name_use h (control.update_local u number k) = ap (control.update_local u number) (name_todo h k)
name_use h (control.update_right u at k) = ap (control.update_right u at) (name_todo h k)
name_use h (control.update_read u at by k) = ap (control.update_read u at by) (name_todo h k)
name_use h (control.if_test place one other k) = ap (control.if_test place one other) (name_todo h k)
name_use h (control.loop_test place l k) = ap (control.loop_test place l) (name_todo h k)
name_use h (control.switch_test labels body k) = ap (control.switch_test labels body) (name_todo h k)
name_use h control.to_caller = refl
name_use h (control.to_nowhere k) = ap control.to_nowhere (name_todo h k)
