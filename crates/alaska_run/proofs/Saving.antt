-- Compiled code can be saved.
use Rattle.std.proofs.Common.{◌≡◌, ℕ, true, List, length}
use Rattle.std.proofs.lemmas.Bool.{and_from, le-leb}
use Rattle.std.proofs.lemmas.List.Sums.{list_all-from_AllPass}
use Rattle.c_tree.specs.Typed as tree
use Rattle.c_tree.specs.TypedForm.{IsWellFormed}
use Rattle.struct_ir.specs.Nodes.{Ir}
use Rattle.struct_ir.specs.Erased.{ir_erased}
use Rattle.struct_ir.specs.Instrs.{LinearCode}
use Rattle.struct_ir.specs.Safe.{EveryFunc}
use Rattle.struct_ir.specs.Whole.{is_init_in, plain_bytes}
use Rattle.lower_forms.specs.Programs.{lowered}
use Rattle.pin_flow.specs.Slots.{HasOwnSlots}
use Rattle.flat_meaning.specs.Simulation.{IsChecked}
use Rattle.code_file.specs.Conditions.{has_parameters, is_lawful}
use Rattle.code_save.specs.Saves.{can_be_saved}
use Rattle.alaska_run.specs.Built.{IsBuilt}
use Rattle.alaska_run.proofs.AlignedPrograms.{code_aligned}
use Rattle.alaska_run.proofs.Seated.{funcs_seated}

-- what the machine asks of code, and that it is lowered from a well formed program, are the conditions of a code file
lawful : (t : tree.Typed) → IsWellFormed t → (ready : Ir) → ir_erased ready ≡ lowered t → IsChecked ready → is_lawful ready ≡ true
lawful t well ready e checked =
    let params = list_all-from_AllPass has_parameters ready.funcs (λ k d less. le-leb _ _ (checked.params k d less)) in
    let inits = list_all-from_AllPass (λ g. is_init_in (length ready.literals) g.init) ready.globals checked.inits in
    let small = le-leb (plain_bytes ready.globals ready.literals) 1048576 checked.small in
    and_from _ _ (and_from _ _ checked.valid checked.main) (and_from _ _ (and_from _ _ params inits) (and_from _ _ small (code_aligned t well ready e)))

-- with a slot for each base it can be saved
pub can_be : (t : tree.Typed) → IsWellFormed t → (ready : Ir) → ir_erased ready ≡ lowered t → EveryFunc HasOwnSlots ready → IsChecked ready → can_be_saved ready ≡ true
can_be t well ready e slots checked = and_from _ _ (funcs_seated ready.funcs slots) (lawful t well ready e checked)

-- as that which a text is compiled to has
pub compiled_can_be_saved : (text : List ℕ) (typed : tree.Typed) (checked : Ir) (code : LinearCode) → IsBuilt text typed checked code → can_be_saved checked ≡ true
compiled_can_be_saved text typed checked code built = can_be typed built.tree.well_formed checked built.prepared.erased built.prepared.slots built.sound
