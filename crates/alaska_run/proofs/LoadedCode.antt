-- Code that was loaded, where it keeps every turn of a well formed program, has all that the machine asks of code.
use Rattle.std.proofs.Common.{◌≡◌, ℕ, ◌&&◌, true, List, [], ◌∷◌, length, subst}
use Rattle.std.proofs.lemmas.Bool.{leb-true}
use Rattle.std.proofs.lemmas.Bool.{and_parts}
use Rattle.std.proofs.lemmas.List.Elements.{All-from_recursion}
use Rattle.std.proofs.lemmas.List.Sums.{AllPass-from_list_all}
use Rattle.std.specs.Prelude.{nat_le, slice_get}
use Rattle.std.specs.List.{AllByRecursion, list_all}
use Rattle.c_tree.specs.Typed.{Typed}
use Rattle.c_tree.specs.TypedForm.{IsWellFormed}
use Rattle.c_meaning.specs.Sound.{TurnsGoOn, RunsKeepTypes}
use Rattle.struct_ir.specs.Nodes.{Func, Ir}
use Rattle.struct_ir.specs.Erased.{ir_erased}
use Rattle.struct_ir.specs.Instrs.{LinearCode}
use Rattle.struct_ir.specs.Valid.{is_valid}
use Rattle.struct_ir.specs.Whole.{takes_nothing, is_init_in, plain_bytes}
use Rattle.struct_ir.specs.meaning.Start as code
use Rattle.struct_ir.specs.meaning.Threads.{program_of}
use Rattle.pin_flow.proofs.Starts.{each_start}
use Rattle.lower_turns.specs.Turns.{ErasedKeepsEveryTurn, KeepsEveryTurn}
use Rattle.flat_meaning.specs.Simulation.{IsChecked}
use Rattle.code_file.specs.Calls.{ir_filled}
use Rattle.code_file.specs.Conditions.{has_parameters, ir_is_aligned, is_lawful, most_file_bytes}
use Rattle.code_load.specs.Loads.{IsLoaded}
use Rattle.alaska_run.specs.Loaded.{IsLoadedTo}
use Rattle.alaska_run.proofs.SomeAnswers.{takes_some}
use Rattle.alaska_run.proofs.Checked.{HasParams}

-- code of a file meets the conditions
lawful : (bytes : List ℕ) (p : Ir) → IsLoaded bytes p → is_lawful p ≡ true
lawful bytes p l =
    let met = and_parts (is_lawful (ir_filled l.code)) (nat_le (length bytes) most_file_bytes) l.is_file.lawful in
    subst (λ (q : Ir). is_lawful q ≡ true) l.filled met.0

-- which are these
record Meets (p : Ir) : Type 0 where
  main : takes_nothing (slice_get p.funcs p.main) ≡ true
  params : list_all has_parameters p.funcs ≡ true
  inits : list_all (λ g. is_init_in (length p.literals) g.init) p.globals ≡ true
  small : nat_le (plain_bytes p.globals p.literals) 1048576 ≡ true

meets : (p : Ir) → is_lawful p ≡ true → Meets p
meets p e =
    let code = is_valid p && takes_nothing (slice_get p.funcs p.main) in
    let parts = list_all has_parameters p.funcs && list_all (λ g. is_init_in (length p.literals) g.init) p.globals in
    let room = nat_le (plain_bytes p.globals p.literals) 1048576 in
    let a = and_parts code (parts && (room && ir_is_aligned p)) e in
    let b = and_parts parts (room && ir_is_aligned p) a.1 in
    let c = and_parts (list_all has_parameters p.funcs) (list_all (λ g. is_init_in (length p.literals) g.init) p.globals) b.0 in
    record {
      main = (and_parts (is_valid p) (takes_nothing (slice_get p.funcs p.main)) a.0).1;
      params = c.0;
      inits = c.1;
      small = (and_parts room (ir_is_aligned p) b.1).0;
    }

params_there : (fs : List Func) → list_all has_parameters fs ≡ true → AllByRecursion HasParams fs
params_there [] e = tt
params_there (f ∷ fs) e = let h = and_parts (has_parameters f) (list_all has_parameters fs) e in (leb-true f.params f.temps h.0, params_there fs h.1)

pub loaded_is_checked : (bytes : List ℕ) (p : Ir) (out : LinearCode) → IsLoadedTo bytes p out → (t : Typed) → IsWellFormed t → KeepsEveryTurn t (ir_erased p) → ErasedKeepsEveryTurn → RunsKeepTypes → TurnsGoOn → IsChecked p
loaded_is_checked bytes p out l t well keeps erased types ends =
    let m = meets p (lawful bytes p l.loaded) in
    record {
      valid = l.accepted.valid;
      safe = each_start p.funcs l.accepted.pinned;
      answers = takes_some t well types ends (program_of p) (code.start p) ((erased t p).0 keeps);
      main = m.main;
      params = All-from_recursion HasParams p.funcs (params_there p.funcs m.params);
      inits = AllPass-from_list_all (λ g. is_init_in (length p.literals) g.init) p.globals m.inits;
      small = leb-true (plain_bytes p.globals p.literals) 1048576 m.small;
    }
