-- Checked code of a well formed program has all that the machine asks of code.
use Rattle.std.proofs.Common.{◌≡◌, ℕ, zero, suc, ◌≤◌, List, [], ◌∷◌, length, map, refl, sym, subst, ◌∙◌, arith}
use Rattle.std.proofs.lemmas.List.Elements.{All-from_recursion}
use Rattle.std.proofs.lemmas.List.Sums.{AllPass-from_list_all}
use Rattle.std.specs.Prelude.{slice_get}
use Rattle.std.specs.List.{AllByRecursion}
use Rattle.c_tree.specs.Typed as tree
use Rattle.c_tree.specs.TypedForm.{IsFunc, IsWellFormed}
use Rattle.c_meaning.specs.Sound.{TurnsGoOn, RunsKeepTypes}
use Rattle.struct_ir.specs.Nodes.{Func, Ir}
use Rattle.struct_ir.specs.Erased.{func_erased, ir_erased}
use Rattle.struct_ir.specs.Whole.{takes_nothing, is_init_in}
use Rattle.struct_ir.specs.meaning.Start as code
use Rattle.struct_ir.specs.meaning.Threads.{program_of}
use Rattle.pin_flow.proofs.Starts.{each_start}
use Rattle.lower_forms.specs.Laws.{IsWhole}
use Rattle.lower_forms.specs.Programs.{funcs_lowered, lowered}
use Rattle.lower_turns.specs.Turns.{KeepsEveryTurn}
use Rattle.compile_passes.specs.Compiled.{IsPrepared}
use Rattle.flat_meaning.specs.Simulation.{IsChecked}
use Rattle.alaska_run.proofs.SomeAnswers.{takes_some}

-- ---- parameters

-- a register for each parameter
abbrev pub HasParams : Func → Type 0
HasParams f = f.params ≤ f.temps

-- as lowered code has: its locals have one each
params_there : (t : tree.Typed) (i : ℕ) (fs : List tree.Func) → AllByRecursion (IsFunc t) fs → AllByRecursion HasParams (funcs_lowered t.structs t.main i fs)
params_there t i [] h = tt
params_there t i (f ∷ fs) h = (omega (arith, h.0.params), params_there t (suc i) fs h.1)

-- and so code that is lowered code without its Looks, safepoints, slots and lists
bare_params : (fs : List Func) → AllByRecursion HasParams (map func_erased fs) → AllByRecursion HasParams fs
bare_params [] h = tt
bare_params (f ∷ fs) h = (h.0, bare_params fs h.1)

-- ---- main

-- main has no parameter with them where it has none without
bare_takes : (fs : List Func) (n : ℕ) → takes_nothing (slice_get (map func_erased fs) n) ≡ takes_nothing (slice_get fs n)
bare_takes [] n = refl
bare_takes (f ∷ fs) zero = refl
bare_takes (f ∷ fs) (suc n) = bare_takes fs n

-- ---- the whole

-- code that is safe for moves, and is without its Looks, safepoints, slots and lists what a well formed program is lowered to
pub is_checked : (t : tree.Typed) → IsWellFormed t → (ready : Ir) → IsPrepared (lowered t) ready → IsWhole (lowered t) → KeepsEveryTurn t ready → RunsKeepTypes → TurnsGoOn → IsChecked ready
is_checked t well ready prepared whole keeps types ends =
    let bare : IsWhole (ir_erased ready) = subst IsWhole (sym prepared.erased) whole in
    let params : AllByRecursion HasParams (map func_erased ready.funcs) = subst (λ (p : Ir). AllByRecursion HasParams p.funcs) (sym prepared.erased) (params_there t 0 t.funcs well.funcs) in
    record {
      valid = prepared.safe.valid;
      safe = each_start ready.funcs prepared.safe.pinned;
      answers = takes_some t well types ends (program_of ready) (code.start ready) keeps;
      main = sym (bare_takes ready.funcs ready.main) ∙ bare.main;
      params = All-from_recursion HasParams ready.funcs (bare_params ready.funcs params);
      inits = AllPass-from_list_all (λ g. is_init_in (length ready.literals) g.init) ready.globals bare.literals;
      small = bare.small;
    }
