-- How many Turn entries a run of the machine has between two barriers.
use Rattle.std.proofs.Common.{◌≡◌, ℕ, zero, suc, false, refl, subst}
use Rattle.flat_rules.specs.declared.settings.Settings.{Settings}
use Rattle.flat_rules.specs.Lawful.{IsOpened}
use Rattle.struct_ir.specs.Instrs.{LinearCode}
use Rattle.flat_threads.specs.Belonging.{IsContextOf}
use Rattle.flat_threads.specs.Contexts.{IsProgram}
use Rattle.flat_machine.specs.Machine.{machine_of}
use Rattle.flat_machine.specs.Shares.{IsSharedOf}
use Rattle.flat_machine.specs.Start.{first_shared, settings_limits}
use Rattle.flat_machine.specs.lemmas.MachineIsFlat.{machine_is_flat}
use Rattle.flat_machine.proofs.Opened.{opened_of}
use Rattle.world_rules.proofs.Bounded.{few_turns}
use Rattle.flat_homes.specs.Laws.{TurnsAreFew, TurnsBetweenBarriersAreFew, TurnsOfStructuredCodeAreFew, first_world}
use Rattle.struct_ir.specs.Looks.{look_count}
use Rattle.flat_homes.proofs.ComesHome.{threads_come_home}

nobody_ended : (code : LinearCode) (s : Settings) (k : ℕ) → (machine_of code).has_ended (first_shared code (settings_limits s)) k ≡ false
nobody_ended code s zero = refl
nobody_ended code s (suc k) = refl

opened : (code : LinearCode) (s : Settings) → IsProgram code → IsOpened (machine_of code) (IsSharedOf code) (first_shared code (settings_limits s))
opened code s program = record { of_ = opened_of code (settings_limits s) program; one = refl; going = nobody_ended code s }

pub turns_are_few : TurnsBetweenBarriersAreFew
turns_are_few code s program n every log part z between =
    let some = s.every_some n every in
    few_turns machine_of IsSharedOf IsContextOf machine_is_flat (first_world code s) n (look_count code.funcs) log part z
    (record { every = every; some = some.0; opened = opened code s program; homes = threads_come_home code }) between

pub structured_turns_are_few : TurnsOfStructuredCodeAreFew
structured_turns_are_few p code emitted = subst (TurnsAreFew code) emitted.looks (turns_are_few code)
