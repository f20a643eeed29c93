-- What the checker's refusals mean.
use Rattle.std.specs.Prelude.{ℕ, Result, Ok, Err}
use Rattle.struct_ir.specs.Nodes.{Ir}
use Rattle.pin_checker.specs.declared.fault.Why.{Why}
use Rattle.pin_checker.specs.declared.fault.CheckFault.{CheckFault}
use Rattle.pin_checker.specs.declared.fault.CheckFault.TheVariants.{Refused, NoMemory}
use Rattle.pin_checker.specs.Safe.{IsSafe}
use Rattle.pin_checker.specs.Faults.{IsFirst}

-- the program isn't safe for moves, and this is the first node that fails, with its first reason
pub record IsRefused (p : Ir) (place : ℕ) (why : Why) : Type 0 where
  pub first : IsFirst p place why
  pub not_safe : IsSafe p → ⊥

-- where it is a refusal
abbrev pub IfRefused : {A : Type 0} → Result A CheckFault → (ℕ → Why → Type 0) → Type 0
IfRefused (Ok x) f = Unit {0}
IfRefused (Err (Refused place why)) f = f place why
IfRefused (Err NoMemory) f = Unit {0}
