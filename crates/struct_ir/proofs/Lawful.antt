-- In lawful linear code what is left to do gets less.
use Rattle.std.proofs.Common.{◌≡◌, ℕ, zero, suc, ◌-◌, ◌<◌, List, [], ◌∷◌, length, Option, Some, None, Bool, true, false, refl, subst, arith, map}
use Rattle.std.specs.Prelude.{slice_get}
use Rattle.struct_ir.specs.declared.linear.CodeFunc.{CodeFunc}
use Rattle.struct_ir.specs.declared.linear.Code.{Code}
use Rattle.struct_ir.specs.Flow.{GoesOn}
use Rattle.struct_ir.specs.Instrs.{Instr, acts, unless, jump, round_to, leave, LinearFunc, instrs_if}
use Rattle.struct_ir.specs.Linear.{instr_here, instr_next, here_in, next_in}
use Rattle.struct_ir.specs.LinearViews.{linear_func_view, code_view}
use Rattle.struct_ir.specs.Lawful.{IsLawful, AllLawful, LawfulCodeShrinks}

module _ (code : List Instr) (lawful : IsLawful code) where
  instr_shrinks : (at : ℕ) (c : Bool) (o : Option Instr) → slice_get code at ≡ o → GoesOn (instr_here o) → length code - instr_next at o c < length code - at
  instr_shrinks at c None e g = absurd g
  instr_shrinks at c (Some (acts place a)) e g = let l = lawful.behind_acts at place a e in omega (arith, l.0, l.1)
  instr_shrinks at true (Some (unless place temp to)) e g = let l = (lawful.tests at place temp to e).1 in omega (arith, l.0, l.1)
  instr_shrinks at false (Some (unless place temp to)) e g = let l = (lawful.tests at place temp to e).0 in omega (arith, l.0, l.1)
  instr_shrinks at c (Some (jump place to)) e g = let l = lawful.jumps at place to e in omega (arith, l.0, l.1)
  instr_shrinks at c (Some (round_to place to)) e g = absurd g
  instr_shrinks at c (Some (leave place temp)) e g = absurd g

same_some : (x y : LinearFunc) → Some x ≡ Some y → x ≡ y
same_some x y e = cc

pub lawful_at : (funcs : List LinearFunc) → AllLawful funcs → (n : ℕ) (f : LinearFunc) → slice_get funcs n ≡ Some f → IsLawful f.instrs
lawful_at [] all n f e = absurd cc
lawful_at (x ∷ xs) all zero f e = subst (λ (y : LinearFunc). IsLawful y.instrs) (same_some _ f e) all.0
lawful_at (x ∷ xs) all (suc n) f e = lawful_at xs all.1 n f e

module _ (funcs : List LinearFunc) (lawful : AllLawful funcs) (f : ℕ) where
  func_shrinks : (o : Option LinearFunc) → slice_get funcs f ≡ o → (at : ℕ) (c : Bool) → GoesOn (here_in (instrs_if o) at) → length (instrs_if o) - next_in (instrs_if o) at c < length (instrs_if o) - at
  func_shrinks None e at c g = absurd g
  func_shrinks (Some x) e at c g = instr_shrinks x.instrs (lawful_at funcs lawful f x e) at c (slice_get x.instrs at) refl g

pub lawful_code_shrinks : LawfulCodeShrinks
lawful_code_shrinks funcs lawful p c g = func_shrinks funcs lawful p.function (slice_get funcs p.function) refl p.index c g

-- ---- what the type keeps

all_lawful : (xs : List CodeFunc) → AllLawful (map linear_func_view xs)
all_lawful [] = tt
all_lawful (x ∷ xs) = (x.is_lawful, all_lawful xs)

pub code_is_lawful : (x : Code) → AllLawful (code_view x).funcs
code_is_lawful x = all_lawful x.funcs.items
