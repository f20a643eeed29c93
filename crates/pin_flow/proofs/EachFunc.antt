-- A test that each function of a list passes.
use Rattle.std.proofs.Common.{◌≡◌, List, [], ◌∷◌, Bool, true, refl}
use Rattle.std.proofs.lemmas.Bool.{and_from, and_parts}
use Rattle.std.specs.List.{AllByRecursion, list_all}
use Rattle.struct_ir.specs.Nodes.{Func}

pub all_true : (test : Func → Bool) (fs : List Func) → AllByRecursion (λ f. test f ≡ true) fs → list_all test fs ≡ true
all_true test [] h = refl
all_true test (f ∷ fs) h = and_from _ _ h.0 (all_true test fs h.1)

pub true_all : (test : Func → Bool) (fs : List Func) → list_all test fs ≡ true → AllByRecursion (λ f. test f ≡ true) fs
true_all test [] e = tt
true_all test (f ∷ fs) e = let p = and_parts (test f) (list_all test fs) e in (p.0, true_all test fs p.1)
