-- Nodes in a row, and what the code gathers of them.
use Rattle.std.specs.Prelude.{◌≡◌, List, [], ◌∷◌, ◌++◌, Result, Ok, Err, Vec}
use Rattle.std.specs.declared.alloc.Global.{Global}
use Rattle.c_lex.specs.declared.refusal.CompileFault.{CompileFault}
use Rattle.c_lex.specs.declared.refusal.CompileFault.TheVariants.{Refused, NoMemory}
use Rattle.c_typing.specs.Faults.{typed}
use Rattle.c_typing.specs.Judgement.{Judging, in_turn, ruled}

-- nodes one behind the other, each judged by what stood before it in the row
abbrev pub row : {S X A B : Type 0} → (node : S → X → Judging A) → (next : S → X → S) → (put : A → List B → List B) → S → List X → Judging (List B)
row node next put s [] c = (typed [], c)
row node next put s (x ∷ xs) c = ruled (in_turn (node s x) (row node next put (next s x) xs)) (λ d p. typed (put p.0 p.1)) c

-- what stood before the node behind these
abbrev pub state_behind : {S X : Type 0} → (next : S → X → S) → S → List X → S
state_behind next s [] = s
state_behind next s (x ∷ xs) = state_behind next (next s x) xs

-- one more behind others, where both are typed, unless memory runs out
abbrev pub IsPushed : {A : Type 0} → Result (Vec A Global × A) CompileFault → Result (Vec A Global) CompileFault → Type 0
IsPushed q (Err NoMemory) = Unit {0}
IsPushed (Ok p) (Ok ys) = ys.items ≡ p.0.items ++ p.1 ∷ []
IsPushed (Ok p) (Err (Refused s)) = ⊥
IsPushed (Err e) (Ok ys) = ⊥
IsPushed (Err e) (Err (Refused s)) = e ≡ Refused s

-- others behind others
abbrev pub IsAppended : {A : Type 0} → Result (Vec A Global × Vec A Global) CompileFault → Result (Vec A Global) CompileFault → Type 0
IsAppended q (Err NoMemory) = Unit {0}
IsAppended (Ok p) (Ok ys) = ys.items ≡ p.0.items ++ p.1.items
IsAppended (Ok p) (Err (Refused s)) = ⊥
IsAppended (Err e) (Ok ys) = ⊥
IsAppended (Err e) (Err (Refused s)) = e ≡ Refused s
