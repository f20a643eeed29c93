-- Linear code that means what structured code means.
use Rattle.std.specs.Prelude.{◌≡◌, ℕ, ◌+◌, ◌*◌, ◌≤◌, List, [], ◌∷◌, length, sum_by}
use Rattle.struct_ir.specs.Nodes.{Node, plain, if_, loop, break_, next_, ret, Nodes, no_nodes, more_nodes, Func, Ir}
use Rattle.struct_ir.specs.Structured.{structured, start_of}
use Rattle.struct_ir.specs.Machine.{Machine}
use Rattle.struct_ir.specs.Mirrors.{MirrorsRuns}
use Rattle.struct_ir.specs.Threads.{Environment}
use Rattle.struct_ir.specs.Pins.{PinSafe}
use Rattle.struct_ir.specs.Instrs.{LinearFunc, LinearCode, instr_count}
use Rattle.struct_ir.specs.Linear.{linear, entry_of}
use Rattle.struct_ir.specs.Lawful.{AllLawful}
use Rattle.struct_ir.specs.Marks.{LifetimeMarksAreIdle, Follows}
use Rattle.struct_ir.specs.Alike.{SameEvents}
use Rattle.struct_ir.specs.Safe.{EveryFunc, IsPinSafe}
use Rattle.struct_ir.specs.Looks.{look_count, looks_of_nodes}
use Rattle.struct_ir.specs.Stands.{StandsIn}

-- how many nodes there are, with those inside others
abbrev mutual
  pub node_count : Node → ℕ
  node_count (plain place a) = 1
  node_count (if_ place temp one other) = row_count one + row_count other + 1
  node_count (loop place body latch) = row_count body + row_count latch + 1
  node_count (break_ place) = 1
  node_count (next_ place) = 1
  node_count (ret place temp) = 1

  pub row_count : Nodes → ℕ
  row_count no_nodes = 0
  row_count (more_nodes n rest) = node_count n + row_count rest

-- in all functions
abbrev pub nodes_count : List Func → ℕ
nodes_count funcs = sum_by (λ f. row_count f.nodes) funcs

-- the parameters, registers, slots and objects of one function and of the other
abbrev pub SameFrames : List Func → List LinearFunc → Type 0
SameFrames [] [] = Unit {0}
SameFrames [] (g ∷ gs) = ⊥
SameFrames (f ∷ fs) [] = ⊥
SameFrames (f ∷ fs) (g ∷ gs) = ((g.params ≡ f.params) × (g.temps ≡ f.temps) × (g.slots ≡ f.slots) × (g.objects ≡ f.objects)) × SameFrames fs gs

-- the code is the program's
pub record IsEmitted (p : Ir) (code : LinearCode) : Type 0 where
  -- its globals, its literals and its main
  pub globals : code.globals ≡ p.globals
  pub literals : code.literals ≡ p.literals
  pub main : code.main ≡ p.main
  -- its functions, each with its parameters, registers, slots and objects
  pub frames : SameFrames p.funcs code.funcs
  -- from positions that correspond the same is done in the same order, but for the beginnings and ends of stack objects, which have no
  -- instruction
  pub follows : Follows structured (linear code.funcs) (StandsIn code.funcs)
  pub starts : (f : ℕ) → StandsIn code.funcs (start_of p.funcs f) (entry_of f)
  -- a program that is safe for moves stays so
  pub safe : EveryFunc IsPinSafe p → (f : ℕ) → PinSafe (linear code.funcs) (entry_of f)
  -- two instructions a node at most, and one a function
  pub short : instr_count code.funcs ≤ 2 * nodes_count p.funcs + length p.funcs
  -- as many Looks and steps
  pub looks : look_count code.funcs ≡ looks_of_nodes p.funcs

-- on every machine for which the beginning and the end of a stack object are nothing, runs from positions that correspond end at such
-- positions, before the same, with the same, or in the same fault
abbrev pub LinearCodeKeepsRuns : (L F : Type 0) → Type 0
LinearCodeKeepsRuns L F =
    (p : Ir) (code : LinearCode) → IsEmitted p code → AllLawful code.funcs → (M : Machine L F) → LifetimeMarksAreIdle M → MirrorsRuns structured (linear code.funcs) M (StandsIn code.funcs)

-- and a thread does the same in both codes, with its calls
abbrev pub LinearCodeKeepsEvents : (L F S A : Type 0) → Type 0
LinearCodeKeepsEvents L F S A =
    (p : Ir) (code : LinearCode) → IsEmitted p code → AllLawful code.funcs → (M : Machine L F) (W : Environment L F S A) → LifetimeMarksAreIdle M
    → SameEvents structured (linear code.funcs) M W (StandsIn code.funcs) (start_of p.funcs) entry_of
