-- What holds of the code that a program is lowered to.
use Rattle.std.specs.Prelude.{◌≡◌, ◌≤◌, ℕ, ◌+◌, ◌*◌, true, List, length, Some, slice_get}
use Rattle.std.specs.List.{list_all}
use Rattle.c_tree.specs.Typed as tree
use Rattle.c_tree.specs.TypedForm.{IsWellFormed}
use Rattle.struct_ir.specs.Nodes.{Func, Ir}
use Rattle.struct_ir.specs.Erased.{ir_erased}
use Rattle.struct_ir.specs.Valid.{is_valid}
use Rattle.struct_ir.specs.Whole.{takes_nothing, is_init_in, plain_bytes}
use Rattle.lower_forms.specs.Counts.{greatest_row, switches_in}
use Rattle.lower_forms.specs.Programs.{objects_of, frame_of, lowered}
use Rattle.lower_forms.specs.Sizes.{nodes_in, nested_in, row_size, row_depth, begun_in}

-- it is valid, and has no Look, safepoint, slot or list
pub record IsSound (p : Ir) : Type 0 where
  pub valid : is_valid p ≡ true
  pub bare : ir_erased p ≡ p

-- main is there and has no parameter, each literal that a global begins with is there, and globals and literals fit the plain area
pub record IsWhole (p : Ir) : Type 0 where
  pub main : takes_nothing (slice_get p.funcs p.main) ≡ true
  pub literals : list_all (λ g. is_init_in (length p.literals) g.init) p.globals ≡ true
  pub small : plain_bytes p.globals p.literals ≤ 1048576

-- the code g of a function f is no larger than this: its registers are at most its locals, the nodes of its greatest full
-- expression and two for each switch of it, its stack objects are just its locals in memory, in order, and its nodes are few and not deep
pub record IsBounded (structs : List tree.Layout) (f : tree.Func) (g : Func) : Type 0 where
  pub registers : g.temps ≤ length f.locals + greatest_row f.body + 2 * switches_in f.body
  pub objects : g.objects ≡ objects_of structs f.locals
  pub nodes : nodes_in g.nodes ≤ 16 * (row_size f.body + 1) * (begun_in (frame_of structs f) f.body + 1)
  pub nested : nested_in g.nodes ≤ 4 * (row_depth f.body + 1)

-- each function has its code, at its own number, and that is so bounded
abbrev pub AllBounded : (t : tree.Typed) → (p : Ir) → Type 0
AllBounded t p = (n : ℕ) (f : tree.Func) → slice_get t.funcs n ≡ Some f → (g : Func) × (slice_get p.funcs n ≡ Some g) × IsBounded t.structs f g

-- the code of each well formed program is so
abbrev pub LoweredCodeIsSound : Type 0
LoweredCodeIsSound = (t : tree.Typed) → IsWellFormed t → IsSound (lowered t)

-- the same
abbrev pub LoweredCodeIsWhole : Type 0
LoweredCodeIsWhole = (t : tree.Typed) → IsWellFormed t → IsWhole (lowered t)

-- the code of each program is bounded
abbrev pub LoweredCodeIsBounded : Type 0
LoweredCodeIsBounded = (t : tree.Typed) → AllBounded t (lowered t)
