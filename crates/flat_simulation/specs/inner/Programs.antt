-- A program as it is loaded, of which is kept what is asked of checked code.
use Rattle.std.specs.Prelude.{◌≡◌, ℕ, ◌+◌, ◌≤◌, ◌^◌, List, All, length, map, slice_get, true, Some}
use Rattle.struct_ir.specs.Nodes.{Func, Ir}
use Rattle.struct_ir.specs.Flow.{Path, Shrinks}
use Rattle.struct_ir.specs.Pins.{PinSafe}
use Rattle.struct_ir.specs.Valid.{scope_of}
use Rattle.struct_ir.specs.ValidCode.{is_here}
use Rattle.flat_meaning.specs.Image.{Layout, Image, func_frame, objects_bytes, plain_size}
use Rattle.flat_meaning.specs.Words.{Words}

-- the layout is that of the program; turns end; and on every path of a function what stands there is in range, and each access goes
-- through its base's slot
pub record IsImage {P : Type 0} (x : Image P) (p : Ir) : Type 0 where
  pub frames : x.layout.frames ≡ map func_frame p.funcs
  pub globals : x.layout.globals ≡ p.globals
  pub literals : x.layout.literals ≡ p.literals
  pub shrinks : Shrinks x.flow
  pub valid : (function : ℕ) (f : Func) (way : List P) (k : P) → slice_get p.funcs function ≡ Some f → Path x.flow (x.start function) way k → is_here (scope_of p f) (x.flow.here k) ≡ true
  pub safe : (function : ℕ) → PinSafe x.flow (x.start function)
  pub params : All (λ (f : Func). f.params ≤ f.temps) p.funcs
  pub small : plain_size x.layout ≤ 2 ^ 31

-- a call of a function that there is: it has that one's registers and slots, and its stack objects have room in a thread's stack
pub record HasFrame (y : Layout) (p : Ir) (q : Words) : Type 0 where
  pub func : Func
  pub there : slice_get p.funcs q.function ≡ Some func
  pub temps : length q.temps ≡ func.temps
  pub slots : length q.slots ≡ func.slots
  pub room : q.below.stack + objects_bytes func.objects ≤ y.limits.stack
