-- What a code file is loaded to.
use Rattle.std.specs.Prelude.{◌≡◌, ℕ, List, true}
use Rattle.struct_ir.specs.Nodes.{Ir}
use Rattle.struct_ir.specs.Instrs.{LinearCode}
use Rattle.struct_ir.specs.Lawful.{AllLawful}
use Rattle.struct_ir.specs.Linear.{linear, entry_of}
use Rattle.struct_ir.specs.Pins.{PinSafe}
use Rattle.struct_ir.specs.ValidCode.{is_valid_code}
use Rattle.struct_ir.specs.Emitted.{IsEmitted}
use Rattle.pin_checker.specs.Safe.{IsSafe}
use Rattle.code_load.specs.Loads.{IsLoaded}

-- checked is the code that the bytes spell, and code is the machine's. Nothing is said of a text that it may have been built of: it need be
-- neither hoisted nor have exact lists
pub record IsLoadedTo (bytes : List ℕ) (checked : Ir) (code : LinearCode) : Type 0 where
  -- the bytes are a code file, which meets each condition of one; each call has the list of the safepoint before it
  pub loaded : IsLoaded bytes checked
  -- it is safe for moves
  pub accepted : IsSafe checked
  -- the machine's code does the same act by act, test by test, round by round, call by call, and has the same registers, slots and objects
  pub emitted : IsEmitted checked code
  -- each number in it is in range, its control is lawful, and it is safe for moves
  pub valid : is_valid_code code ≡ true
  pub lawful : AllLawful code.funcs
  pub safe : (f : ℕ) → PinSafe (linear code.funcs) (entry_of f)
