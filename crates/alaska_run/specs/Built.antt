-- What a text of the subset is compiled to.
use Rattle.std.specs.Prelude.{◌≡◌, ℕ, List, true}
use Rattle.c_lex.specs.declared.token.Token.{Token}
use Rattle.c_tree.specs.Typed.{Typed}
use Rattle.c_tree.specs.TypedForm.{IsWellFormed}
use Rattle.alaska_run.specs.Reading.{IsRead}
use Rattle.struct_ir.specs.Nodes.{Ir}
use Rattle.struct_ir.specs.Erased.{ir_erased}
use Rattle.struct_ir.specs.Instrs.{LinearCode}
use Rattle.struct_ir.specs.Lawful.{AllLawful}
use Rattle.struct_ir.specs.Linear.{linear, entry_of}
use Rattle.struct_ir.specs.Pins.{PinSafe}
use Rattle.struct_ir.specs.Valid.{is_valid}
use Rattle.struct_ir.specs.ValidCode.{is_valid_code}
use Rattle.lower_forms.specs.Programs.{lowered}
use Rattle.lower_turns.specs.Turns.{KeepsEveryTurn}
use Rattle.struct_ir.specs.Emitted.{IsEmitted}
use Rattle.compile_passes.specs.Compiled.{IsPrepared}
use Rattle.flat_meaning.specs.Simulation.{IsChecked}

-- the text is in the subset, and the typed tree is its own
pub record IsTreeOf (text : List ℕ) (typed : Typed) : Type 0 where
  pub tokens : List Token
  pub read : IsRead text tokens typed
  pub well_formed : IsWellFormed typed

-- typed is the text's tree; checked is the code that this tree is lowered to, with its Looks, safepoints, slots and lists; code is the
-- machine's
pub record IsBuilt (text : List ℕ) (typed : Typed) (checked : Ir) (code : LinearCode) : Type 0 where
  pub tree : IsTreeOf text typed
  -- hoisted, with exact lists, at each point of it, safe for moves, and without all that just what the tree is lowered to
  pub prepared : IsPrepared (lowered typed) checked
  -- ... which is valid
  pub erased_valid : is_valid (ir_erased checked) ≡ true
  -- it keeps every turn of the tree, with its Looks, safepoints, slots and lists and without them: under every order of the threads' turns
  -- and every answer it shows the world in which it begins, how each turn goes, how many calls of its thread wait then, the world after it,
  -- and which rule of C a turn breaks, and where
  pub turns : KeepsEveryTurn typed checked
  pub erased_turns : KeepsEveryTurn typed (ir_erased checked)
  -- it has all that the machine asks of code: each turn takes some answer, main takes nothing, and its plain data is small
  pub sound : IsChecked checked
  -- the machine's code does the same act by act, test by test, round by round, call by call, and has the same registers, slots and objects
  pub emitted : IsEmitted checked code
  -- each number in it is in range, its control is lawful, and it is safe for moves
  pub valid : is_valid_code code ≡ true
  pub lawful : AllLawful code.funcs
  pub safe : (f : ℕ) → PinSafe (linear code.funcs) (entry_of f)
