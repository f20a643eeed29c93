-- A small code made by hand that comes to an operation on a value of a kind that it doesn't take. The machine, which has words alone, goes on
-- there; so its later events follow no run of the code.
use Rattle.std.specs.Prelude.{◌≡◌, pos, List, [], ◌∷◌, codes, Some}
use Rattle.ak_words.specs.declared.operation.Op.TheVariants.{Add}
use Rattle.ak_words.specs.IntType.{int}
use Rattle.block_store.specs.declared.values.Answer.TheVariants.{Plain}
use Rattle.block_store.specs.Runs as runs
use Rattle.block_store.specs.Runs.{Pick, no_run, run}
use Rattle.struct_ir.specs.Nodes.{constant, null, apply, Act, set, Ir}
use Rattle.struct_ir.specs.Structured.{Position}
use Rattle.struct_ir.specs.Threads.{Thread}
use Rattle.struct_ir.specs.meaning.Blocks.{Own}
use Rattle.struct_ir.specs.meaning.Start.{start}
use Rattle.struct_ir.specs.meaning.Threads.{program_of}
use Rattle.flat_meaning.specs.Allowed.{AreAllowed}
use Rattle.flat_meaning.specs.Events.{Event, after_all, first_state}
use Rattle.flat_meaning.specs.Image.{Image, structured_image}
use Rattle.flat_meaning.specs.Order.{order_of, pick}
use Rattle.flat_meaning.specs.Rows.{go, steps}
use Rattle.flat_meaning.specs.SmallCodes.{structured_main, small, print_int}
use Rattle.flat_simulation.specs.Kinds.{IsGuarded, TakesRightKinds, MeetsWrongKind}

-- t0 = 41; print t0; t1 = null; t2 = t0 + t1, as if that were a number; print t2
abbrev pub adding_a_pointer : List Act
adding_a_pointer = set 0 (constant int (pos 41)) ∷ print_int 0 ∷ set 1 null ∷ set 2 (apply Add int 0 1) ∷ print_int 2 ∷ []

-- main with these acts
abbrev pub by_hand : Ir
by_hand = structured_main adding_a_pointer (Some 0)

-- the machine that runs it
abbrev pub machine : Image Position
machine = structured_image by_hand (small 10)

-- the code before main's first turn
abbrev pub begins : runs.State (Thread Position Own)
begins = runs.first_state (program_of by_hand) (start by_hand)

-- both prints
abbrev pub prints_both : List Event
prints_both = go ∷ steps ∷ go ∷ steps ∷ []

-- their turns
abbrev pub both_turns : List Pick
both_turns = pick 0 Plain ∷ pick 0 Plain ∷ []

-- of this code all is asked that the laws ask. The machine prints both; of the two turns the first is right, and the second, behind one turn,
-- is an operation on a value of a kind that it doesn't take; so the order has no run
pub record KindRowsHold : Type 0 where
  pub guarded : IsGuarded by_hand
  pub may_come : AreAllowed machine prints_both (first_state machine)
  pub printed : (after_all machine prints_both (first_state machine)).memory.output ≡ codes "41\n41\n"
  pub order : order_of machine prints_both (first_state machine) ≡ both_turns
  pub first : TakesRightKinds by_hand begins 0
  pub second : MeetsWrongKind by_hand both_turns 0 begins 1
  pub none : run (program_of by_hand) (start by_hand) both_turns ≡ no_run 1
