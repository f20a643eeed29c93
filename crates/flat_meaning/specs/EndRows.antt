-- Small codes whose run ends before main returns, worked out by hand: by an address without a byte, by a free of what isn't live, or by
-- a limit.
use Rattle.std.specs.Prelude.{◌≡◌, ℕ, List, [], ◌∷◌, codes, true, false, Bool, None}
use Rattle.ak_words.specs.declared.rule.Rule.TheVariants.{C5, C10}
use Rattle.block_store.specs.declared.values.Answer.TheVariants.{Plain, Got}
use Rattle.c_tree.specs.Typed.{bytes, text}
use Rattle.struct_ir.specs.Nodes.{StackObject, Ir}
use Rattle.struct_ir.specs.Instrs.{LinearCode}
use Rattle.struct_ir.specs.meaning.Rows.{broke}
use Rattle.ak_trace.specs.declared.endings.End.TheVariants as ends
use Rattle.ak_trace.specs.declared.endings.TrapKind.TheVariants as kinds
use Rattle.flat_meaning.specs.Image.{structured_image, linear_image}
use Rattle.flat_meaning.specs.Stages.{starts, can_advance}
use Rattle.flat_meaning.specs.Events.{Event}
use Rattle.flat_meaning.specs.SmallCodes.{row, instrs, small, counting_up, through_null, freed_twice, read_when_freed, read_past_the_end, unended_text, null_text}
use Rattle.flat_meaning.specs.Rows.{go, looks, steps, gets, print_events, seen, structured_seen, linear_seen, turns, source_seen, cut}

-- ---- addresses

-- an access behind a malloc at this place of the sub-heap; it ends at address 4224
abbrev pub at_place : ℕ → List Event
at_place place = go ∷ gets 0 place ∷ go ∷ looks ∷ steps ∷ []

-- an access ends in a trap of the first address without a byte; over blocks the same turn breaks a rule
pub record TrapRowsHold : Type 0 where
  -- null
  pub null_store : structured_seen 10 through_null (go ∷ looks ∷ steps ∷ []) ≡ cut (ends.Trap 0 kinds.Store) [] 0
  pub null_store_in_a_line : linear_seen 10 through_null (go ∷ looks ∷ steps ∷ []) ≡ cut (ends.Trap 0 kinds.Store) [] 0
  pub source_null_store : source_seen through_null (turns (Plain ∷ [])) ≡ broke C5 0
  -- four bytes behind the last one, of an access that begins before it
  pub past_the_end : structured_seen 10 read_past_the_end (at_place 48) ≡ cut (ends.Trap 4224 kinds.Load) (Got ∷ []) 1
  pub past_the_end_in_a_line : linear_seen 10 read_past_the_end (at_place 48) ≡ cut (ends.Trap 4224 kinds.Load) (Got ∷ []) 1
  pub source_past_the_end : source_seen read_past_the_end (turns (Got ∷ Plain ∷ [])) ≡ broke C5 1
  -- a handle whose id is free leads to address 0
  pub when_freed : structured_seen 10 read_when_freed (go ∷ gets 0 0 ∷ steps ∷ looks ∷ steps ∷ []) ≡ cut (ends.Trap 0 kinds.Load) (Got ∷ Plain ∷ []) 2
  pub when_freed_in_a_line : linear_seen 10 read_when_freed (go ∷ gets 0 0 ∷ steps ∷ looks ∷ steps ∷ []) ≡ cut (ends.Trap 0 kinds.Load) (Got ∷ Plain ∷ []) 2
  pub source_when_freed : source_seen read_when_freed (turns (Got ∷ Plain ∷ Plain ∷ [])) ≡ broke C5 2
  -- a second free is a trap of the word
  pub second_free : structured_seen 10 freed_twice (go ∷ gets 0 0 ∷ steps ∷ steps ∷ []) ≡ cut (ends.Trap 9223372036854775808 kinds.Free) (Got ∷ Plain ∷ []) 2
  pub second_free_in_a_line : linear_seen 10 freed_twice (go ∷ gets 0 0 ∷ steps ∷ steps ∷ []) ≡ cut (ends.Trap 9223372036854775808 kinds.Free) (Got ∷ Plain ∷ []) 2
  pub source_second_free : source_seen freed_twice (turns (Got ∷ Plain ∷ Plain ∷ [])) ≡ broke C10 2

-- ---- the output's limit

-- a print ends by whichever it meets first, byte by byte, and prints nothing then
pub record PrintRowsHold : Type 0 where
  -- three bytes where two may come
  pub too_long : structured_seen 2 counting_up (print_events (gets 3 16 ∷ []) []) ≡ cut ends.OutputLimit (Got ∷ Plain ∷ Plain ∷ Plain ∷ Plain ∷ []) 5
  pub too_long_in_a_line : linear_seen 2 counting_up (print_events (gets 3 16 ∷ []) []) ≡ cut ends.OutputLimit (Got ∷ Plain ∷ Plain ∷ Plain ∷ Plain ∷ []) 5
  -- two letters, and then an address without a byte: with room for both, and with room for one
  pub bad_byte_first : structured_seen 2 unended_text (go ∷ gets 0 48 ∷ go ∷ looks ∷ steps ∷ steps ∷ []) ≡ cut (ends.Trap 4224 kinds.Print) (Got ∷ Plain ∷ []) 2
  pub bad_byte_first_in_a_line : linear_seen 2 unended_text (go ∷ gets 0 48 ∷ go ∷ looks ∷ steps ∷ steps ∷ []) ≡ cut (ends.Trap 4224 kinds.Print) (Got ∷ Plain ∷ []) 2
  pub limit_first : structured_seen 1 unended_text (go ∷ gets 0 48 ∷ go ∷ looks ∷ steps ∷ steps ∷ []) ≡ cut ends.OutputLimit (Got ∷ Plain ∷ []) 2
  pub limit_first_in_a_line : linear_seen 1 unended_text (go ∷ gets 0 48 ∷ go ∷ looks ∷ steps ∷ steps ∷ []) ≡ cut ends.OutputLimit (Got ∷ Plain ∷ []) 2
  pub source_unended : source_seen unended_text (turns (Got ∷ Plain ∷ Plain ∷ [])) ≡ broke C5 2
  -- the pieces go in order: three bytes and a text at null, with room for two bytes and for three; and the text first
  pub limit_before_null : structured_seen 2 (null_text (bytes (codes "xyz") ∷ text ∷ [])) (go ∷ looks ∷ steps ∷ []) ≡ cut ends.OutputLimit [] 0
  pub null_after_bytes : structured_seen 3 (null_text (bytes (codes "xyz") ∷ text ∷ [])) (go ∷ looks ∷ steps ∷ []) ≡ cut (ends.Trap 0 kinds.Print) [] 0
  pub null_before_limit : structured_seen 2 (null_text (text ∷ bytes (codes "xyz") ∷ [])) (go ∷ looks ∷ steps ∷ []) ≡ cut (ends.Trap 0 kinds.Print) [] 0

-- ---- the stack's limits

-- main has so many registers and pin slots, and these stack objects, and returns without a value
abbrev pub wide_main : (temps slots : ℕ) → List StackObject → Ir
wide_main temps slots objects = record { globals = []; literals = []; funcs = record { params = 0; temps = temps; slots = slots; objects = objects; nodes = row [] None } ∷ []; main = 0 }

-- the same as instructions
abbrev pub wide_line : (temps slots : ℕ) → List StackObject → LinearCode
wide_line temps slots objects = record { globals = []; literals = []; funcs = record { params = 0; temps = temps; slots = slots; objects = objects; instrs = instrs [] None } ∷ []; main = 0 }

-- an object of so many bytes
abbrev pub object_of : (size : ℕ) → List StackObject
object_of size = record { size = size; align = 8 } ∷ []

-- there is room for main
abbrev pub begins : (temps slots size : ℕ) → Bool
begins temps slots size = can_advance (structured_image (wide_main temps slots (object_of size)) (small 0)) (starts 0 0)

-- a machine of 16 registers, 4 pin slots and 32 bytes of stack, of which an object takes a byte more than it has, up to a multiple of 16
pub record StackRowsHold : Type 0 where
  pub fits : begins 16 4 16 ≡ true
  pub registers : begins 17 4 16 ≡ false
  pub slots : begins 16 5 16 ≡ false
  pub stack : begins 16 4 32 ≡ false
  -- then the run ends, and the turn that would enter main was tried
  pub too_wide : seen (structured_image (wide_main 17 0 []) (small 0)) (steps ∷ []) ≡ cut (ends.StackLimit 0) [] 0
  pub too_wide_in_a_line : seen (linear_image (wide_line 17 0 []) (small 0)) (steps ∷ []) ≡ cut (ends.StackLimit 0) [] 0
