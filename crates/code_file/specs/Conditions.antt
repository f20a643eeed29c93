-- Which files of the grammar hold code that may be checked and run: the conditions beyond the productions. They are judged of the code with
-- each call's list filled in.
use Rattle.std.specs.Prelude.{◌≡◌, ℕ, Bool, true, false, ◌&&◌, ◌||◌, ◌==◌, nat_le, List, length, slice_get}
use Rattle.std.specs.List.{list_all}
use Rattle.struct_ir.specs.Nodes.{Action, copy_bytes, Act, step, Node, plain, if_, loop, break_, next_, ret, Nodes, no_nodes, more_nodes, Func, Ir}
use Rattle.struct_ir.specs.Valid.{is_valid}
use Rattle.struct_ir.specs.Whole.{takes_nothing, is_init_in, plain_bytes}
use Rattle.formats.specs.Laws.{Spells}
use Rattle.code_file.specs.Files.{file}
use Rattle.code_file.specs.Calls.{ir_filled}

-- ---- alignments are 1, 2, 4 or 8

-- one of the four
abbrev pub is_alignment : ℕ → Bool
is_alignment n = (n == 1) || ((n == 2) || ((n == 4) || (n == 8)))

-- that of a copy
abbrev pub action_is_aligned : Action → Bool
action_is_aligned (copy_bytes align same) = is_alignment align
action_is_aligned action = true

-- so in an act
abbrev pub act_is_aligned : Act → Bool
act_is_aligned (step s) = action_is_aligned s.action
act_is_aligned a = true

abbrev mutual
  -- in a node
  pub node_is_aligned : Node → Bool
  node_is_aligned (plain place a) = act_is_aligned a
  node_is_aligned (if_ place temp one other) = are_aligned one && are_aligned other
  node_is_aligned (loop place body latch) = are_aligned body && are_aligned latch
  node_is_aligned (break_ place) = true
  node_is_aligned (next_ place) = true
  node_is_aligned (ret place temp) = true

  -- and in a row of nodes
  pub are_aligned : Nodes → Bool
  are_aligned no_nodes = true
  are_aligned (more_nodes n rest) = node_is_aligned n && are_aligned rest

-- those of a function's objects and copies
abbrev pub func_is_aligned : Func → Bool
func_is_aligned f = list_all (λ o. is_alignment o.align) f.objects && are_aligned f.nodes

-- those of a program
abbrev pub ir_is_aligned : Ir → Bool
ir_is_aligned p = list_all (λ g. is_alignment g.align) p.globals && list_all func_is_aligned p.funcs

-- ---- all conditions

-- the most bytes of a file
abbrev pub most_file_bytes : ℕ
most_file_bytes = 67108864

-- a function has no more parameters than registers
abbrev pub has_parameters : Func → Bool
has_parameters f = nat_le f.params f.temps

-- the code is valid, and main, which is there, takes nothing; each function has room for its parameters, and what globals begin with is
-- there; globals and literals fit the plain area, and alignments are such
abbrev pub is_lawful : Ir → Bool
is_lawful p = (is_valid p && takes_nothing (slice_get p.funcs p.main))
    && ((list_all has_parameters p.funcs && list_all (λ g. is_init_in (length p.literals) g.init) p.globals)
    && (nat_le (plain_bytes p.globals p.literals) 1048576 && ir_is_aligned p))

-- what the productions say of a file of so many bytes meets the conditions, among them that of its length
abbrev pub meets : (bytes : ℕ) → Ir → Bool
meets bytes p = is_lawful (ir_filled p) && nat_le bytes most_file_bytes

-- the bytes are a code file, and spell this code, whose calls have no lists yet
pub record IsFile (bytes : List ℕ) (p : Ir) : Type 0 where
  pub spells : Spells (file 1024) p bytes
  pub lawful : meets (length bytes) p ≡ true
