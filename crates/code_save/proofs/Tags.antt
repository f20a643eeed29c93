-- The bytes that say what follows.
use Rattle.std.proofs.Common.{◌≡◌, ℕ, Bool, true, false, [], ◌∷◌, ◌⊎◌, inl, inr, refl, sym, ap, subst}
use Rattle.ak_words.specs.declared.int_type.IntType.{IntType}
use Rattle.ak_words.specs.declared.operation.Op.{Op}
use Rattle.ak_words.specs.declared.operation.Op.TheVariants as ops
use Rattle.ak_words.specs.IntType.{char, int, long, unsigned_int, unsigned_long}
use Rattle.ak_words.proofs.Types.{int_type_is}
use Rattle.block_store.specs.declared.values.Access.{Access}
use Rattle.block_store.specs.declared.values.Access.TheVariants as accesses
use Rattle.block_store.specs.declared.values.Change.{Change}
use Rattle.block_store.specs.declared.values.Change.TheVariants as changes
use Rattle.c_tree.specs.Typed as tree
use Rattle.c_tree.specs.Typed.{Piece, Init}
use Rattle.struct_ir.specs.Nodes as ir
use Rattle.struct_ir.specs.Nodes.{Calc, Action, Node}
use Rattle.code_file.specs.Numbers.{flag, flag_number, short, unsigned_char, unsigned_short, type_number, int_type, access_number, access}
use Rattle.code_file.specs.Calcs as calcs
use Rattle.code_file.specs.Calcs.{op_number, operation, CalcTag, calc_tag, calc_number, make_calc, calc_parts}
use Rattle.code_file.specs.Actions as actions
use Rattle.code_file.specs.Actions.{PieceTag, piece_tag, make_piece, piece_parts, change_number, change_way, ActionTag, action_tag, make_action, action_parts}
use Rattle.code_file.specs.Files as files
use Rattle.code_file.specs.Files.{NodeTag, node_tag, make_node, node_parts, InitTag, init_tag, make_init, init_parts}
use Rattle.code_save.specs.declared.output.Output.{Output}
use Rattle.code_save.specs.inner.Written.{Gains, Wrote}
use Rattle.code_save.proofs.Writing.{tag_wrote}
use Rattle.code_save.proofs.Spelled.{widths}

-- ---- numbers

pub flag_wrote : (b : Bool) (n : ℕ) {x y : Output} → n ≡ flag_number b → Gains x (n ∷ []) y → Wrote flag b true x y
unfolding flag
flag_wrote false n e g = tag_wrote flag false n (refl, refl) (ap (λ (k : ℕ). k ∷ []) (sym e)) g
flag_wrote true n e g = tag_wrote flag true n (refl, refl) (ap (λ (k : ℕ). k ∷ []) (sym e)) g

-- each type is one of eight
one_type : (t : IntType) (s : Bool) → t.signed ≡ s → (t.bits ≡ 8) ⊎ (t.bits ≡ 16) ⊎ (t.bits ≡ 32) ⊎ (t.bits ≡ 64) → int_type.Is t
unfolding int_type
one_type t true s (inl w) = subst int_type.Is (int_type_is char t (sym s) (sym w)) (refl, refl)
one_type t true s (inr (inl w)) = subst int_type.Is (int_type_is short t (sym s) (sym w)) (refl, refl)
one_type t true s (inr (inr (inl w))) = subst int_type.Is (int_type_is int t (sym s) (sym w)) (refl, refl)
one_type t true s (inr (inr (inr w))) = subst int_type.Is (int_type_is long t (sym s) (sym w)) (refl, refl)
one_type t false s (inl w) = subst int_type.Is (int_type_is unsigned_char t (sym s) (sym w)) (refl, refl)
one_type t false s (inr (inl w)) = subst int_type.Is (int_type_is unsigned_short t (sym s) (sym w)) (refl, refl)
one_type t false s (inr (inr (inl w))) = subst int_type.Is (int_type_is unsigned_int t (sym s) (sym w)) (refl, refl)
one_type t false s (inr (inr (inr w))) = subst int_type.Is (int_type_is unsigned_long t (sym s) (sym w)) (refl, refl)

pub type_wrote : (t : IntType) (n : ℕ) {x y : Output} → n ≡ type_number t → Gains x (n ∷ []) y → Wrote int_type t true x y
unfolding int_type
type_wrote t n e g = tag_wrote int_type t n (one_type t t.signed refl (widths t)) (ap (λ (k : ℕ). k ∷ []) (sym e)) g

one_access_type : (t : IntType) (s : Bool) → t.signed ≡ s → (t.bits ≡ 8) ⊎ (t.bits ≡ 16) ⊎ (t.bits ≡ 32) ⊎ (t.bits ≡ 64) → access.Is (accesses.Number t)
unfolding access
one_access_type t true s (inl w) = subst (λ u. access.Is (accesses.Number u)) (int_type_is char t (sym s) (sym w)) (refl, refl)
one_access_type t true s (inr (inl w)) = subst (λ u. access.Is (accesses.Number u)) (int_type_is short t (sym s) (sym w)) (refl, refl)
one_access_type t true s (inr (inr (inl w))) = subst (λ u. access.Is (accesses.Number u)) (int_type_is int t (sym s) (sym w)) (refl, refl)
one_access_type t true s (inr (inr (inr w))) = subst (λ u. access.Is (accesses.Number u)) (int_type_is long t (sym s) (sym w)) (refl, refl)
one_access_type t false s (inl w) = subst (λ u. access.Is (accesses.Number u)) (int_type_is unsigned_char t (sym s) (sym w)) (refl, refl)
one_access_type t false s (inr (inl w)) = subst (λ u. access.Is (accesses.Number u)) (int_type_is unsigned_short t (sym s) (sym w)) (refl, refl)
one_access_type t false s (inr (inr (inl w))) = subst (λ u. access.Is (accesses.Number u)) (int_type_is unsigned_int t (sym s) (sym w)) (refl, refl)
one_access_type t false s (inr (inr (inr w))) = subst (λ u. access.Is (accesses.Number u)) (int_type_is unsigned_long t (sym s) (sym w)) (refl, refl)

one_access : (how : Access) → access.Is how
unfolding access
one_access (accesses.Number t) = one_access_type t t.signed refl (widths t)
one_access accesses.Pointer = (refl, refl)

pub access_wrote : (how : Access) (n : ℕ) {x y : Output} → n ≡ access_number how → Gains x (n ∷ []) y → Wrote access how true x y
unfolding access
access_wrote how n e g = tag_wrote access how n (one_access how) (ap (λ (k : ℕ). k ∷ []) (sym e)) g

-- ---- operations and changes

one_operation : (op : Op) → operation.Is op
unfolding operation
one_operation ops.Add = (refl, refl)
one_operation ops.Sub = (refl, refl)
one_operation ops.Mul = (refl, refl)
one_operation ops.Div = (refl, refl)
one_operation ops.Rem = (refl, refl)
one_operation ops.Shl = (refl, refl)
one_operation ops.Shr = (refl, refl)
one_operation ops.And = (refl, refl)
one_operation ops.Or = (refl, refl)
one_operation ops.Xor = (refl, refl)
one_operation ops.Eq = (refl, refl)
one_operation ops.Ne = (refl, refl)
one_operation ops.Lt = (refl, refl)
one_operation ops.Le = (refl, refl)
one_operation ops.Gt = (refl, refl)
one_operation ops.Ge = (refl, refl)

pub operation_wrote : (op : Op) (n : ℕ) {x y : Output} → n ≡ op_number op → Gains x (n ∷ []) y → Wrote operation op true x y
unfolding operation
operation_wrote op n e g = tag_wrote operation op n (one_operation op) (ap (λ (k : ℕ). k ∷ []) (sym e)) g

one_change : (how : Change) → change_way.Is how
unfolding change_way
one_change changes.Add = (refl, refl)
one_change changes.Swap = (refl, refl)

pub change_wrote : (how : Change) (n : ℕ) {x y : Output} → n ≡ change_number how → Gains x (n ∷ []) y → Wrote change_way how true x y
unfolding change_way
change_wrote how n e g = tag_wrote change_way how n (one_change how) (ap (λ (k : ℕ). k ∷ []) (sym e)) g

-- ---- tags, and values again from their parts

pub one_calc_tag : (t : CalcTag) → calc_tag.Is t
one_calc_tag calcs.constant = (refl, refl)
one_calc_tag calcs.global = (refl, refl)
one_calc_tag calcs.literal = (refl, refl)
one_calc_tag calcs.object = (refl, refl)
one_calc_tag calcs.copy = (refl, refl)
one_calc_tag calcs.convert = (refl, refl)
one_calc_tag calcs.apply = (refl, refl)
one_calc_tag calcs.pointer_add = (refl, refl)
one_calc_tag calcs.pointer_diff = (refl, refl)
one_calc_tag calcs.pointer_compare = (refl, refl)
one_calc_tag calcs.pointer_test = (refl, refl)
one_calc_tag calcs.null = (refl, refl)
one_calc_tag calcs.unset = (refl, refl)
one_calc_tag calcs.pointer_sub = (refl, refl)

pub calc_again : (c : Calc) → make_calc (calc_parts c).0 (calc_parts c).1 ≡ c
calc_again (ir.constant t n) = refl
calc_again (ir.global n) = refl
calc_again (ir.literal n) = refl
calc_again (ir.object n) = refl
calc_again (ir.copy n) = refl
calc_again (ir.convert t n) = refl
calc_again (ir.apply op t a b) = refl
calc_again (ir.pointer_add p n scale) = refl
calc_again (ir.pointer_diff p q scale) = refl
calc_again (ir.pointer_compare op p q) = refl
calc_again (ir.pointer_test p) = refl
calc_again ir.null = refl
calc_again ir.unset = refl
calc_again (ir.pointer_sub p n scale) = refl

pub one_piece_tag : (t : PieceTag) → piece_tag.Is t
one_piece_tag actions.bytes = (refl, refl)
one_piece_tag actions.signed = (refl, refl)
one_piece_tag actions.unsigned = (refl, refl)
one_piece_tag actions.hexadecimal = (refl, refl)
one_piece_tag actions.character = (refl, refl)
one_piece_tag actions.text = (refl, refl)

pub piece_again : (p : Piece) → make_piece (piece_parts p).0 (piece_parts p).1 ≡ p
piece_again (tree.bytes all) = refl
piece_again (tree.signed n) = refl
piece_again (tree.unsigned n) = refl
piece_again (tree.hexadecimal n) = refl
piece_again tree.character = refl
piece_again tree.text = refl

pub one_action_tag : (t : ActionTag) → action_tag.Is t
one_action_tag actions.load = (refl, refl)
one_action_tag actions.store = (refl, refl)
one_action_tag actions.copy = (refl, refl)
one_action_tag actions.malloc = (refl, refl)
one_action_tag actions.free = (refl, refl)
one_action_tag actions.print = (refl, refl)
one_action_tag actions.lock = (refl, refl)
one_action_tag actions.unlock = (refl, refl)
one_action_tag actions.destroy = (refl, refl)
one_action_tag actions.start = (refl, refl)
one_action_tag actions.join = (refl, refl)
one_action_tag actions.calloc = (refl, refl)
one_action_tag actions.realloc = (refl, refl)
one_action_tag actions.change = (refl, refl)
one_action_tag actions.compare = (refl, refl)

pub action_again : (a : Action) → make_action (action_parts a).0 (action_parts a).1 ≡ a
action_again (ir.load how) = refl
action_again (ir.store how) = refl
action_again (ir.copy_bytes align same) = refl
action_again ir.malloc = refl
action_again ir.free = refl
action_again (ir.print pieces) = refl
action_again ir.lock = refl
action_again ir.unlock = refl
action_again ir.destroy = refl
action_again (ir.start function) = refl
action_again ir.join = refl
action_again ir.calloc = refl
action_again ir.realloc = refl
action_again (ir.change how t) = refl
action_again (ir.compare t) = refl

pub one_node_tag : (t : NodeTag) → node_tag.Is t
one_node_tag files.set = (refl, refl)
one_node_tag files.if_ = (refl, refl)
one_node_tag files.loop = (refl, refl)
one_node_tag files.break_ = (refl, refl)
one_node_tag files.next_ = (refl, refl)
one_node_tag files.call_node = (refl, refl)
one_node_tag files.ret = (refl, refl)
one_node_tag files.step_node = (refl, refl)
one_node_tag files.look = (refl, refl)
one_node_tag files.safepoint = (refl, refl)
one_node_tag files.begin_object = (refl, refl)
one_node_tag files.end_object = (refl, refl)

pub node_again : (n : Node) → make_node (node_parts n).0 (node_parts n).1.0 (node_parts n).1.1 ≡ n
node_again (ir.plain p (ir.set to c)) = refl
node_again (ir.if_ p temp one other) = refl
node_again (ir.loop p body latch) = refl
node_again (ir.break_ p) = refl
node_again (ir.next_ p) = refl
node_again (ir.plain p (ir.call c)) = refl
node_again (ir.ret p temp) = refl
node_again (ir.plain p (ir.step s)) = refl
node_again (ir.plain p (ir.look slot base)) = refl
node_again (ir.plain p (ir.safepoint slots)) = refl
node_again (ir.plain p (ir.begin_object n)) = refl
node_again (ir.plain p (ir.end_object n)) = refl

pub one_init_tag : (t : InitTag) → init_tag.Is t
one_init_tag files.zero_bytes = (refl, refl)
one_init_tag files.number = (refl, refl)
one_init_tag files.literal_at = (refl, refl)

pub init_again : (i : Init) → make_init (init_parts i).0 (init_parts i).1 ≡ i
init_again tree.zero_bytes = refl
init_again (tree.number t z) = refl
init_again (tree.literal_at n) = refl
