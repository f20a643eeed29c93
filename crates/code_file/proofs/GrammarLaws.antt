-- The grammar keeps the laws of formats, production by production.
use Rattle.std.proofs.Common.{◌≡◌, ℕ, zero, suc, ◌-◌, ◌/◌, ◌^◌, ◌<◌, ◌≤◌, Bool, true, false, cond, eqb, List, [], ◌∷◌, Option, Some, None, ℤ, pos, refl, sym, ap, subst, ◌∙◌, ◌⊎◌, inl, inr, arith}
use Rattle.std.proofs.lemmas.Bool.{eqb-true}
use Rattle.std.proofs.lemmas.Bool.Decides.{nat_tests}
use Rattle.ak_words.specs.declared.int_type.IntType.{IntType}
use Rattle.ak_words.specs.declared.operation.Op.TheVariants as ops
use Rattle.ak_words.specs.IntType.{char}
use Rattle.ak_words.specs.Wrapped.{bit_pattern, wrapped_value}
use Rattle.ak_words.proofs.Wraps.{bits-wrapped_value}
use Rattle.block_store.specs.declared.values.Access.TheVariants as accesses
use Rattle.block_store.specs.declared.values.Change.TheVariants as changes
use Rattle.c_tree.specs.Typed.{Piece, Init}
use Rattle.struct_ir.specs.Nodes.{Calc, Action, Place, Step, Call, Node, Nodes, no_nodes, StackObject, Global, Func, Ir}
use Rattle.formats.specs.Formats.{Format, one_byte, nothing, behind, seen, ◌▸◌, byte, number, u32, u64, exactly, list}
use Rattle.formats.specs.Laws.{Lawful}
use Rattle.formats.proofs.Ways.{one_byte_lawful, nothing_lawful, behind_lawful, seen_lawful}
use Rattle.formats.proofs.Made.{byte_lawful, both_lawful, number_lawful, number_below, u32_lawful, u64_lawful, exactly_lawful, list_lawful, one_of_lawful}
use Rattle.code_file.specs.Numbers as numbers
use Rattle.code_file.specs.Numbers.{option_at, number_of, u32_or_none, flag, flag_number, int_type, type_number, other_types, access, access_number, other_accesses, value, zeros, piece_bits}
use Rattle.code_file.specs.Calcs as calcs
use Rattle.code_file.specs.Calcs.{operation, op_number, other_ops, CalcTag, calc_number, other_calcs, calc_tag, CalcFields, calc_fields, make_calc, calc_parts, calc}
use Rattle.code_file.specs.Actions as actions
use Rattle.code_file.specs.Actions.{make_place, place_parts, place, PieceTag, piece_number, other_pieces, piece_tag, PieceFields, piece_fields, make_piece, piece_parts, piece, change_number, change_way, ActionTag, action_number, other_actions, action_tag, ActionFields, action_fields, make_action, action_parts, action, make_step, step_parts, step}
use Rattle.code_file.specs.Files as files
use Rattle.code_file.specs.Files.{make_call, call_parts, call, NodeTag, node_number, other_nodes, node_tag, NodeFields, node_fields, make_node, node_parts, node, list_of, nodes_of, nodes, object, make_func, func_parts, func, InitTag, init_number, init_tag, InitFields, init_fields, make_init, init_parts, init, global, make_file, file_parts, begins_file, file}

-- ---- numbers

option_again : (n : ℕ) (b : Bool) → eqb n 4294967295 ≡ b → number_of (cond b None (Some n)) ≡ n
option_again n true e = sym (eqb-true n 4294967295 e)
option_again n false e = refl

pub option_lawful : Lawful u32_or_none
unfolding u32_or_none
option_lawful = seen_lawful option_at number_of u32 u32_lawful (λ n is. option_again n (eqb n 4294967295) refl)

pub flag_lawful : Lawful flag
unfolding flag
flag_lawful = one_of_lawful false (true ∷ []) flag_number (refl, refl)

pub type_lawful : Lawful int_type
unfolding int_type
type_lawful = one_of_lawful char other_types type_number (refl, (refl, (refl, (refl, (refl, (refl, (refl, refl)))))))

pub access_lawful : Lawful access
unfolding access
access_lawful = one_of_lawful (accesses.Number char) other_accesses access_number (refl, (refl, (refl, (refl, (refl, (refl, (refl, (refl, refl))))))))

widths : (t : IntType) → (t.bits ≡ 8) ⊎ (t.bits ≡ 16) ⊎ (t.bits ≡ 32) ⊎ (t.bits ≡ 64)
widths t = let h = t.known_width in grind (arith, nat_tests)

-- so many bytes of a width hold the numbers below 2 to its power
below_bits : (bits n : ℕ) → (bits ≡ 8) ⊎ (bits ≡ 16) ⊎ (bits ≡ 32) ⊎ (bits ≡ 64) → n < 256 ^ (bits / 8) → n < 2 ^ bits
below_bits bits n (inl e) h = subst (λ b. n < 256 ^ (b / 8) → n < 2 ^ b) (sym e) (λ k. omega (arith, k)) h
below_bits bits n (inr (inl e)) h = subst (λ b. n < 256 ^ (b / 8) → n < 2 ^ b) (sym e) (λ k. omega (arith, k)) h
below_bits bits n (inr (inr (inl e))) h = subst (λ b. n < 256 ^ (b / 8) → n < 2 ^ b) (sym e) (λ k. omega (arith, k)) h
below_bits bits n (inr (inr (inr e))) h = subst (λ b. n < 256 ^ (b / 8) → n < 2 ^ b) (sym e) (λ k. omega (arith, k)) h

pub value_lawful : (t : IntType) → Lawful (value t)
unfolding value
value_lawful t =
    seen_lawful (λ (x : ℕ × Unit {0}). wrapped_value t (pos x.0)) (λ z. (bit_pattern t z, tt)) (number (t.bits / 8) ▸ exactly (zeros (8 - t.bits / 8)))
    (both_lawful (number (t.bits / 8)) (exactly (zeros (8 - t.bits / 8))) (number_lawful (t.bits / 8)) (exactly_lawful (zeros (8 - t.bits / 8))))
    (λ a is. let e = bits-wrapped_value t a.0 (below_bits t.bits a.0 (widths t) (number_below (t.bits / 8) a.0 is.0)) in λ i. (e i, a.1))

pub bits_lawful : Lawful piece_bits
unfolding piece_bits
bits_lawful = one_byte_lawful _ 32 refl

-- ---- calcs

pub operation_lawful : Lawful operation
unfolding operation
operation_lawful = one_of_lawful ops.Add other_ops op_number (refl, (refl, (refl, (refl, (refl, (refl, (refl, (refl, (refl, (refl, (refl, (refl, (refl, (refl, (refl, refl)))))))))))))))

calc_tag_lawful : Lawful calc_tag
calc_tag_lawful = one_of_lawful calcs.constant other_calcs calc_number (refl, (refl, (refl, (refl, (refl, (refl, (refl, (refl, (refl, (refl, (refl, (refl, (refl, refl)))))))))))))

-- two registers and a number, in order
three_lawful : Lawful (u32 ▸ u32 ▸ u32)
three_lawful = both_lawful u32 (u32 ▸ u32) u32_lawful (both_lawful u32 u32 u32_lawful u32_lawful)

calc_fields_lawful : (t : CalcTag) → Lawful (calc_fields t)
calc_fields_lawful calcs.constant = behind_lawful int_type value type_lawful (λ t is. value_lawful t)
calc_fields_lawful calcs.global = u32_lawful
calc_fields_lawful calcs.literal = u32_lawful
calc_fields_lawful calcs.object = u32_lawful
calc_fields_lawful calcs.copy = u32_lawful
calc_fields_lawful calcs.convert = both_lawful int_type u32 type_lawful u32_lawful
calc_fields_lawful calcs.apply = both_lawful operation (int_type ▸ u32 ▸ u32) operation_lawful (both_lawful int_type (u32 ▸ u32) type_lawful (both_lawful u32 u32 u32_lawful u32_lawful))
calc_fields_lawful calcs.pointer_add = three_lawful
calc_fields_lawful calcs.pointer_diff = three_lawful
calc_fields_lawful calcs.pointer_compare = both_lawful operation (u32 ▸ u32) operation_lawful (both_lawful u32 u32 u32_lawful u32_lawful)
calc_fields_lawful calcs.pointer_test = u32_lawful
calc_fields_lawful calcs.null = nothing_lawful
calc_fields_lawful calcs.unset = nothing_lawful
calc_fields_lawful calcs.pointer_sub = three_lawful

calc_again : (t : CalcTag) (x : CalcFields t) → calc_parts (make_calc t x) ≡ (t, x)
calc_again calcs.constant x = refl
calc_again calcs.global x = refl
calc_again calcs.literal x = refl
calc_again calcs.object x = refl
calc_again calcs.copy x = refl
calc_again calcs.convert x = refl
calc_again calcs.apply x = refl
calc_again calcs.pointer_add x = refl
calc_again calcs.pointer_diff x = refl
calc_again calcs.pointer_compare x = refl
calc_again calcs.pointer_test x = refl
calc_again calcs.null x = refl
calc_again calcs.unset x = refl
calc_again calcs.pointer_sub x = refl

pub calc_lawful : Lawful calc
unfolding calc
calc_lawful =
    seen_lawful (λ (x : (t : CalcTag) × CalcFields t). make_calc x.0 x.1) calc_parts (behind calc_tag calc_fields)
    (behind_lawful calc_tag calc_fields calc_tag_lawful (λ t is. calc_fields_lawful t)) (λ a is. calc_again a.0 a.1)

-- ---- places, pieces and actions

pub place_lawful : Lawful place
unfolding place
place_lawful =
    seen_lawful make_place place_parts (u32 ▸ u32_or_none ▸ u32 ▸ u64 ▸ u32)
    (both_lawful u32 (u32_or_none ▸ u32 ▸ u64 ▸ u32) u32_lawful (both_lawful u32_or_none (u32 ▸ u64 ▸ u32) option_lawful (both_lawful u32 (u64 ▸ u32) u32_lawful (both_lawful u64 u32 u64_lawful u32_lawful))))
    (λ a is. refl)

piece_fields_lawful : (t : PieceTag) → Lawful (piece_fields t)
piece_fields_lawful actions.bytes = list_lawful byte byte_lawful
piece_fields_lawful actions.signed = bits_lawful
piece_fields_lawful actions.unsigned = bits_lawful
piece_fields_lawful actions.hexadecimal = bits_lawful
piece_fields_lawful actions.character = nothing_lawful
piece_fields_lawful actions.text = nothing_lawful

piece_again : (t : PieceTag) (x : PieceFields t) → piece_parts (make_piece t x) ≡ (t, x)
piece_again actions.bytes x = refl
piece_again actions.signed x = refl
piece_again actions.unsigned x = refl
piece_again actions.hexadecimal x = refl
piece_again actions.character x = refl
piece_again actions.text x = refl

pub piece_lawful : Lawful piece
unfolding piece
piece_lawful =
    seen_lawful (λ (x : (t : PieceTag) × PieceFields t). make_piece x.0 x.1) piece_parts (behind piece_tag piece_fields)
    (behind_lawful piece_tag piece_fields (one_of_lawful actions.bytes other_pieces piece_number (refl, (refl, (refl, (refl, (refl, refl)))))) (λ t is. piece_fields_lawful t)) (λ a is. piece_again a.0 a.1)

pub change_lawful : Lawful change_way
unfolding change_way
change_lawful = one_of_lawful changes.Add (changes.Swap ∷ []) change_number (refl, refl)

action_fields_lawful : (t : ActionTag) → Lawful (action_fields t)
action_fields_lawful actions.load = access_lawful
action_fields_lawful actions.store = access_lawful
action_fields_lawful actions.copy = both_lawful u32 flag u32_lawful flag_lawful
action_fields_lawful actions.malloc = nothing_lawful
action_fields_lawful actions.free = nothing_lawful
action_fields_lawful actions.print = list_lawful piece piece_lawful
action_fields_lawful actions.lock = nothing_lawful
action_fields_lawful actions.unlock = nothing_lawful
action_fields_lawful actions.destroy = nothing_lawful
action_fields_lawful actions.start = u32_lawful
action_fields_lawful actions.join = nothing_lawful
action_fields_lawful actions.calloc = nothing_lawful
action_fields_lawful actions.realloc = nothing_lawful
action_fields_lawful actions.change = both_lawful change_way int_type change_lawful type_lawful
action_fields_lawful actions.compare = type_lawful

action_again : (t : ActionTag) (x : ActionFields t) → action_parts (make_action t x) ≡ (t, x)
action_again actions.load x = refl
action_again actions.store x = refl
action_again actions.copy x = refl
action_again actions.malloc x = refl
action_again actions.free x = refl
action_again actions.print x = refl
action_again actions.lock x = refl
action_again actions.unlock x = refl
action_again actions.destroy x = refl
action_again actions.start x = refl
action_again actions.join x = refl
action_again actions.calloc x = refl
action_again actions.realloc x = refl
action_again actions.change x = refl
action_again actions.compare x = refl

action_tag_lawful : Lawful action_tag
action_tag_lawful = one_of_lawful actions.load other_actions action_number (refl, (refl, (refl, (refl, (refl, (refl, (refl, (refl, (refl, (refl, (refl, (refl, (refl, (refl, refl))))))))))))))

pub action_lawful : Lawful action
unfolding action
action_lawful =
    seen_lawful (λ (x : (t : ActionTag) × ActionFields t). make_action x.0 x.1) action_parts (behind action_tag action_fields)
    (behind_lawful action_tag action_fields action_tag_lawful (λ t is. action_fields_lawful t)) (λ a is. action_again a.0 a.1)

numbers_lawful : Lawful (list u32)
numbers_lawful = list_lawful u32 u32_lawful

pub step_lawful : Lawful step
unfolding step
step_lawful =
    seen_lawful make_step step_parts (action ▸ list place ▸ u32_or_none ▸ list u32 ▸ list u32)
    (both_lawful action (list place ▸ u32_or_none ▸ list u32 ▸ list u32) action_lawful (both_lawful (list place) (u32_or_none ▸ list u32 ▸ list u32) (list_lawful place place_lawful)
    (both_lawful u32_or_none (list u32 ▸ list u32) option_lawful (both_lawful (list u32) (list u32) numbers_lawful numbers_lawful))))
    (λ a is. refl)

-- ---- nodes

pub call_lawful : Lawful call
unfolding call
call_lawful =
    seen_lawful make_call call_parts (u32_or_none ▸ u32 ▸ list u32)
    (both_lawful u32_or_none (u32 ▸ list u32) option_lawful (both_lawful u32 (list u32) u32_lawful numbers_lawful)) (λ a is. refl)

node_tag_lawful : Lawful node_tag
node_tag_lawful = one_of_lawful files.set other_nodes node_number (refl, (refl, (refl, (refl, (refl, (refl, (refl, (refl, (refl, (refl, (refl, refl)))))))))))

node_again : (p : ℕ) (t : NodeTag) (x : NodeFields t) → node_parts (make_node p t x) ≡ (p, (t, x))
node_again p files.set x = refl
node_again p files.if_ x = refl
node_again p files.loop x = refl
node_again p files.break_ x = refl
node_again p files.next_ x = refl
node_again p files.call_node x = refl
node_again p files.ret x = refl
node_again p files.step_node x = refl
node_again p files.look x = refl
node_again p files.safepoint x = refl
node_again p files.begin_object x = refl
node_again p files.end_object x = refl

module _ (N : Format Nodes) (n : Lawful N) where
  node_fields_lawful : (t : NodeTag) → Lawful (node_fields N t)
  node_fields_lawful files.set = both_lawful u32 calc u32_lawful calc_lawful
  node_fields_lawful files.if_ = both_lawful u32 (N ▸ N) u32_lawful (both_lawful N N n n)
  node_fields_lawful files.loop = both_lawful N N n n
  node_fields_lawful files.break_ = nothing_lawful
  node_fields_lawful files.next_ = nothing_lawful
  node_fields_lawful files.call_node = call_lawful
  node_fields_lawful files.ret = option_lawful
  node_fields_lawful files.step_node = step_lawful
  node_fields_lawful files.look = both_lawful u32 u32 u32_lawful u32_lawful
  node_fields_lawful files.safepoint = numbers_lawful
  node_fields_lawful files.begin_object = u32_lawful
  node_fields_lawful files.end_object = u32_lawful

  pub node_lawful : Lawful (node N)
  unfolding node
  node_lawful =
      seen_lawful (λ (x : ℕ × ((t : NodeTag) × NodeFields t)). make_node x.0 x.1.0 x.1.1) node_parts (u32 ▸ behind node_tag (node_fields N))
      (both_lawful u32 (behind node_tag (node_fields N)) u32_lawful (behind_lawful node_tag (node_fields N) node_tag_lawful (λ t is. node_fields_lawful t))) (λ a is. node_again a.0 a.1.0 a.1.1)

list_again : (ns : List Node) → list_of (nodes_of ns) ≡ ns
list_again [] = refl
list_again (n ∷ ns) = ap (λ (r : List Node). n ∷ r) (list_again ns)

pub nodes_lawful : (depth : ℕ) → Lawful (nodes depth)
unfolding nodes
nodes_lawful zero = seen_lawful (λ (x : Unit {0}). no_nodes) (λ ns. tt) (exactly (zeros 4)) (exactly_lawful (zeros 4)) (λ a is. refl)
nodes_lawful (suc depth) = seen_lawful nodes_of list_of (list (node (nodes depth))) (list_lawful (node (nodes depth)) (node_lawful (nodes depth) (nodes_lawful depth))) (λ a is. list_again a)

-- ---- functions, globals, files

pub object_lawful : Lawful object
unfolding object
object_lawful = seen_lawful (λ (x : ℕ × ℕ). record { size = x.0; align = x.1 }) (λ (o : StackObject). (o.size, o.align)) (u32 ▸ byte) (both_lawful u32 byte u32_lawful byte_lawful) (λ a is. refl)

pub func_lawful : (depth : ℕ) → Lawful (func depth)
unfolding func
func_lawful depth =
    seen_lawful make_func func_parts (u32 ▸ u32 ▸ u32 ▸ list object ▸ nodes depth)
    (both_lawful u32 (u32 ▸ u32 ▸ list object ▸ nodes depth) u32_lawful (both_lawful u32 (u32 ▸ list object ▸ nodes depth) u32_lawful
    (both_lawful u32 (list object ▸ nodes depth) u32_lawful (both_lawful (list object) (nodes depth) (list_lawful object object_lawful) (nodes_lawful depth))))) (λ a is. refl)

init_fields_lawful : (t : InitTag) → Lawful (init_fields t)
init_fields_lawful files.zero_bytes = nothing_lawful
init_fields_lawful files.number = behind_lawful int_type value type_lawful (λ t is. value_lawful t)
init_fields_lawful files.literal_at = u32_lawful

init_again : (t : InitTag) (x : InitFields t) → init_parts (make_init t x) ≡ (t, x)
init_again files.zero_bytes x = refl
init_again files.number x = refl
init_again files.literal_at x = refl

pub init_lawful : Lawful init
unfolding init
init_lawful =
    seen_lawful (λ (x : (t : InitTag) × InitFields t). make_init x.0 x.1) init_parts (behind init_tag init_fields)
    (behind_lawful init_tag init_fields (one_of_lawful files.zero_bytes (files.number ∷ files.literal_at ∷ []) init_number (refl, (refl, refl))) (λ t is. init_fields_lawful t)) (λ a is. init_again a.0 a.1)

pub global_lawful : Lawful global
unfolding global
global_lawful =
    seen_lawful (λ (x : ℕ × (ℕ × Init)). record { size = x.0; align = x.1.0; init = x.1.1 }) (λ (g : Global). (g.size, (g.align, g.init))) (u32 ▸ byte ▸ init)
    (both_lawful u32 (byte ▸ init) u32_lawful (both_lawful byte init byte_lawful init_lawful)) (λ a is. refl)

pub file_lawful : (depth : ℕ) → Lawful (file depth)
unfolding file
file_lawful depth =
    let texts = list_lawful (list byte) (list_lawful byte byte_lawful) in
    let funcs = list_lawful (func depth) (func_lawful depth) in
    seen_lawful make_file file_parts (exactly begins_file ▸ u32 ▸ list global ▸ list (list byte) ▸ list (func depth))
    (both_lawful (exactly begins_file) (u32 ▸ list global ▸ list (list byte) ▸ list (func depth)) (exactly_lawful begins_file)
    (both_lawful u32 (list global ▸ list (list byte) ▸ list (func depth)) u32_lawful
    (both_lawful (list global) (list (list byte) ▸ list (func depth)) (list_lawful global global_lawful) (both_lawful (list (list byte)) (list (func depth)) texts funcs)))) (λ a is. refl)
