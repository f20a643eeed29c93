-- What a register is set to, in a code file: a tag of one byte and its fields.
use Rattle.std.specs.Prelude.{ℕ, List, [], ◌∷◌, ℤ}
use Rattle.ak_words.specs.declared.int_type.IntType.{IntType}
use Rattle.ak_words.specs.declared.operation.Op.{Op}
use Rattle.ak_words.specs.declared.operation.Op.TheVariants as ops
use Rattle.struct_ir.specs.Nodes as ir
use Rattle.struct_ir.specs.Nodes.{Calc}
use Rattle.formats.specs.Formats.{Format, nothing, behind, ◌▸◌, one_of, u32, tagged}
use Rattle.code_file.specs.Numbers.{int_type, value}

-- ---- the number of an operation: its place among the operations

-- the number
abbrev pub op_number : Op → ℕ
op_number ops.Add = 0
op_number ops.Sub = 1
op_number ops.Mul = 2
op_number ops.Div = 3
op_number ops.Rem = 4
op_number ops.Shl = 5
op_number ops.Shr = 6
op_number ops.And = 7
op_number ops.Or = 8
op_number ops.Xor = 9
op_number ops.Eq = 10
op_number ops.Ne = 11
op_number ops.Lt = 12
op_number ops.Le = 13
op_number ops.Gt = 14
op_number ops.Ge = 15

-- the operations behind the first one
abbrev pub other_ops : List Op
other_ops = ops.Sub ∷ ops.Mul ∷ ops.Div ∷ ops.Rem ∷ ops.Shl ∷ ops.Shr ∷ ops.And ∷ ops.Or ∷ ops.Xor ∷ ops.Eq ∷ ops.Ne ∷ ops.Lt ∷ ops.Le ∷ ops.Gt ∷ ops.Ge ∷ []

-- one byte
unfoldable pub operation : Format Op
operation = one_of ops.Add other_ops op_number

-- ---- calcs

-- what a calc is
pub data CalcTag : Type 0 where
  constant global literal object copy convert apply pointer_add pointer_diff pointer_compare pointer_test null unset pointer_sub : CalcTag

-- the tag's byte: 12 and 13 are this project's own
abbrev pub calc_number : CalcTag → ℕ
calc_number constant = 0
calc_number global = 1
calc_number literal = 2
calc_number object = 3
calc_number copy = 4
calc_number convert = 5
calc_number apply = 6
calc_number pointer_add = 7
calc_number pointer_diff = 8
calc_number pointer_compare = 9
calc_number pointer_test = 10
calc_number null = 11
calc_number unset = 12
calc_number pointer_sub = 13

-- the tags behind the first one
abbrev pub other_calcs : List CalcTag
other_calcs = global ∷ literal ∷ object ∷ copy ∷ convert ∷ apply ∷ pointer_add ∷ pointer_diff ∷ pointer_compare ∷ pointer_test ∷ null ∷ unset ∷ pointer_sub ∷ []

-- one byte
abbrev pub calc_tag : Format CalcTag
calc_tag = one_of constant other_calcs calc_number

-- the fields behind a tag
abbrev pub CalcFields : CalcTag → Type 0
CalcFields constant = (t : IntType) × ℤ
CalcFields global = ℕ
CalcFields literal = ℕ
CalcFields object = ℕ
CalcFields copy = ℕ
CalcFields convert = IntType × ℕ
CalcFields apply = Op × (IntType × (ℕ × ℕ))
CalcFields pointer_add = ℕ × (ℕ × ℕ)
CalcFields pointer_diff = ℕ × (ℕ × ℕ)
CalcFields pointer_compare = Op × (ℕ × ℕ)
CalcFields pointer_test = ℕ
CalcFields null = Unit {0}
CalcFields unset = Unit {0}
CalcFields pointer_sub = ℕ × (ℕ × ℕ)

-- a type and its value; the number of a global, a literal, an object or a register; a type and a register; an operation, a type and two
-- registers; two registers and the bytes of an element; an operation and two registers; a register; nothing; nothing; as pointer_add
abbrev pub calc_fields : (t : CalcTag) → Format (CalcFields t)
calc_fields constant = behind int_type value
calc_fields global = u32
calc_fields literal = u32
calc_fields object = u32
calc_fields copy = u32
calc_fields convert = int_type ▸ u32
calc_fields apply = operation ▸ int_type ▸ u32 ▸ u32
calc_fields pointer_add = u32 ▸ u32 ▸ u32
calc_fields pointer_diff = u32 ▸ u32 ▸ u32
calc_fields pointer_compare = operation ▸ u32 ▸ u32
calc_fields pointer_test = u32
calc_fields null = nothing
calc_fields unset = nothing
calc_fields pointer_sub = u32 ▸ u32 ▸ u32

-- the calc of a tag and its fields
abbrev pub make_calc : (t : CalcTag) → CalcFields t → Calc
make_calc constant x = ir.constant x.0 x.1
make_calc global n = ir.global n
make_calc literal n = ir.literal n
make_calc object n = ir.object n
make_calc copy n = ir.copy n
make_calc convert x = ir.convert x.0 x.1
make_calc apply x = ir.apply x.0 x.1.0 x.1.1.0 x.1.1.1
make_calc pointer_add x = ir.pointer_add x.0 x.1.0 x.1.1
make_calc pointer_diff x = ir.pointer_diff x.0 x.1.0 x.1.1
make_calc pointer_compare x = ir.pointer_compare x.0 x.1.0 x.1.1
make_calc pointer_test n = ir.pointer_test n
make_calc null x = ir.null
make_calc unset x = ir.unset
make_calc pointer_sub x = ir.pointer_sub x.0 x.1.0 x.1.1

-- the tag and the fields of a calc
abbrev pub calc_parts : Calc → (t : CalcTag) × CalcFields t
calc_parts (ir.constant t n) = (constant, (t, n))
calc_parts (ir.global n) = (global, n)
calc_parts (ir.literal n) = (literal, n)
calc_parts (ir.object n) = (object, n)
calc_parts (ir.copy n) = (copy, n)
calc_parts (ir.convert t n) = (convert, (t, n))
calc_parts (ir.apply op t a b) = (apply, (op, (t, (a, b))))
calc_parts (ir.pointer_add p n scale) = (pointer_add, (p, (n, scale)))
calc_parts (ir.pointer_diff p q scale) = (pointer_diff, (p, (q, scale)))
calc_parts (ir.pointer_compare op p q) = (pointer_compare, (op, (p, q)))
calc_parts (ir.pointer_test p) = (pointer_test, p)
calc_parts ir.null = (null, tt)
calc_parts ir.unset = (unset, tt)
calc_parts (ir.pointer_sub p n scale) = (pointer_sub, (p, (n, scale)))

-- a tag and its fields
unfoldable pub calc : Format Calc
calc = tagged calc_tag calc_fields make_calc calc_parts
