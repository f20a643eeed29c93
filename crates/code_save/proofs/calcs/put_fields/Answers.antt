use Rattle.std.proofs.Common.{true}
use Rattle.code_save.proofs.Writing.{nothing_wrote}
use Rattle.code_save.proofs.calcs.put_fields.Goals as goal

pub returns-in-Num : goal.returns-in-Num
returns-in-Num c = rw c.in-Num.is (rw c.from_bits.ensures.value at c.put_number.ensures)

pub returns-in-Global : goal.returns-in-Global
returns-in-Global c = rw c.in-Global.is c.put_u32.ensures

pub returns-in-Literal : goal.returns-in-Literal
returns-in-Literal c = rw c.in-Literal.is c.put_u32-in-Literal.ensures

pub returns-in-Object : goal.returns-in-Object
returns-in-Object c = rw c.in-Object.is c.put_u32-in-Object.ensures

pub returns-in-Copy : goal.returns-in-Copy
returns-in-Copy c = rw c.in-Copy.is c.put_u32-in-Copy.ensures

pub returns-in-Convert : goal.returns-in-Convert
returns-in-Convert c = rw c.in-Convert.is c.put_convert.ensures

pub returns-in-Apply : goal.returns-in-Apply
returns-in-Apply c = rw c.in-Apply.is c.put_apply.ensures

pub returns-in-PtrAdd : goal.returns-in-PtrAdd
returns-in-PtrAdd c = rw c.in-PtrAdd.is c.put_three.ensures

pub returns-in-PtrSub : goal.returns-in-PtrSub
returns-in-PtrSub c = rw c.in-PtrSub.is c.put_three-in-PtrSub.ensures

pub returns-in-PtrDiff : goal.returns-in-PtrDiff
returns-in-PtrDiff c = rw c.in-PtrDiff.is c.put_three-in-PtrDiff.ensures

pub returns-in-PtrCompare : goal.returns-in-PtrCompare
returns-in-PtrCompare c = rw c.in-PtrCompare.is c.put_compare.ensures

pub returns-in-PtrTest : goal.returns-in-PtrTest
returns-in-PtrTest c = rw c.in-PtrTest.is c.put_u32-in-PtrTest.ensures

pub returns-in-Null : goal.returns-in-Null
returns-in-Null c = rw c.in-Null.is (nothing_wrote true)

pub returns-in-Unset : goal.returns-in-Unset
returns-in-Unset c = rw c.in-Unset.is (nothing_wrote true)
