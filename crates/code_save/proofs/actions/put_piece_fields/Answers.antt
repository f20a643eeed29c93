use Rattle.std.proofs.Common.{true}
use Rattle.formats.specs.Formats.{byte, list}
use Rattle.code_save.proofs.Writing.{on_ok, nothing_wrote, wrote_as}
use Rattle.code_save.proofs.actions.put_piece_fields.Goals as goal

pub returns-in-Signed : goal.returns-in-Signed
returns-in-Signed c = rw c.in-Signed.is c.put_piece_bits.ensures

pub returns-in-Unsigned : goal.returns-in-Unsigned
returns-in-Unsigned c = rw c.in-Unsigned.is c.put_piece_bits-in-Unsigned.ensures

pub returns-in-Hex : goal.returns-in-Hex
returns-in-Hex c = rw c.in-Hex.is c.put_piece_bits-in-Hex.ensures

pub returns-in-Char : goal.returns-in-Char
returns-in-Char c = rw c.in-Char.is (nothing_wrote true)

pub returns-in-Text : goal.returns-in-Text
returns-in-Text c = rw c.in-Text.is (nothing_wrote true)

pub returns-in-Bytes : goal.returns-in-Bytes
returns-in-Bytes c = rw c.in-Bytes.is (on_ok c.put_text.result (wrote_as (list byte) c.deref.ensures.value) c.put_text.ensures)
