use Rattle.std.proofs.Common.{true}
use Rattle.code_save.proofs.Writing.{on_ok, nothing_wrote}
use Rattle.code_save.proofs.Parts.{pieces_as}
use Rattle.code_save.proofs.actions.put_action_fields.Goals as goal

pub returns-in-Load : goal.returns-in-Load
returns-in-Load c = rw c.in-Load.is c.put_access.ensures

pub returns-in-Store : goal.returns-in-Store
returns-in-Store c = rw c.in-Store.is c.put_access-in-Store.ensures

pub returns-in-Copy : goal.returns-in-Copy
returns-in-Copy c = rw c.in-Copy.is c.put_copy.ensures

pub returns-in-Start : goal.returns-in-Start
returns-in-Start c = rw c.in-Start.is c.put_u32.ensures

pub returns-in-Change : goal.returns-in-Change
returns-in-Change c = rw c.in-Change.is c.put_change.ensures

pub returns-in-Compare : goal.returns-in-Compare
returns-in-Compare c = rw c.in-Compare.is c.put_type.ensures

pub returns-in-Malloc : goal.returns-in-Malloc
returns-in-Malloc c = rw c.in-Malloc.is (nothing_wrote true)

pub returns-in-Free : goal.returns-in-Free
returns-in-Free c = rw c.in-Free.is (nothing_wrote true)

pub returns-in-Lock : goal.returns-in-Lock
returns-in-Lock c = rw c.in-Lock.is (nothing_wrote true)

pub returns-in-Unlock : goal.returns-in-Unlock
returns-in-Unlock c = rw c.in-Unlock.is (nothing_wrote true)

pub returns-in-Destroy : goal.returns-in-Destroy
returns-in-Destroy c = rw c.in-Destroy.is (nothing_wrote true)

pub returns-in-Join : goal.returns-in-Join
returns-in-Join c = rw c.in-Join.is (nothing_wrote true)

pub returns-in-Calloc : goal.returns-in-Calloc
returns-in-Calloc c = rw c.in-Calloc.is (nothing_wrote true)

pub returns-in-Realloc : goal.returns-in-Realloc
returns-in-Realloc c = rw c.in-Realloc.is (nothing_wrote true)

pub returns-in-Print : goal.returns-in-Print
returns-in-Print c = rw c.in-Print.is (on_ok c.put_pieces.result (pieces_as c.deref.result.now c.in-Print.pieces.items c.deref.ensures.value) c.put_pieces.ensures)
