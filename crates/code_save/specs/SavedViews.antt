-- What saving returned.
use Rattle.std.specs.Prelude.{ℕ, List, Result, Ok, Err}
use Rattle.std.specs.Global.{Vec}
use Rattle.code_save.specs.declared.fault.SaveFault.{SaveFault}

-- the bytes, or why there are none
abbrev pub saved_view : Result (Vec ℕ) SaveFault → Result (List ℕ) SaveFault
saved_view (Ok v) = Ok v.items
saved_view (Err e) = Err e
