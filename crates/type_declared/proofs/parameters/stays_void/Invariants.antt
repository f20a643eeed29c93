use Rattle.std.proofs.Common.{◌≡◌, drop}
use Rattle.c_tree.specs.Typed.{void}
use Rattle.c_typing.specs.Types.{behind_pointers}
use Rattle.type_declared.proofs.parameters.stays_void.Given as goal

-- the pointers so far left void as it is
abbrev pub invariant-pointers : goal.invariant-pointers
invariant-pointers l = behind_pointers void l.pointers ≡ behind_pointers void (drop l.pointer-index l.pointers)
