use Rattle.std.proofs.Common.{inl, refl, subst}
use Rattle.ak_io.specs.Calls.{IsListed}
use Rattle.ak_io.specs.MemShelf.{Files}
use Rattle.ak_io.proofs.mem_shelf.MemShelfShelf.read.Goals as goal

pub returns-in-Some-clause-fails : goal.returns-in-Some-clause-fails
returns-in-Some-clause-fails c =
    let listed = c.next_fails-is_listed.ensures.listed.0 c.if-is_listed.true in
    (λ _. inl (subst (λ (shelf : Files). IsListed shelf.calls) c.self.view_is listed), λ _. refl)
