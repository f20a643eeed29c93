use Rattle.std.proofs.Common.{◌≡◌, ◌/◌, List, ℕ, None, refl, ap, ◌∙◌, subst}
use Rattle.flat_store.specs.Flat.{first_outside}
use Rattle.flat_store.proofs.Firsts.{none_outside}
use Rattle.flat_machine.specs.Shares.{Shared}
use Rattle.flat_machine.proofs.shared.Shared.number_at.Goals as goal

pub returns-clause-inside : goal.returns-clause-inside
returns-clause-inside c =
    subst (λ (bytes : List ℕ). first_outside bytes c.args.at (c.args.ty.bits / 8) ≡ None) (c.flat.ensures.bytes ∙ ap (λ (v : Shared). v.memory.storage.bytes) c.self.view_is) (none_outside _ _ _ (c.in_ok-number.ensures.within.0 refl))
