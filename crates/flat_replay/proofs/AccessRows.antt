-- By other names it doesn't stand.
use Rattle.std.proofs.Common.{◌≡◌, ℕ, List, [], ◌∷◌, Option, Some, None, refl, sym, subst, ◌∙◌}
use Rattle.block_store.specs.declared.values.Answer.TheVariants.{Plain}
use Rattle.block_store.specs.Runs as runs
use Rattle.block_store.specs.Runs.{Run, reaches, breaks, no_run, own_at, run}
use Rattle.struct_ir.specs.Structured.{Position}
use Rattle.struct_ir.specs.Threads.{Thread}
use Rattle.struct_ir.specs.meaning.Blocks.{Own}
use Rattle.struct_ir.specs.meaning.Start.{start}
use Rattle.struct_ir.specs.meaning.Threads.{program_of}
use Rattle.flat_meaning.specs.Names.{Name, plain}
use Rattle.flat_meaning.specs.Order.{pick}
use Rattle.flat_meaning.specs.Stages.{going}
use Rattle.flat_simulation.specs.LinearSteps.{StackLies, source_image}
use Rattle.flat_simulation.specs.TouchRows.{AfterTheStore, OfTheMain, OthersAreRefused, machine, source, with_array}
use Rattle.flat_replay.specs.Accesses.{StandsBy}
use Rattle.flat_replay.specs.AccessRows.{OtherNamesDontStand, behind_the_store}

-- what follows of a state and its main thread
module _ (R S : runs.State (Thread Position Own) → Thread Position Own → Type 0) (so : (u : runs.State (Thread Position Own)) (t : Thread Position Own) → own_at u.own 0 ≡ Some t → R u t → S u t) where
  of_the_main : (u : runs.State (Thread Position Own)) (o : Option (Thread Position Own)) → own_at u.own 0 ≡ o → OfTheMain R u o → OfTheMain S u o
  of_the_main u None at h = h
  of_the_main u (Some t) at h = so u t at h

  after_too : (r : Run (Thread Position Own)) → AfterTheStore R r → AfterTheStore S r
  after_too (reaches u) h = of_the_main u (own_at u.own 0) refl h
  after_too (breaks rule k) h = h
  after_too (no_run k) h = h

abbrev Off : runs.State (Thread Position Own) → Thread Position Own → Type 0
Off u t = StackLies (source_image source machine.layout) source 0 (plain 4104 ∷ []) u.world.blocks t (with_array 5 4096) → ⊥

dont_stand : (u : runs.State (Thread Position Own)) (t : Thread Position Own) → own_at u.own 0 ≡ Some t → Off u t → (given : List ℕ) (b : StandsBy machine source given u behind_the_store) → b.names ≡ plain 4104 ∷ [] → ⊥
dont_stand u t at off given b e =
    let h = b.stacks 0 (going (with_array 5 4096)) refl in
    let both : Some t ≡ Some h.own = sym at ∙ h.at in
    let same : t ≡ h.own = cc in
    off (subst (λ (n : List Name). StackLies (source_image source machine.layout) source 0 n u.world.blocks t (with_array 5 4096)) e
    (subst (λ (z : Thread Position Own). StackLies (source_image source machine.layout) source 0 b.names u.world.blocks z (with_array 5 4096)) (sym same) h.lies))

pub other_names_dont_stand : OthersAreRefused → OtherNamesDontStand
other_names_dont_stand rows =
    after_too Off (λ u t. (given : List ℕ) (b : StandsBy machine source given u behind_the_store) → b.names ≡ plain 4104 ∷ [] → ⊥) dont_stand (run (program_of source) (start source) (pick 0 Plain ∷ [])) rows.elsewhere
