use Rattle.struct_ir.specs.Views.{place_view}
use Rattle.code_file.specs.Actions.{place}
use Rattle.code_save.specs.inner.Fits.{place_fits}
use Rattle.std.proofs.Common.{drop}
use Rattle.code_save.proofs.Writing.{WritesAll}
use Rattle.code_save.proofs.actions.put_places.Given as goal

-- what is left makes the whole
abbrev pub invariant-loop-place : goal.invariant-loop-place
invariant-loop-place l = WritesAll (place) (place_view) (λ x. place_fits (place_view x)) (drop l.place-index l.places) l.places l.fn.out l.out
